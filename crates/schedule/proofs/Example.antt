-- The small plan fits its layout, and its calls are a run.
use Rattle.std.proofs.Common.{◌≡◌, ℕ, zero, suc, ◌+◌, ◌*◌, ◌<◌, ◌≤◌, Bool, true, false, cond, eqb, ◌⊎◌, [], ◌∷◌, get_or, Some, None, Option, sym, refl, ap, ◌∙◌, subst, inl, inr, ⊎_elim, arith}
use Rattle.std.proofs.lemmas.Bool.{cases_eq, cases_Bool, ne_eqb, eqb-true, cond-true, cond-false}
use Rattle.layout_laws.specs.Meaning.{horizon, supplied}
use Rattle.schedule.specs.Work.{Sound}
use Rattle.schedule.specs.State.{State, Stays, Unchanged}
use Rattle.schedule.specs.Steps.{Requested, Runs, Running, Ticked}
use Rattle.schedule.specs.History.{requests, ends, ticks, start, more}
use Rattle.schedule.specs.Example.{one_task, one_bin, state, WorkedRun}

-- bin 0 is served in every tick
always : (t l : ℕ) → supplied one_bin 0 t l ≡ l
unfolding supplied
always t zero = refl
always t (suc l) = omega (arith, always (suc t) l)

fits : Sound one_task one_bin
fits =
    record {
      few = omega arith;
      each = λ i h. record { some = omega arith; room = omega arith; long = omega arith; charged = omega arith };
      loads = λ p. refl;
      exclusive = record {
        within = λ t p q e. (served t p q e (cases_Bool (eqb p 0))).0;
        apart = λ t p p' q e e'. (served t p q e (cases_Bool (eqb p 0))).1 ∙ sym (served t p' q e' (cases_Bool (eqb p' 0))).1;
      };
      supplies = λ p t l h k. enough p t l (cases_Bool (eqb 0 p));
    }
  where
    served : (t p q : ℕ) → one_bin.serves t p ≡ Some q → (eqb p 0 ≡ true) ⊎ (eqb p 0 ≡ false) → (q < 1) × (p ≡ 0)
    served t p q e (inl y) =
        let z : ◌≡◌ {A = Option ℕ} (Some 0) (Some q) = sym (cond-true (eqb p 0) (Some 0) None y) ∙ e in
        let z' : 0 ≡ q = cc in
        (omega arith, eqb-true p 0 y)
    served t p q e (inr y) =
        let z : ◌≡◌ {A = Option ℕ} None (Some q) = sym (cond-false (eqb p 0) (Some 0) None y) ∙ e in
        let z' : ◌≡◌ {A = ℕ} 0 1 = cc in
        absurd (omega arith)

    enough : (p t l : ℕ) → (eqb 0 p ≡ true) ⊎ (eqb 0 p ≡ false) → one_bin.load p * l ≤ supplied one_bin p t l * 1000000
    enough p t l (inl y) =
        let z : 0 ≡ p = eqb-true 0 p y in
        subst (λ (x : ℕ). one_bin.load x * l ≤ supplied one_bin x t l * 1000000) z (omega (arith, always t l))
    enough p t l (inr y) = rw (cond-false {A = ℕ} (eqb 0 p) 500000 0 y) (omega arith)

elsewhere : (c c' d d' l l' j : ℕ) → (j ≡ 0 → ⊥) → Stays (state c d l) (state c' d' l') j
elsewhere c c' d d' l l' j e =
    let n = ne_eqb j 0 e in
    record {
      deadline = cond-false (eqb j 0) d' 0 n ∙ sym (cond-false (eqb j 0) d 0 n);
      left = cond-false (eqb j 0) l' 0 n ∙ sym (cond-false (eqb j 0) l 0 n);
    }

same : (s : State) → Unchanged s s
same s = record { clock = refl; jobs = λ i. record { deadline = refl; left = refl } }

-- the task runs where it has something left, and only it
runs : (c d l : ℕ) → 0 < l → Running one_task one_bin (state c d l) 0
runs c d l h =
    record {
      processor = 0;
      runs = record {
        bin = 0;
        served = refl;
        chosen = record { known = omega arith; own = refl; unfinished = h; first = λ j k b u. let z : j ≡ 0 = omega arith in inr (ap (state c d l).deadline (sym z), omega arith) };
      };
    }

only : (c d l q i : ℕ) → Runs one_task one_bin (state c d l) q i → (q ≡ 0) × (i ≡ 0)
only c d l q i ru =
    let w = fits.exclusive.within c ru.bin q ru.served in
    let k = ru.chosen.known in
    (omega arith, omega arith)

idle : (c d q i : ℕ) → Runs one_task one_bin (state c d 0) q i → ⊥
idle c d q i ru =
    let z = (only c d 0 q i ru).1 in
    let u : 0 < (state c d 0).left 0 = subst (λ (x : ℕ). 0 < (state c d 0).left x) z ru.chosen.unfinished in
    omega arith

works : (c d : ℕ) → c < horizon → Ticked one_task one_bin (state c d 1) (0 ∷ []) 0 (0 ∷ []) (state (c + 1) d 0)
unfolding runs
works c d h =
    record {
      misfit = λ e. absurd (e refl);
      over = λ e l. absurd (omega arith);
      accepted = λ e l. (
        refl,
        record { wide = refl; busy = λ q i ru. rw ((only c d 1 q i ru).0, (only c d 1 q i ru).1); idle = λ q none. spare q none },
        record {
          clock = refl;
          deadline = λ i. refl;
          worked = λ i g. rw (only c d 1 g.processor i g.runs).1;
          kept = λ i none. ⊎_elim
              (λ (z : i ≡ 0). absurd (none (subst (λ (x : ℕ). Running one_task one_bin (state c d 1) x) (sym z) (runs c d 1 (omega arith)))))
              (λ (z : i ≡ 0 → ⊥). (elsewhere c (c + 1) d d 1 0 i z).left)
              (cases_eq i 0);
        },
      );
    }
  where
    spare : (q : ℕ) → ((i : ℕ) → Runs one_task one_bin (state c d 1) q i → ⊥) → ◌≡◌ {A = ℕ} (get_or (0 ∷ []) q 255) 255
    spare zero none = absurd (none 0 (runs c d 1 (omega arith)).runs)
    spare (suc q) none = refl

rests : (c d : ℕ) → c < horizon → Ticked one_task one_bin (state c d 0) (0 ∷ []) 0 (255 ∷ []) (state (c + 1) d 0)
rests c d h =
    record {
      misfit = λ e. absurd (e refl);
      over = λ e l. absurd (omega arith);
      accepted = λ e l. (
        refl,
        record { wide = refl; busy = λ q i ru. absurd (idle c d q i ru); idle = λ q none. spare q },
        record {
          clock = refl;
          deadline = λ i. refl;
          worked = λ i g. absurd (idle c d g.processor i g.runs);
          kept = λ i none. refl;
        },
      );
    }
  where
    spare : (q : ℕ) → ◌≡◌ {A = ℕ} (get_or (255 ∷ []) q 255) 255
    spare zero = refl
    spare (suc q) = refl

opens : (c d l : ℕ) → d ≤ c → Requested one_task (state c d l) 0 0 (state c (c + 2) 1)
opens c d l h =
    record {
      unknown = λ k. absurd (omega arith);
      early = λ k e. absurd (omega arith);
      accepted = λ k e. (refl, record { clock = refl; deadline = refl; left = refl; others = λ j n. elsewhere c c d (c + 2) l 1 j n });
    }

pub worked_run : WorkedRun
worked_run =
    record {
      sound = fits;
      fresh = record { clock = refl; deadline = λ i. flat (eqb i 0); left = λ i. flat (eqb i 0) };
      run =
          more (requests (record { unknown = λ k. (refl, same _); early = λ k e. absurd (omega arith); accepted = λ k e. absurd (omega arith) }))
          (more (requests (opens 0 0 0 (omega arith)))
          (more (requests (record { unknown = λ k. absurd (omega arith); early = λ k e. (refl, same _); accepted = λ k e. absurd (omega arith) }))
          (more (ticks (works 0 2 (omega arith)))
          (more (ends (record { unknown = λ k. absurd (omega arith); none = λ k e. (refl, same _); accepted = λ k e. absurd (omega arith) }))
          (more (ticks {before = 0 ∷ 0 ∷ []} {after = 0 ∷ 0 ∷ []} (record { misfit = λ e. (refl, refl, same _); over = λ e l. absurd (omega arith); accepted = λ e l. absurd (omega arith) }))
          (more (ticks (rests 1 2 (omega arith)))
          (more (requests (opens 2 2 0 (omega arith)))
          (more (ends {s' = state 2 4 0} (record { unknown = λ k. absurd (omega arith); none = λ k e. absurd (omega arith); accepted = λ k e. (refl, record { clock = refl; deadline = refl; left = refl; others = λ j n. elsewhere 2 2 4 4 1 0 j n }) }))
          start))))))));
    }
  where
    flat : (b : Bool) → ◌≡◌ {A = ℕ} (cond b 0 0) 0
    flat true = refl
    flat false = refl
