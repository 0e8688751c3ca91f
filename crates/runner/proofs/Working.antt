-- The worked run is a run.
use Rattle.std.proofs.Common.{◌≡◌, ℕ, zero, suc, ◌+◌, ◌-◌, ◌<◌, ◌≤◌, ◌⊎◌, [], ◌∷◌, get_or, Some, None, Option, sym, refl, ap, ◌∙◌, subst, inr, arith}
use Rattle.plan.specs.Method.{up}
use Rattle.layout_laws.specs.Offset.{offset}
use Rattle.layout_laws.specs.Meaning.{Meaning, Exclusive, Formed, horizon}
use Rattle.layout_laws.specs.Shares.{share, before}
use Rattle.layout_laws.proofs.FlatLaws.{flat_exclusive, flat_formed}
use Rattle.schedule.specs.Work.{Work}
use Rattle.schedule.specs.State.{State, Stays, Unchanged, Fresh}
use Rattle.schedule.specs.Steps.{Requested, Runs, Running, Ticked}
use Rattle.schedule.specs.History.{requests, ticks, start, more, Run}
use Rattle.schedule.proofs.Choice.{runs_once}
use Rattle.runner.specs.Examples.{the_tasks, the_layout, both, calls}

same : (s : State) → Unchanged s s
same s = record { clock = refl; jobs = λ i. record { deadline = refl; left = refl } }

-- a tick on one processor that runs nobody
idles : (w : Work) (m : Meaning) (s s' : State) (x : ℕ) → m.processors ≡ 1 → s.clock < horizon → ((q i : ℕ) → Runs w m s q i → ⊥) → s'.clock ≡ s.clock + 1 → ((i : ℕ) → s'.deadline i ≡ s.deadline i) → ((i : ℕ) → s'.left i ≡ s.left i) → Ticked w m s (x ∷ []) 0 (255 ∷ []) s'
idles w m s s' x one far nobody clock deadline left =
    record {
      misfit = λ e. absurd (e (sym one));
      over = λ e l. absurd (omega arith);
      accepted = λ e l. (
        refl,
        record { wide = sym one; busy = λ q i ru. absurd (nobody q i ru); idle = λ q none. spare q },
        record { clock = clock; deadline = deadline; worked = λ i g. absurd (nobody g.processor i g.runs); kept = λ i none. left i },
      );
    }
  where
    spare : (q : ℕ) → ◌≡◌ {A = ℕ} (get_or (255 ∷ []) q 255) 255
    spare zero = refl
    spare (suc q) = refl

-- a tick on one processor that runs task i
works : (w : Work) (m : Meaning) (s s' : State) (x i : ℕ) → Exclusive m → m.processors ≡ 1 → s.clock < horizon → Runs w m s 0 i → s'.clock ≡ s.clock + 1 → ((j : ℕ) → s'.deadline j ≡ s.deadline j) → s'.left i ≡ s.left i - 1 → ((j : ℕ) → (j ≡ i → ⊥) → s'.left j ≡ s.left j) → Ticked w m s (x ∷ []) 0 (i ∷ []) s'
works w m s s' x i ex one far run clock deadline left others =
    record {
      misfit = λ e. absurd (e (sym one));
      over = λ e l. absurd (omega arith);
      accepted = λ e l. (
        refl,
        record { wide = sym one; busy = λ q j ru. busy q j (first q j ru) ru; idle = idle },
        record {
          clock = clock;
          deadline = deadline;
          worked = λ j g. let z : j ≡ i = task g.processor j g.runs in subst (λ (k : ℕ). s'.left k ≡ s.left k - 1) (sym z) left;
          kept = λ j none. others j (λ z. none (subst (λ (k : ℕ). Running w m s k) (sym z) (record { processor = 0; runs = run })));
        },
      );
    }
  where
    first : (q j : ℕ) → Runs w m s q j → q ≡ 0
    first q j ru = omega (arith, ex.within s.clock ru.bin q ru.served)

    task : (q j : ℕ) → Runs w m s q j → j ≡ i
    task q j ru = runs_once ex (subst (λ (k : ℕ). Runs w m s k j) (first q j ru) ru) run

    busy : (q j : ℕ) → q ≡ 0 → Runs w m s q j → get_or (i ∷ []) q 255 ≡ j
    busy q j z ru = ap (λ (k : ℕ). get_or (i ∷ []) k 255) z ∙ sym (task q j ru)

    idle : (q : ℕ) → ((j : ℕ) → Runs w m s q j → ⊥) → get_or (i ∷ []) q 255 ≡ 255
    idle zero none = absurd (none i run)
    idle (suc q) none = refl

-- what the worked layout keeps
exclusive : Exclusive the_layout
unfolding up
exclusive = flat_exclusive 4 1 4 (3 ∷ []) (500000 ∷ []) (record { some = omega arith; each = each; total = omega arith })
  where
    each : (p : ℕ) → share (3 ∷ []) p ≤ 4
    each zero = omega arith
    each (suc p) = omega arith

formed : Formed the_layout
unfolding up
formed = flat_formed 4 1 4 (3 ∷ []) (500000 ∷ []) (omega arith) (omega arith) refl (omega arith)

-- deadlines of two states that differ in the clock and in what is left
due : (c c' d l k d' l' k' j : ℕ) → (both c' d k d' k').deadline j ≡ (both c d l d' l').deadline j
due c c' d l k d' l' k' zero = refl
due c c' d l k d' l' k' (suc zero) = refl
due c c' d l k d' l' k' (suc (suc j)) = refl

-- what is left of states that differ in the clock alone
rest : (c c' d l d' l' j : ℕ) → (both c' d l d' l').left j ≡ (both c d l d' l').left j
rest c c' d l d' l' zero = refl
rest c c' d l d' l' (suc zero) = refl
rest c c' d l d' l' (suc (suc j)) = refl

-- nobody runs where nothing is left
finished : (c d d' q i : ℕ) → Runs the_tasks the_layout (both c d 0 d' 0) q i → ⊥
finished c d d' q i ru = omega (arith, ru.chosen.unfinished, none i)
  where
    none : (j : ℕ) → (both c d 0 d' 0).left j ≡ 0
    none zero = refl
    none (suc zero) = refl
    none (suc (suc j)) = refl

-- nor in a tick without service
unserved : (p q : ℕ) → the_layout.serves 3 p ≡ Some q → ⊥
unfolding up offset before
unserved zero q e = let z : ◌≡◌ {A = ℕ} 0 1 = cc in omega arith
unserved (suc p) q e = let z : ◌≡◌ {A = Option ℕ} None (Some q) = sym (formed.bins 3 (suc p) (omega arith)) ∙ e in let n : ◌≡◌ {A = ℕ} 0 1 = cc in omega arith

-- in tick 4 the lower task of equal deadlines runs, in tick 5 the other
run_4 : Runs the_tasks the_layout (both 4 7 1 7 1) 0 0
unfolding up offset before
run_4 = record { bin = 0; served = refl; chosen = record { known = omega arith; own = refl; unfinished = omega arith; first = first } }
  where
    first : (j : ℕ) → j < 2 → the_tasks.bin j ≡ 0 → 0 < (both 4 7 1 7 1).left j → (7 < (both 4 7 1 7 1).deadline j) ⊎ ((7 ≡ (both 4 7 1 7 1).deadline j) × (0 ≤ j))
    first zero l b u = inr (refl, omega arith)
    first (suc zero) l b u = inr (refl, omega arith)
    first (suc (suc j)) l b u = absurd (omega arith)

run_5 : Runs the_tasks the_layout (both 5 7 0 7 1) 0 1
unfolding up offset before
run_5 = record { bin = 0; served = refl; chosen = record { known = omega arith; own = refl; unfinished = omega arith; first = first } }
  where
    first : (j : ℕ) → j < 2 → the_tasks.bin j ≡ 0 → 0 < (both 5 7 0 7 1).left j → (7 < (both 5 7 0 7 1).deadline j) ⊎ ((7 ≡ (both 5 7 0 7 1).deadline j) × (1 ≤ j))
    first zero l b u = absurd (omega arith)
    first (suc zero) l b u = inr (refl, omega arith)
    first (suc (suc j)) l b u = absurd (omega arith)

-- a tick in which nobody runs
quiet : (c d l d' l' : ℕ) → c < horizon → ((q i : ℕ) → Runs the_tasks the_layout (both c d l d' l') q i → ⊥) → Ticked the_tasks the_layout (both c d l d' l') (0 ∷ []) 0 (255 ∷ []) (both (c + 1) d l d' l')
quiet c d l d' l' far nobody = idles the_tasks the_layout (both c d l d' l') (both (c + 1) d l d' l') 0 refl far nobody refl (due c (c + 1) d l l d' l' l') (rest c (c + 1) d l d' l')

tick_4 : Ticked the_tasks the_layout (both 4 7 1 7 1) (0 ∷ []) 0 (0 ∷ []) (both 5 7 0 7 1)
tick_4 = works the_tasks the_layout (both 4 7 1 7 1) (both 5 7 0 7 1) 0 0 exclusive refl (omega arith) run_4 refl (due 4 5 7 1 0 7 1 1) refl others
  where
    others : (j : ℕ) → (j ≡ 0 → ⊥) → (both 5 7 0 7 1).left j ≡ (both 4 7 1 7 1).left j
    others zero n = absurd (n refl)
    others (suc zero) n = refl
    others (suc (suc j)) n = refl

tick_5 : Ticked the_tasks the_layout (both 5 7 0 7 1) (0 ∷ []) 0 (1 ∷ []) (both 6 7 0 7 0)
tick_5 = works the_tasks the_layout (both 5 7 0 7 1) (both 6 7 0 7 0) 0 1 exclusive refl (omega arith) run_5 refl (due 5 6 7 0 0 7 1 0) refl others
  where
    others : (j : ℕ) → (j ≡ 1 → ⊥) → (both 6 7 0 7 0).left j ≡ (both 5 7 0 7 1).left j
    others zero n = refl
    others (suc zero) n = absurd (n refl)
    others (suc (suc j)) n = refl

-- the first task is requested at the clock, its last deadline being d
opens : (c d l d' l' : ℕ) → d ≤ c → Requested the_tasks (both c d l d' l') 0 0 (both c (c + 4) 1 d' l')
opens c d l d' l' h =
    record {
      unknown = λ k. absurd (omega arith);
      early = λ k e. absurd (omega arith);
      accepted = λ k e. (refl, record { clock = refl; deadline = refl; left = refl; others = others });
    }
  where
    others : (j : ℕ) → (j ≡ 0 → ⊥) → Stays (both c d l d' l') (both c (c + 4) 1 d' l') j
    others zero n = absurd (n refl)
    others (suc zero) n = record { deadline = refl; left = refl }
    others (suc (suc j)) n = record { deadline = refl; left = refl }

second : Requested the_tasks (both 3 7 1 0 0) 1 0 (both 3 7 1 7 1)
second =
    record {
      unknown = λ k. absurd (omega arith);
      early = λ k e. absurd (omega arith);
      accepted = λ k e. (refl, record { clock = refl; deadline = refl; left = refl; others = others });
    }
  where
    others : (j : ℕ) → (j ≡ 1 → ⊥) → Stays (both 3 7 1 0 0) (both 3 7 1 7 1) j
    others zero n = record { deadline = refl; left = refl }
    others (suc zero) n = absurd (n refl)
    others (suc (suc j)) n = record { deadline = refl; left = refl }

pub fresh : Fresh (both 0 0 0 0 0)
fresh = record { clock = refl; deadline = undue; left = unasked }
  where
    undue : (j : ℕ) → (both 0 0 0 0 0).deadline j ≡ 0
    undue zero = refl
    undue (suc zero) = refl
    undue (suc (suc j)) = refl

    unasked : (j : ℕ) → (both 0 0 0 0 0).left j ≡ 0
    unasked zero = refl
    unasked (suc zero) = refl
    unasked (suc (suc j)) = refl

pub run : Run the_tasks the_layout (both 0 0 0 0 0) calls (both 7 11 1 7 0)
run =
    more (ticks (quiet 0 0 0 0 0 (omega arith) (finished 0 0 0)))
    (more (ticks (quiet 1 0 0 0 0 (omega arith) (finished 1 0 0)))
    (more (ticks (quiet 2 0 0 0 0 (omega arith) (finished 2 0 0)))
    (more (requests (opens 3 0 0 0 0 (omega arith)))
    (more (requests second)
    (more (ticks (quiet 3 7 1 7 1 (omega arith) (λ q i ru. unserved ru.bin q ru.served)))
    (more (ticks tick_4)
    (more (ticks tick_5)
    (more (requests (record { unknown = λ k. absurd (omega arith); early = λ k e. (refl, same _); accepted = λ k e. absurd (omega arith) }))
    (more (ticks (quiet 6 7 0 7 0 (omega arith) (finished 6 7 7)))
    (more (requests (opens 7 7 0 7 0 (omega arith)))
    start))))))))))
