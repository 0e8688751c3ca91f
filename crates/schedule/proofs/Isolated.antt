-- What one bin sees of a run does not depend on what is asked for the tasks of other bins.
use Rattle.std.proofs.Common.{◌≡◌, ℕ, ◌≤◌, true, false, ◌⊎◌, List, [], ◌∷◌, map, length, sym, refl, ap, ◌∙◌, ap₂, inl, inr, arith}
use Rattle.std.proofs.lemmas.Bool.{cases_Bool, cond-true, cond-false}
use Rattle.layout_laws.specs.Meaning.{Meaning}
use Rattle.schedule.specs.Work.{Work}
use Rattle.schedule.specs.State.{State, Fresh}
use Rattle.schedule.specs.History.{Asked, request, done, tick, Event, Step, requests, ends, ticks, Run, start, more}
use Rattle.schedule.specs.Promise.{of_bin, about, asked_of, Seen, seen, seen_of, Same}
use Rattle.schedule.proofs.Moves.{moved}
use Rattle.schedule.proofs.Agree.{Agree, agree_refl, agree_fresh, agree_sym, agree_trans, agree_out, request_alike, end_alike, tick_alike}

seen_by : {k k' : Asked} {a a' : ℕ} {x x' : List (ℕ × ℕ)} → k ≡ k' → a ≡ a' → x ≡ x' → ◌≡◌ {A = Seen} (record { asked = k; answer = a; entries = x }) (record { asked = k'; answer = a'; entries = x' })
seen_by p q r = λ i. record { asked = p i; answer = q i; entries = r i }

abbrev number : Asked → ℕ
number (request i) = i
number (done i) = i
number (tick n) = n

abbrev kind : Asked → ℕ
kind (request i) = 0
kind (done i) = 1
kind (tick n) = 2

clash : {A : Type 0} (k k' : Asked) → k ≡ k' → (kind k ≡ kind k' → ⊥) → A
clash k k' e differ = absurd (differ (ap kind e))

module _ (w : Work) (p : ℕ) (few : w.tasks ≤ 64) where
  -- one event for the bin on both sides, asked alike
  step_alike : {m m' : Meaning} {s s₁ s' s₁' : State} {e e' : Event} → Same m m' → Agree w p s s' → of_bin w p e.asked ≡ true → e.asked ≡ e'.asked
      → Step w m s e s₁ → Step w m' s' e' s₁' → (seen w p e ≡ seen w p e') × Agree w p s₁ s₁'
  step_alike same g t k (requests {i = i} {a = a} r) (requests {s = s'} {s' = s₁'} {i = i'} {a = a'} r') =
      let same_task : i' ≡ i = ap number (sym k) in
      let z = request_alike w p g i a a' t r (rw same_task at r') in
      (seen_by k z.0 refl, z.1)
  step_alike same g t k (requests {i = i} r) (ends {i = i'} r') = clash (request i) (done i') k (omega arith)
  step_alike same g t k (requests {i = i} r) (ticks {before = before} r') = clash (request i) (tick (length before)) k (omega arith)
  step_alike same g t k (ends {i = i} r) (requests {i = i'} r') = clash (done i) (request i') k (omega arith)
  step_alike same g t k (ends {i = i} {a = a} r) (ends {i = i'} {a = a'} r') =
      let same_task : i' ≡ i = ap number (sym k) in
      let z = end_alike w p g i a a' t r (rw same_task at r') in
      (seen_by k z.0 refl, z.1)
  step_alike same g t k (ends {i = i} r) (ticks {before = before} r') = clash (done i) (tick (length before)) k (omega arith)
  step_alike same g t k (ticks {before = before} r) (requests {i = i'} r') = clash (tick (length before)) (request i') k (omega arith)
  step_alike same g t k (ticks {before = before} r) (ends {i = i'} r') = clash (tick (length before)) (done i') k (omega arith)
  step_alike same g t k (ticks {before = before} {after = after} {a = a} r) (ticks {before = before'} {after = after'} {a = a'} r') =
      let z = tick_alike w p before before' after after' a a' few same g (ap number k) r r' in
      (seen_by k z.0 z.1, z.2)

  asked_yes : (e : Event) (es : List Event) → of_bin w p e.asked ≡ true → asked_of w p (e ∷ es) ≡ e.asked ∷ asked_of w p es
  asked_yes e es t = ap (map (λ (x : Event). x.asked)) (cond-true (of_bin w p e.asked) (e ∷ about w p es) (about w p es) t)

  asked_no : (e : Event) (es : List Event) → of_bin w p e.asked ≡ false → asked_of w p (e ∷ es) ≡ asked_of w p es
  asked_no e es t = ap (map (λ (x : Event). x.asked)) (cond-false (of_bin w p e.asked) (e ∷ about w p es) (about w p es) t)

  seen_yes : (e : Event) (es : List Event) → of_bin w p e.asked ≡ true → seen_of w p (e ∷ es) ≡ seen w p e ∷ seen_of w p es
  seen_yes e es t = ap (map (seen w p)) (cond-true (of_bin w p e.asked) (e ∷ about w p es) (about w p es) t)

  seen_no : (e : Event) (es : List Event) → of_bin w p e.asked ≡ false → seen_of w p (e ∷ es) ≡ seen_of w p es
  seen_no e es t = ap (map (seen w p)) (cond-false (of_bin w p e.asked) (e ∷ about w p es) (about w p es) t)

  nothing : (es : List Event) → [] ≡ asked_of w p es → [] ≡ seen_of w p es
  nothing es h = go (about w p es) h
    where
      go : (xs : List Event) → [] ≡ map (λ (x : Event). x.asked) xs → [] ≡ map (seen w p) xs
      go [] k = refl
      go (x ∷ xs) k = let z : ◌≡◌ {A = ℕ} 0 1 = cc in absurd (omega arith)

  -- the first event for the bin in a run, and the rest
  record Next (m : Meaning) (s t : State) (es : List Event) (a : Asked) (ks : List Asked) : Type 0 where
    s₁ : State
    s₂ : State
    e : Event
    rest : List Event
    agrees : Agree w p s s₁
    mine : of_bin w p e.asked ≡ true
    step : Step w m s₁ e s₂
    run : Run w m s₂ rest t
    asks : e.asked ≡ a
    asks_rest : asked_of w p rest ≡ ks
    sees : seen_of w p es ≡ seen w p e ∷ seen_of w p rest

  next : {m : Meaning} {s t : State} {es : List Event} (a : Asked) (ks : List Asked) → Run w m s es t → asked_of w p es ≡ a ∷ ks → Next m s t es a ks
  next a ks start h = let z : ◌≡◌ {A = ℕ} 0 1 = cc in absurd (omega arith)
  next {m} a ks (more {s} {s'} {s''} {e} {es} st r) h = go (λ k. next a ks r k) (cases_Bool (of_bin w p e.asked))
    where
      go : (asked_of w p es ≡ a ∷ ks → Next m s' s'' es a ks) → (of_bin w p e.asked ≡ true) ⊎ (of_bin w p e.asked ≡ false) → Next m s s'' (e ∷ es) a ks
      go ih (inl t) =
          let k : e.asked ∷ asked_of w p es ≡ a ∷ ks = sym (asked_yes e es t) ∙ h in
          record {
            s₁ = s;
            s₂ = s';
            e = e;
            rest = es;
            agrees = agree_refl w p s;
            mine = t;
            step = st;
            run = r;
            asks = cc;
            asks_rest = cc;
            sees = seen_yes e es t;
          }
      go ih (inr f) =
          let n = ih (sym (asked_no e es f) ∙ h) in
          record {
            s₁ = n.s₁;
            s₂ = n.s₂;
            e = n.e;
            rest = n.rest;
            agrees = agree_trans w p (agree_out w p (moved st) f) n.agrees;
            mine = n.mine;
            step = n.step;
            run = n.run;
            asks = n.asks;
            asks_rest = n.asks_rest;
            sees = seen_no e es f ∙ n.sees;
          }

  module _ {m m' : Meaning} (same : Same m m') where
    alike : {s t : State} {es : List Event} → Run w m s es t → (s' t' : State) (es' : List Event) → Run w m' s' es' t' → Agree w p s s' → asked_of w p es ≡ asked_of w p es' → seen_of w p es ≡ seen_of w p es'
    alike start s' t' es' r' g h = nothing es' h
    alike (more {s} {s' = s₁} {s'' = t} {e} {es} st r) s' t' es' r' g h = go (alike r) (cases_Bool (of_bin w p e.asked))
      where
        go : ((s' t' : State) (es' : List Event) → Run w m' s' es' t' → Agree w p s₁ s' → asked_of w p es ≡ asked_of w p es' → seen_of w p es ≡ seen_of w p es')
            → (of_bin w p e.asked ≡ true) ⊎ (of_bin w p e.asked ≡ false) → seen_of w p (e ∷ es) ≡ seen_of w p es'
        go ih (inl y) =
            let n = next e.asked (asked_of w p es) r' (sym h ∙ asked_yes e es y) in
            let z = step_alike same (agree_trans w p g n.agrees) y (sym n.asks) st n.step in
            seen_yes e es y ∙ ap₂ (λ (x : Seen) (xs : List Seen). x ∷ xs) z.0 (ih n.s₂ t' n.rest n.run z.1 (sym n.asks_rest)) ∙ sym n.sees
        go ih (inr f) =
            seen_no e es f ∙ ih s' t' es' r' (agree_trans w p (agree_sym w p (agree_out w p (moved st) f)) g) (sym (asked_no e es f) ∙ h)

    pub isolated : {s s₂ t t' : State} (es es' : List Event) → Fresh s → Fresh s₂ → Run w m s es t → Run w m' s₂ es' t' → asked_of w p es ≡ asked_of w p es' → seen_of w p es ≡ seen_of w p es'
    isolated {s} {s₂} {t} {t'} es es' f f₂ r r' h = alike r s₂ t' es' r' (agree_fresh w p f f₂) h
