-- What one call can do, seen from the history: nothing, open a job, close one, or a tick.
use Rattle.std.proofs.Common.{◌≡◌, ℕ, ◌<◌, ◌≤◌, false, eqb, List, [], length, sym, refl, ap, subst, ⊎_elim, arith}
use Rattle.std.proofs.lemmas.Bool.{cases_lt, cases_eq}
use Rattle.layout_laws.specs.Meaning.{Meaning, horizon}
use Rattle.schedule.specs.Work.{Work}
use Rattle.schedule.specs.State.{State, Unchanged}
use Rattle.schedule.specs.Steps.{Requested, Opened, Ended, Closed, Ticked, Row, Advanced}
use Rattle.schedule.specs.History.{Asked, request, done, tick, Event, row_of, Step, requests, ends, ticks}

pub data Move (w : Work) (m : Meaning) : State → Event → State → Type 0 where
  quiet : {s s' : State} {k : Asked} {a : ℕ} → eqb a 0 ≡ false → Unchanged s s' → Move w m s (record { asked = k; answer = a; row = [] }) s'
  opening : {s s' : State} {i : ℕ} → i < w.tasks → s.deadline i ≤ s.clock → Opened w s i s' → Move w m s (record { asked = request i; answer = 0; row = [] }) s'
  closing : {s s' : State} {i : ℕ} → i < w.tasks → 0 < s.left i → Closed s i s' → Move w m s (record { asked = done i; answer = 0; row = [] }) s'
  ticking : {s s' : State} {n : ℕ} {row : List ℕ} → s.clock < horizon → Row w m s row → Advanced w m s s' → Move w m s (record { asked = tick n; answer = 0; row = row }) s'

by_request : (w : Work) (m : Meaning) (s s' : State) (i a : ℕ) → Requested w s i a s' → Move w m s (record { asked = request i; answer = a; row = [] }) s'
by_request w m s s' i a r =
    ⊎_elim
    (λ (h : i < w.tasks). ⊎_elim
    (λ (l : s.clock < s.deadline i). quiet (ap (λ (x : ℕ). eqb x 0) (r.early h l).0) (r.early h l).1)
    (λ (l : s.deadline i ≤ s.clock). subst (λ (x : ℕ). Move w m s (record { asked = request i; answer = x; row = [] }) s') (sym (r.accepted h l).0) (opening h l (r.accepted h l).1))
    (cases_lt s.clock (s.deadline i)))
    (λ (h : w.tasks ≤ i). quiet (ap (λ (x : ℕ). eqb x 0) (r.unknown h).0) (r.unknown h).1)
    (cases_lt i w.tasks)

by_end : (w : Work) (m : Meaning) (s s' : State) (i a : ℕ) → Ended w s i a s' → Move w m s (record { asked = done i; answer = a; row = [] }) s'
by_end w m s s' i a r =
    ⊎_elim
    (λ (h : i < w.tasks). ⊎_elim
    (λ (l : 0 < s.left i). subst (λ (x : ℕ). Move w m s (record { asked = done i; answer = x; row = [] }) s') (sym (r.accepted h l).0) (closing h l (r.accepted h l).1))
    (λ (l : s.left i ≤ 0). let z : s.left i ≡ 0 = omega arith in quiet (ap (λ (x : ℕ). eqb x 0) (r.none h z).0) (r.none h z).1)
    (cases_lt 0 (s.left i)))
    (λ (h : w.tasks ≤ i). quiet (ap (λ (x : ℕ). eqb x 0) (r.unknown h).0) (r.unknown h).1)
    (cases_lt i w.tasks)

by_tick : (w : Work) (m : Meaning) (s s' : State) (area area' : List ℕ) (a : ℕ) → Ticked w m s area a area' s' → Move w m s (record { asked = tick (length area); answer = a; row = row_of a area' }) s'
by_tick w m s s' area area' a r =
    let P : ℕ → Type 0 = λ x. Move w m s (record { asked = tick (length area); answer = x; row = row_of x area' }) s' in
    ⊎_elim
    (λ (h : length area ≡ m.processors). ⊎_elim
    (λ (l : s.clock < horizon). subst P (sym (r.accepted h l).0) (ticking l (r.accepted h l).1 (r.accepted h l).2))
    (λ (l : horizon ≤ s.clock). subst P (sym (r.over h l).0) (quiet refl (r.over h l).2))
    (cases_lt s.clock horizon))
    (λ (h : length area ≡ m.processors → ⊥). subst P (sym (r.misfit h).0) (quiet refl (r.misfit h).2))
    (cases_eq (length area) m.processors)

pub moved : {w : Work} {m : Meaning} {s s' : State} {e : Event} → Step w m s e s' → Move w m s e s'
moved {w} {m} (requests {s} {s'} {i} {a} r) = by_request w m s s' i a r
moved {w} {m} (ends {s} {s'} {i} {a} r) = by_end w m s s' i a r
moved {w} {m} (ticks {s} {s'} {before} {after} {a} r) = by_tick w m s s' before after a r
