-- The work of one bin that is due by a clock value: what each call makes of it.
use Rattle.std.proofs.Common.{◌≡◌, ℕ, ◌+◌, ◌<◌, ◌≤◌, cond, leb, sym, subst, ⊎_elim, arith}
use Rattle.std.proofs.lemmas.Bool.{cases_eq, cases_lt, le-leb, lt-leb, cond-true, cond-false}
use Rattle.layout_laws.specs.Meaning.{Meaning}
use Rattle.schedule.specs.Work.{Work, own, over}
use Rattle.schedule.specs.State.{State, Stays, Unchanged}
use Rattle.schedule.specs.Steps.{Opened, Closed, Running, Advanced}
use Rattle.schedule.proofs.Totals.{total_le, total_at, part_le, some_part, own_yes, own_no, own_le}

-- what is left of task i, if its deadline is at most d
abbrev pub due : ℕ → State → ℕ → ℕ
due d s i = cond (leb (s.deadline i) d) (s.left i) 0

abbrev pub pending : Work → ℕ → ℕ → State → ℕ
pending w p d s = over w p (due d s)

pub due_yes : (d : ℕ) (s : State) (i : ℕ) → s.deadline i ≤ d → due d s i ≡ s.left i
due_yes d s i l = cond-true (leb (s.deadline i) d) (s.left i) 0 (le-leb (s.deadline i) d l)

pub due_no : (d : ℕ) (s : State) (i : ℕ) → d < s.deadline i → due d s i ≡ 0
due_no d s i l = cond-false (leb (s.deadline i) d) (s.left i) 0 (lt-leb (s.deadline i) d l)

due_le : (d : ℕ) (s s' : State) (i : ℕ) → s'.deadline i ≡ s.deadline i → s'.left i ≤ s.left i → due d s' i ≤ due d s i
due_le d s s' i e l =
    ⊎_elim
    (λ (h : d < s.deadline i). omega (arith, due_no d s' i (omega arith)))
    (λ (h : s.deadline i ≤ d). omega (arith, due_yes d s i h, due_yes d s' i (omega arith)))
    (cases_lt d (s.deadline i))

due_stays : (d : ℕ) (s s' : State) (i : ℕ) → Stays s s' i → due d s' i ≤ due d s i
due_stays d s s' i h = due_le d s s' i h.deadline (omega (arith, h.left))

module _ (w : Work) (p d : ℕ) where
  falls : (s s' : State) → ((i : ℕ) → w.bin i ≡ p → due d s' i ≤ due d s i) → pending w p d s' ≤ pending w p d s
  falls s s' h = total_le w.tasks (own w p (due d s')) (own w p (due d s)) (λ i l. own_le w p (due d s') (due d s) i (h i))

  pub pending_same : {s s' : State} → Unchanged s s' → pending w p d s' ≤ pending w p d s
  pending_same {s} {s'} u = falls s s' (λ i b. due_stays d s s' i (u.jobs i))

  pub pending_closed : {s s' : State} {i : ℕ} → Closed s i s' → pending w p d s' ≤ pending w p d s
  pending_closed {s} {s'} {i} c =
      falls s s' (λ j b. ⊎_elim
      (λ (e : j ≡ i). subst (λ (k : ℕ). due d s' k ≤ due d s k) (sym e) (due_le d s s' i c.deadline (omega (arith, c.left))))
      (λ (e : j ≡ i → ⊥). due_stays d s s' j (c.others j e))
      (cases_eq j i))

  -- a new job that is not of the bin, or not due by then
  pub pending_opened_other : {s s' : State} {i : ℕ} → Opened w s i s' → (w.bin i ≡ p → d < s'.deadline i) → pending w p d s' ≤ pending w p d s
  pending_opened_other {s} {s'} {i} o h =
      falls s s' (λ j b. ⊎_elim
      (λ (e : j ≡ i). subst (λ (k : ℕ). due d s' k ≤ due d s k) (sym e) (omega (arith, due_no d s' i (h (subst (λ (k : ℕ). w.bin k ≡ p) e b)))))
      (λ (e : j ≡ i → ⊥). due_stays d s s' j (o.others j e))
      (cases_eq j i))

  -- a new job adds its budget at most
  pub pending_opened : {s s' : State} {i : ℕ} → i < w.tasks → w.bin i ≡ p → Opened w s i s' → pending w p d s' ≤ pending w p d s + w.budget i
  pending_opened {s} {s'} {i} l b o =
      let mine : own w p (due d s') i + 0 ≤ own w p (due d s) i + w.budget i =
      ⊎_elim
      (λ (h : d < s'.deadline i). omega (arith, own_yes w p (due d s') i b, due_no d s' i h))
      (λ (h : s'.deadline i ≤ d). omega (arith, own_yes w p (due d s') i b, due_yes d s' i h, o.left))
      (cases_lt d (s'.deadline i)) in
      let all = total_at w.tasks (own w p (due d s')) (own w p (due d s)) i 0 (w.budget i) l mine
      (λ j k e. own_le w p (due d s') (due d s) j (λ c. due_stays d s s' j (o.others j e))) in
      omega arith

  -- what is left of a task never rises in a tick
  never_rises : {m : Meaning} {s s' : State} → Advanced w m s s' → (i : ℕ) → s'.left i ≤ s.left i
  never_rises {m} {s} {s'} a i =
      ⊎_elim
      (λ (l : s.left i < s'.left i).
      let idle : Running w m s i → ⊥ = λ x. omega (arith, a.worked i x) in
      omega (arith, a.kept i idle))
      (λ (l : s'.left i ≤ s.left i). l)
      (cases_lt (s.left i) (s'.left i))

  pub pending_ticked : {m : Meaning} {s s' : State} → Advanced w m s s' → pending w p d s' ≤ pending w p d s
  pending_ticked {m} {s} {s'} a = falls s s' (λ i b. due_le d s s' i (a.deadline i) (never_rises a i))

  -- a tick in which a task runs that is due by then
  pub pending_worked : {m : Meaning} {s s' : State} {i : ℕ} → Advanced w m s s' → i < w.tasks → w.bin i ≡ p → s.deadline i ≤ d → 0 < s.left i → Running w m s i → pending w p d s' + 1 ≤ pending w p d s
  pending_worked {m} {s} {s'} {i} a l b e u g =
      let now = a.worked i g in
      let same = a.deadline i in
      let mine : own w p (due d s') i + 1 ≤ own w p (due d s) i + 0 =
      omega (arith, own_yes w p (due d s') i b, own_yes w p (due d s) i b, due_yes d s i e, due_yes d s' i (omega arith)) in
      let all = total_at w.tasks (own w p (due d s')) (own w p (due d s)) i 1 0 l mine
      (λ j k c. own_le w p (due d s') (due d s) j (λ x. due_le d s s' j (a.deadline j) (never_rises a j))) in
      omega arith

  -- work that is due by then is of some unfinished task
  pub pending_of : (s : State) → 0 < pending w p d s → (i : ℕ) × (i < w.tasks) × (w.bin i ≡ p) × (s.deadline i ≤ d) × (0 < s.left i)
  pending_of s h =
      let t = some_part w.tasks (own w p (due d s)) h in
      let i = t.0 in
      let u = t.2 in
      ⊎_elim
      (λ (b : w.bin i ≡ p). ⊎_elim
      (λ (l : d < s.deadline i). absurd (omega (arith, own_yes w p (due d s) i b, due_no d s i l)))
      (λ (l : s.deadline i ≤ d). (i, t.1, b, l, omega (arith, own_yes w p (due d s) i b, due_yes d s i l)))
      (cases_lt d (s.deadline i)))
      (λ (b : w.bin i ≡ p → ⊥). absurd (omega (arith, own_no w p (due d s) i b)))
      (cases_eq (w.bin i) p)

  -- nothing due by then: a task of the bin with its deadline by then has nothing left
  pub none_left : (s : State) (i : ℕ) → i < w.tasks → w.bin i ≡ p → s.deadline i ≤ d → pending w p d s ≡ 0 → s.left i ≡ 0
  none_left s i l b e z =
      omega (arith, part_le w.tasks (own w p (due d s)) i l, own_yes w p (due d s) i b, due_yes d s i e)
