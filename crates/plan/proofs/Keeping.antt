-- Every closing keeps the laws.
use Rattle.std.proofs.Common.{◌≡◌, ℕ, ◌*◌, ◌/◌, ◌<◌, ◌≤◌, Bool, true, false, cond, eqb, ltb, leb, ◌≢◌, ◌⊎◌, List, [], map, length, get_or, Some, Ok, Err, sym, refl, ap, subst, inl, inr, ⊎_elim, arith}
use Rattle.std.specs.List.{slice_get}
use Rattle.std.proofs.lemmas.List.{length-map, get_or-map, get_or_past}
use Rattle.std.proofs.lemmas.Option.{slice_get-get_or}
use Rattle.std.proofs.lemmas.Bool.{cases_lt, and_parts, leb-true, eqb-false, ltb-false}
use Rattle.plan.specs.declared.verdict.PlanRefusal.{PlanRefusal}
use Rattle.plan.specs.declared.verdict.PlanRefusal.TheVariants.{BadProcessors, BadDelta, NoRows, ShortPeriod}
use Rattle.plan.specs.Rows.{Task}
use Rattle.plan.specs.Method.{full, charge, shortest_of, loads_from, bins_from, reserve_of}
use Rattle.plan.specs.Closing.{Verdict, Good, in_range, verdict_of, where_good, charges_of, slot_of, bins_of, loads_of, closed}
use Rattle.plan.specs.Laws.{GoodRow, FirstFit, Slot, Reserve, GoodPlan, NoPlan, Lawful}
use Rattle.plan.proofs.FirstFit.{first_fit}
use Rattle.plan.proofs.Periods.{Timed, shortest_is}
use Rattle.plan.proofs.Rounding.{least_above, charge_light, reserve_rounded, slot_rounded}

-- what a good verdict says
pub record Sound (ts : List Task) (m δ : ℕ) : Type 0 where
  pub processors : (1 ≤ m) × (m ≤ 16)
  pub delta : (1 ≤ δ) × (δ ≤ 16)
  pub rows : 0 < length ts
  pub long : δ ≤ shortest_of ts

-- a test that chose a good verdict over a refusal was passed
chosen : (b : Bool) (v w : Verdict) → (w ≡ Good → ⊥) → cond b v w ≡ Good → (b ≡ true) × (v ≡ Good)
chosen true v w n e = (refl, e)
chosen false v w n e = absurd (n e)

-- a test that chose a refusal over what is good was not
spared : (b : Bool) (v w : Verdict) → (v ≡ Good → ⊥) → cond b v w ≡ Good → (b ≡ false) × (w ≡ Good)
spared true v w n e = absurd (n e)
spared false v w n e = (refl, e)

ranged : (n : ℕ) → in_range n ≡ true → (1 ≤ n) × (n ≤ 16)
ranged n e = let parts = and_parts (leb 1 n) (leb n 16) e in (leb-true 1 n parts.0, leb-true n 16 parts.1)

-- no refusal is good
not : (e : PlanRefusal) → ◌≡◌ {A = Verdict} (Err e) Good → ⊥
not e z = let n : ◌≡◌ {A = ℕ} 0 1 = cc in omega arith

pub sound : (ts : List Task) (m δ : ℕ) → verdict_of ts m δ ≡ Good → Sound ts m δ
sound ts m δ good =
    let late : Verdict = cond (ltb (shortest_of ts) δ) (Err ShortPeriod) Good in
    let rows : Verdict = cond (eqb (length ts) 0) (Err NoRows) late in
    let a = chosen (in_range m) (cond (in_range δ) rows (Err BadDelta)) (Err BadProcessors) (not BadProcessors) good in
    let b = chosen (in_range δ) rows (Err BadDelta) (not BadDelta) a.1 in
    let c = spared (eqb (length ts) 0) (Err NoRows) late (not NoRows) b.1 in
    let d = spared (ltb (shortest_of ts) δ) (Err ShortPeriod) Good (not ShortPeriod) c.1 in
    let nonzero : length ts ≢ 0 = eqb-false (length ts) 0 c.0 in
    record { processors = ranged m a.0; delta = ranged δ b.0; rows = omega arith; long = ltb-false (shortest_of ts) δ d.0 }

pub good_or_not : (v : Verdict) → (v ≡ Good) ⊎ (v ≡ Good → ⊥)
good_or_not (Ok good) = inl refl
good_or_not (Err e) = inr (not e)

not_good : {X : Type 0} (v : Verdict) (x none : X) → (v ≡ Good → ⊥) → where_good v x none ≡ none
not_good (Ok good) x none n = absurd (n refl)
not_good (Err e) x none n = refl

pub no_plan : (ts : List Task) (m δ : ℕ) → (verdict_of ts m δ ≡ Good → ⊥) → NoPlan (closed ts m δ)
no_plan ts m δ n =
    let v = verdict_of ts m δ in
    record {
      slot = not_good v (shortest_of ts / δ) 0 n;
      bins = not_good v (bins_from [] (charges_of ts)) [] n;
      loads = not_good v (loads_from [] (charges_of ts)) [] n;
      reserves = ap (map (reserve_of (slot_of ts m δ) δ)) (not_good v (loads_from [] (charges_of ts)) [] n);
    }

nobody : Task
nobody = record { budget = 0; period = 0; name = [] }

module _ (ts : List Task) (rows : (i : ℕ) (t : Task) → slice_get ts i ≡ Some t → GoodRow t) where
  pub charges_light : (i : ℕ) → get_or (charges_of ts) i 0 ≤ full
  charges_light i = ⊎_elim here past (cases_lt i (length ts))
    where
      here : i < length ts → get_or (charges_of ts) i 0 ≤ full
      here l =
          let t = get_or ts i nobody in
          let r = rows i t (slice_get-get_or ts i nobody l) in
          omega (arith, get_or-map charge ts i nobody 0 l, charge_light t r.some r.room)

      past : length ts ≤ i → get_or (charges_of ts) i 0 ≤ full
      past l = omega (arith, get_or_past (charges_of ts) i 0 (omega (arith, length-map ts charge)))

  timed : Timed ts
  timed i t e = let r = rows i t e in omega (arith, r.some, r.room)

  -- the shortest period is a period
  pub shortest_short : 0 < length ts → shortest_of ts ≤ 1000000
  shortest_short some = let s = (shortest_is ts timed some).one in omega (arith, s.3, (rows s.0 s.1 s.2).short)

  module _ (m δ : ℕ) where
    good_plan : verdict_of ts m δ ≡ Good → GoodPlan (closed ts m δ)
    good_plan good =
        let s = sound ts m δ good in
        let fit : FirstFit (charges_of ts) (bins_of ts m δ) (loads_of ts m δ) =
        subst (λ v. FirstFit (charges_of ts) (where_good v (bins_from [] (charges_of ts)) []) (where_good v (loads_from [] (charges_of ts)) [])) (sym good) (first_fit (charges_of ts) charges_light) in
        record {
          processors = s.processors;
          delta = s.delta;
          charges = λ i t e. least_above (t.budget * full) t.period (timed i t e);
          packed = fit;
          shortest = shortest_is ts timed s.rows;
          slot = subst (λ v. Slot (shortest_of ts) δ (where_good v (shortest_of ts / δ) 0)) (sym good) (slot_rounded (shortest_of ts) δ s.delta.0 s.long);
          each = length-map (loads_of ts m δ) (reserve_of (slot_of ts m δ) δ);
          reserves = λ q l.
              subst (λ r. Reserve (slot_of ts m δ) δ (get_or (loads_of ts m δ) q 0) r) (sym (get_or-map (reserve_of (slot_of ts m δ) δ) (loads_of ts m δ) q 0 0 l))
              (reserve_rounded (slot_of ts m δ) δ (get_or (loads_of ts m δ) q 0) s.delta.0 (fit.light q));
        }

    pub lawful : length ts ≤ 64 → Lawful (closed ts m δ)
    lawful few = record { few = few; rows = rows; good = good_plan; refused = no_plan ts m δ }
