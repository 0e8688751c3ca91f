-- Shares are laid, bin by bin.
use Rattle.std.proofs.Common.{◌≡◌, ℕ, suc, ◌+◌, ◌-◌, ◌*◌, ◌<◌, ◌≤◌, List, [], ◌∷◌, ◌++◌, map, length, get_or, take, set, sym, refl, ap, ◌∙◌, subst, ⊎_elim, arith}
use Rattle.std.proofs.lemmas.List.{length-map, length-append, map-append, take_more, length-take-le, get_or_past, get_or_push, get_or_append_left, get_or-map, get_or-set_same, get_or-set_other}
use Rattle.std.proofs.lemmas.Bool.Decides.{nat_tests}
use Rattle.std.proofs.lemmas.Bool.{cases_eq, cases_lt}
use Rattle.plan.specs.declared.bin.Bin.{Bin}
use Rattle.plan.specs.declared.plan.Plan.{Plan}
use Rattle.plan.specs.Bins.{load_of as bin_load, reserve_in}
use Rattle.plan.specs.Closing.{Planned}
use Rattle.plan.specs.Plans.{planned}
use Rattle.plan.proofs.Plans.{reserves_count, bins_few}
use Rattle.layout_laws.specs.Shares.{share, before}
use Rattle.layout_laws.specs.Semi.{room, free, shared, semi_start}
use Rattle.layout_laws.proofs.Sums.{before_more}
use Rattle.layout.specs.declared.share.Share.{Share}
use Rattle.layout.proofs.Plenty.{reserve_inside}
use Rattle.layout.specs.Parts.{load_of, reserve_of, start_of}

-- the shares of the first i bins; `left` is what the processors so far have left beside their own bins, and `taken` what the other bins
-- have taken of it
pub record Laid (S own : ℕ) (ws rs : List ℕ) (xs : List Share) (left taken i : ℕ) : Type 0 where
  pub loads : map load_of xs ≡ take i ws
  pub reserves : map reserve_of xs ≡ take i rs
  pub starts : (q : ℕ) → q < i → get_or (map start_of xs) q 0 ≡ semi_start S own rs q
  pub left_is : i ≤ own → left ≡ free S rs i
  pub taken_is : taken ≡ shared own rs i
  pub near : (q : ℕ) → get_or (map start_of xs) q 0 ≤ i * 1000000
  pub bounded : (left ≤ i * 1000000) × (taken ≤ i * 1000000)

pub laid_none : (S own : ℕ) (ws rs : List ℕ) (xs : List Share) → xs ≡ [] → Laid S own ws rs xs 0 0 0
unfolding before
laid_none S own ws rs xs e = subst (λ ys. Laid S own ws rs ys 0 0 0) (sym e) (record {
  loads = refl;
  reserves = refl;
  starts = λ q l. absurd (omega arith);
  left_is = λ _. refl;
  taken_is = let none : 0 ≡ 0 - own = omega arith in ap (before (λ k. share rs (own + k))) none;
  near = λ q. omega arith;
  bounded = (omega arith, omega arith);
})

-- the same shares and sums, spelled otherwise
pub laid_as : {S own : ℕ} {ws rs : List ℕ} {xs xs' : List Share} {left left' taken taken' i : ℕ} → xs' ≡ xs → left' ≡ left → taken' ≡ taken → Laid S own ws rs xs left taken i → Laid S own ws rs xs' left' taken' i
laid_as {S} {own} {ws} {rs} {xs} {xs'} {left} {left'} {taken} {taken'} {i} a b c l =
    subst (λ ys. Laid S own ws rs ys left' taken' i) (sym a) (subst (λ y. Laid S own ws rs xs y taken' i) (sym b) (subst (λ y. Laid S own ws rs xs left y i) (sym c) l))

-- what is read of a plan's bin at place i
pub record Read (p : Planned) (i : ℕ) (b : Bin) : Type 0 where
  pub there : i < length p.loads
  pub load : b.load ≡ get_or p.loads i 0
  pub reserve : b.reserve ≡ get_or p.reserves i 0
  pub each : length p.reserves ≡ length p.loads
  pub fits : b.reserve ≤ p.slot
  pub short : p.slot ≤ 1000000
  pub few : i < 64

pub read_at : (p : Plan) (bs : List Bin) (i : ℕ) (d : Bin) → map bin_load bs ≡ (planned p).loads → map reserve_in bs ≡ (planned p).reserves → i < length bs → Read (planned p) i (get_or bs i d)
read_at p bs i d loads reserves l =
    let there : i < length (planned p).loads = omega (arith, ap length loads, length-map bs bin_load) in
    let reserve : (get_or bs i d).reserve ≡ get_or (planned p).reserves i 0 = sym (get_or-map reserve_in bs i d 0 l) ∙ ap (λ ys. get_or ys i 0) reserves in
    record {
      there = there;
      load = sym (get_or-map bin_load bs i d 0 l) ∙ ap (λ ys. get_or ys i 0) loads;
      reserve = reserve;
      each = reserves_count p;
      fits = omega (arith, reserve_inside p i);
      short = (reserve_inside p i).1;
      few = omega (arith, bins_few p);
    }

-- one more number at the end of a list, whose place i it takes
push_at : (P : ℕ → ℕ → Type 0) (xs : List ℕ) (y i : ℕ) → length xs ≡ i → ((q : ℕ) → q < i → P q (get_or xs q 0)) → P i y → (q : ℕ) → q < i + 1 → P q (get_or (xs ++ y ∷ []) q 0)
push_at P xs y i n before here q l = ⊎_elim (λ e. subst (λ k. P k (get_or (xs ++ y ∷ []) k 0)) (sym e) (subst (P i) (sym (get_or_push xs y 0 i n)) here)) (λ e. subst (P q) (sym (get_or_append_left xs (y ∷ []) 0 q (omega arith))) (before q (omega arith))) (cases_eq q i)

-- a number past the end of a list is 0
bound_at : (xs : List ℕ) (y i b c : ℕ) → length xs ≡ i → b ≤ c → y ≤ c → ((q : ℕ) → get_or xs q 0 ≤ b) → (q : ℕ) → get_or (xs ++ y ∷ []) q 0 ≤ c
bound_at xs y i b c n le here before q =
    ⊎_elim (λ l. push_at (λ _ v. v ≤ c) xs y i n (λ k _. omega (arith, before k)) here q l)
    (λ l. omega (arith, get_or_past (xs ++ y ∷ []) q 0 (omega (arith, length-append xs (y ∷ []))))) (cases_lt q (i + 1))

-- one more share, of the bin that was read
module _ {p : Planned} {own : ℕ} {xs : List Share} {left taken i : ℕ} {b : Bin} (l : Laid p.slot own p.loads p.reserves xs left taken i) (r : Read p i b) (start : ℕ) where
  abbrev x : Share
  x = record { bin = b; start = start }

  count : length (map start_of xs) ≡ i
  count = length-map xs start_of ∙ sym (length-map xs load_of) ∙ ap length l.loads ∙ length-take-le i p.loads (omega (arith, r.there))

  loads_more : map load_of (xs ++ x ∷ []) ≡ take (i + 1) p.loads
  loads_more = map-append load_of xs (x ∷ []) ∙ ap (λ ys. ys ++ b.load ∷ []) l.loads ∙ ap (λ v. take i p.loads ++ v ∷ []) r.load ∙ sym (take_more p.loads i 0 r.there)

  reserves_more : map reserve_of (xs ++ x ∷ []) ≡ take (i + 1) p.reserves
  reserves_more = map-append reserve_of xs (x ∷ []) ∙ ap (λ ys. ys ++ b.reserve ∷ []) l.reserves ∙ ap (λ v. take i p.reserves ++ v ∷ []) r.reserve ∙ sym (take_more p.reserves i 0 (omega (arith, r.there, r.each)))

  starts_more : x.start ≡ semi_start p.slot own p.reserves i → (q : ℕ) → q < i + 1 → get_or (map start_of (xs ++ x ∷ [])) q 0 ≡ semi_start p.slot own p.reserves q
  starts_more here q h =
      ap (λ ys. get_or ys q 0) (map-append start_of xs (x ∷ [])) ∙ push_at (λ k v. v ≡ semi_start p.slot own p.reserves k) (map start_of xs) x.start i count l.starts here q h

  near_more : x.start ≤ (i + 1) * 1000000 → (q : ℕ) → get_or (map start_of (xs ++ x ∷ [])) q 0 ≤ (i + 1) * 1000000
  near_more here q =
      omega (arith, ap (λ ys. get_or ys q 0) (map-append start_of xs (x ∷ [])), bound_at (map start_of xs) x.start i (i * 1000000) ((i + 1) * 1000000) count (omega arith) here l.near q)

  -- a bin that has a processor of its own
  pub laid_own : i < own → x.start ≡ left + (p.slot - b.reserve) → Laid p.slot own p.loads p.reserves (xs ++ x ∷ []) (left + (p.slot - b.reserve)) taken (i + 1)
  laid_own low start =
      let more : free p.slot p.reserves (suc i) ≡ left + (p.slot - b.reserve) = omega (arith, before_more (room p.slot p.reserves) i, l.left_is (omega arith)) in
      let one : i + 1 ≡ suc i = omega arith in
      let none : i + 1 - own ≡ i - own = omega arith in
      record {
        loads = loads_more;
        reserves = reserves_more;
        starts = starts_more (start ∙ sym more ∙ grind (arith, nat_tests));
        left_is = λ _. sym more ∙ ap (free p.slot p.reserves) (sym one);
        taken_is = l.taken_is ∙ ap (before (λ k. share p.reserves (own + k))) (sym none);
        near = near_more (omega (arith, l.bounded.0));
        bounded = (omega (arith, l.bounded.0), omega (arith, l.bounded.1));
      }

  -- and one that has not
  pub laid_other : own ≤ i → x.start ≡ taken → Laid p.slot own p.loads p.reserves (xs ++ x ∷ []) left (taken + b.reserve) (i + 1)
  laid_other high start =
      let more : i + 1 - own ≡ suc (i - own) = omega arith in
      let here : own + (i - own) ≡ i = omega arith in
      record {
        loads = loads_more;
        reserves = reserves_more;
        starts = starts_more (start ∙ l.taken_is ∙ grind (arith, nat_tests));
        left_is = λ h. absurd (omega arith);
        taken_is = omega (arith, l.taken_is, ap (before (λ k. share p.reserves (own + k))) more, before_more (λ k. share p.reserves (own + k)) (i - own), ap (share p.reserves) here);
        near = near_more (omega (arith, l.bounded.1));
        bounded = (omega (arith, l.bounded.0), omega (arith, l.bounded.1));
      }

-- an array that is right up to n is right to n + 1, once its place n is set right
pub set_more : (f : ℕ → ℕ) (xs : List ℕ) (n y : ℕ) → n < length xs → y ≡ f n → ((p : ℕ) → p < n → get_or xs p 0 ≡ f p) → (p : ℕ) → p < n + 1 → get_or (set xs n y) p 0 ≡ f p
set_more f xs n y h e before p l =
    ⊎_elim (λ s. subst (λ k. get_or (set xs n y) k 0 ≡ f k) (sym s) (get_or-set_same xs n y 0 h ∙ e)) (λ s. get_or-set_other xs n p y 0 s ∙ before p (omega arith)) (cases_eq p n)
