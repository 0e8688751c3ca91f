-- First-Fit keeps its laws.
use Rattle.std.proofs.Common.{◌≡◌, ℕ, zero, suc, ◌+◌, ◌-◌, ◌<◌, ◌≤◌, true, false, cond, eqb, leb, ◌⊎◌, List, [], ◌∷◌, ◌++◌, length, get_or, take, sym, refl, ap, ◌∙◌, inl, inr, ⊎_elim, add-one, arith}
use Rattle.std.proofs.lemmas.List.{take_more, take_all}
use Rattle.std.proofs.lemmas.Bool.{cond_both, leb-true, leb-false, cases_eq, eq-eqb, ne_eqb, cond-true, cond-false}
use Rattle.plan.specs.Method.{full, place, put, loads_from, bins_from}
use Rattle.plan.specs.Laws.{brought, FirstFit}

-- one charge comes to bins
module _ (c : ℕ) where
  pub place_le : (ws : List ℕ) → place c ws ≤ length ws
  place_le [] = omega arith
  place_le (w ∷ ws) = let ih = place_le ws in cond_both (leb (w + c) full) 0 (suc (place c ws)) (λ x. x ≤ suc (length ws)) (λ _. omega arith) (λ _. omega arith)

  pub place_room : c ≤ full → (ws : List ℕ) → get_or ws (place c ws) 0 + c ≤ full
  place_room light [] = omega arith
  place_room light (w ∷ ws) =
      cond_both (leb (w + c) full) 0 (suc (place c ws)) (λ x. get_or (w ∷ ws) x 0 + c ≤ full) (leb-true (w + c) full) (λ _. place_room light ws)

  pub place_lowest : (ws : List ℕ) (p : ℕ) → p < place c ws → full < get_or ws p 0 + c
  place_lowest [] p h = absurd (omega arith)
  place_lowest (w ∷ ws) p h =
      cond_both (leb (w + c) full) 0 (suc (place c ws)) (λ x. p < x → full < get_or (w ∷ ws) p 0 + c) (λ _ l. absurd (omega arith)) (λ e. later (place_lowest ws) e p) h
    where
      later : ((q : ℕ) → q < place c ws → full < get_or ws q 0 + c) → leb (w + c) full ≡ false → (q : ℕ) → q < suc (place c ws) → full < get_or (w ∷ ws) q 0 + c
      later ih e zero h = leb-false (w + c) full e
      later ih e (suc q) h = ih q (omega arith)

  pub put_place : (ws : List ℕ) → place c ws < length (put c ws)
  put_place [] = omega arith
  put_place (w ∷ ws) =
      elim (leb (w + c) full) as (λ b. cond b 0 (suc (place c ws)) < length (cond b ((w + c) ∷ ws) (w ∷ put c ws))) [ true ↦ omega arith | false ↦ omega (arith, put_place ws) ]

  pub put_longer : (ws : List ℕ) → length ws ≤ length (put c ws)
  put_longer [] = omega arith
  put_longer (w ∷ ws) = elim (leb (w + c) full) as (λ b. suc (length ws) ≤ length (cond b ((w + c) ∷ ws) (w ∷ put c ws))) [ true ↦ omega arith | false ↦ omega (arith, put_longer ws) ]

  pub put_short : (ws : List ℕ) → length (put c ws) ≤ suc (length ws)
  put_short [] = omega arith
  put_short (w ∷ ws) = elim (leb (w + c) full) as (λ b. length (cond b ((w + c) ∷ ws) (w ∷ put c ws)) ≤ suc (suc (length ws))) [ true ↦ omega arith | false ↦ omega (arith, put_short ws) ]

  pub put_only : (ws : List ℕ) (p : ℕ) → p < length (put c ws) → (p < length ws) ⊎ (p ≡ place c ws)
  put_only [] p h = inr (omega arith)
  put_only (w ∷ ws) p h =
      (elim (leb (w + c) full) as (λ b. p < length (cond b ((w + c) ∷ ws) (w ∷ put c ws)) → (p < suc (length ws)) ⊎ (p ≡ cond b 0 (suc (place c ws)))) [ true ↦ inl | false ↦ further (put_only ws) p ]) h
    where
      further : ((q : ℕ) → q < length (put c ws) → (q < length ws) ⊎ (q ≡ place c ws)) → (q : ℕ) → q < suc (length (put c ws)) → (q < suc (length ws)) ⊎ (q ≡ suc (place c ws))
      further ih zero h = inl (omega arith)
      further ih (suc q) h = ⊎_elim (λ l. inl (omega arith)) (λ e. inr (ap suc e)) (ih q (omega arith))

  -- the charge is added to the load of its bin, and to no other
  put_here : (ws : List ℕ) → get_or (put c ws) (place c ws) 0 ≡ get_or ws (place c ws) 0 + c
  put_here [] = omega arith
  put_here (w ∷ ws) =
      elim (leb (w + c) full) as (λ b. get_or (cond b ((w + c) ∷ ws) (w ∷ put c ws)) (cond b 0 (suc (place c ws))) 0 ≡ get_or (w ∷ ws) (cond b 0 (suc (place c ws))) 0 + c) [ true ↦ refl | false ↦ put_here ws ]

  put_there : (ws : List ℕ) (p : ℕ) → (p ≡ place c ws → ⊥) → get_or (put c ws) p 0 ≡ get_or ws p 0
  put_there [] zero n = absurd (n refl)
  put_there [] (suc p) n = refl
  put_there (w ∷ ws) p n =
      (elim (leb (w + c) full) as (λ b. (p ≡ cond b 0 (suc (place c ws)) → ⊥) → get_or (cond b ((w + c) ∷ ws) (w ∷ put c ws)) p 0 ≡ get_or (w ∷ ws) p 0) [ true ↦ first p | false ↦ later (put_there ws) p ]) n
    where
      first : (q : ℕ) → (q ≡ 0 → ⊥) → get_or ((w + c) ∷ ws) q 0 ≡ get_or (w ∷ ws) q 0
      first zero m = absurd (m refl)
      first (suc q) m = refl

      later : ((q : ℕ) → (q ≡ place c ws → ⊥) → get_or (put c ws) q 0 ≡ get_or ws q 0) → (q : ℕ) → (q ≡ suc (place c ws) → ⊥) → get_or (w ∷ put c ws) q 0 ≡ get_or (w ∷ ws) q 0
      later ih zero m = refl
      later ih (suc q) m = ih q (λ e. m (ap suc e))

  pub put_load : (ws : List ℕ) (p : ℕ) → get_or (put c ws) p 0 ≡ get_or ws p 0 + cond (eqb (place c ws) p) c 0
  put_load ws p = ⊎_elim here there (cases_eq (place c ws) p)
    where
      here : place c ws ≡ p → get_or (put c ws) p 0 ≡ get_or ws p 0 + cond (eqb (place c ws) p) c 0
      here e =
          omega (arith, put_here ws, ap (λ q. get_or (put c ws) q 0) e, ap (λ q. get_or ws q 0) e, cond-true {A = ℕ} (eqb (place c ws) p) c 0 (eq-eqb (place c ws) p e))

      there : (place c ws ≡ p → ⊥) → get_or (put c ws) p 0 ≡ get_or ws p 0 + cond (eqb (place c ws) p) c 0
      there n = omega (arith, put_there ws p (λ e. n (sym e)), cond-false {A = ℕ} (eqb (place c ws) p) c 0 (ne_eqb (place c ws) p n))

  pub put_light : c ≤ full → (ws : List ℕ) → ((p : ℕ) → get_or ws p 0 ≤ full) → (p : ℕ) → get_or (put c ws) p 0 ≤ full
  put_light light ws old p = ⊎_elim here there (cases_eq p (place c ws))
    where
      here : p ≡ place c ws → get_or (put c ws) p 0 ≤ full
      here e = omega (arith, put_here ws, ap (λ q. get_or (put c ws) q 0) e, place_room light ws)

      there : (p ≡ place c ws → ⊥) → get_or (put c ws) p 0 ≤ full
      there n = omega (arith, put_there ws p n, old p)

pub loads_push : (ws cs : List ℕ) (c : ℕ) → loads_from ws (cs ++ c ∷ []) ≡ put c (loads_from ws cs)
loads_push ws [] c = refl
loads_push ws (d ∷ cs) c = loads_push (put d ws) cs c

pub bins_push : (ws cs : List ℕ) (c : ℕ) → bins_from ws (cs ++ c ∷ []) ≡ bins_from ws cs ++ place c (loads_from ws cs) ∷ []
bins_push ws [] c = refl
bins_push ws (d ∷ cs) c = ap (λ bs. place d ws ∷ bs) (bins_push (put d ws) cs c)

pub bins_length : (ws cs : List ℕ) → length (bins_from ws cs) ≡ length cs
bins_length ws [] = refl
bins_length ws (c ∷ cs) = ap suc (bins_length (put c ws) cs)

-- the bin of a task, by the loads when it came
bin_at : (ws cs : List ℕ) (i : ℕ) → i < length cs → get_or (bins_from ws cs) i 0 ≡ place (get_or cs i 0) (loads_from ws (take i cs))
bin_at ws [] i h = absurd (omega arith)
bin_at ws (c ∷ cs) zero h = refl
bin_at ws (c ∷ cs) (suc i) h = bin_at (put c ws) cs i (omega arith)

-- the charges come one after another, from no bins on
module _ (cs : List ℕ) where
  -- the loads when the first n have come
  loads_at : ℕ → List ℕ
  loads_at n = loads_from [] (take n cs)

  loads_more : (n : ℕ) → n < length cs → loads_at (suc n) ≡ put (get_or cs n 0) (loads_at n)
  unfolding loads_at
  loads_more n h =
      ap (λ k. loads_from [] (take k cs)) (sym (add-one n)) ∙ ap (loads_from []) (take_more cs n 0 h) ∙ loads_push [] (take n cs) (get_or cs n 0)

  loads_all : loads_at (length cs) ≡ loads_from [] cs
  unfolding loads_at
  loads_all = ap (loads_from []) (take_all (length cs) cs (omega arith))

  bin_is : (i : ℕ) → i < length cs → get_or (bins_from [] cs) i 0 ≡ place (get_or cs i 0) (loads_at i)
  unfolding loads_at
  bin_is i h = bin_at [] cs i h

  -- a bin's load is what its tasks brought
  load_is : (n p : ℕ) → n ≤ length cs → get_or (loads_at n) p 0 ≡ brought cs (bins_from [] cs) n p
  unfolding loads_at
  load_is zero p h = refl
  load_is (suc n) p h =
      let c = get_or cs n 0 in
      let l : n < length cs = h in
      let e : cond (eqb (place c (loads_at n)) p) c 0 ≡ cond (eqb (get_or (bins_from [] cs) n 0) p) c 0 = ap (λ q. cond (eqb q p) c 0) (sym (bin_is n l)) in
      omega (arith, ap (λ ws. get_or ws p 0) (loads_more n l), put_load c (loads_at n) p, e, load_is n p (omega arith))

  light_is : ((i : ℕ) → get_or cs i 0 ≤ full) → (n : ℕ) → n ≤ length cs → (p : ℕ) → get_or (loads_at n) p 0 ≤ full
  unfolding loads_at
  light_is light zero h p = omega arith
  light_is light (suc n) h p =
      let c = get_or cs n 0 in
      omega (arith, ap (λ ws. get_or ws p 0) (loads_more n h), put_light c (light n) (loads_at n) (light_is light n (omega arith)) p)

  longer : (n d : ℕ) → n + d ≤ length cs → length (loads_at n) ≤ length (loads_at (n + d))
  longer n zero h = let e : n + 0 ≡ n = omega arith in omega (arith, ap (λ k. length (loads_at k)) e)
  longer n (suc d) h =
      let e : n + suc d ≡ suc (n + d) = omega arith in
      let l : n + d < length cs = omega arith in
      omega (arith, ap (λ k. length (loads_at k)) e, ap length (loads_more (n + d) l), put_longer (get_or cs (n + d) 0) (loads_at (n + d)), longer n d (omega arith))

  used_is : (n : ℕ) → n ≤ length cs → (p : ℕ) → p < length (loads_at n) → (j : ℕ) × (j < n) × (get_or (bins_from [] cs) j 0 ≡ p)
  unfolding loads_at
  used_is zero h p l = absurd (omega arith)
  used_is (suc n) h p l =
      let c = get_or cs n 0 in
      let m : p < length (put c (loads_at n)) = omega (arith, ap length (loads_more n h)) in
      ⊎_elim (before (used_is n (omega arith) p)) last (put_only c (loads_at n) p m)
    where
      before : (p < length (loads_at n) → (j : ℕ) × (j < n) × (get_or (bins_from [] cs) j 0 ≡ p)) → p < length (loads_at n) → (j : ℕ) × (j < suc n) × (get_or (bins_from [] cs) j 0 ≡ p)
      before ih k = let f = ih k in (f.0, omega (arith, f.1), f.2)

      last : p ≡ place (get_or cs n 0) (loads_at n) → (j : ℕ) × (j < suc n) × (get_or (bins_from [] cs) j 0 ≡ p)
      last e = (n, omega arith, bin_is n h ∙ sym e)

  pub first_fit : ((i : ℕ) → get_or cs i 0 ≤ full) → FirstFit cs (bins_from [] cs) (loads_from [] cs)
  first_fit light = record {
    each = bins_length [] cs;
    within = λ i h. inside i h;
    room = λ i h. omega (arith, sym (load_is i (get_or (bins_from [] cs) i 0) (omega arith)), ap (λ q. get_or (loads_at i) q 0) (bin_is i h), place_room (get_or cs i 0) (light i) (loads_at i));
    lowest = λ i p h l. omega (arith, sym (load_is i p (omega arith)), place_lowest (get_or cs i 0) (loads_at i) p (omega (arith, bin_is i h)));
    opened = λ i p h l. used_is i (omega arith) p (omega (arith, bin_is i h, place_le (get_or cs i 0) (loads_at i)));
    used = λ p l. used_is (length cs) (omega arith) p (omega (arith, ap length loads_all));
    load = λ p. ap (λ ws. get_or ws p 0) (sym loads_all) ∙ load_is (length cs) p (omega arith);
    light = λ p. omega (arith, ap (λ ws. get_or ws p 0) loads_all, light_is light (length cs) (omega arith) p);
  }
    where
      inside : (i : ℕ) → i < length cs → get_or (bins_from [] cs) i 0 < length (loads_from [] cs)
      inside i h =
          let e : suc i + (length cs - suc i) ≡ length cs = omega arith in
          omega (
            arith,
            bin_is i h,
            put_place (get_or cs i 0) (loads_at i),
            ap length (loads_more i h),
            longer (suc i) (length cs - suc i) (omega arith),
            ap (λ k. length (loads_at k)) e,
            ap length loads_all,
          )
