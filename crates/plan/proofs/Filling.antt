-- A packing, one task after another.
use Rattle.std.proofs.Common.{◌≡◌, ℕ, ◌+◌, ◌<◌, List, [], ◌∷◌, ◌++◌, length, get_or, take, sym, ap, ◌∙◌, subst}
use Rattle.std.proofs.lemmas.List.{take_more}
use Rattle.plan.specs.declared.packing.Packing.{Packing}
use Rattle.plan.specs.Method.{place, put, bins_from}
use Rattle.plan.specs.Packs.{Packs}
use Rattle.plan.proofs.FirstFit.{loads_push, bins_push}

-- the next task goes where First-Fit puts it
pub packs_more : (cs : List ℕ) (i c : ℕ) (p p' : Packing) → i < length cs → get_or cs i 0 ≡ c → Packs (take i cs) p → p'.bin_of.items ≡ p.bin_of.items ++ place c p.loads.items ∷ [] → p'.loads.items ≡ put c p.loads.items → Packs (take (i + 1) cs) p'
packs_more cs i c p p' l is packs placed loaded =
    let old = take i cs in
    let next : take (i + 1) cs ≡ old ++ c ∷ [] = take_more cs i 0 l ∙ ap (λ x. old ++ x ∷ []) is in
    subst (λ ds. Packs ds p') (sym next) (record {
      placed = placed ∙ ap (λ bs. bs ++ place c p.loads.items ∷ []) packs.placed ∙ ap (λ ws. bins_from [] old ++ place c ws ∷ []) packs.loaded ∙ sym (bins_push [] old c);
      loaded = loaded ∙ ap (put c) packs.loaded ∙ sym (loads_push [] old c);
    })
