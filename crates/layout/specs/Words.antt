-- What a person is told of each refusal, as the bytes of its text.
use Rattle.std.specs.Prelude.{ℕ, List, codes}

abbrev pub not_made_words : List ℕ
not_made_words = codes "the plan has no layout of this kind"

abbrev pub not_fit_words : List ℕ
not_fit_words = codes "the layout is not one of this plan"
