-- The number of each refusal.
use Rattle.std.specs.Prelude.{ℕ}
use Rattle.layout.specs.declared.refusal.NotMade.{NotMade}
use Rattle.layout.specs.declared.refusal.NotFit.{NotFit}

abbrev pub not_made_number : NotMade → ℕ
not_made_number e = 27

abbrev pub not_fit_number : NotFit → ℕ
not_fit_number e = 28
