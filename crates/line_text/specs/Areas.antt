-- A line that is written, or an area too short for it.
use Rattle.std.specs.Prelude.{◌≡◌, ℕ, ◌<◌, List, length, Ok, Err, Result}
use Rattle.areas.specs.Areas.{Wrote}
use Rattle.line_text.specs.declared.writing.ShortArea.{ShortArea}

abbrev pub WrittenOrNot : List ℕ → List ℕ → List ℕ → Result ℕ ShortArea → Type 0
WrittenOrNot bytes area area' (Ok n) = Wrote bytes area area' n
WrittenOrNot bytes area area' (Err e) = (length area < length bytes) × (area' ≡ area)
