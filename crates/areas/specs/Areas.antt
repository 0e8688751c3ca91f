-- An area in which bytes are written.
use Rattle.std.specs.Prelude.{◌≡◌, ℕ, ◌+◌, ◌≤◌, List, ◌++◌, length, take, drop}

-- these bytes from p on, and all else as it was
abbrev pub placed : List ℕ → ℕ → List ℕ → List ℕ
placed area p bytes = take p area ++ bytes ++ drop (p + length bytes) area

-- the bytes stand in the first n bytes of the area, and the rest is as it was
pub record Wrote (bytes area area' : List ℕ) (n : ℕ) : Type 0 where
  pub long : n ≡ length bytes
  pub room : n ≤ length area
  pub front : area' ≡ bytes ++ drop n area
