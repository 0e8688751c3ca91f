-- What a pen does with bytes that it is given.
use Rattle.std.specs.Prelude.{◌≡◌, ℕ, ◌+◌, ◌-◌, ◌^◌, ◌≤◌, List, length, min}
use Rattle.areas.specs.Areas.{placed}
use Rattle.areas.specs.declared.pen.Pen.{Pen}

-- the pen counts them all, and where they fit they stand behind what was put before
pub record Puts (old : Pen) (bytes : List ℕ) (new : Pen) : Type 0 where
  pub lent : new.area.ghost_name ≡ old.area.ghost_name
  pub sized : length new.area.now ≡ length old.area.now
  pub counted : new.len ≡ min (old.len + length bytes) (2 ^ 64 - 1)
  pub written : old.len + length bytes ≤ length old.area.now → new.area.now ≡ placed old.area.now old.len bytes
