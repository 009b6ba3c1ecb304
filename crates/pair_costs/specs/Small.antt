-- The bounds that a pair may be judged within.
use Rattle.std.specs.Prelude.{◌≤◌}
use Rattle.points.specs.declared.point.Bounds.{Bounds}

-- bounds in the options' ranges
pub record AreSmall (bounds : Bounds) : Type 0 where
  pub turns : bounds.turns ≤ 64
  pub blocks : bounds.blocks ≤ 4
  pub bytes : bounds.bytes ≤ 32
