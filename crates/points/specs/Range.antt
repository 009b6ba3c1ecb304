-- The ranges of bounds and budgets that a pair may be judged within.
use Rattle.std.specs.Prelude.{◌≤◌, ◌<◌, ◌^◌}
use Rattle.points.specs.declared.point.Bounds.{Bounds}
use Rattle.points.specs.declared.point.Budget.{Budget}

pub record AreInRange (bounds : Bounds) (budget : Budget) : Type 0 where
  pub turns : bounds.turns ≤ 64
  pub blocks : bounds.blocks ≤ 4
  pub bytes : bounds.bytes ≤ 32
  pub rounds : budget.rounds ≤ 4096
  pub conflicts : budget.conflicts < 2 ^ 63
  pub least_weight : 1 ≤ budget.weight
  pub most_weight : budget.weight ≤ 10000000
