-- Numbers shifted left or right.
use Rattle.std.specs.Prelude.{ℕ, ◌*◌, ◌/◌, ◌%◌, ◌^◌, cond, nat_lt}
use Rattle.gate_arith.specs.declared.shifts.Direction.{Direction}
use Rattle.gate_arith.specs.declared.shifts.Direction.TheVariants.{Up, Down}

-- a number of a width shifted by `count` bits, and cut to the width
abbrev pub moved_by : Direction → ℕ → ℕ → ℕ → ℕ
moved_by Up width a count = a * 2 ^ count % 2 ^ width
moved_by Down width a count = a / 2 ^ count

-- nothing is left of it where it is shifted by the width or more
abbrev pub shifted_by : Direction → ℕ → ℕ → ℕ → ℕ
shifted_by direction width a count = cond (nat_lt count width) (moved_by direction width a count) 0
