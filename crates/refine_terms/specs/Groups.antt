-- What the numbers at one index of a block are in a code.
use Rattle.std.specs.Prelude.{ℕ, Bool, true, false, List}
use Rattle.points.specs.declared.point.Layout.{Layout}
use Rattle.points.specs.Codes.{IsCodeOfByte, IsUnused}

-- unused past the block's size, else a byte
abbrev pub IsCodeOfPlace : Layout → Bool → List ℕ → Type 0
IsCodeOfPlace layout true ds = IsUnused ds
IsCodeOfPlace layout false ds = IsCodeOfByte layout ds
