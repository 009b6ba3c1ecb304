-- Bytes that overwrite others.
use Rattle.std.specs.Prelude.{ℕ, ◌+◌, List, ◌++◌, drop, length, take}
use Rattle.byte_block.specs.declared.value.Byte.{Byte}

-- these bytes instead of those from an offset on
abbrev pub written : List Byte → (offset : ℕ) → (places : List Byte) → List Byte
written bytes offset places = take offset places ++ (bytes ++ drop (offset + length bytes) places)
