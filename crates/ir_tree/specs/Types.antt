-- Types: the one of a truth value, how many bytes an access and an object have, and how a type is aligned (LLVM Language
-- Reference, "Data Layout", "Array Type").
use Rattle.std.proofs.Common.{lit≤}
use Rattle.std.specs.Prelude.{ℕ, ◌+◌, ◌*◌, ◌/◌, nat_le, if◌then◌else◌, List, [], ◌∷◌, drop}
use Rattle.tv_num.specs.declared.Width.{Width}
use Rattle.ir_tree.specs.declared.tree.IrType.{IrType}
use Rattle.ir_tree.specs.declared.tree.IrType.TheVariants.{Int, Ptr}
use Rattle.ir_tree.specs.declared.tree.MemoryType.{MemoryType}

abbrev pub one_bit : Width
one_bit = record { bits = 1; at_least_1 = lit≤ tt; at_most_64 = lit≤ tt }

-- the bytes that a load or a store accesses: those of a number, and those of a pointer
abbrev pub store_size : IrType → ℕ
store_size (Int width) = (width.bits + 7) / 8
store_size Ptr = 8

-- the least of 1, 2, 4 and 8 that isn't below this number of bytes; a type has at most 8
abbrev pub padded : ℕ → ℕ
padded n = if nat_le n 1 then 1 else if nat_le n 2 then 2 else if nat_le n 4 then 4 else 8

-- a type's own alignment, which is also how many bytes it takes as an object and as an element of an array
abbrev pub type_align : IrType → ℕ
type_align t = padded (store_size t)

-- of nested arrays of elements of a type, the outermost array's length first
abbrev pub nested_size : List ℕ → IrType → ℕ
nested_size [] element = type_align element
nested_size (n ∷ lengths) element = n * nested_size lengths element

abbrev pub object_size : MemoryType → ℕ
object_size type = nested_size type.lengths type.element

-- what an index with this number counts: objects of the type, and then elements of the arrays that were entered
abbrev pub indexed_size : MemoryType → ℕ → ℕ
indexed_size type n = nested_size (drop n type.lengths) type.element
