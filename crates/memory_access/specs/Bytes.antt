-- The bytes that a value is stored as, and the value that bytes are read as (LLVM Language
-- Reference, "load Instruction", "store Instruction"). A number is little-endian, a pointer is its
-- parts 0 to 7.
use Rattle.std.specs.Prelude.{ℕ, ◌+◌, ◌-◌, ◌*◌, ◌/◌, ◌%◌, ◌^◌, Bool, false, ◌&&◌, nat_eq, nat_lt, min, bit_and, if◌then◌else◌, List, [], ◌∷◌, zero, suc, Option, Some, None}
use Rattle.std.specs.Option.{option_map}
use Rattle.byte_block.specs.declared.value.Ptr.{Ptr}
use Rattle.byte_block.specs.declared.value.Value.{Value}
use Rattle.byte_block.specs.declared.value.Value.TheVariants as value
use Rattle.byte_block.specs.declared.value.Byte.{Byte}
use Rattle.byte_block.specs.declared.value.Byte.TheVariants.{Bits, Part}
use Rattle.memory_access.specs.declared.access_types.Access.{Access}
use Rattle.memory_access.specs.declared.access_types.Access.TheVariants.{Int, Pointer}
use Rattle.memory_access.specs.Blocks.{equal_pointers}

-- how many bytes an access has
abbrev pub access_size : Access → ℕ
access_size (Int w) = (w.bits + 7) / 8
access_size Pointer = 8

-- the bits of a byte's number that are not in the mask
abbrev pub defined_bits : (number mask : ℕ) → ℕ
defined_bits number mask = bit_and number (255 - mask)

-- ---- from a value to bytes

-- the n low bytes of a number, the least significant first
unfoldable pub number_bytes : ℕ → ℕ → List Byte
number_bytes zero a = []
number_bytes (suc n) a = Bits (a % 256) 0 ∷ number_bytes n (a / 256)

-- n bytes, the least significant first, whose low w bits are poison and the others 0
unfoldable pub poison_bytes : ℕ → ℕ → List Byte
poison_bytes zero w = []
poison_bytes (suc n) w = Bits 0 (2 ^ min w 8 - 1) ∷ poison_bytes n (w - 8)

-- n parts of a pointer, from part i on
unfoldable pub parts_from : Ptr → ℕ → ℕ → List Byte
parts_from p i zero = []
parts_from p i (suc n) = Part p i ∷ parts_from p (i + 1) n

-- poison, and a value of the other kind, is stored as poison in each bit of the access
abbrev pub value_bytes : Access → Value → List Byte
value_bytes (Int w) (value.Num a) = number_bytes (access_size (Int w)) a
value_bytes (Int w) _ = poison_bytes (access_size (Int w)) w.bits
value_bytes Pointer (value.Ptr p) = parts_from p 0 8
value_bytes Pointer _ = poison_bytes 8 64

-- ---- from bytes to a value

-- the number whose bytes these are, the least significant first; None where one is a part or has a
-- bit that is poison
unfoldable pub number_of_bytes : List Byte → Option ℕ
number_of_bytes [] = Some 0
number_of_bytes (Bits b zero ∷ bytes) = option_map (λ a. b + 256 * a) (number_of_bytes bytes)
number_of_bytes (_ ∷ bytes) = None

-- a number of n bits; what isn't one is poison
abbrev pub number_or_poison : ℕ → Option ℕ → Value
number_or_poison n (Some a) = if nat_lt a (2 ^ n) then value.Num a else value.Poison
number_or_poison n None = value.Poison

-- part i of the pointer
abbrev pub is_part_of : Ptr → ℕ → Byte → Bool
is_part_of p i (Part q j) = equal_pointers p q && nat_eq j i
is_part_of p i _ = false

-- the parts of the pointer from part i up to part 7, in order
unfoldable pub are_parts : Ptr → ℕ → List Byte → Bool
are_parts p i [] = nat_eq i 8
are_parts p i (b ∷ bytes) = is_part_of p i b && are_parts p (i + 1) bytes

-- the pointer whose parts 0 to 7 these are; what isn't one is poison
abbrev pub pointer_or_poison : List Byte → Value
pointer_or_poison (Part p i ∷ bytes) =
    if are_parts p 0 (Part p i ∷ bytes) then value.Ptr p else value.Poison
pointer_or_poison _ = value.Poison

abbrev pub value_of_bytes : Access → List Byte → Value
value_of_bytes (Int w) bytes = number_or_poison w.bits (number_of_bytes bytes)
value_of_bytes Pointer bytes = pointer_or_poison bytes
