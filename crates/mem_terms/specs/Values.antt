-- What symbolic values denote under an assignment of the variables.
use Rattle.std.specs.Prelude.{◌≡◌, ℕ, zero, suc, ◌+◌, ◌*◌, ◌-◌, ◌/◌, ◌%◌, nat_lt, Bool, cond, if◌then◌else◌, List, [], ◌∷◌, map, Option, Some, None}
use Rattle.byte_block.specs.declared.value.BlockName.{BlockName}
use Rattle.byte_block.specs.declared.value.BlockName.TheVariants.{Null, Given, Local}
use Rattle.byte_block.specs.declared.value.Value.{Value}
use Rattle.byte_block.specs.declared.value.Value.TheVariants.{Num, Poison, Ptr}
use Rattle.bv_terms.specs.declared.term.Term.{Term}
use Rattle.bv_terms.specs.Trees.{IsTerm, bit_at, term_at}
use Rattle.mem_terms.specs.declared.integers.SymNumber.{SymNumber}
use Rattle.mem_terms.specs.declared.values.SymValue.{SymValue}

-- it holds of each item
abbrev pub Each : {A : Type 0} → (A → Type 0) → List A → Type 0
Each P [] = Unit {0}
Each P (x ∷ xs) = P x × Each P xs

-- ---- numbers

abbrev pub value_from : Bool → ℕ → Value
value_from poison number = cond poison Poison (Num number)

-- None is undefined behaviour
abbrev pub option_from : Bool → Value → Option Value
option_from undefined value = cond undefined None (Some value)

unfoldable pub number_at : (ℕ → ℕ → ℕ) → List Term → SymNumber → Value
number_at v terms s = value_from (bit_at v terms s.poison) (term_at v terms s.number)

pub record IsSymNumber (terms : List Term) (s : SymNumber) : Type 0 where
  pub poison : IsTerm terms 1 s.poison
  pub number : IsTerm terms 64 s.number

-- ---- numbers and pointers

-- an assignment of the variables, and which block each number names
pub record Reading : Type 0 where
  pub v : ℕ → ℕ → ℕ
  pub name : ℕ → BlockName

-- 0 names the null block, and no two numbers name one block
pub record IsNaming (name : ℕ → BlockName) : Type 0 where
  pub null : name 0 ≡ Null
  pub apart : (i j : ℕ) → name i ≡ name j → i ≡ j

-- the number of the first local block where n blocks are given: it is above each number of 3 bits, which a pointer of an input has
unfoldable pub first_local : ℕ → ℕ
first_local given = if nat_lt given 8 then 8 else given + 1

-- the numbers of given blocks follow null's 0, and after them come those of allocas, 65,536 for each count of backward jumps; no memory has a block of a number between
abbrev pub block_name : ℕ → ℕ → BlockName
block_name given zero = Null
block_name given (suc k) = if nat_lt (suc k) (first_local given) then Given (suc k) else Local ((suc k - first_local given) / 65536) ((suc k - first_local given) % 65536)

-- the number of the block that the alloca of this number makes after `turn` backward jumps
abbrev pub local_number : (given turn alloca : ℕ) → ℕ
local_number given turn alloca = first_local given + (turn * 65536 + alloca)

abbrev pub reading : ℕ → (ℕ → ℕ → ℕ) → Reading
reading given v = record { v = v; name = block_name given }

-- poison, a pointer to an offset in a block, or a number
abbrev pub value_of : (is_poison is_pointer : Bool) → BlockName → ℕ → Value
value_of is_poison is_pointer block n = cond is_poison Poison (cond is_pointer (Ptr (record { block = block; offset = n })) (Num n))

unfoldable pub value_at : Reading → List Term → SymValue → Value
value_at r terms s = value_of (bit_at r.v terms s.poison) (bit_at r.v terms s.is_pointer) (r.name (term_at r.v terms s.block)) (term_at r.v terms s.number)

abbrev pub values_at : Reading → List Term → List SymValue → List Value
values_at r terms ss = map (value_at r terms) ss

pub record IsSymValue (terms : List Term) (s : SymValue) : Type 0 where
  pub poison : IsTerm terms 1 s.poison
  pub is_pointer : IsTerm terms 1 s.is_pointer
  pub block : IsTerm terms 64 s.block
  pub number : IsTerm terms 64 s.number

abbrev pub AreSymValues : List Term → List SymValue → Type 0
AreSymValues terms ss = Each (IsSymValue terms) ss

-- a value where an integer is used: a pointer gives poison
abbrev pub as_integer : Value → Value
as_integer (Num n) = Num n
as_integer Poison = Poison
as_integer (Ptr p) = Poison
