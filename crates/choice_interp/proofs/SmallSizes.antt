-- Sizes within the limits fit 64 bits, and the indices of a getelementptr one after another.
use Rattle.choice_interp.proofs.Common.{◌≡◌, ℕ, ◌+◌, ◌%◌, ◌^◌, ◌<◌, ◌≤◌, List, [], ◌∷◌, length, drop, get_or, refl, arith, nat_le, if◌then◌else◌, Bool, true, false, mod-eq_of_lt, Value, index_value, index_values}
use Rattle.std.proofs.lemmas.List.{drop_more}
use Rattle.ir_tree.specs.declared.tree.IrType.{IrType}
use Rattle.ir_tree.specs.declared.tree.MemoryType.{MemoryType}
use Rattle.ir_tree.specs.declared.tree.GepIndex.{GepIndex}
use Rattle.ir_tree.specs.Types.{padded, store_size, nested_size, indexed_size}
use Rattle.ir_tree.specs.Limits.{HasSmallArrays}
use Rattle.ir_tree.proofs.Sizes.{small_from}

padded_small : (n : ℕ) → padded n ≤ 8
padded_small n = go (nat_le n 1) (nat_le n 2) (nat_le n 4)
  where
    go : (a b c : Bool) → (let size : ℕ = if a then 1 else if b then 2 else if c then 4 else 8 in size) ≤ 8
    go true b c = omega arith
    go false true c = omega arith
    go false false true = omega arith
    go false false false = omega arith

nested_small : (lengths : List ℕ) (element : IrType) → HasSmallArrays lengths element → nested_size lengths element ≤ 1048576
nested_small [] element small = let most = padded_small (store_size element) in omega (arith, most)
nested_small (n ∷ lengths) element small = small.0

-- a size within the limits is not cut
pub whole_size : (type : MemoryType) (n : ℕ) → HasSmallArrays type.lengths type.element → indexed_size type n % 2 ^ 64 ≡ indexed_size type n
whole_size type n small =
    let most = nested_small (drop n type.lengths) type.element (small_from type.lengths type.element n small) in
    mod-eq_of_lt (let less : indexed_size type n < 2 ^ 64 = omega (arith, most) in less)

pub indices_more : (registers : List Value) (type : MemoryType) (indices : List GepIndex) (n : ℕ) (index : GepIndex) → n < length indices → index ≡ get_or indices n index
    → index_values registers type n (drop n indices) ≡ index_value registers type n index ∷ index_values registers type (n + 1) (drop (n + 1) indices)
indices_more registers type indices n index below is = rw (drop_more indices n index below, ← is) refl
