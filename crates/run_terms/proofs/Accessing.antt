-- The terms of a state follow an instruction that uses memory.
use Rattle.run_terms.proofs.Common.{ℕ, ◌≡◌, ◌<◌, ◌≤◌, ◌+◌, ◌%◌, ◌^◌, Bool, true, false, cond, List, [], ◌∷◌, length, drop, get_or, refl, ap, sym, arith, nat_le, if◌then◌else◌, drop_more, drop_all, IrType, MemoryType, GepIndex, padded, store_size, nested_size, object_size, indexed_size, HasSmallArrays, MemoryBlock, assigned, index_value, index_values, loaded, stored, Value, Machine}
use Rattle.std.proofs.Math.Nat.{mod-eq_of_lt}
use Rattle.ir_tree.proofs.Sizes.{small_from}
use Rattle.memory_access.specs.declared.access_types.Loaded.{Loaded}
use Rattle.memory_access.specs.declared.access_types.Loaded.TheVariants as loading
use Rattle.memory_access.specs.declared.access_types.Stored.{Stored}
use Rattle.memory_access.specs.declared.access_types.Stored.TheVariants as storing
use Rattle.run_terms.proofs.Stepping.{if_defined}

-- ---- what is within the limits

padded_small : (n : ℕ) → padded n ≤ 8
padded_small n = go (nat_le n 1) (nat_le n 2) (nat_le n 4)
  where
    go : (a b c : Bool) → (let size : ℕ = if a then 1 else if b then 2 else if c then 4 else 8 in size) ≤ 8
    go true b c = omega arith
    go false true c = omega arith
    go false false true = omega arith
    go false false false = omega arith

nested_small : (lengths : List ℕ) (element : IrType) → HasSmallArrays lengths element → nested_size lengths element ≤ 1048576
nested_small [] element small = let most = padded_small (store_size element) in omega (arith, most)
nested_small (n ∷ lengths) element small = small.0

pub index_small : (type : MemoryType) (n : ℕ) → HasSmallArrays type.lengths type.element → indexed_size type n ≤ 1048576
index_small type n small = nested_small (drop n type.lengths) type.element (small_from type.lengths type.element n small)

-- a size within the limits is not cut
pub whole_index : (type : MemoryType) (n : ℕ) → HasSmallArrays type.lengths type.element → indexed_size type n % 2 ^ 64 ≡ indexed_size type n
whole_index type n small =
    let most = index_small type n small in
    mod-eq_of_lt (let less : indexed_size type n < 2 ^ 64 = omega (arith, most) in less)

pub whole_object : (type : MemoryType) → object_size type ≤ 64 → indexed_size type 0 % 2 ^ 64 ≡ object_size type
whole_object type small = mod-eq_of_lt (let less : object_size type < 2 ^ 64 = omega (arith, small) in less)

-- ---- indices

pub indices_more : (registers : List Value) (type : MemoryType) (indices : List GepIndex) (n : ℕ) (index : GepIndex) → n < length indices → index ≡ get_or indices n index
    → index_values registers type n (drop n indices) ≡ index_value registers type n index ∷ index_values registers type (n + 1) (drop (n + 1) indices)
indices_more registers type indices n index below is = rw (drop_more indices n index below, ← is) refl

pub indices_end : (registers : List Value) (type : MemoryType) (indices : List GepIndex) (n : ℕ) → length indices ≤ n → index_values registers type n (drop n indices) ≡ []
indices_end registers type indices n past = rw (drop_all n indices past) refl

-- ---- what a load gives, and a store

pub load_acts : (d : Bool) (v : Value) (l : Loaded) (m : Machine) (into : ℕ) → cond d (loading.Done v) loading.Ub ≡ l → loaded m into l ≡ if_defined d (assigned m into v)
load_acts true v l m into e = ap (loaded m into) (sym e)
load_acts false v l m into e = ap (loaded m into) (sym e)

pub store_acts : (d : Bool) (l : Stored) (m : Machine) (blocks : List MemoryBlock) → cond d storing.Done storing.Ub ≡ l → stored m blocks l ≡ if_defined d (record m { memory = blocks })
store_acts true l m blocks e = ap (stored m blocks) (sym e)
store_acts false l m blocks e = ap (stored m blocks) (sym e)
