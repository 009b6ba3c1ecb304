-- Indices that are all 0.
use Rattle.memory_access.proofs.Common.{◌≡◌, ℕ, ◌-◌, ◌^◌, ◌<◌, Bool, true, false, List, [], ◌∷◌, ℤ, pos, ◌+ℤ◌, ◌*ℤ◌, refl, ap, ◌∙◌, arith, All, list_any, list_all, nat_tests, ints, All-head, All-tail, pow_pos, signed_of, wrapped, Ptr, MemoryBlock, Index, is_index, signed_number, signed_index, is_nonzero, is_negative, scaled, last_sum, gep_result, IsZero}
use Rattle.byte_block.specs.declared.value.Value.TheVariants as value
use Rattle.memory_access.proofs.Sums.{wrapped-small}

signed_of-zero : (n : ℕ) → signed_of n 0 ≡ pos 0
unfolding signed_of
signed_of-zero n = let some = pow_pos (n - 1) in grind (arith, nat_tests)

signed-zero : (i : Index) → IsZero i → signed_index i ≡ pos 0
signed-zero i zero' = ap (signed_number i.width.bits) zero' ∙ signed_of-zero i.width.bits

all-numbers : (indices : List Index) → All IsZero indices → list_all is_index indices ≡ true
all-numbers [] zeros = refl
all-numbers (i ∷ indices) zeros = rw (All-head IsZero i indices zeros) (all-numbers indices (All-tail IsZero i indices zeros))

none-nonzero : (indices : List Index) → All IsZero indices → list_any is_nonzero indices ≡ false
none-nonzero [] zeros = refl
none-nonzero (i ∷ indices) zeros = rw (signed-zero i (All-head IsZero i indices zeros)) (none-nonzero indices (All-tail IsZero i indices zeros))

none-negative : (indices : List Index) → All IsZero indices → list_any is_negative indices ≡ false
none-negative [] zeros = refl
none-negative (i ∷ indices) zeros = rw (signed-zero i (All-head IsZero i indices zeros)) (none-negative indices (All-tail IsZero i indices zeros))

no-step : (z : ℤ) (s : ℕ) → z +ℤ (pos 0 *ℤ pos s) ≡ z
no-step z s = omega (arith, ints)

last_sum-zeros : (z : ℤ) (indices : List Index) → All IsZero indices → last_sum z indices ≡ z
last_sum-zeros z [] zeros = refl
last_sum-zeros z (i ∷ indices) zeros =
    let stays : z +ℤ scaled i ≡ z = ap (λ y. z +ℤ (y *ℤ pos i.scale)) (signed-zero i (All-head IsZero i indices zeros)) ∙ no-step z i.scale in
    ap (λ y. last_sum y indices) stays ∙ last_sum-zeros z indices (All-tail IsZero i indices zeros)

itself : (p : Ptr) (n : ℕ) → n ≡ p.offset → value.Ptr (record { block = p.block; offset = n }) ≡ value.Ptr p
itself p n e = ap (λ m. value.Ptr (record { block = p.block; offset = m })) e

pub zeros-stay : (memory : List MemoryBlock) (p : Ptr) (indices : List Index) (inbounds nuw : Bool) → p.offset < 2 ^ 64 → All IsZero indices → gep_result memory (value.Ptr p) indices inbounds nuw ≡ value.Ptr p
zeros-stay memory p indices inbounds nuw small zeros =
    let offset : wrapped 64 (last_sum (pos p.offset) indices) ≡ p.offset = ap (wrapped 64) (last_sum-zeros (pos p.offset) indices zeros) ∙ wrapped-small 64 p.offset small in
    elim inbounds as (λ b. gep_result memory (value.Ptr p) indices b nuw ≡ value.Ptr p) [
      | true ↦ elim nuw as (λ b. gep_result memory (value.Ptr p) indices true b ≡ value.Ptr p) [
        | true ↦ rw (all-numbers indices zeros, none-nonzero indices zeros, none-negative indices zeros) (itself p (wrapped 64 (last_sum (pos p.offset) indices)) offset)
        | false ↦ rw (all-numbers indices zeros, none-nonzero indices zeros) (itself p (wrapped 64 (last_sum (pos p.offset) indices)) offset)
      ]
      | false ↦ elim nuw as (λ b. gep_result memory (value.Ptr p) indices false b ≡ value.Ptr p) [
        | true ↦ rw (all-numbers indices zeros, none-negative indices zeros) (itself p (wrapped 64 (last_sum (pos p.offset) indices)) offset)
        | false ↦ rw (all-numbers indices zeros) (itself p (wrapped 64 (last_sum (pos p.offset) indices)) offset)
      ]
    ]
