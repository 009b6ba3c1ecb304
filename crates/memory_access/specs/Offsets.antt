-- Where a getelementptr leads (LLVM Language Reference, "getelementptr Instruction"). Sums are exact
-- and are wrapped last.
use Rattle.std.specs.Prelude.{ℕ, ◌^◌, ◌<◌, Bool, true, false, ◌&&◌, ◌||◌, not, if◌then◌else◌, List, [], ◌∷◌, length, ℤ, pos, ◌+ℤ◌, ◌*ℤ◌, int_lt, fold}
use Rattle.std.specs.List.{list_any, list_all}
use Rattle.std.specs.Ordering.{int_eq}
use Rattle.tv_num.specs.Width.{signed_of, wrapped}
use Rattle.byte_block.specs.declared.value.Ptr.{Ptr}
use Rattle.byte_block.specs.declared.value.Value.{Value}
use Rattle.byte_block.specs.declared.value.Value.TheVariants as value
use Rattle.byte_block.specs.declared.block.MemoryBlock.{MemoryBlock}
use Rattle.memory_access.specs.declared.offsets.Index.{Index}
use Rattle.memory_access.specs.Blocks.{bytes_named}

-- ---- one index

abbrev pub is_number : Value → Bool
is_number (value.Num a) = true
is_number _ = false

-- a number of n bits in two's complement; what isn't a number counts as 0
abbrev pub signed_number : ℕ → Value → ℤ
signed_number n (value.Num a) = signed_of n a
signed_number n _ = pos 0

abbrev pub is_index : Index → Bool
is_index i = is_number i.value

abbrev pub signed_index : Index → ℤ
signed_index i = signed_number i.width.bits i.value

abbrev pub is_negative : Index → Bool
is_negative i = int_lt (signed_index i) (pos 0)

abbrev pub is_nonzero : Index → Bool
is_nonzero i = not (int_eq (signed_index i) (pos 0))

-- what an index adds to the offset
abbrev pub scaled : Index → ℤ
scaled i = signed_index i *ℤ pos i.scale

-- ---- all indices

-- the base offset, and the sum after each index
unfoldable pub partial_sums : ℤ → List Index → List ℤ
partial_sums sum [] = sum ∷ []
partial_sums sum (i ∷ indices) = sum ∷ partial_sums (sum +ℤ scaled i) indices

-- the last of them
abbrev pub last_sum : ℤ → List Index → ℤ
last_sum sum indices = fold (λ z i. z +ℤ scaled i) sum indices

-- a sum is neither an offset in a block of this size nor that of its end
abbrev pub is_outside : ℕ → ℤ → Bool
is_outside size z = int_lt z (pos 0) || int_lt (pos size) z

-- the base offset or a partial sum is outside
abbrev pub leaves_block : ℕ → ℕ → List Index → Bool
leaves_block size offset indices = list_any (is_outside size) (partial_sums (pos offset) indices)

-- ---- the result

-- some index isn't 0, and a partial sum leaves the block; where there is no block its size is 0
abbrev pub breaks_inbounds : List MemoryBlock → Ptr → List Index → Bool
breaks_inbounds memory p indices =
    list_any is_nonzero indices
    && leaves_block (length (bytes_named memory p.block)) p.offset indices

abbrev pub gives_poison : List MemoryBlock → Ptr → List Index → Bool → Bool → Bool
gives_poison memory p indices inbounds nuw =
    not (list_all is_index indices)
    || (inbounds && breaks_inbounds memory p indices)
    || (nuw && list_any is_negative indices)

abbrev pub moved : Ptr → List Index → Ptr
moved p indices = record { block = p.block; offset = wrapped 64 (last_sum (pos p.offset) indices) }

abbrev pub gep_result : List MemoryBlock → Value → List Index → Bool → Bool → Value
gep_result memory (value.Ptr p) indices inbounds nuw =
    if gives_poison memory p indices inbounds nuw then value.Poison else value.Ptr (moved p indices)
gep_result memory _ indices inbounds nuw = value.Poison

-- ---- what a caller passes

-- a number is one of the index's width
abbrev pub NumberFits : ℕ → Value → Type 0
NumberFits n (value.Num a) = a < 2 ^ n
NumberFits n _ = Unit {0}

abbrev pub IndexFits : Index → Type 0
IndexFits i = NumberFits i.width.bits i.value
