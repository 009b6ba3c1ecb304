-- Which block each number names.
use Rattle.std.proofs.Common.{ℕ, zero, suc, ◌≡◌, ◌+◌, ◌*◌, ◌-◌, ◌/◌, ◌%◌, ◌<◌, ◌≤◌, Bool, true, false, nat_lt, if◌then◌else◌, refl, ap, sym, ◌∙◌, arith}
use Rattle.std.proofs.lemmas.Bool.Decides.{nat_tests}
use Rattle.byte_block.specs.declared.value.BlockName.{BlockName}
use Rattle.byte_block.specs.declared.value.BlockName.TheVariants.{Null, Given, Local}
use Rattle.mem_terms.specs.Values.{IsNaming, block_name, first_local, local_number}

lt_true : (k n : ℕ) → k < n → nat_lt k n ≡ true
lt_true k n lt = grind (arith, nat_tests)

lt_false : (k n : ℕ) → n ≤ k → nat_lt k n ≡ false
lt_false k n le = grind (arith, nat_tests)

not-lt : (k n : ℕ) → nat_lt k n ≡ false → n ≤ k
not-lt k n e = grind (arith, nat_tests)

pub few_given : (given : ℕ) → given < 8 → first_local given ≡ 7 + 1
unfolding first_local
few_given given lt = rw (lt_true given 8 lt) refl

pub many_given : (given : ℕ) → 8 ≤ given → first_local given ≡ given + 1
unfolding first_local
many_given given le = rw (lt_false given 8 le) refl

-- no given block has the number of a local one
pub given_before : (given : ℕ) → given < first_local given
unfolding first_local
given_before given = by_test (nat_lt given 8) refl
  where
    by_test : (few : Bool) → nat_lt given 8 ≡ few → given < (if few then 8 else given + 1)
    by_test true e = grind (arith, nat_tests)
    by_test false e = omega arith

-- a number before those of local blocks names the given block of this number
pub block_before : (given k : ℕ) → 0 < k → k < first_local given → block_name given k ≡ Given k
block_before given zero p lt = absurd (omega arith)
block_before given (suc k) p lt = rw (lt_true (suc k) (first_local given) lt) refl

-- a number among the given blocks' names the block with this number
pub given_named : (given k : ℕ) → 0 < k → k ≤ given → block_name given k ≡ Given k
given_named given k p le = block_before given k p (omega (arith, le, given_before given))

-- a number from the first local block's on names the block of an alloca
pub local_block : (given k : ℕ) → first_local given ≤ k → block_name given k ≡ Local ((k - first_local given) / 65536) ((k - first_local given) % 65536)
local_block given zero le = absurd (omega (arith, le, given_before given))
local_block given (suc k) le = rw (lt_false (suc k) (first_local given) le) refl

pub local_behind : (given turn n : ℕ) → first_local given ≤ local_number given turn n
local_behind given turn n = omega arith

pub local_named : (given turn n : ℕ) → n < 65536 → block_name given (local_number given turn n) ≡ Local turn n
local_named given turn n lt =
    let e : local_number given turn n - first_local given ≡ turn * 65536 + n = omega arith in
    let t : (turn * 65536 + n) / 65536 ≡ turn = omega arith in
    let a : (turn * 65536 + n) % 65536 ≡ n = omega arith in
    local_block given (local_number given turn n) (local_behind given turn n) ∙ rw (e, t, a) refl

-- ---- no two numbers name one block

abbrev number_of : ℕ → BlockName → ℕ
number_of given Null = 0
number_of given (Given k) = k
number_of given (Local turn n) = local_number given turn n

number-is : (given k : ℕ) (b : Bool) → nat_lt (suc k) (first_local given) ≡ b
    → number_of given (if b then Given (suc k) else Local ((suc k - first_local given) / 65536) ((suc k - first_local given) % 65536)) ≡ suc k
number-is given k true e = refl
number-is given k false e =
    let le = not-lt (suc k) (first_local given) e in
    let whole : first_local given + ((suc k - first_local given) / 65536 * 65536 + (suc k - first_local given) % 65536) ≡ suc k = omega (arith, le) in
    whole

number-named : (given k : ℕ) → number_of given (block_name given k) ≡ k
number-named given zero = refl
number-named given (suc k) = number-is given k (nat_lt (suc k) (first_local given)) refl

pub naming : (given : ℕ) → IsNaming (block_name given)
naming given = record { null = refl; apart = λ i j e. sym (number-named given i) ∙ (ap (number_of given) e ∙ number-named given j) }
