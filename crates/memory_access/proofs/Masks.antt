-- The bits of a byte that are not in a mask.
use Rattle.std.proofs.Common.{◌≡◌, ℕ, zero, suc, ◌-◌, ◌<◌, Bool, true, false, nat_lt, refl, ap, sym, ◌∙◌, arith}
use Rattle.std.specs.Prelude.{min, bit_and}
use Rattle.std.proofs.lemmas.Bool.Decides.{nat_tests}
use Rattle.std.specs.Int.{bit_at, w8}
use Rattle.std.specs.Int.Bits.{and_self, and_zero_l, and_zero_r}
use Rattle.std.proofs.lemmas.Nat.{and_assoc, and_le_l}
use Rattle.std.proofs.lemmas.Nat.Bits.{bit_at-lt, bit_at-zero, bit_at_and, bit_at_not, bit_at_ones, same_from_bits_below}
use Rattle.memory_access.specs.Bytes.{defined_bits}

pub defined-zero : (m : ℕ) → defined_bits 0 m ≡ 0
defined-zero m = and_zero_l (255 - m)

pub defined-none : (n : ℕ) → defined_bits n 255 ≡ 0
defined-none n = and_zero_r n

-- ---- bit by bit

one-keeps : (a : ℕ) → a < 2 → min a 1 ≡ a
one-keeps zero h = refl
one-keeps (suc zero) h = refl
one-keeps (suc (suc a)) h = omega arith

never-both : (a : ℕ) → a < 2 → min a (1 - a) ≡ 0
never-both zero h = refl
never-both (suc zero) h = refl
never-both (suc (suc a)) h = omega arith

other-keeps : (a b : ℕ) → a < 2 → b < 2 → min a b ≡ 0 → min a (1 - b) ≡ a
other-keeps zero b h k e = omega arith
other-keeps (suc zero) zero h k e = refl
other-keeps (suc zero) (suc b) h k e = omega arith
other-keeps (suc (suc a)) b h k e = omega arith

bit-outside : (n m i : ℕ) → m < 256 → i < 8 → bit_at (defined_bits n m) i ≡ min (bit_at n i) (1 - bit_at m i)
bit-outside n m i hm hi = bit_at_and n (255 - m) i ∙ ap (min (bit_at n i)) (bit_at_not w8 m i hm hi)

below : (n m : ℕ) → n < 256 → defined_bits n m < 256
below n m h = let le = and_le_l n (255 - m) in omega arith

-- ---- the laws

pub defined-all : (n : ℕ) → n < 256 → defined_bits n 0 ≡ n
defined-all n h = same_from_bits_below 8 (defined_bits n 0) n (below n 0 h) h
    (λ i hi. bit_at_and n 255 i ∙ (ap (min (bit_at n i)) (bit_at_ones 8 i hi) ∙ one-keeps (bit_at n i) (bit_at-lt n i)))

pub defined-own : (m : ℕ) → defined_bits m m ≡ 0
defined-own m = go (nat_lt m 256) refl
  where
    go : (b : Bool) → nat_lt m 256 ≡ b → defined_bits m m ≡ 0
    go true h = let small : m < 256 = grind (arith, nat_tests) in same_from_bits_below 8 (defined_bits m m) 0 (below m m small) (omega arith)
        (λ i hi. bit-outside m m i small hi ∙ (never-both (bit_at m i) (bit_at-lt m i) ∙ sym (bit_at-zero i)))
    go false h = let none : 255 - m ≡ 0 = grind (arith, nat_tests) in ap (bit_and m) none ∙ and_zero_r m

pub defined-apart : (n m : ℕ) → n < 256 → m < 256 → bit_and n m ≡ 0 → defined_bits n m ≡ n
defined-apart n m hn hm apart = same_from_bits_below 8 (defined_bits n m) n (below n m hn) hn
    (λ i hi. bit-outside n m i hm hi ∙ other-keeps (bit_at n i) (bit_at m i) (bit_at-lt n i) (bit_at-lt m i) (sym (bit_at_and n m i) ∙ (ap (λ (x : ℕ). bit_at x i) apart ∙ bit_at-zero i)))

pub defined-again : (n m : ℕ) → defined_bits (defined_bits n m) m ≡ defined_bits n m
defined-again n m = and_assoc (255 - m) n (255 - m) ∙ ap (bit_and n) (and_self (255 - m))
