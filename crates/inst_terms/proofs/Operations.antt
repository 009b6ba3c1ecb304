-- Each operation on numbers denotes its row.
use Rattle.inst_terms.proofs.Common.{ℕ, ◌≡◌, ◌≤◌, ◌+◌, ◌-◌, ◌*◌, ◌%◌, ◌^◌, Bool, false, not, ◌&&◌, ◌||◌, nat_eq, nat_le, nat_lt, List, pos, bit_and, bit_or, bit_xor, ◌*ℤ◌, Flags, Add, Sub, Mul, UnsignedDiv, UnsignedRem, SignedDiv, SignedRem, ShiftLeft, LogicalShiftRight, ArithmeticShiftRight, And, Or, Xor, TermId, Term, quotient, remainder, shifted_left, shifted_right, shifted_signed, Makes, Tests, IsTerm, AreInRange, bit_at, term_at, signed_of, is_outside_signed, is_outside_unsigned, have_two_signs, is_flagged, is_negative, term-below, NarrowValue, IsNarrow, IsRow, is_sign_alone, magnitude, negated_if}
use Rattle.inst_terms.proofs.Rows.{from_is-if, and_is, or_is, xor_is, divisor-positive, quotient_is, remainder_is}
use Rattle.inst_terms.proofs.Additions.{sum_is, difference_is}
use Rattle.inst_terms.proofs.Division.{signed_quotient_is, signed_remainder_is}
use Rattle.inst_terms.proofs.Shifting.{shift_left_is, logical_is, arithmetic_is}

module _ (old new : List Term) (n : ℕ) (poison a b : TermId) (s : NarrowValue) (low : 1 ≤ n) (range : AreInRange old) (ha : IsTerm old n a) (hb : IsTerm old n b) where
  pub sum-row : (flags : Flags) → Tests new s.poison (λ v. (flags.nuw && nat_lt ((term_at v old a + term_at v old b) % 2 ^ n) (term_at v old a)) || (flags.nsw && is_sign_alone n ((term_at v old a + term_at v old b) % 2 ^ n) (term_at v old a) (term_at v old b))) → Makes new s.number n (λ v. (term_at v old a + term_at v old b) % 2 ^ n)
      → IsRow old new (Add flags) poison n a b s
  sum-row flags t m v _ e = rw (t.says v, m.says v) (sum_is flags n (term_at v old a) (term_at v old b) low (term-below old n a range ha v) (term-below old n b range hb v))

  pub difference-row : (flags : Flags) → Tests new s.poison (λ v. (flags.nuw && nat_lt (term_at v old a) (term_at v old b)) || (flags.nsw && is_sign_alone n (term_at v old a) (term_at v old b) ((term_at v old a + (2 ^ n - term_at v old b)) % 2 ^ n))) → Makes new s.number n (λ v. (term_at v old a + (2 ^ n - term_at v old b)) % 2 ^ n)
      → IsRow old new (Sub flags) poison n a b s
  difference-row flags t m v _ e = rw (t.says v, m.says v) (difference_is flags n (term_at v old a) (term_at v old b) low (term-below old n a range ha v) (term-below old n b range hb v))

  pub product-row : (flags : Flags) → Tests new s.poison (λ v. (flags.nuw && is_outside_unsigned n (pos (term_at v old a * term_at v old b))) || (flags.nsw && is_outside_signed n (signed_of n (term_at v old a) *ℤ signed_of n (term_at v old b)))) → Makes new s.number n (λ v. (term_at v old a * term_at v old b) % 2 ^ n)
      → IsRow old new (Mul flags) poison n a b s
  product-row flags t m v _ e = rw (t.says v, m.says v) (from_is-if (is_flagged flags (is_outside_unsigned n (pos ((term_at v old a) * (term_at v old b)))) (is_outside_signed n (signed_of n (term_at v old a) *ℤ signed_of n (term_at v old b)))) (((term_at v old a) * (term_at v old b)) % 2 ^ n))

  pub quotient-row : (exact : Bool) → Tests new s.poison (λ v. exact && not (nat_eq (remainder (term_at v old a) (term_at v old b)) 0)) → ((v : ℕ → ℕ → ℕ) → bit_at v old poison ≡ false → 1 ≤ term_at v old b → term_at v new s.number ≡ quotient n (term_at v old a) (term_at v old b))
      → IsRow old new (UnsignedDiv exact) poison n a b s
  quotient-row exact t m v d e = rw (t.says v, m v d (divisor-positive n (term_at v old b) (term-below old n b range hb v) e)) (quotient_is exact n (term_at v old a) (term_at v old b) (term-below old n b range hb v) e)

  pub remainder-row : Tests new s.poison (λ _. false) → ((v : ℕ → ℕ → ℕ) → bit_at v old poison ≡ false → term_at v new s.number ≡ remainder (term_at v old a) (term_at v old b))
      → IsRow old new UnsignedRem poison n a b s
  remainder-row t m v d e = rw (t.says v, m v d) (remainder_is n (term_at v old a) (term_at v old b) (term-below old n b range hb v) e)

  pub signed_quotient-row : (exact : Bool) → Tests new s.poison (λ v. exact && not (nat_eq (remainder (magnitude n (term_at v old a)) (magnitude n (term_at v old b))) 0)) → Makes new s.number n (λ v. negated_if n (have_two_signs n (term_at v old a) (term_at v old b)) (quotient n (magnitude n (term_at v old a)) (magnitude n (term_at v old b))))
      → IsRow old new (SignedDiv exact) poison n a b s
  signed_quotient-row exact t m v _ e = rw (t.says v, m.says v) (signed_quotient_is exact n (term_at v old a) (term_at v old b) low (term-below old n a range ha v) (term-below old n b range hb v) e)

  pub signed_remainder-row : Tests new s.poison (λ _. false) → Makes new s.number n (λ v. negated_if n (is_negative n (term_at v old a)) (remainder (magnitude n (term_at v old a)) (magnitude n (term_at v old b))))
      → IsRow old new SignedRem poison n a b s
  signed_remainder-row t m v _ e = rw (t.says v, m.says v) (signed_remainder_is n (term_at v old a) (term_at v old b) low (term-below old n a range ha v) (term-below old n b range hb v) e)

  pub shift_left-row : (flags : Flags) → Tests new s.poison (λ v. nat_le n (term_at v old b) || ((flags.nuw && not (nat_eq (shifted_right n (shifted_left n (term_at v old a) (term_at v old b)) (term_at v old b)) (term_at v old a))) || (flags.nsw && not (nat_eq (shifted_signed n (shifted_left n (term_at v old a) (term_at v old b)) (term_at v old b)) (term_at v old a))))) → Makes new s.number n (λ v. shifted_left n (term_at v old a) (term_at v old b))
      → IsRow old new (ShiftLeft flags) poison n a b s
  shift_left-row flags t m v _ e = rw (t.says v, m.says v) (shift_left_is flags n (term_at v old a) (term_at v old b) low (term-below old n a range ha v))

  pub logical-row : (exact : Bool) → Tests new s.poison (λ v. nat_le n (term_at v old b) || (exact && not (nat_eq (shifted_left n (shifted_right n (term_at v old a) (term_at v old b)) (term_at v old b)) (term_at v old a)))) → Makes new s.number n (λ v. shifted_right n (term_at v old a) (term_at v old b))
      → IsRow old new (LogicalShiftRight exact) poison n a b s
  logical-row exact t m v _ e = rw (t.says v, m.says v) (logical_is exact n (term_at v old a) (term_at v old b) (term-below old n a range ha v))

  pub arithmetic-row : (exact : Bool) → Tests new s.poison (λ v. nat_le n (term_at v old b) || (exact && not (nat_eq (shifted_left n (shifted_signed n (term_at v old a) (term_at v old b)) (term_at v old b)) (term_at v old a)))) → Makes new s.number n (λ v. shifted_signed n (term_at v old a) (term_at v old b))
      → IsRow old new (ArithmeticShiftRight exact) poison n a b s
  arithmetic-row exact t m v _ e = rw (t.says v, m.says v) (arithmetic_is exact n (term_at v old a) (term_at v old b) low (term-below old n a range ha v))

  pub and-row : Tests new s.poison (λ _. false) → Makes new s.number n (λ v. bit_and (term_at v old a) (term_at v old b))
      → IsRow old new And poison n a b s
  and-row t m v _ e = rw (t.says v, m.says v) (and_is n (term_at v old a) (term_at v old b))

  pub or-row : (disjoint : Bool) → Tests new s.poison (λ v. disjoint && not (nat_eq (bit_and (term_at v old a) (term_at v old b)) 0)) → Makes new s.number n (λ v. bit_or (term_at v old a) (term_at v old b))
      → IsRow old new (Or disjoint) poison n a b s
  or-row disjoint t m v _ e = rw (t.says v, m.says v) (or_is disjoint n (term_at v old a) (term_at v old b))

  pub xor-row : Tests new s.poison (λ _. false) → Makes new s.number n (λ v. bit_xor (term_at v old a) (term_at v old b))
      → IsRow old new Xor poison n a b s
  xor-row t m v _ e = rw (t.says v, m.says v) (xor_is n (term_at v old a) (term_at v old b))

-- a truth value and a number of the width are a value at the width
pub made_of : {test : (ℕ → ℕ → ℕ) → Bool} (terms : List Term) (n : ℕ) (s : NarrowValue) → Tests terms s.poison test → IsTerm terms n s.number → IsNarrow terms n s
made_of terms n s t number = record { poison = record { within = t.within; wide = t.wide }; number = number }

pub made_both : {test : (ℕ → ℕ → ℕ) → Bool} {value : (ℕ → ℕ → ℕ) → ℕ} (terms : List Term) (n : ℕ) (s : NarrowValue) → Tests terms s.poison test → Makes terms s.number n value → IsNarrow terms n s
made_both terms n s t m = made_of terms n s t (record { within = m.within; wide = m.wide })
