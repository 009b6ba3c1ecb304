-- Numbers in two's complement, and their signs.
use Rattle.inst_terms.proofs.Common.{ℕ, zero, suc, ◌≡◌, ◌<◌, ◌≤◌, ◌-◌, ◌*◌, ◌/◌, ◌%◌, ◌^◌, Bool, true, false, not, ◌&&◌, ◌||◌, nat_le, pos, negsuc, neg_ℤ, inl, inr, List, refl, ap, ◌∙◌, arith, bit_xor, pow_pos, int_lt, int_le, cases_lt, lt-ltb, le-ltb, le-leb, lt-leb, ints, div-eq_of_lt, div-eq_of_lt-le, TermId, Term, width_of, truth, Makes, Tests, IsTerm, AreInRange, term_at, bit_at, tree_in, term-below, signed_of, is_outside_signed, is_negative}

-- ---- the two halves

pub halves : (n : ℕ) → 1 ≤ n → 2 ^ n ≡ 2 * 2 ^ (n - 1)
halves n low = let e : n ≡ suc (n - 1) = omega (arith, low) in ap (λ k. 2 ^ k) e ∙ omega arith

pub signed_low : (n a : ℕ) → a < 2 ^ (n - 1) → signed_of n a ≡ pos a
unfolding signed_of
signed_low n a h = rw (lt-ltb a (2 ^ (n - 1)) h) refl

pub signed_high : (n a : ℕ) → 2 ^ (n - 1) ≤ a → a < 2 ^ n → signed_of n a ≡ negsuc (2 ^ n - a - 1)
unfolding signed_of
signed_high n a h below = rw (le-ltb a (2 ^ (n - 1)) h) (omega (arith, ints, below))

or_false : (b : Bool) → (b || false) ≡ b
or_false true = refl
or_false false = refl

outside-pos_of : (m k : ℕ) → 0 < m → (int_lt (pos k) (neg_ℤ (pos m)) || int_le (pos m) (pos k)) ≡ nat_le m k
outside-pos_of zero k h = absurd (omega (arith, h))
outside-pos_of (suc m) k h = refl

outside-neg_of : (m k : ℕ) → 0 < m → (int_lt (negsuc k) (neg_ℤ (pos m)) || int_le (pos m) (negsuc k)) ≡ nat_le m k
outside-neg_of zero k h = absurd (omega (arith, h))
outside-neg_of (suc m) k h = or_false (nat_le (suc m) k)

pub outside-pos : (n k : ℕ) → is_outside_signed n (pos k) ≡ nat_le (2 ^ (n - 1)) k
unfolding is_outside_signed
outside-pos n k = outside-pos_of (2 ^ (n - 1)) k (pow_pos (n - 1))

pub outside-neg : (n k : ℕ) → is_outside_signed n (negsuc k) ≡ nat_le (2 ^ (n - 1)) k
unfolding is_outside_signed
outside-neg n k = outside-neg_of (2 ^ (n - 1)) k (pow_pos (n - 1))

-- ---- terms

sign-digit : (n x : ℕ) → 1 ≤ n → x < 2 ^ n → truth (x / 2 ^ (n - 1) % 2 ^ 1) ≡ is_negative n x
sign-digit n x low below =
    let half = halves n low in
    elim (cases_lt x (2 ^ (n - 1))) as (λ _. truth (x / 2 ^ (n - 1) % 2 ^ 1) ≡ is_negative n x) [
      | inl less ↦ let e : x / 2 ^ (n - 1) ≡ 0 = div-eq_of_lt less in rw (e, lt-leb (2 ^ (n - 1)) x less) refl
      | inr more ↦ let e : x / 2 ^ (n - 1) ≡ 1 = div-eq_of_lt-le {k = 1} (2 ^ (n - 1)) {m = x} (omega (arith, more)) (omega (arith, half, below)) in rw (e, le-leb (2 ^ (n - 1)) x more) refl
    ]

pub tests-sign : (old new : List Term) (a id : TermId) (n : ℕ) → 1 ≤ n → AreInRange old → IsTerm old n a → Makes new id 1 (λ v. term_at v old a / 2 ^ (n - 1) % 2 ^ 1)
    → Tests new id (λ v. is_negative n (term_at v old a))
tests-sign old new a id n low range h m = record {
  within = m.within;
  wide = m.wide;
  says = λ v. ap truth (m.says v) ∙ sign-digit n (term_at v old a) low (term-below old n a range h v);
}

truth-xor : (x y : ℕ) → x < 2 → y < 2 → truth (bit_xor x y) ≡ ((truth x && not (truth y)) || (not (truth x) && truth y))
truth-xor zero zero p q = refl
truth-xor zero (suc zero) p q = refl
truth-xor (suc zero) zero p q = refl
truth-xor (suc zero) (suc zero) p q = refl
truth-xor (suc (suc x)) y p q = absurd (omega arith)
truth-xor zero (suc (suc y)) p q = absurd (omega arith)
truth-xor (suc zero) (suc (suc y)) p q = absurd (omega arith)

pub tests-xor : (old new : List Term) (a b id : TermId) → AreInRange old → IsTerm old 1 a → IsTerm old 1 b → Makes new id (width_of (tree_in old a)) (λ v. bit_xor (term_at v old a) (term_at v old b))
    → Tests new id (λ v. (bit_at v old a && not (bit_at v old b)) || (not (bit_at v old a) && bit_at v old b))
tests-xor old new a b id range ha hb m = record {
  within = m.within;
  wide = m.wide ∙ ha.wide;
  says = λ v. ap truth (m.says v) ∙ truth-xor (term_at v old a) (term_at v old b) (term-below old 1 a range ha v) (term-below old 1 b range hb v);
}
