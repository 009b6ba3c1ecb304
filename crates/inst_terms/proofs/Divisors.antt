-- Where divisions are undefined.
use Rattle.inst_terms.proofs.Common.{ℕ, ◌≡◌, ◌<◌, ◌-◌, ◌^◌, Bool, true, false, ◌&&◌, ◌||◌, nat_eq, List, refl, ◌∙◌, Value, TermId, Term, Keeps, Tests, AreInRange, term_at, bit_at, value_from, term-below, bit-later, has_no_quotient, is_least_or_poison, is_zero_or_poison, NarrowValue, IsNarrow, narrow_at}
use Rattle.mem_terms.proofs.Made.{small_mod}
use Rattle.inst_terms.proofs.Chains.{narrow-later}

zero_is : (n : ℕ) (p : Bool) (x : ℕ) → x < 2 ^ n → (p || nat_eq x 0) ≡ is_zero_or_poison n (value_from p x)
zero_is n true x lt = refl
zero_is n false x lt = rw (small_mod x (2 ^ n) lt) refl

least_is : (n : ℕ) (p : Bool) (x : ℕ) → x < 2 ^ n → (p || nat_eq x (2 ^ (n - 1))) ≡ is_least_or_poison n (value_from p x)
least_is n true x lt = refl
least_is n false x lt = rw (small_mod x (2 ^ n) lt) refl

no_quotient_is : (n : ℕ) (left : Value) (p : Bool) (y : ℕ) → y < 2 ^ n
    → (is_zero_or_poison n (value_from p y) || (nat_eq y (2 ^ n - 1) && is_least_or_poison n left)) ≡ has_no_quotient n left (value_from p y)
no_quotient_is n left true y lt = refl
no_quotient_is n left false y lt = rw (small_mod y (2 ^ n) lt) refl

-- poison, or a test of the number
or-stands : (old mid new : List Term) (s : NarrowValue) (n : ℕ) (some id : TermId) (test : ℕ → Bool) (whole : Value → Bool) → AreInRange old → IsNarrow old n s → Keeps old mid
    → Tests mid some (λ v. test (term_at v old s.number)) → Tests new id (λ v. bit_at v mid s.poison || bit_at v mid some)
    → ((p : Bool) (x : ℕ) → x < 2 ^ n → (p || test x) ≡ whole (value_from p x)) → Tests new id (λ v. whole (narrow_at v old s))
or-stands old mid new s n some id test whole range h k t u is = record {
  within = u.within;
  wide = u.wide;
  says = λ v. u.says v ∙ rw (bit-later old mid k v s.poison h.poison.within, t.says v) (is (bit_at v old s.poison) (term_at v old s.number) (term-below old n s.number range h.number v));
}

pub zero-stands : (old mid new : List Term) (s : NarrowValue) (n : ℕ) (some id : TermId) → AreInRange old → IsNarrow old n s → Keeps old mid
    → Tests mid some (λ v. nat_eq (term_at v old s.number) 0) → Tests new id (λ v. bit_at v mid s.poison || bit_at v mid some)
    → Tests new id (λ v. is_zero_or_poison n (narrow_at v old s))
zero-stands old mid new s n some id range h k t u = or-stands old mid new s n some id (λ x. nat_eq x 0) (is_zero_or_poison n) range h k t u (zero_is n)

pub least-stands : (old mid new : List Term) (s : NarrowValue) (n : ℕ) (some id : TermId) → AreInRange old → IsNarrow old n s → Keeps old mid
    → Tests mid some (λ v. nat_eq (term_at v old s.number) (2 ^ (n - 1))) → Tests new id (λ v. bit_at v mid s.poison || bit_at v mid some)
    → Tests new id (λ v. is_least_or_poison n (narrow_at v old s))
least-stands old mid new s n some id range h k t u = or-stands old mid new s n some id (λ x. nat_eq x (2 ^ (n - 1))) (is_least_or_poison n) range h k t u (least_is n)

pub no_quotient-stands : (old a b new : List Term) (left right : NarrowValue) (n : ℕ) (no_room zero id : TermId) → AreInRange old → IsNarrow old n left → IsNarrow old n right → Keeps old a → Keeps a b
    → Tests a no_room (λ v. nat_eq (term_at v old right.number) (2 ^ n - 1) && is_least_or_poison n (narrow_at v old left))
    → Tests b zero (λ v. is_zero_or_poison n (narrow_at v a right))
    → Tests new id (λ v. bit_at v b zero || bit_at v b no_room)
    → Tests new id (λ v. has_no_quotient n (narrow_at v old left) (narrow_at v old right))
no_quotient-stands old a b new left right n no_room zero id range hl hr k k' t z u = record {
  within = u.within;
  wide = u.wide;
  says = λ v. u.says v ∙ rw (z.says v, bit-later a b k' v no_room t.within, t.says v, narrow-later old a k right n hr v)
      (no_quotient_is n (narrow_at v old left) (bit_at v old right.poison) (term_at v old right.number) (term-below old n right.number range hr.number v));
}
