-- Why exact quotients by one number, and products by one number that do not wrap, are in the order of what was divided or multiplied.
use Rattle.std.proofs.lemmas.Nat.{mul-le}
use Rattle.term_rules.specs.Wrapping.{HaveOneOrder, IsExactProduct, IsExactQuotient}
use Rattle.term_rules.specs.declared.comparing.Scaled.{Scaled}
use Rattle.term_rules.proofs.Simplifying.{same_tree}
use Rattle.term_rules.proofs.Common.{ap, ℕ, ◌≡◌, ◌<◌, ◌≤◌, ◌+◌, ◌*◌, ◌/◌, ◌%◌, true, false, eqb, inl, inr, nat_lt, arith, ◌∙◌, sym, refl, cases_lt, lt-ltb, le-ltb, ne_eqb, div-add-mod', quotient, remainder, List, length, TermId, Term, Tree, value_of, width_of, term_at, bit_at, tree_in}

pub lt-scaled : (k a b : ℕ) → 1 ≤ k → nat_lt (a * k) (b * k) ≡ nat_lt a b
lt-scaled k a b some = elim (cases_lt a b) as (λ _. nat_lt (a * k) (b * k) ≡ nat_lt a b) [
  | inl less ↦
      let more : (a + 1) * k ≤ b * k = mul-le (a + 1) k b k (omega (arith, less)) (omega arith) in
      let next : (a + 1) * k ≡ a * k + k = omega arith in
      lt-ltb (a * k) (b * k) (omega (arith, more, next, some)) ∙ sym (lt-ltb a b less)
  | inr more ↦
      le-ltb (a * k) (b * k) (mul-le b k a k more (omega arith)) ∙ sym (le-ltb a b more)
]

-- numbers that are products are in the order of the factors
pub order-of-products : (k x y a b : ℕ) → 1 ≤ k → a ≡ x * k → b ≡ y * k → nat_lt x y ≡ nat_lt a b
order-of-products k x y a b some ea eb = sym (lt-scaled k x y some) ∙ (ap (λ n. nat_lt n (y * k)) (sym ea) ∙ ap (λ n. nat_lt a n) (sym eb))

-- exact quotients are in the order of the dividends; what is divided by 0 without a remainder is 0
module _ (w x y k a b : ℕ) (qx : a ≡ quotient w x k) (qy : b ≡ quotient w y k) (rx : remainder x k ≡ 0) (ry : remainder y k ≡ 0) where
  by-zero : eqb k 0 ≡ true → nat_lt x y ≡ nat_lt a b
  by-zero e =
      let x0 : x ≡ 0 = (let f : x ≡ remainder x k = rw (e) refl in f) ∙ rx in
      let y0 : y ≡ 0 = (let f : y ≡ remainder y k = rw (e) refl in f) ∙ ry in
      let same : a ≡ b = qx ∙ ((let f : quotient w x k ≡ quotient w y k = rw (e) refl in f) ∙ sym qy) in
      le-ltb x y (omega (arith, x0, y0)) ∙ sym (le-ltb a b (omega (arith, same)))

  whole : (n q : ℕ) → eqb k 0 ≡ false → q ≡ quotient w n k → remainder n k ≡ 0 → n ≡ q * k
  whole n q e hq hr =
      let divided : q ≡ n / k = hq ∙ (let f : quotient w n k ≡ n / k = rw (e) refl in f) in
      let rest : n % k ≡ 0 = (let f : n % k ≡ remainder n k = rw (e) refl in f) ∙ hr in
      let split = div-add-mod' n k in
      let again : q * k ≡ n / k * k = ap (λ m. m * k) divided in
      omega (arith, split, again, rest)

  pub order-of-quotients : nat_lt x y ≡ nat_lt a b
  order-of-quotients = elim (cases_lt 0 k) as (λ _. nat_lt x y ≡ nat_lt a b) [
    | inl some ↦
        let e : eqb k 0 ≡ false = ne_eqb k 0 (λ same. omega (arith, some, same)) in
        ap (λ n. nat_lt n y) (whole x a e qx rx) ∙ (ap (λ n. nat_lt (a * k) n) (whole y b e qy ry) ∙ lt-scaled k a b some)
    | inr none ↦
        let nought : k ≡ 0 = omega (arith, none) in
        by-zero (ap (λ n. eqb n 0) nought)
  ]

-- ---- terms

module _ (terms : List Term) (p a b : TermId) (s t : Scaled) (same : s.by.index ≡ t.by.index) where
  one-scale : (v : ℕ → ℕ → ℕ) → term_at v terms t.by ≡ term_at v terms s.by
  one-scale v = ap (value_of v) (sym (same_tree terms s.by t.by same))

  exact-too : width_of (tree_in terms a) ≡ width_of (tree_in terms b) → IsExactQuotient terms p b t → (v : ℕ → ℕ → ℕ) → bit_at v terms p ≡ false
      → (term_at v terms b ≡ quotient (width_of (tree_in terms a)) (term_at v terms t.number) (term_at v terms s.by)) × (remainder (term_at v terms t.number) (term_at v terms s.by) ≡ 0)
  exact-too alike h v e = (
    (h.says v e).0 ∙ (ap (λ n. quotient n (term_at v terms t.number) (term_at v terms t.by)) (sym alike) ∙ ap (λ n. quotient (width_of (tree_in terms a)) (term_at v terms t.number) n) (one-scale v)),
    ap (λ n. remainder (term_at v terms t.number) n) (sym (one-scale v)) ∙ (h.says v e).1,
  )

  product-too : IsExactProduct terms p b t → (v : ℕ → ℕ → ℕ) → bit_at v terms p ≡ false → term_at v terms b ≡ term_at v terms t.number * term_at v terms s.by
  product-too h v e = (h.says v e).0 ∙ ap (λ n. term_at v terms t.number * n) (one-scale v)

  pub quotients-in-order : width_of (tree_in terms a) ≡ width_of (tree_in terms b) → IsExactQuotient terms p a s → IsExactQuotient terms p b t → HaveOneOrder terms p a b (record { first = s.number; second = t.number })
  quotients-in-order alike ha hb = record {
    first = ha.within;
    second = hb.within;
    wide_first = ha.wide;
    wide_second = hb.wide;
    below = λ v e.
        let there = exact-too alike hb v e in
        order-of-quotients (width_of (tree_in terms a)) (term_at v terms s.number) (term_at v terms t.number) (term_at v terms s.by) (term_at v terms a) (term_at v terms b) (ha.says v e).0 there.0 (ha.says v e).1 there.1;
    above = λ v e.
        let there = exact-too alike hb v e in
        order-of-quotients (width_of (tree_in terms a)) (term_at v terms t.number) (term_at v terms s.number) (term_at v terms s.by) (term_at v terms b) (term_at v terms a) there.0 (ha.says v e).0 there.1 (ha.says v e).1;
  }

  pub products-in-order : IsExactProduct terms p a s → IsExactProduct terms p b t → HaveOneOrder terms p a b (record { first = s.number; second = t.number })
  products-in-order ha hb = record {
    first = ha.within;
    second = hb.within;
    wide_first = ha.wide;
    wide_second = hb.wide;
    below = λ v e. order-of-products (term_at v terms s.by) (term_at v terms s.number) (term_at v terms t.number) (term_at v terms a) (term_at v terms b) (ha.says v e).1 (ha.says v e).0 (product-too hb v e);
    above = λ v e. order-of-products (term_at v terms s.by) (term_at v terms t.number) (term_at v terms s.number) (term_at v terms b) (term_at v terms a) (ha.says v e).1 (product-too hb v e) (ha.says v e).0;
  }
