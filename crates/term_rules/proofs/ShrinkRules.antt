-- Why operations on widened numbers are those at the width before.
use Rattle.term_rules.proofs.Common.{ap, ℕ, ◌≡◌, ◌<◌, ◌≤◌, ◌+◌, ◌-◌, ◌/◌, ◌%◌, ◌^◌, true, false, cond, List, arith, ◌∙◌, sym, subst, nat_eq, nat_lt, ne_eqb, add-mod_right, mod-eq_of_lt, TermId, Term, digit, is_less_signed, is_negative, quotient, value_of, width_of, AreInRange, Makes, term_at, tree_in, pow-le, IsShrunk, IsTaken, form_tree}
use Rattle.term_rules.specs.declared.shrinking.Shrunk.{Shrunk}
use Rattle.term_rules.proofs.WidthRules.{unsigned}

-- ---- numbers

-- the greatest number of some bits without one of them
rest_of_ones : (k w x : ℕ) → k ≤ w → x < 2 ^ k → (2 ^ k - 1 + (2 ^ w - x)) % 2 ^ w ≡ 2 ^ k - 1 - x
rest_of_ones k w x le lt =
    let less : 2 ^ k ≤ 2 ^ w = pow-le k w le in
    let e : 2 ^ k - 1 + (2 ^ w - x) ≡ (2 ^ k - 1 - x) + 2 ^ w = omega (arith, lt, less) in
    ap (λ n. n % 2 ^ w) e ∙ (add-mod_right (2 ^ k - 1 - x) (2 ^ w) ∙ mod-eq_of_lt (let small : 2 ^ k - 1 - x < 2 ^ w = omega (arith, lt, less) in small))

-- a quotient by another number than 0 says nothing of the width
quotient_by : (k w x y : ℕ) → 1 ≤ y → quotient k x y ≡ quotient w x y
quotient_by k w x y pos =
    let other : nat_eq y 0 ≡ false = ne_eqb y 0 (λ e. omega (arith, e, pos)) in
    ap (λ t. cond t (2 ^ k - 1) (x / y)) other ∙ sym (ap (λ t. cond t (2 ^ w - 1) (x / y)) other)

-- numbers without a sign are in the order of their bits
less_unsigned : (k w x y : ℕ) → k < w → x < 2 ^ k → y < 2 ^ k → is_less_signed w x y ≡ nat_lt x y
less_unsigned k w x y lt lx ly =
    ap (λ t. cond t (cond (is_negative w y) (nat_lt x y) true) (cond (is_negative w y) false (nat_lt x y))) (unsigned k w x lt lx)
    ∙ ap (λ t. cond t false (nat_lt x y)) (unsigned k w y lt ly)

-- ---- terms

pub inverse_makes : (old new : List Term) (a b inner id : TermId) (width : ℕ) → AreInRange old → width_of (tree_in old a) ≡ width_of (tree_in old b) → IsTaken old a b inner → width ≡ width_of (tree_in old a)
    → Makes new id width (λ v. 2 ^ width_of (tree_in old inner) - 1 - term_at v old inner)
    → Makes new id (width_of (tree_in old a)) (λ v. (term_at v old a + (2 ^ width_of (tree_in old a) - term_at v old b)) % 2 ^ width_of (tree_in old a))
inverse_makes old new a b inner id width range alike h e m =
    let k = width_of (tree_in old inner) in
    let w = width_of (tree_in old a) in
    record {
      within = m.within;
      wide = m.wide ∙ e;
      says = λ v.
          m.says v
          ∙ (sym (rest_of_ones k w (term_at v old inner) (omega (arith, h.widened.narrow, alike)) (range v inner h.widened.within))
          ∙ (ap (λ n. (2 ^ k - 1 + (2 ^ w - n)) % 2 ^ w) (h.widened.says v)
          ∙ ap (λ n. (n + (2 ^ w - term_at v old b)) % 2 ^ w) (sym (h.ones v))));
    }

pub quotient_makes : (old new : List Term) (a b id : TermId) (s : Shrunk) (width : ℕ) → IsShrunk old a b s → ((v : ℕ → ℕ → ℕ) → 1 ≤ term_at v old b) → width ≡ width_of (tree_in old a)
    → Makes new id width (λ v. quotient (width_of (tree_in old s.first)) (term_at v old s.first) (value_of v (form_tree old s.second)))
    → Makes new id (width_of (tree_in old a)) (λ v. quotient (width_of (tree_in old a)) (term_at v old a) (term_at v old b))
quotient_makes old new a b id s width h pos e m = record {
  within = m.within;
  wide = m.wide ∙ e;
  says = λ v.
      let k = width_of (tree_in old s.first) in
      m.says v
      ∙ (ap (λ n. quotient k n (value_of v (form_tree old s.second))) (h.first v)
      ∙ (ap (λ n. quotient k (term_at v old a) n) (h.second v)
      ∙ quotient_by k (width_of (tree_in old a)) (term_at v old a) (term_at v old b) (pos v)));
}

module _ (old new : List Term) (a b id : TermId) (s : Shrunk) (range : AreInRange old) (h : IsShrunk old a b s)
    (fits : (v : ℕ → ℕ → ℕ) → term_at v old b < 2 ^ width_of (tree_in old s.first)) (less : width_of (tree_in old s.first) < width_of (tree_in old a)) where
  small : (v : ℕ → ℕ → ℕ) → term_at v old a < 2 ^ width_of (tree_in old s.first)
  small v = subst (λ n. n < 2 ^ width_of (tree_in old s.first)) (h.first v) (range v s.first h.pair.within)

  pub less_makes : Makes new id 1 (λ v. digit (nat_lt (term_at v old s.first) (value_of v (form_tree old s.second))))
      → Makes new id 1 (λ v. digit (is_less_signed (width_of (tree_in old a)) (term_at v old a) (term_at v old b)))
  less_makes m = record {
    within = m.within;
    wide = m.wide;
    says = λ v.
        m.says v
        ∙ (ap (λ n. digit (nat_lt n (value_of v (form_tree old s.second)))) (h.first v)
        ∙ (ap (λ n. digit (nat_lt (term_at v old a) n)) (h.second v)
        ∙ ap digit (sym (less_unsigned (width_of (tree_in old s.first)) (width_of (tree_in old a)) (term_at v old a) (term_at v old b) less (small v) (fits v)))));
  }

  pub greater_makes : width_of (tree_in old b) ≡ width_of (tree_in old a) → Makes new id 1 (λ v. digit (nat_lt (value_of v (form_tree old s.second)) (term_at v old s.first)))
      → Makes new id 1 (λ v. digit (is_less_signed (width_of (tree_in old b)) (term_at v old b) (term_at v old a)))
  greater_makes alike m = record {
    within = m.within;
    wide = m.wide;
    says = λ v.
        m.says v
        ∙ (ap (λ n. digit (nat_lt (value_of v (form_tree old s.second)) n)) (h.first v)
        ∙ (ap (λ n. digit (nat_lt n (term_at v old a))) (h.second v)
        ∙ ap digit (sym (less_unsigned (width_of (tree_in old s.first)) (width_of (tree_in old b)) (term_at v old b) (term_at v old a) (subst (λ n. width_of (tree_in old s.first) < n) (sym alike) less) (fits v) (small v)))));
  }
