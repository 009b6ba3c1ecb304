-- What a known difference says of two terms.
use Rattle.term_rules.proofs.Common.{ap, ℕ, ◌≡◌, ◌<◌, ◌≤◌, ◌+◌, ◌-◌, ◌%◌, ◌^◌, List, length, arith, lit<, ◌∙◌, sym, subst, refl, inl, inr, eqb, Bool, true, false, cond, ne_eqb, add-mod_right, mod-add-mod, mod-eq_of_lt, TermId, Term, digit, width_of, AreInRange, IsWidth, bit_at, term_at, tree_in, Built, Known, Simplifies}
use Rattle.std.proofs.lemmas.Bool.{cases_lt, eqb-true, eqb-false, eq-eqb}
use Rattle.std.specs.Prelude.{◌⊎◌}
use Rattle.bv_terms.specs.declared.term.BinaryOp.TheVariants as op
use Rattle.bv_terms.specs.declared.term.Term.TheVariants as term
use Rattle.bv_terms.specs.Tree as tree
use Rattle.term_sums.specs.Polynomials.{IsDifference}
use Rattle.term_rules.proofs.Simplifying.{constant_form}

-- ---- numbers

-- a number is itself with n only if n is 0
only-nothing : (x n m : ℕ) → x < m → n < m → x ≡ (x + n) % m → n ≡ 0
only-nothing x n m lx ln e = go (cases_lt (x + n) m)
  where
    go : (x + n < m) ⊎ (m ≤ x + n) → n ≡ 0
    go (inl small) = omega (arith, e ∙ mod-eq_of_lt small)
    go (inr great) =
        let r = x + n - m in
        let whole : r + m ≡ x + n = omega (arith, great) in
        let cut : (x + n) % m ≡ r = ap (λ k. k % m) (sym whole) ∙ (add-mod_right r m ∙ mod-eq_of_lt (let small : r < m = omega (arith, whole, lx, ln) in small)) in
        absurd (let no : ⊥ = omega (arith, e, cut, whole, ln) in no)

-- two numbers are the same exactly where what one has more is 0
same-exactly : (x y n m : ℕ) → y < m → n < m → x ≡ (y + n) % m → eqb x y ≡ eqb n 0
same-exactly x y n m ly ln e = go (eqb n 0) refl
  where
    go : (t : Bool) → eqb n 0 ≡ t → eqb x y ≡ t
    go true none =
        let zero-more : y + n ≡ y = omega (arith, eqb-true n 0 none) in
        eq-eqb x y (e ∙ (ap (λ k. k % m) zero-more ∙ mod-eq_of_lt ly))
    go false some = ne_eqb x y (λ same. eqb-false n 0 some (only-nothing y n m ly ln (sym same ∙ e)))

-- ---- terms

module _ (terms : List Term) (a b : TermId) (n : ℕ) (range : AreInRange terms) (lb : b.index < length terms)
    (alike : width_of (tree_in terms a) ≡ width_of (tree_in terms b)) (h : IsDifference terms a b n) where
  below : (v : ℕ → ℕ → ℕ) → term_at v terms b < 2 ^ width_of (tree_in terms a)
  below v = subst (λ k. term_at v terms b < 2 ^ k) (sym alike) (range v b lb)

  pub equal_known : (c : ℕ) → c ≡ digit (eqb n 0) → c < 2 ^ 1
      → Simplifies terms (tree.Binary op.Eq (tree_in terms a) (tree_in terms b) (width_of (tree_in terms a))) (Built (term.Constant c 1))
  equal_known c is small = constant_form terms _ c 1 (omega arith, omega arith) small refl
      (λ v. ap digit (same-exactly (term_at v terms a) (term_at v terms b) n (2 ^ width_of (tree_in terms a)) (below v) h.fits (h.says v)) ∙ sym is)

  pub difference_is : (width : ℕ) → IsWidth width → width ≡ width_of (tree_in terms a) → a.index < length terms
      → Simplifies terms (tree.Binary op.Sub (tree_in terms a) (tree_in terms b) (width_of (tree_in terms a))) (Built (term.Constant n width))
  difference_is width is e la = constant_form terms _ n width is (subst (λ k. n < 2 ^ k) (sym e) h.fits) e
      (λ v.
      let x = term_at v terms a in
      let y = term_at v terms b in
      let m = 2 ^ width_of (tree_in terms a) in
      let whole : (y + n) + (m - y) ≡ n + m = omega (arith, below v) in
      ap (λ k. (k + (m - y)) % m) (h.says v) ∙ (mod-add-mod (y + n) m (m - y) ∙ (ap (λ k. k % m) whole ∙ (add-mod_right n m ∙ mod-eq_of_lt h.fits))))

-- ---- terms that are equal

module _ (terms : List Term) (a b : TermId) (same : (v : ℕ → ℕ → ℕ) → term_at v terms a ≡ term_at v terms b) where
  pub choice_of_equal : (c : TermId) → a.index < length terms
      → Simplifies terms (tree.Ite (tree_in terms c) (tree_in terms a) (tree_in terms b) (width_of (tree_in terms a))) (Known a)
  choice_of_equal c la = record {
    fit = la;
    wide = refl;
    says = λ v. arm (bit_at v terms c) (term_at v terms a) (term_at v terms b) (same v);
    least = omega arith;
  }
    where
      arm : (t : Bool) (x y : ℕ) → x ≡ y → x ≡ cond t x y
      arm true x y e = refl
      arm false x y e = e

  pub equal_are_equal : Simplifies terms (tree.Binary op.Eq (tree_in terms a) (tree_in terms b) (width_of (tree_in terms a))) (Built (term.Constant 1 1))
  equal_are_equal = constant_form terms _ 1 1 (omega arith, omega arith) (lit< tt) refl (λ v. ap digit (eq-eqb (term_at v terms a) (term_at v terms b) (same v)))
