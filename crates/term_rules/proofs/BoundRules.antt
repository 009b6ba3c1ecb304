-- Why sums of small numbers don't wrap.
use Rattle.term_rules.proofs.Common.{ap, ℕ, ◌≡◌, ◌<◌, ◌≤◌, ◌+◌, ◌-◌, ◌*◌, ◌%◌, ◌^◌, List, length, arith, lit<, ◌∙◌, sym, subst, refl, le-ltb, mul-add-lt, pow-add, mod-eq_of_lt, mod-le, mul-le-mul_right, mul_comm, TermId, Term, digit, value_of, width_of, AreInRange, term_at, tree_in, pow-le, Built, Simplifies}
use Rattle.bv_terms.specs.declared.term.BinaryOp.TheVariants as op
use Rattle.bv_terms.specs.declared.term.Term.TheVariants as term
use Rattle.bv_terms.specs.Tree as tree
use Rattle.term_rules.proofs.Simplifying.{constant_form, same_tree}

-- ---- numbers

-- the product of two numbers has no more bits than the two
product_small : (i j w x y : ℕ) → i + j < w → x < 2 ^ i → y < 2 ^ j → (x * y) % 2 ^ w < 2 ^ (w - 1)
product_small i j w x y less lx ly =
    let up : y * x ≤ 2 ^ j * x = mul-le-mul_right x (let le : y ≤ 2 ^ j = omega (arith, ly) in le) in
    let turned : x * y ≡ y * x = mul_comm x y in
    let same : x * 2 ^ j ≡ 2 ^ j * x = mul_comm x (2 ^ j) in
    let top : x * 2 ^ j + y < 2 ^ j * 2 ^ i = mul-add-lt x (2 ^ j) y (2 ^ i) lx ly in
    let whole : 2 ^ (j + i) ≡ 2 ^ j * 2 ^ i = pow-add 2 j i in
    let fits : 2 ^ (j + i) ≤ 2 ^ (w - 1) = pow-le (j + i) (w - 1) (omega (arith, less)) in
    omega (arith, up, turned, same, top, whole, fits, mod-le (x * y) (2 ^ w))

pub halves : (n : ℕ) → 1 ≤ n → 2 ^ (n - 1) + 2 ^ (n - 1) ≡ 2 ^ n
halves n pos =
    let e : (n - 1) + 1 ≡ n = omega (arith, pos) in
    let twice : 2 ^ ((n - 1) + 1) ≡ 2 ^ (n - 1) * 2 ^ 1 = pow-add 2 (n - 1) 1 in
    let whole : 2 ^ ((n - 1) + 1) ≡ 2 ^ n = ap (λ k. 2 ^ k) e in
    omega (arith, twice, whole)

-- ---- terms

pub zext_small : (terms : List Term) (a inner : TermId) (n : ℕ) → AreInRange terms → tree.Zext (tree_in terms inner) n ≡ tree_in terms a → inner.index < length terms
    → width_of (tree_in terms inner) < width_of (tree_in terms a) → (v : ℕ → ℕ → ℕ) → term_at v terms a < 2 ^ (width_of (tree_in terms a) - 1)
zext_small terms a inner n range is lt less v =
    let same : term_at v terms inner ≡ term_at v terms a = ap (value_of v) is in
    omega (arith, same, range v inner lt, pow-le (width_of (tree_in terms inner)) (width_of (tree_in terms a) - 1) (omega (arith, less)))

pub product_is_small : (terms : List Term) (a first second : TermId) (n i j : ℕ) → tree.Binary op.Mul (tree_in terms first) (tree_in terms second) n ≡ tree_in terms a → i + j < width_of (tree_in terms a)
    → ((v : ℕ → ℕ → ℕ) → term_at v terms first < 2 ^ i) → ((v : ℕ → ℕ → ℕ) → term_at v terms second < 2 ^ j) → (v : ℕ → ℕ → ℕ) → term_at v terms a < 2 ^ (width_of (tree_in terms a) - 1)
product_is_small terms a first second n i j is less rf rs v =
    let w = width_of (tree_in terms a) in
    let same : term_at v terms a ≡ (term_at v terms first * term_at v terms second) % 2 ^ w =
    ap (value_of v) (sym is) ∙ ap (λ k. (term_at v terms first * term_at v terms second) % 2 ^ k) (ap width_of is) in
    subst (λ k. k < 2 ^ (w - 1)) (sym same) (product_small i j w (term_at v terms first) (term_at v terms second) less (rf v) (rs v))

module _ (terms : List Term) (a b first second : TermId) (n : ℕ) (is : tree.Binary op.Add (tree_in terms first) (tree_in terms second) n ≡ tree_in terms a) (pos : 1 ≤ n)
    (wf : width_of (tree_in terms first) ≡ n) (ws : width_of (tree_in terms second) ≡ n)
    (sf : (v : ℕ → ℕ → ℕ) → term_at v terms first < 2 ^ (width_of (tree_in terms first) - 1)) (ss : (v : ℕ → ℕ → ℕ) → term_at v terms second < 2 ^ (width_of (tree_in terms second) - 1)) where
  whole : (v : ℕ → ℕ → ℕ) → term_at v terms a ≡ term_at v terms first + term_at v terms second
  whole v =
      let lf : term_at v terms first < 2 ^ (n - 1) = subst (λ k. term_at v terms first < 2 ^ (k - 1)) wf (sf v) in
      let ls : term_at v terms second < 2 ^ (n - 1) = subst (λ k. term_at v terms second < 2 ^ (k - 1)) ws (ss v) in
      ap (value_of v) (sym is) ∙ mod-eq_of_lt (let small : term_at v terms first + term_at v terms second < 2 ^ n = omega (arith, lf, ls, halves n pos) in small)

  pub sum_with_first : first.index ≡ b.index → (v : ℕ → ℕ → ℕ) → term_at v terms b ≤ term_at v terms a
  sum_with_first same v =
      let e : term_at v terms first ≡ term_at v terms b = ap (value_of v) (same_tree terms first b same) in
      omega (arith, whole v, e)

  pub sum_with_second : second.index ≡ b.index → (v : ℕ → ℕ → ℕ) → term_at v terms b ≤ term_at v terms a
  sum_with_second same v =
      let e : term_at v terms second ≡ term_at v terms b = ap (value_of v) (same_tree terms second b same) in
      omega (arith, whole v, e)

pub never_less : (terms : List Term) (a b : TermId) (w : ℕ) → ((v : ℕ → ℕ → ℕ) → term_at v terms b ≤ term_at v terms a) → Simplifies terms (tree.Binary op.Ult (tree_in terms a) (tree_in terms b) w) (Built (term.Constant 0 1))
never_less terms a b w h = constant_form terms _ 0 1 (omega arith, omega arith) (lit< tt) refl (λ v. ap digit (le-ltb (term_at v terms a) (term_at v terms b) (h v)))
