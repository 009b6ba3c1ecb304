-- Why the rules of sums and differences are right.
use Rattle.term_rules.proofs.Common.{ap, ℕ, zero, suc, ◌≡◌, ◌<◌, ◌+◌, ◌-◌, ◌*◌, ◌%◌, ◌^◌, cond, List, length, arith, ◌∙◌, sym, subst, refl, lt-ltb, add-mod-mod, add-mod_right, mod-add-mod, mod-eq_of_lt, pow-suc, TermId, Term, Tree, shifted_left, value_of, width_of, AreInRange, IsWidth, term_at, tree_in, weight_of, Form, Known, Shifted, IsPart, IsRest, Simplifies}
use Rattle.bv_terms.specs.declared.term.BinaryOp.TheVariants as op
use Rattle.bv_terms.specs.Tree as tree
use Rattle.term_rules.proofs.Simplifying.{same_tree, simplifies_like}
use Rattle.term_rules.proofs.Stored.{weight_positive}

-- ---- numbers

add-twice : (x a b m : ℕ) → ((x + a) % m + b) % m ≡ (x + (a + b) % m) % m
add-twice x a b m =
    mod-add-mod (x + a) m b
    ∙ (ap (λ k. k % m) (let e : x + a + b ≡ x + (a + b) = omega arith in e) ∙ sym (add-mod-mod x (a + b) m))

pub add-cancel : (x b m : ℕ) → x < m → b < m → ((x + b) % m + (m - b)) % m ≡ x
add-cancel x b m lx lb =
    mod-add-mod (x + b) m (m - b)
    ∙ (ap (λ k. k % m) (let e : x + b + (m - b) ≡ x + m = omega (arith, lb) in e) ∙ (add-mod_right x m ∙ mod-eq_of_lt lx))

sub-cancel : (x b m : ℕ) → x < m → b < m → ((x + (m - b)) % m + b) % m ≡ x
sub-cancel x b m lx lb =
    mod-add-mod (x + (m - b)) m b
    ∙ (ap (λ k. k % m) (let e : x + (m - b) + b ≡ x + m = omega (arith, lb) in e) ∙ (add-mod_right x m ∙ mod-eq_of_lt lx))

-- ---- sums with a number

pub raised_twice : (terms : List Term) (a inner b : TermId) (first by n width : ℕ) (form : Form) → tree.Binary op.Add (tree_in terms inner) (tree_in terms b) n ≡ tree_in terms a
    → width_of (tree_in terms a) ≡ width → ((v : ℕ → ℕ → ℕ) → term_at v terms b ≡ first)
    → Simplifies terms (tree.Binary op.Add (tree_in terms inner) (tree.Constant ((first + by) % 2 ^ width) width) width) form
    → Simplifies terms (tree.Binary op.Add (tree_in terms a) (tree.Constant by width) width) form
raised_twice terms a inner b first by n width form is wide h s =
    let same : n ≡ width = ap width_of is ∙ wide in
    let weight : weight_of (tree_in terms a) ≡ 1 + weight_of (tree_in terms inner) + weight_of (tree_in terms b) = ap weight_of (sym is) in
    let value : (v : ℕ → ℕ → ℕ) → term_at v terms a ≡ (term_at v terms inner + first) % 2 ^ width = λ v.
    ap (value_of v) (sym is) ∙ (ap (λ k. (term_at v terms inner + k) % 2 ^ n) (h v) ∙ ap (λ k. (term_at v terms inner + first) % 2 ^ k) same) in
    simplifies_like terms _ _ form s refl
    (λ v. sym (ap (λ k. (k + by) % 2 ^ width) (value v) ∙ add-twice (term_at v terms inner) first by (2 ^ width)))
    (omega (arith, weight))

pub sum_with_number : (terms : List Term) (a b : TermId) (by width : ℕ) (form : Form) → width ≡ width_of (tree_in terms a) → ((v : ℕ → ℕ → ℕ) → term_at v terms b ≡ by)
    → Simplifies terms (tree.Binary op.Add (tree_in terms a) (tree.Constant by width) width) form
    → Simplifies terms (tree.Binary op.Add (tree_in terms a) (tree_in terms b) (width_of (tree_in terms a))) form
sum_with_number terms a b by width form e h s = simplifies_like terms _ _ form s e
    (λ v. ap (λ k. (term_at v terms a + k) % 2 ^ width) (sym (h v)) ∙ ap (λ k. (term_at v terms a + term_at v terms b) % 2 ^ k) e)
    (omega (arith, weight_positive (tree_in terms b)))

pub difference_with_number : (terms : List Term) (a b : TermId) (value by width : ℕ) (form : Form) → width ≡ width_of (tree_in terms a) → ((v : ℕ → ℕ → ℕ) → term_at v terms b ≡ value)
    → by ≡ (0 + (2 ^ width - value)) % 2 ^ width
    → Simplifies terms (tree.Binary op.Add (tree_in terms a) (tree.Constant by width) width) form
    → Simplifies terms (tree.Binary op.Sub (tree_in terms a) (tree_in terms b) (width_of (tree_in terms a))) form
difference_with_number terms a b value by width form e h is s = simplifies_like terms _ _ form s e
    (λ v. ap (λ k. (term_at v terms a + k) % 2 ^ width) is
    ∙ (add-mod-mod (term_at v terms a) (0 + (2 ^ width - value)) (2 ^ width)
    ∙ (ap (λ k. (term_at v terms a + k) % 2 ^ width) (let z : 0 + (2 ^ width - value) ≡ 2 ^ width - value = omega arith in z)
    ∙ (ap (λ k. (term_at v terms a + (2 ^ width - k)) % 2 ^ width) (sym (h v))
    ∙ ap (λ k. (term_at v terms a + (2 ^ k - term_at v terms b)) % 2 ^ k) e))))
    (omega (arith, weight_positive (tree_in terms b)))

-- ---- what is added and taken away again

module _ (terms : List Term) (a b first second : TermId) (n : ℕ) (is : tree.Binary op.Add (tree_in terms first) (tree_in terms second) n ≡ tree_in terms a)
    (lf : first.index < length terms) (ls : second.index < length terms) (wf : width_of (tree_in terms first) ≡ n) (ws : width_of (tree_in terms second) ≡ n) where
  value-at : (v : ℕ → ℕ → ℕ) → term_at v terms a ≡ (term_at v terms first + term_at v terms second) % 2 ^ width_of (tree_in terms a)
  value-at v = ap (value_of v) (sym is) ∙ ap (λ k. (term_at v terms first + term_at v terms second) % 2 ^ k) (ap width_of is)

  heavier : weight_of (tree_in terms a) ≡ 1 + weight_of (tree_in terms first) + weight_of (tree_in terms second)
  heavier = ap weight_of (sym is)

  pub rest_first : second.index ≡ b.index → IsRest terms a b first
  rest_first same = record {
    within = lf;
    wide = wf ∙ ap width_of is;
    says = λ v. value-at v ∙ ap (λ (t : Tree). (term_at v terms first + value_of v t) % 2 ^ width_of (tree_in terms a)) (same_tree terms second b same);
    least = omega (arith, heavier);
  }

  pub rest_second : first.index ≡ b.index → IsRest terms a b second
  rest_second same = record {
    within = ls;
    wide = ws ∙ ap width_of is;
    says = λ v. value-at v
        ∙ (ap (λ (t : Tree). (value_of v t + term_at v terms second) % 2 ^ width_of (tree_in terms a)) (same_tree terms first b same)
        ∙ ap (λ k. k % 2 ^ width_of (tree_in terms a)) (let e : term_at v terms b + term_at v terms second ≡ term_at v terms second + term_at v terms b = omega arith in e));
    least = omega (arith, heavier);
  }

module _ (terms : List Term) (a b : TermId) (range : AreInRange terms) (la : a.index < length terms) (lb : b.index < length terms) (alike : width_of (tree_in terms a) ≡ width_of (tree_in terms b)) where
  below : (x : TermId) → x.index < length terms → width_of (tree_in terms x) ≡ width_of (tree_in terms a) → (v : ℕ → ℕ → ℕ) → term_at v terms x < 2 ^ width_of (tree_in terms a)
  below x lt e v = subst (λ n. term_at v terms x < 2 ^ n) e (range v x lt)

  pub difference_of_rest : (rest : TermId) → IsRest terms a b rest → Simplifies terms (tree.Binary op.Sub (tree_in terms a) (tree_in terms b) (width_of (tree_in terms a))) (Known rest)
  difference_of_rest rest h = record {
    fit = h.within;
    wide = h.wide;
    says = λ v. sym (ap (λ k. (k + (2 ^ width_of (tree_in terms a) - term_at v terms b)) % 2 ^ width_of (tree_in terms a)) (h.says v)
        ∙ add-cancel (term_at v terms rest) (term_at v terms b) (2 ^ width_of (tree_in terms a)) (below rest h.within h.wide v) (below b lb (sym alike) v));
    least = omega (arith, h.least);
  }

  pub sum_of_part : (whole : TermId) → IsPart terms a b whole → Simplifies terms (tree.Binary op.Add (tree_in terms a) (tree_in terms b) (width_of (tree_in terms a))) (Known whole)
  sum_of_part whole h = record {
    fit = h.within;
    wide = h.wide;
    says = λ v. sym (ap (λ k. (k + term_at v terms b) % 2 ^ width_of (tree_in terms a)) (h.says v)
        ∙ sub-cancel (term_at v terms whole) (term_at v terms b) (2 ^ width_of (tree_in terms a)) (below whole h.within h.wide v) (below b lb (sym alike) v));
    least = omega (arith, h.least);
  }

  pub sum_swapped : (form : Form) → Simplifies terms (tree.Binary op.Add (tree_in terms b) (tree_in terms a) (width_of (tree_in terms b))) form
      → Simplifies terms (tree.Binary op.Add (tree_in terms a) (tree_in terms b) (width_of (tree_in terms a))) form
  sum_swapped form s = simplifies_like terms _ _ form s (sym alike)
      (λ v. ap (λ k. k % 2 ^ width_of (tree_in terms b)) (let e : term_at v terms b + term_at v terms a ≡ term_at v terms a + term_at v terms b = omega arith in e)
      ∙ ap (λ k. (term_at v terms a + term_at v terms b) % 2 ^ k) (sym alike))
      (omega arith)

-- ---- products with powers of 2

moved-up : (w x k : ℕ) → k < w → shifted_left w x k ≡ (x * 2 ^ k) % 2 ^ w
moved-up w x k lt = ap (λ t. cond t (x * 2 ^ k % 2 ^ w) 0) (lt-ltb k w lt)

own-power : (n : ℕ) → n < 2 ^ n
own-power zero = omega arith
own-power (suc n) = omega (arith, own-power n, pow-suc 2 n)

below-power : (k w : ℕ) → k < w → k < 2 ^ w
below-power k w lt = omega (arith, lt, own-power w)

pub product_shifted : (terms : List Term) (a b : TermId) (value k width : ℕ) → a.index < length terms → IsWidth width → width ≡ width_of (tree_in terms a)
    → ((v : ℕ → ℕ → ℕ) → term_at v terms b ≡ value) → value ≡ 2 ^ k → k < width
    → Simplifies terms (tree.Binary op.Mul (tree_in terms a) (tree_in terms b) (width_of (tree_in terms a))) (Shifted a k width)
product_shifted terms a b value k width la is e h power lt = record {
  fit = record { within = la; wide = sym e; range = is; fits = below-power k width lt };
  wide = e;
  says = λ v. moved-up width (term_at v terms a) k lt
      ∙ (ap (λ y. (term_at v terms a * y) % 2 ^ width) (sym (h v ∙ power)) ∙ ap (λ n. (term_at v terms a * term_at v terms b) % 2 ^ n) e);
  least = omega (arith, weight_positive (tree_in terms b));
}

pub sum_shifted : (terms : List Term) (a b : TermId) (width : ℕ) → a.index < length terms → IsWidth width → width ≡ width_of (tree_in terms a) → a.index ≡ b.index → 1 < width
    → Simplifies terms (tree.Binary op.Add (tree_in terms a) (tree_in terms b) (width_of (tree_in terms a))) (Shifted a 1 width)
sum_shifted terms a b width la is e same lt = record {
  fit = record { within = la; wide = sym e; range = is; fits = below-power 1 width lt };
  wide = e;
  says = λ v. moved-up width (term_at v terms a) 1 lt
      ∙ (ap (λ n. n % 2 ^ width) (let twice : term_at v terms a * 2 ^ 1 ≡ term_at v terms a + term_at v terms a = omega arith in twice)
      ∙ (ap (λ (t : Tree). (term_at v terms a + value_of v t) % 2 ^ width) (same_tree terms a b same)
      ∙ ap (λ n. (term_at v terms a + term_at v terms b) % 2 ^ n) e));
  least = omega (arith, weight_positive (tree_in terms b));
}
