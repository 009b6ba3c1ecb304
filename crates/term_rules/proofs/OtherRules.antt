-- Why the rules of divisions, shifts and comparisons are right.
use Rattle.term_rules.proofs.Common.{ap, ℕ, ◌≡◌, ◌<◌, ◌≤◌, ◌+◌, ◌-◌, ◌*◌, ◌%◌, ◌^◌, Bool, true, false, cond, eqb, List, length, arith, lit<, ◌∙◌, sym, subst, refl, eqb-true, ne_eqb, lt-ltb, pow_pos, pow-add, mod-eq_of_lt, mod_self, TermId, Term, value_of, width_of, remainder, shifted_left, digit, AreInRange, IsWidth, term_at, tree_in, Built, Known, Simplifies}
use Rattle.bv_terms.specs.declared.term.BinaryOp.TheVariants as op
use Rattle.bv_terms.specs.declared.term.Term.TheVariants as term
use Rattle.bv_terms.specs.Tree as tree
use Rattle.term_rules.proofs.Simplifying.{constant_form, same_tree}

-- a number leaves nothing when it is divided by itself, also where it is 0
own_remainder : (x : ℕ) → remainder x x ≡ 0
own_remainder x = go (eqb x 0) refl
  where
    go : (t : Bool) → eqb x 0 ≡ t → cond t x (x % x) ≡ 0
    go true e = eqb-true x 0 e
    go false e = mod_self x

pub rest_of_same : (terms : List Term) (a b : TermId) (width : ℕ) → IsWidth width → width ≡ width_of (tree_in terms a) → a.index ≡ b.index
    → Simplifies terms (tree.Binary op.Urem (tree_in terms a) (tree_in terms b) (width_of (tree_in terms a))) (Built (term.Constant 0 width))
rest_of_same terms a b width is e same = constant_form terms _ 0 width is (pow_pos width) e
    (λ v. ap (λ t. remainder (term_at v terms a) (value_of v t)) (sym (same_tree terms a b same)) ∙ own_remainder (term_at v terms a))

-- a number of some bits that is shifted by none
unmoved : (w x : ℕ) → 1 ≤ w → x < 2 ^ w → shifted_left w x 0 ≡ x
unmoved w x pos lt =
    ap (λ t. cond t (x * 2 ^ 0 % 2 ^ w) 0) (lt-ltb 0 w (omega arith))
    ∙ (ap (λ k. k % 2 ^ w) (let e : x * 2 ^ 0 ≡ x = omega arith in e) ∙ mod-eq_of_lt lt)

pub left_of_zero : (terms : List Term) (a b : TermId) (n width : ℕ) → AreInRange terms → a.index < length terms → IsWidth width → width ≡ width_of (tree_in terms a)
    → n ≡ 0 → ((v : ℕ → ℕ → ℕ) → term_at v terms b ≡ n) → Simplifies terms (tree.Binary op.Shl (tree_in terms a) (tree_in terms b) (width_of (tree_in terms a))) (Known a)
left_of_zero terms a b n width range la is e none h = record {
  fit = la;
  wide = refl;
  says = λ v. sym (ap (λ y. shifted_left (width_of (tree_in terms a)) (term_at v terms a) y) (h v ∙ none)
      ∙ unmoved (width_of (tree_in terms a)) (term_at v terms a) (subst (λ k. 1 ≤ k) e is.0) (range v a la));
  least = omega arith;
}

-- a number is not its inverse
apart : (x w : ℕ) → 1 ≤ w → x < 2 ^ w → digit (eqb x (2 ^ w - 1 - x)) ≡ 0
apart x w pos lt =
    let whole : (w - 1) + 1 ≡ w = omega arith in
    let even : 2 ^ w ≡ 2 ^ (w - 1) * 2 ^ 1 = ap (λ k. 2 ^ k) (sym whole) ∙ pow-add 2 (w - 1) 1 in
    ap digit (ne_eqb x (2 ^ w - 1 - x) (λ same. omega (arith, same, even, lt)))

pub equal_to_turned : (terms : List Term) (a b : TermId) (width : ℕ) → AreInRange terms → a.index < length terms → IsWidth width → width ≡ width_of (tree_in terms a)
    → ((v : ℕ → ℕ → ℕ) → term_at v terms b ≡ 2 ^ width_of (tree_in terms a) - 1 - term_at v terms a)
    → Simplifies terms (tree.Binary op.Eq (tree_in terms a) (tree_in terms b) (width_of (tree_in terms a))) (Built (term.Constant 0 1))
equal_to_turned terms a b width range la is e h = constant_form terms _ 0 1 (omega arith, omega arith) (lit< tt) refl
    (λ v. ap (λ y. digit (eqb (term_at v terms a) y)) (h v) ∙ apart (term_at v terms a) (width_of (tree_in terms a)) (subst (λ k. 1 ≤ k) e is.0) (range v a la))
