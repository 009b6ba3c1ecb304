-- Why the rules of choices are right.
use Rattle.term_rules.proofs.Common.{ap, ℕ, ◌≡◌, ◌<◌, ◌+◌, ◌-◌, ◌^◌, Bool, true, false, cond, not, List, length, arith, ◌∙◌, sym, subst, refl, inl, inr, bit_and, bit_or, and_zero_l, or_zero_l, cases_eq, and_comm, or_comm, TermId, Term, Tree, value_of, width_of, truth, AreInRange, bit_at, term_at, tree_in, weight_of, Form, Built, Simplifies}
use Rattle.bv_terms.specs.declared.term.BinaryOp.TheVariants as op
use Rattle.bv_terms.specs.declared.term.Term.TheVariants as term
use Rattle.bv_terms.specs.Tree as tree
use Rattle.term_rules.proofs.Simplifying.{simplifies_like}
use Rattle.term_rules.proofs.BitRules.{and_ones, or_ones}

-- ---- truths as numbers

either_is : (c b : ℕ) → c < 2 → b < 2 → bit_or c b ≡ cond (truth c) 1 b
either_is c b lc lb = elim (cases_eq c 0) [
  | inl none ↦ rw none (or_zero_l b)
  | inr some ↦ let one : c ≡ 1 = omega (arith, some) in rw one (or_comm 1 b ∙ or_ones b 1 lb)
]

both_are : (c a : ℕ) → c < 2 → a < 2 → bit_and c a ≡ cond (truth c) a 0
both_are c a lc la = elim (cases_eq c 0) [
  | inl none ↦ rw none (and_zero_l a)
  | inr some ↦ let one : c ≡ 1 = omega (arith, some) in rw one (and_comm 1 a ∙ and_ones a 1 la)
]

turned_truth : (x : ℕ) → x < 2 → truth (2 ^ 1 - 1 - x) ≡ not (truth x)
turned_truth x lt = elim (cases_eq x 0) [
  | inl none ↦ rw none refl
  | inr some ↦ let one : x ≡ 1 = omega (arith, some) in rw one refl
]

cond-not : (b : Bool) (x y : ℕ) → cond (not b) x y ≡ cond b y x
cond-not true x y = refl
cond-not false x y = refl

module _ (terms : List Term) (c a b : TermId) (range : AreInRange terms) (lc : c.index < length terms) (la : a.index < length terms) (lb : b.index < length terms)
    (bit : width_of (tree_in terms c) ≡ 1) where
  below : (x : TermId) → x.index < length terms → width_of (tree_in terms x) ≡ 1 → (v : ℕ → ℕ → ℕ) → term_at v terms x < 2
  below x lt e v = subst (λ n. term_at v terms x < 2 ^ n) e (range v x lt)

  pub choice_or : (first : width_of (tree_in terms a) ≡ 1) → (second : width_of (tree_in terms b) ≡ 1) → (n : ℕ) → n ≡ 1 → ((v : ℕ → ℕ → ℕ) → term_at v terms a ≡ n)
      → Simplifies terms (tree.Ite (tree_in terms c) (tree_in terms a) (tree_in terms b) (width_of (tree_in terms a))) (Built (term.Binary op.Or c b 1))
  choice_or first second n one h = record {
    fit = record { within = ((omega arith, omega arith), lc, lb); matched = (bit, second); operation = tt };
    wide = sym first;
    says = λ v. either_is (term_at v terms c) (term_at v terms b) (below c lc bit v) (below b lb second v)
        ∙ ap (λ k. cond (bit_at v terms c) k (term_at v terms b)) (sym (h v ∙ one));
    least = omega arith;
  }

  pub choice_and : (first : width_of (tree_in terms a) ≡ 1) → (n : ℕ) → n ≡ 0 → ((v : ℕ → ℕ → ℕ) → term_at v terms b ≡ n)
      → Simplifies terms (tree.Ite (tree_in terms c) (tree_in terms a) (tree_in terms b) (width_of (tree_in terms a))) (Built (term.Binary op.And c a 1))
  choice_and first n none h = record {
    fit = record { within = ((omega arith, omega arith), lc, la); matched = (bit, first); operation = tt };
    wide = sym first;
    says = λ v. both_are (term_at v terms c) (term_at v terms a) (below c lc bit v) (below a la first v)
        ∙ ap (λ k. cond (bit_at v terms c) (term_at v terms a) k) (sym (h v ∙ none));
    least = omega arith;
  }

  -- the condition is the inverse of another
  pub choice_turned : (t : TermId) (width : ℕ) (form : Form) → t.index < length terms → width_of (tree_in terms t) ≡ width → tree.Not (tree_in terms t) width ≡ tree_in terms c
      → width_of (tree_in terms a) ≡ width_of (tree_in terms b)
      → Simplifies terms (tree.Ite (tree_in terms t) (tree_in terms b) (tree_in terms a) (width_of (tree_in terms b))) form
      → Simplifies terms (tree.Ite (tree_in terms c) (tree_in terms a) (tree_in terms b) (width_of (tree_in terms a))) form
  choice_turned t width form lt wide is alike s =
      let one : width ≡ 1 = ap width_of is ∙ bit in
      let says : (v : ℕ → ℕ → ℕ) → bit_at v terms c ≡ not (bit_at v terms t) = λ v.
      ap (λ (x : Tree). truth (value_of v x)) (sym is) ∙ (ap (λ k. truth (2 ^ k - 1 - term_at v terms t)) one ∙ turned_truth (term_at v terms t) (below t lt (wide ∙ one) v)) in
      let weight : weight_of (tree_in terms c) ≡ 1 + weight_of (tree_in terms t) = ap weight_of (sym is) in
      simplifies_like terms _ _ form s (sym alike)
      (λ v. sym (ap (λ k. cond k (term_at v terms a) (term_at v terms b)) (says v) ∙ cond-not (bit_at v terms t) (term_at v terms a) (term_at v terms b)))
      (omega (arith, weight))
