-- How it is shown that a form simplifies a tree.
use Rattle.term_rules.proofs.Common.{ap, ℕ, ◌≡◌, ◌<◌, ◌≤◌, ◌^◌, List, get_or, arith, ◌∙◌, sym, TermId, Term, Tree, value_of, width_of, IsWidth, tree_in, trees_of, weight_of, Form, Built, Simplifies}
use Rattle.bv_terms.specs.declared.term.Term.TheVariants as term
use Rattle.bv_terms.specs.Tree as tree
use Rattle.term_rules.proofs.Stored.{weight_positive}

-- terms of one index have one tree
pub same_tree : (terms : List Term) (a b : TermId) → a.index ≡ b.index → tree_in terms a ≡ tree_in terms b
same_tree terms a b e = ap (λ i. get_or (trees_of terms) i (tree.Constant 0 1)) e

-- a constant has no more nodes than anything
pub constant_form : (terms : List Term) (plain : Tree) (n width : ℕ) → IsWidth width → n < 2 ^ width → width ≡ width_of plain → ((v : ℕ → ℕ → ℕ) → value_of v plain ≡ n)
    → Simplifies terms plain (Built (term.Constant n width))
constant_form terms plain n width is fits wide says = record {
  fit = record { within = (is, fits); matched = tt; operation = tt };
  wide = wide;
  says = λ v. sym (says v);
  least = weight_positive plain;
}

-- what simplifies a tree simplifies one that is as wide, has its values, and no fewer nodes
pub simplifies_like : (terms : List Term) (p q : Tree) (form : Form) → Simplifies terms p form → width_of p ≡ width_of q
    → ((v : ℕ → ℕ → ℕ) → value_of v p ≡ value_of v q) → weight_of p ≤ weight_of q → Simplifies terms q form
simplifies_like terms p q form s wide says least = record {
  fit = s.fit;
  wide = s.wide ∙ wide;
  says = λ v. s.says v ∙ says v;
  least = omega (arith, s.least, least);
}
