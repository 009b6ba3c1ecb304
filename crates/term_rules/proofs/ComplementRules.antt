-- Why the rules of terms beside their inverses are right: a form of the smaller operation is one of the whole.
use Rattle.term_rules.proofs.Common.{ℕ, ◌≡◌, List, arith, width_of, tree_in, Term, TermId, Simplifies, Form, IsAndPart, IsOrPart}
use Rattle.bv_terms.specs.declared.term.BinaryOp.TheVariants as op
use Rattle.bv_terms.specs.Tree as tree
use Rattle.term_rules.proofs.Simplifying.{simplifies_like}

pub and_by_part : (terms : List Term) (a b part : TermId) (width : ℕ) (form : Form) → width ≡ width_of (tree_in terms a) → IsAndPart terms a b part
    → Simplifies terms (tree.Binary op.And (tree_in terms a) (tree_in terms part) width) form → Simplifies terms (tree.Binary op.And (tree_in terms a) (tree_in terms b) (width_of (tree_in terms a))) form
and_by_part terms a b part width form e h s = simplifies_like terms _ _ form s e h.says (omega (arith, h.least))

pub or_by_part : (terms : List Term) (a b part : TermId) (width : ℕ) (form : Form) → width ≡ width_of (tree_in terms a) → IsOrPart terms a b part
    → Simplifies terms (tree.Binary op.Or (tree_in terms a) (tree_in terms part) width) form → Simplifies terms (tree.Binary op.Or (tree_in terms a) (tree_in terms b) (width_of (tree_in terms a))) form
or_by_part terms a b part width form e h s = simplifies_like terms _ _ form s e h.says (omega (arith, h.least))
