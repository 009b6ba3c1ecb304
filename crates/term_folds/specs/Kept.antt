-- An answer of an evaluation stays valid while the assignment stays.
use Rattle.std.specs.Prelude.{ℕ, ◌≡◌, List}
use Rattle.std.proofs.Common.{subst, sym}
use Rattle.bv_terms.specs.Tree.{Tree}
use Rattle.term_folds.specs.declared.evaluate.Assigned.{Assigned}
use Rattle.term_folds.specs.declared.evaluate.Evaluate.{Evaluate}
use Rattle.term_folds.specs.Evaluation.{IsValue}

pub stands_kept : (a b : Evaluate) (tree : Tree) (out : ℕ) → b.values ≡ a.values → IsValue a.values tree out → IsValue b.values tree out
stands_kept a b tree out e h = subst (λ (values : List Assigned). IsValue values tree out) (sym e) h
