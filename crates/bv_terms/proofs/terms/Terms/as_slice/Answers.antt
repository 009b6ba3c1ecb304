-- The set has no term twice.
use Rattle.std.proofs.Common.{List, subst}
use Rattle.bv_terms.specs.declared.term.Term.{Term}
use Rattle.bv_terms.specs.Trees.{AreDistinct}
use Rattle.bv_terms.proofs.Distinct.{distinct_terms}
use Rattle.bv_terms.proofs.terms.Terms.as_slice.Goals as goal

pub returns-clause-distinct : goal.returns-clause-distinct
returns-clause-distinct c = subst (λ (ts : List Term). AreDistinct ts) c.self.view_is (distinct_terms c.self.inside.terms.keys c.as_slice.ensures.unique)
