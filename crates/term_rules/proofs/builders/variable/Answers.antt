-- A variable is one node.
use Rattle.term_rules.proofs.Common.{ap, arith, weight_of}
use Rattle.bv_terms.specs.declared.term.Term.TheVariants as term
use Rattle.term_sums.proofs.Stored.{tree_stored}
use Rattle.term_rules.proofs.builders.variable.Goals as goal

pub returns-clause-least : goal.returns-clause-least
returns-clause-least c = omega (arith, ap weight_of (tree_stored c.variable.new.self c.in_ok-id.id (term.Variable c.args.number c.args.width) c.as_slice.ensures.fit c.in_ok-id.ensures.stored))
