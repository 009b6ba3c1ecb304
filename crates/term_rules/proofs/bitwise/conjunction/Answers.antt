use Rattle.term_rules.proofs.BitRules.{and_swapped}
use Rattle.term_rules.proofs.bitwise.conjunction.Goals as goal

pub returns-else-are_in_order : goal.returns-else-are_in_order
returns-else-are_in_order c = and_swapped c.args.terms.now c.args.a c.args.b c.requires.alike c.ordered_and-else-are_in_order.result c.ordered_and-else-are_in_order.ensures
