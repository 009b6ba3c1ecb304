use Rattle.term_rules.proofs.BitRules.{or_swapped}
use Rattle.term_rules.proofs.bitwise.disjunction.Goals as goal

pub returns-else-are_in_order : goal.returns-else-are_in_order
returns-else-are_in_order c = or_swapped c.args.terms.now c.args.a c.args.b c.requires.alike c.ordered_or-else-are_in_order.result c.ordered_or-else-are_in_order.ensures
