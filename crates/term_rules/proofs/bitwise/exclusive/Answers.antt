use Rattle.term_rules.proofs.BitRules.{xor_swapped}
use Rattle.term_rules.proofs.bitwise.exclusive.Goals as goal

pub returns-else-are_in_order : goal.returns-else-are_in_order
returns-else-are_in_order c = xor_swapped c.args.terms.now c.args.a c.args.b c.requires.alike c.ordered_xor-else-are_in_order.result c.ordered_xor-else-are_in_order.ensures
