use Rattle.term_rules.proofs.BitRules.{and_turned_round}
use Rattle.term_rules.proofs.bitwise.plain_and.Goals as goal

pub returns-else-are_in_order : goal.returns-else-are_in_order
returns-else-are_in_order c = and_turned_round c.args.terms.now c.args.a c.args.b c.args.width c.requires.wide c.requires.a.within c.requires.a.wide c.requires.b.within c.requires.b.wide
