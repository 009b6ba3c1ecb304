use Rattle.term_rules.proofs.OrderRules.{products-in-order}
use Rattle.term_rules.proofs.comparing.multiplicands.Goals as goal

pub returns-then-first-second : goal.returns-then-first-second
returns-then-first-second c = products-in-order c.args.terms.now c.args.p c.args.a c.args.b c.in_ok-first.first c.in_ok-second.second c.if-first-second.true c.in_ok-first.ensures c.in_ok-second.ensures
