use Rattle.term_rules.proofs.OrderRules.{quotients-in-order}
use Rattle.term_rules.proofs.comparing.dividends.Goals as goal

pub returns-then-first-second : goal.returns-then-first-second
returns-then-first-second c = quotients-in-order c.args.terms.now c.args.p c.args.a c.args.b c.in_ok-first.first c.in_ok-second.second c.if-first-second.true c.requires.alike c.in_ok-first.ensures c.in_ok-second.ensures
