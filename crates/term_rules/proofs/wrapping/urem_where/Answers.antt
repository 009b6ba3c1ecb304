use Rattle.term_rules.proofs.Common.{arith}
use Rattle.term_rules.proofs.wrapping.urem_where.Goals as goal

pub returns-then-is_multiple-clause-least : goal.returns-then-is_multiple-clause-least
returns-then-is_multiple-clause-least c = omega (arith, c.in_ok-id.ensures.least)

pub returns-in-Some-clause-least : goal.returns-in-Some-clause-least
returns-in-Some-clause-least c = omega (arith, c.in_ok-id-2.ensures.least, c.in-Some.ensures.least)
