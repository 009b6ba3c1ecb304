use Rattle.term_rules.proofs.Common.{IsSamePart}
use Rattle.term_rules.proofs.widths.innermost.Given as goal

abbrev pub invariant-loop : goal.invariant-loop
invariant-loop l = IsSamePart l.terms l.fn.a l.fn.from l.width l.at
