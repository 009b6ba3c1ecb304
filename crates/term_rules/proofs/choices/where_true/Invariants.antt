use Rattle.term_rules.proofs.Common.{true, IsArm}
use Rattle.term_rules.proofs.choices.where_true.Given as goal

abbrev pub invariant-loop : goal.invariant-loop
invariant-loop l = IsArm l.terms l.c true l.fn.a l.at
