use Rattle.term_rules.proofs.Common.{false, IsArm}
use Rattle.term_rules.proofs.choices.where_false.Given as goal

abbrev pub invariant-loop : goal.invariant-loop
invariant-loop l = IsArm l.terms l.c false l.fn.a l.at
