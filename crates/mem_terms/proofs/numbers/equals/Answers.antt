use Rattle.mem_terms.proofs.Bits.{tests-digit}
use Rattle.mem_terms.proofs.numbers.equals.Goals as goal

pub returns-clause-made : goal.returns-clause-made
returns-clause-made c = tests-digit _ c.in_ok-id.id _ c.in_ok-id.ensures.made
