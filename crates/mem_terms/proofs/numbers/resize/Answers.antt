use Rattle.std.proofs.Common.{arith}
use Rattle.mem_terms.proofs.Made.{makes-widened}
use Rattle.mem_terms.proofs.numbers.resize.Goals as goal

pub returns-in_ok-id-2-clause-made : goal.returns-in_ok-id-2-clause-made
returns-in_ok-id-2-clause-made c =
    makes-widened c.args.terms.now c.zext.new.terms c.args.a c.in_ok-id-2.id c.args.width c.values_fit.ensures c.requires.within (omega arith) c.in_ok-id-2.ensures.made
