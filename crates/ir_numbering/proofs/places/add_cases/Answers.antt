use Rattle.ir_numbering.proofs.Common.{arith, case_places}
use Rattle.ir_numbering.proofs.Each.{flat-more}
use Rattle.ir_numbering.proofs.places.add_cases.Goals as goal

pub loop-case-preserved : goal.loop-case-preserved
loop-case-preserved c = flat-more case_places c.args.cases.now c.loop-case.case-index c.case-item.result c.loop-case.places c.add_three.new.places _ (omega arith) c.case-item.is c.in_ok-add_three.ensures c.loop-case.invariant
