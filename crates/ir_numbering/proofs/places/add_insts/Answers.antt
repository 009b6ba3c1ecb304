use Rattle.ir_numbering.proofs.Common.{arith, inst_places}
use Rattle.ir_numbering.proofs.Each.{flat-more}
use Rattle.ir_numbering.proofs.places.add_insts.Goals as goal

pub loop-inst-preserved : goal.loop-inst-preserved
loop-inst-preserved c = flat-more inst_places c.args.insts.now c.loop-inst.inst-index c.inst-item.result c.loop-inst.places c.add_inst.new.places _ (omega arith) c.inst-item.is c.in_ok-add_inst.ensures c.loop-inst.invariant
