use Rattle.ir_numbering.proofs.Common.{arith, phi_places}
use Rattle.ir_numbering.proofs.Each.{flat-more}
use Rattle.ir_numbering.proofs.places.add_phis.Goals as goal

pub loop-phi-preserved : goal.loop-phi-preserved
loop-phi-preserved c = flat-more phi_places c.args.phis.now c.loop-phi.phi-index c.phi-item.result c.loop-phi.places c.add_phi.new.places _ (omega arith) c.phi-item.is c.in_ok-add_phi.ensures c.loop-phi.invariant
