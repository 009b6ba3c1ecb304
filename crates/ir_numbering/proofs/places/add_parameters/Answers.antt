use Rattle.ir_numbering.proofs.Common.{arith, parameter_places}
use Rattle.ir_numbering.proofs.Each.{flat-more}
use Rattle.ir_numbering.proofs.places.add_parameters.Goals as goal

pub loop-parameter-preserved : goal.loop-parameter-preserved
loop-parameter-preserved c = flat-more parameter_places c.args.parameters.now c.loop-parameter.parameter-index c.parameter-item.result c.loop-parameter.places c.add_parameter.new.places _ (omega arith) c.parameter-item.is c.in_ok-add_parameter.ensures c.loop-parameter.invariant
