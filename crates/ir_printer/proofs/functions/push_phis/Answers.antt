use Rattle.ir_printer.proofs.Common.{phi_pieces}
use Rattle.ir_printer.proofs.Texts.{all_texts}
use Rattle.ir_printer.proofs.functions.push_phis.Goals as goal

pub returns : goal.returns
returns c = all_texts (phi_pieces c.args.names.now) c.args.phis.now c.loop-phi.phi-index _ _ c.loop-phi-test.false c.loop-phi.invariant
