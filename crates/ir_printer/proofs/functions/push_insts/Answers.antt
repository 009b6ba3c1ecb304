use Rattle.ir_printer.proofs.Common.{inst_pieces}
use Rattle.ir_printer.proofs.Texts.{all_texts}
use Rattle.ir_printer.proofs.functions.push_insts.Goals as goal

pub returns : goal.returns
returns c = all_texts (inst_pieces c.args.names.now) c.args.insts.now c.loop-inst.inst-index _ _ c.loop-inst-test.false c.loop-inst.invariant
