use Rattle.ir_printer.proofs.Common.{arith, common_steps}
use Rattle.ir_printer.proofs.Drawing.{names_more}
use Rattle.ir_printer.proofs.making.push_names.Goals as goal

pub loop-i-preserved : goal.loop-i-preserved
loop-i-preserved c =
    names_more c.args.insts c.loop-i.i c.loop-i.names c.number-in-loop-i.new.self _ c.loop-i-test.true (grind (arith, common_steps)) c.loop-i.invariant
