use Rattle.ir_printer.proofs.Common.{◌≡◌, ◌++◌, ◌∷◌, [], arith, common_steps}
use Rattle.ir_printer.proofs.Drawing.{entries_more}
use Rattle.ir_printer.proofs.making.module_of.Goals as goal

pub loop-k-preserved : goal.loop-k-preserved
loop-k-preserved c =
    let pushed : c.push.new.self.items ≡ c.loop-k.entries.items ++ c.in_ok-entry_of.field-0 ∷ [] = grind (arith, common_steps) in
    entries_more c.args.in_target c.args.insts c.args.functions c.loop-k.k c.loop-k.generator.state c.entry_of.new.generator.state c.in_ok-entry_of.field-0 c.loop-k.entries.items
    c.push.new.self.items _ c.loop-k-test.true c.in_ok-entry_of.ensures.state c.in_ok-entry_of.ensures.entry pushed c.loop-k.invariant
