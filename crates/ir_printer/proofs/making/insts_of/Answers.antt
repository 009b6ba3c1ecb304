use Rattle.ir_printer.proofs.Common.{◌≡◌, ◌++◌, ◌∷◌, [], ◌∙◌, arith, common_steps}
use Rattle.ir_printer.proofs.Drawing.{drawn_inst, insts_more, state_more}
use Rattle.ir_printer.proofs.making.insts_of.Goals as goal

pub loop-i-preserved : goal.loop-i-preserved
loop-i-preserved c =
    let x = c.loop-i.generator.state in
    let draw = c.draw_inst-draw in
    let pushed : c.push.new.self.items ≡ c.loop-i.made.items ++ c.inst_of.result ∷ [] = grind (arith, common_steps) in
    record {
      made =
          insts_more c.args.in_target c.args.insts c.loop-i.i x draw.new.generator.state c.inst_of.result c.loop-i.made.items c.push.new.self.items _ c.loop-i-test.true draw.ensures.state
          (c.inst_of.ensures ∙ drawn_inst c.args.in_target draw.result.exchanged c.loop-i.i x draw.result.op draw.result.left draw.result.right draw.ensures.op draw.ensures.left draw.ensures.right draw.ensures.exchanged)
          pushed c.loop-i.invariant.made;
      state = state_more c.args.insts c.loop-i.i x draw.new.generator.state _ c.loop-i-test.true draw.ensures.state c.loop-i.invariant.state;
    }
