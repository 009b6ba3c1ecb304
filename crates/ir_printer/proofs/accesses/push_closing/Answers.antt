use Rattle.ir_printer.proofs.Common.{◌++◌, ◌∙◌, ap, sym, arith, common_steps}
use Rattle.ir_printer.proofs.Texts.{all_done, one_more, closing_text, closing-text}
use Rattle.ir_printer.proofs.accesses.push_closing.Goals as goal

pub returns : goal.returns
returns c =
    all_done closing_text c.args.lengths.now c.loop-length.length-index _ _ c.loop-length-test.false c.loop-length.invariant
    ∙ ap (λ t. c.args.out.now.items ++ t) (sym (closing-text c.args.lengths.now))

pub loop-length-preserved : goal.loop-length-preserved
loop-length-preserved c =
    one_more closing_text c.args.lengths.now c.loop-length.length-index 0 c.loop-length.out.items c.extend_from_slice.new.self.items c.args.out.now.items c.loop-length-test.true (grind (arith, common_steps)) c.loop-length.invariant
