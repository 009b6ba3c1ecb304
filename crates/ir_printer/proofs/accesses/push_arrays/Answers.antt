use Rattle.ir_printer.proofs.Common.{◌++◌, ◌∙◌, ap, sym}
use Rattle.ir_printer.proofs.Texts.{all_done, array_text, arrays-text}
use Rattle.ir_printer.proofs.accesses.push_arrays.Goals as goal

pub returns : goal.returns
returns c =
    all_done array_text c.args.lengths.now c.loop-length.length-index _ _ c.loop-length-test.false c.loop-length.invariant
    ∙ ap (λ t. c.args.out.now.items ++ t) (sym (arrays-text c.args.lengths.now))
