use Rattle.ir_grammar.proofs.Common.{one_bit}
use Rattle.ir_words.proofs.Widths.{same_width}
use Rattle.ir_grammar.proofs.instructions.one_bit.Goals as goal

pub returns : goal.returns
returns c = same_width c.of.result one_bit c.of.ensures
