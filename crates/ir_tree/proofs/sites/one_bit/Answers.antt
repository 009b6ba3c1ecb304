use Rattle.ir_tree.proofs.Common.{one_bit}
use Rattle.ir_tree.proofs.Widths.{same_width}
use Rattle.ir_tree.proofs.sites.one_bit.Goals as goal

pub returns : goal.returns
returns c = same_width c.of.result one_bit c.of.ensures
