use Rattle.ir_tree.proofs.Leaves.{counts_agree, counts_least}
use Rattle.ir_tree.proofs.laws.are_least_counts.Goals as goal

pub returns : goal.returns
returns c = record { agree = counts_agree; least = counts_least }
