-- The weights so far are right, so the sum is.
use Rattle.std.proofs.Common.{◌∙◌}
use Rattle.term_folds.proofs.Weights.{weight_stands}
use Rattle.term_folds.proofs.weigh.WeighTermFold.node.Goals as goal

pub returns-clause-stands : goal.returns-clause-stands
returns-clause-stands c = λ trees stood fit. c.weight.ensures ∙ weight_stands trees c.args.done.now stood c.args.term.now fit
