-- The answers so far are right, so what is computed from them is.
use Rattle.term_folds.proofs.Values.{small_stands, value_stands}
use Rattle.term_folds.proofs.evaluate.EvaluateTermFold.node.Goals as goal

pub value-requires-clause-small : goal.value-requires-clause-small
value-requires-clause-small c = small_stands c.args.self.now.values c.requires.stood.0 c.args.done.now c.requires.stood.1 c.args.term.now c.requires.stood.2

pub returns-clause-stands : goal.returns-clause-stands
returns-clause-stands c = λ trees stood fit. value_stands c.args.self.now.values trees c.args.done.now stood c.args.term.now c.value.result fit c.value.ensures
