-- None of those so far is given to the variable.
use Rattle.std.proofs.Common.{◌≡◌, drop}
use Rattle.term_folds.specs.Evaluation.{assigned_by}
use Rattle.term_folds.proofs.evaluate.Evaluate.assigned.Given as goal

abbrev pub invariant-loop-given : goal.invariant-loop-given
invariant-loop-given l = assigned_by l.self.values l.number l.width ≡ assigned_by (drop l.given-index l.self.values) l.number l.width
