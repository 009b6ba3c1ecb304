use Rattle.module_rows.proofs.Answered.{IsSoFar}
use Rattle.module_rows.proofs.rows.source_rows.Given as goal

abbrev pub invariant-loop-source : goal.invariant-loop-source
invariant-loop-source l = IsSoFar l.first l.judge.bounds l.judge.budget l.targets l.sources l.source-index l.rows.items l.left l.answers
