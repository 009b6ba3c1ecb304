use Rattle.module_rows.proofs.Common.{◌≡◌, drop, ◌++◌, judged_pairs}
use Rattle.module_rows.proofs.rows.pairs_of.Given as goal

abbrev pub invariant-loop-source : goal.invariant-loop-source
invariant-loop-source l = l.pairs.items ++ judged_pairs l.targets (drop l.source-index l.sources) ≡ judged_pairs l.targets l.sources
