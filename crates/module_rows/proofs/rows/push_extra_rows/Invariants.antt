use Rattle.module_rows.proofs.Common.{◌≡◌, drop, ◌++◌, extra_rows}
use Rattle.module_rows.proofs.rows.push_extra_rows.Given as goal

abbrev pub invariant-loop-target : goal.invariant-loop-target
invariant-loop-target l = l.rows.items ++ extra_rows l.sources (drop l.target-index l.targets) ≡ l.fn.rows.items ++ extra_rows l.sources l.targets
