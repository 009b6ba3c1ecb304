use Rattle.std.proofs.Common.{◌≡◌, drop}
use Rattle.std.specs.List.{list_any}
use Rattle.report.specs.Rows.{ends}
use Rattle.module_rows.proofs.rows.has_ended.Given as goal

abbrev pub invariant-loop-row : goal.invariant-loop-row
invariant-loop-row l = list_any (ends l.first) l.rows ≡ list_any (ends l.first) (drop l.row-index l.rows)
