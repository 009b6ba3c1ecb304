use Rattle.std.proofs.Common.{◌≡◌, ◌+◌, ◌≤◌, drop}
use Rattle.report.specs.Status.{count}
use Rattle.report.proofs.status.count.Given as goal

abbrev pub invariant-loop-row : goal.invariant-loop-row
invariant-loop-row l = record {
  so_far : l.count + count l.class (drop l.row-index l.rows) ≡ count l.class l.rows;
  small : l.count ≤ l.row-index;
}
