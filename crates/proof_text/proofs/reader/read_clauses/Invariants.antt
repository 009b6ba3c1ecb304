use Rattle.proof_text.proofs.Common.{◌≡◌, ◌-◌, All, length, map, IsClauseOver, clause_line, Clauses, Moves}
use Rattle.proof_text.proofs.reader.read_clauses.Given as goal

abbrev pub invariant-loop-index : goal.invariant-loop-index
invariant-loop-index l = record {
  count : length l.all ≡ l.index;
  fit : All (IsClauseOver l.counts.variables) l.all;
  moves : Moves (Clauses l.counts.variables l.counts.clauses) l.fn.lines (map clause_line l.all) (Clauses l.counts.variables (l.counts.clauses - l.index)) l.lines;
}
