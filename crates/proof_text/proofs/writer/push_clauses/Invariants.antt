use Rattle.proof_text.proofs.Common.{◌≡◌, ◌++◌, map, take, clause_line, ended}
use Rattle.proof_text.proofs.writer.push_clauses.Given as goal

abbrev pub invariant-loop-clause : goal.invariant-loop-clause
invariant-loop-clause l = l.out.items ≡ l.fn.out.items ++ ended (map clause_line (take l.clause-index l.clauses))
