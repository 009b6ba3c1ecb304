use Rattle.std.proofs.Common.{All, take}
use Rattle.clause_lits.specs.Meaning.{IsClause}
use Rattle.proof_files.proofs.writing.are_clauses.Given as goal

abbrev pub invariant-loop-clause : goal.invariant-loop-clause
invariant-loop-clause l = All IsClause (take l.clause-index l.clauses)
