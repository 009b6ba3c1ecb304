use Rattle.proof_text.proofs.Common.{length}
use Rattle.proof_text.proofs.Clauses.{ClauseRead}
use Rattle.proof_text.proofs.words.clause_in.Given as goal

abbrev pub invariant-loop-word : goal.invariant-loop-word
invariant-loop-word l = ClauseRead l.variables l.line l.literals.items l.rest

abbrev pub decreases-loop-word : goal.decreases-loop-word
decreases-loop-word l = length l.rest
