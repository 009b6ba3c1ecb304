-- The clauses of the chain so far are the same.
use Rattle.log_tidy.proofs.Common.{length, take, standing, AreSame, new_number}
use Rattle.log_tidy.proofs.linking.are_same.Given as goal

abbrev pub invariant-loop-number : goal.invariant-loop-number
invariant-loop-number l =
    AreSame (new_number (length l.clauses) l.numbers) (standing l.clauses l.earlier) (standing l.clauses l.kept) (take l.number-index l.chain)
