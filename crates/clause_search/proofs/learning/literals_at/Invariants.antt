-- The literals so far.
use Rattle.clause_search.proofs.Common.{◌≡◌, take, opposites_at}
use Rattle.clause_search.proofs.learning.literals_at.Given as goal

abbrev pub invariant-loop-place : goal.invariant-loop-place
invariant-loop-place l = l.literals.items ≡ opposites_at l.trail l.fn.literal (take l.place-index l.places)
