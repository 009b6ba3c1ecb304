-- The clauses so far.
use Rattle.sat_restarts.proofs.Common.{◌≡◌, take}
use Rattle.sat_restarts.proofs.bits.duplicates.Given as goal

abbrev pub invariant-loop-clause : goal.invariant-loop-clause
invariant-loop-clause l = l.all ≡ take l.clause-index l.clauses
