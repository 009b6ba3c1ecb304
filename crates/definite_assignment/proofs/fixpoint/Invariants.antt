use Rattle.definite_assignment.proofs.Common.{◌≡◌, length, places_for, IsSearch, rest_of, state_of}
use Rattle.definite_assignment.proofs.fixpoint.Given as goal

abbrev pub invariant-loop : goal.invariant-loop
invariant-loop l = record { search : IsSearch l.successors l.assigns (length l.leaving) (state_of l.work); room : length l.leaving ≡ places_for l.names }

abbrev pub decreases-loop : goal.decreases-loop
decreases-loop l = rest_of (state_of l.work)
