use Rattle.choice_interp.proofs.Common.{◌≡◌, length, breaks_noundef}
use Rattle.choice_interp.proofs.entry.breaks_no_undef.Given as goal

abbrev pub invariant-loop-parameters : goal.invariant-loop-parameters
invariant-loop-parameters l = breaks_noundef l.parameters l.args ≡ breaks_noundef l.fn.parameters l.fn.args

abbrev pub decreases-loop-parameters : goal.decreases-loop-parameters
decreases-loop-parameters l = length l.parameters
