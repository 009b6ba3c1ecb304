use Rattle.std.proofs.Common.{◌≡◌, ◌<◌, ℕ, false, None, get_or}
use Rattle.pair_driver.specs.Draws.{slot_ends}
use Rattle.pair_driver.proofs.place.first_end.Given as goal

-- none of the slots so far ends the run
abbrev pub invariant-ends : goal.invariant-ends
invariant-ends g l = (i : ℕ) → i < l.index → slot_ends (g.T.Tasks.ending l.tasks) (get_or l.slots i None) ≡ false
