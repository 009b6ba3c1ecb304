use Rattle.assigned_names.proofs.DefinerLemmas.{assigned_by_part, assigned_by_none}
use Rattle.assigned_names.proofs.definers.is_assigned_in.Goals as goal

pub returns-in-Some : goal.returns-in-Some
returns-in-Some c f b known stands = assigned_by_part f c.args.block c.args.ran c.args.name b c.in-Some.part c.is_behind.result stands (rw c.in-Some.is at (c.definer.ensures f known)) c.is_behind.ensures

pub returns-in-None : goal.returns-in-None
returns-in-None c f b known stands = assigned_by_none f c.args.block c.args.ran c.args.name b stands (rw c.in-None.is at (c.definer.ensures f known))
