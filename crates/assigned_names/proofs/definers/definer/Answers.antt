use Rattle.assigned_names.proofs.DefinerLemmas.{a_definer, no_definer}
use Rattle.assigned_names.proofs.definers.definer.Goals as goal

pub returns-in-Some : goal.returns-in-Some
returns-in-Some c f known =
    a_definer f c.args.list.now c.args.firsts.now c.args.name c.in-Some.site c.get.result.now known (rw c.in-Some.is at (c.requires.firsts.first.each c.args.name c.requires.within)) c.get.ensures

pub returns-in-None : goal.returns-in-None
returns-in-None c f known = no_definer f c.args.list.now c.args.firsts.now c.args.name known (rw c.in-None.is at (c.requires.firsts.first.each c.args.name c.requires.within))
