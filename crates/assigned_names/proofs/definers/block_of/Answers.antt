use Rattle.std.proofs.Common.{◌∙◌}
use Rattle.assigned_names.proofs.DefinerLemmas.{no_block}
use Rattle.assigned_names.proofs.definers.block_of.Goals as goal

pub returns-in-Some : goal.returns-in-Some
returns-in-Some c = c.block_of_part.ensures c.args.label (rw c.in-Some.is at (c.definer.ensures c.args.f.now c.requires.known))

pub returns-in-None : goal.returns-in-None
returns-in-None c = c.len.ensures ∙ no_block c.args.f.now c.args.label (rw c.in-None.is at (c.definer.ensures c.args.f.now c.requires.known))
