use Rattle.std.proofs.Common.{◌∙◌, sym}
use Rattle.assigned_names.proofs.DefinerLemmas.{block_at, no_block_at}
use Rattle.assigned_names.proofs.definers.block_of_part.Goals as goal

pub returns-in-Some : goal.returns-in-Some
returns-in-Some c label found = block_at c.args.f.now label c.args.part c.in-Some.block (sym c.label_of.ensures ∙ c.in-Some.is) found

pub returns-in-None : goal.returns-in-None
returns-in-None c label found = c.len.ensures ∙ no_block_at c.args.f.now label c.args.part (sym c.label_of.ensures ∙ c.in-None.is) found
