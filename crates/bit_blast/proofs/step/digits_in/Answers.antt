use Rattle.std.proofs.Common.{◌∙◌}
use Rattle.bit_blast.proofs.Found.{found_or_none, not_found}
use Rattle.bit_blast.proofs.step.digits_in.Goals as goal

pub returns-in_ok-copy-in-Some : goal.returns-in_ok-copy-in-Some
returns-in_ok-copy-in-Some c = c.in_ok-copy-in-Some.ensures.items ∙ (c.as_slice.ensures ∙ found_or_none c.find.result _ _ c.find.ensures c.in-Some.is)

pub returns-in-None : goal.returns-in-None
returns-in-None c = c.new.ensures.items ∙ not_found c.find.result _ c.find.ensures c.in-None.is
