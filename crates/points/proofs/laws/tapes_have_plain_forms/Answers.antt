use Rattle.points.proofs.Plain.{tapes_have_plain_forms}
use Rattle.points.proofs.laws.tapes_have_plain_forms.Goals as goal

pub returns : goal.returns
returns c = tapes_have_plain_forms
