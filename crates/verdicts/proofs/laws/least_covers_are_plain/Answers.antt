use Rattle.verdicts.proofs.Meaning.{least_covers_are_plain}
use Rattle.verdicts.proofs.laws.least_covers_are_plain.Goals as goal

pub returns : goal.returns
returns c = least_covers_are_plain
