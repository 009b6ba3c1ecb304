use Rattle.lowering.proofs.PresentRuns.{samples_are_present}
use Rattle.lowering.proofs.laws.samples_are_present.Goals as goal

pub returns : goal.returns
returns c = samples_are_present
