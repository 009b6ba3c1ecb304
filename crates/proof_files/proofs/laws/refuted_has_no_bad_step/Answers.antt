use Rattle.proof_files.proofs.Verified.{no_bad_step}
use Rattle.proof_files.proofs.laws.refuted_has_no_bad_step.Goals as goal

pub returns : goal.returns
returns c = no_bad_step
