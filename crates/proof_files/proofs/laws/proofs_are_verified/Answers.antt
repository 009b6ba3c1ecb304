use Rattle.proof_files.proofs.Verified.{verified}
use Rattle.proof_files.proofs.laws.proofs_are_verified.Goals as goal

pub returns : goal.returns
returns c = verified
