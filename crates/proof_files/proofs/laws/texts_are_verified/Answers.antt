use Rattle.proof_files.proofs.Verified.{texts_verified}
use Rattle.proof_files.proofs.laws.texts_are_verified.Goals as goal

pub returns : goal.returns
returns c = texts_verified c.proofs_are_one.ensures
