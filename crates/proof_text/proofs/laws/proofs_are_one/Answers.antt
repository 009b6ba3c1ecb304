use Rattle.proof_text.proofs.OneReading.{proofs_are_one}
use Rattle.proof_text.proofs.laws.proofs_are_one.Goals as goal

pub returns : goal.returns
returns c = proofs_are_one
