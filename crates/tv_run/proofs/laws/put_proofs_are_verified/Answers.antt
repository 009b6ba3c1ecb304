use Rattle.tv_run.proofs.Verified.{put_proofs_are_verified}
use Rattle.tv_run.proofs.laws.put_proofs_are_verified.Goals as goal

pub returns : goal.returns
returns c = put_proofs_are_verified c.texts_are_verified.ensures
