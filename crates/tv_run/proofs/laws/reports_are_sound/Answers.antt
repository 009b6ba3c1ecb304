use Rattle.tv_run.proofs.Soundness.{reports_are_sound}
use Rattle.tv_run.proofs.laws.reports_are_sound.Goals as goal

pub returns : goal.returns
returns c = reports_are_sound c.correct_holds.ensures c.incorrect_fails.ensures
