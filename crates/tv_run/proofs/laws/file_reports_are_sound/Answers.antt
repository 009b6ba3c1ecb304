use Rattle.tv_run.proofs.Soundness.{file_reports_are_sound}
use Rattle.tv_run.proofs.laws.file_reports_are_sound.Goals as goal

pub returns : goal.returns
returns c = file_reports_are_sound c.reports_are_sound.ensures
