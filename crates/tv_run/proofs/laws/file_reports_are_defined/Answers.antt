use Rattle.tv_run.proofs.OneReport.{file_reports_are_defined}
use Rattle.tv_run.proofs.laws.file_reports_are_defined.Goals as goal

pub returns : goal.returns
returns c = file_reports_are_defined c.is_one_module.ensures.modules c.rows_are_one.ensures
