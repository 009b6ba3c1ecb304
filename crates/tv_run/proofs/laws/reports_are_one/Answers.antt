use Rattle.tv_run.proofs.OneReport.{reports_are_one}
use Rattle.tv_run.proofs.laws.reports_are_one.Goals as goal

pub returns : goal.returns
returns c = reports_are_one c.is_one_module.ensures.modules c.rows_are_one.ensures
