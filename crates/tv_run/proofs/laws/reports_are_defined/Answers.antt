use Rattle.tv_run.proofs.OneReport.{reports_are_defined}
use Rattle.tv_run.proofs.laws.reports_are_defined.Goals as goal

pub returns : goal.returns
returns c = reports_are_defined
