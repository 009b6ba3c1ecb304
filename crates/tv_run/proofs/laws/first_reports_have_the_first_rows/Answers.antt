use Rattle.tv_run.proofs.OneReport.{first_reports_have_the_first_rows}
use Rattle.tv_run.proofs.laws.first_reports_have_the_first_rows.Goals as goal

pub returns : goal.returns
returns c = first_reports_have_the_first_rows c.first_rows_are_the_first.ensures
