use Rattle.report.proofs.OneList.{rows_are_one}
use Rattle.report.proofs.laws.rows_are_one.Goals as goal

pub returns : goal.returns
returns c = rows_are_one c.verdicts_are_one.ensures
