use Rattle.report.proofs.FirstRows.{first_rows_are_the_first}
use Rattle.report.proofs.laws.first_rows_are_the_first.Goals as goal

pub returns : goal.returns
returns c = first_rows_are_the_first c.verdicts_are_one.ensures
