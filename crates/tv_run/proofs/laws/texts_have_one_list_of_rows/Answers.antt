use Rattle.tv_run.proofs.RowsRead.{texts_have_one_list_of_rows}
use Rattle.tv_run.proofs.laws.texts_have_one_list_of_rows.Goals as goal

pub returns : goal.returns
returns c = texts_have_one_list_of_rows
