use Rattle.ir_items.proofs.OneCut.{one_cut, cut_apart, one_stop_of_all}
use Rattle.ir_items.proofs.cutting.is_one_cut.Goals as goal

pub returns-clause-items : goal.returns-clause-items
returns-clause-items c = one_cut

pub returns-clause-apart : goal.returns-clause-apart
returns-clause-apart c = cut_apart

pub returns-clause-stops : goal.returns-clause-stops
returns-clause-stops c = one_stop_of_all
