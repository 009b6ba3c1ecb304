use Rattle.ir_tree.proofs.Refusals.{one_refusal, never_well_formed}
use Rattle.ir_tree.proofs.laws.is_one_refusal.Goals as goal

pub returns : goal.returns
returns c = record { one = one_refusal; never = never_well_formed }
