-- Functions that the reader accepts can be lowered.
use Rattle.ir_tree.specs.declared.tree.Function.{Function}
use Rattle.ir_reader.specs.Judgeable.{IsJudgeable}
use Rattle.lowering.specs.Lowered.{CanBeLowered}
use Rattle.lowering.proofs.Accepted.{accepted_can_be_lowered}

pub judgeable_lowered : (f : Function) → IsJudgeable f → CanBeLowered f
judgeable_lowered f h = accepted_can_be_lowered f h.numbered h.well_formed h.limits h.numbers h.undefs
