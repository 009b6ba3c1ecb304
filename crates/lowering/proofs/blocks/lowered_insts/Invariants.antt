use Rattle.std.proofs.Common.{◌≡◌, ◌++◌, drop}
use Rattle.std.specs.List.{flat_map}
use Rattle.lowering.specs.Lowered.{lowered_inst}
use Rattle.lowering.proofs.blocks.lowered_insts.Given as goal

abbrev pub invariant-loop-inst : goal.invariant-loop-inst
invariant-loop-inst l =
    l.lowered ++ flat_map (lowered_inst l.plan.f.now) (drop l.inst-index l.insts) ≡ flat_map (lowered_inst l.plan.f.now) l.insts
