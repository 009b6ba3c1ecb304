use Rattle.register_slots.proofs.Common.{◌≡◌, ◌++◌, map, drop, inst_in}
use Rattle.register_slots.proofs.renaming.insts_in.Given as goal

abbrev pub invariant-loop-inst : goal.invariant-loop-inst
invariant-loop-inst l = l.renamed ++ map (inst_in l.slots) (drop l.inst-index l.insts) ≡ map (inst_in l.slots) l.insts
