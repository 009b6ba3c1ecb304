use Rattle.ir_numbering.proofs.Common.{◌≡◌, ◌++◌, drop, flat_map, inst_places}
use Rattle.ir_numbering.proofs.places.add_insts.Given as goal

abbrev pub invariant-loop-inst : goal.invariant-loop-inst
invariant-loop-inst l = l.places ++ flat_map inst_places (drop l.inst-index l.insts) ≡ l.fn.places ++ flat_map inst_places l.insts
