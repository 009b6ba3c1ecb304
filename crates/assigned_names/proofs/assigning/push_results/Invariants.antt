use Rattle.std.proofs.Common.{◌≡◌, ◌++◌, drop}
use Rattle.std.specs.List.{flat_map}
use Rattle.ir_tree.specs.Flow.{results_of}
use Rattle.assigned_names.proofs.assigning.push_results.Given as goal

abbrev pub invariant-loop-inst : goal.invariant-loop-inst
invariant-loop-inst l = l.names ++ flat_map results_of (drop l.inst-index l.insts) ≡ l.fn.names ++ flat_map results_of l.insts
