use Rattle.std.proofs.Common.{◌≡◌, ◌++◌, map, drop}
use Rattle.ir_tree.specs.declared.tree.Phi.{Phi}
use Rattle.assigned_names.proofs.assigning.push_phis.Given as goal

abbrev pub invariant-loop-phi : goal.invariant-loop-phi
invariant-loop-phi l = l.names ++ map (λ (phi : Phi). phi.into) (drop l.phi-index l.phis) ≡ l.fn.names ++ map (λ (phi : Phi). phi.into) l.phis
