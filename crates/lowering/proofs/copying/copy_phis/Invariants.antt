use Rattle.std.proofs.Common.{◌≡◌, ◌++◌, drop}
use Rattle.lowering.proofs.copying.copy_phis.Given as goal

abbrev pub invariant-loop-phi : goal.invariant-loop-phi
invariant-loop-phi l = l.copy ++ drop l.phi-index l.phis ≡ l.phis
