use Rattle.ir_tree.proofs.Common.{◌≡◌, ◌∷◌, ◌++◌, map, drop, Case}
use Rattle.ir_tree.proofs.flow.switch_targets.Given as goal

abbrev pub invariant-loop-case : goal.invariant-loop-case
invariant-loop-case l = l.labels.items ++ map (λ (case : Case). case.to) (drop l.case-index l.cases) ≡ l.default ∷ map (λ (case : Case). case.to) l.cases
