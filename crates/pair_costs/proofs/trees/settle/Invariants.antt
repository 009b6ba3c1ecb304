use Rattle.std.proofs.Common.{◌≡◌, length}
use Rattle.ir_tree.specs.declared.tree.Operand.{Operand}
use Rattle.verdicts.specs.Weight.{tree_cost}
use Rattle.pair_costs.specs.Trees.{AreKnown, cost_in}
use Rattle.pair_costs.proofs.PathLemmas.{IsPath, cost_of_name, steps_left}
use Rattle.pair_costs.proofs.trees.settle.Given as goal

abbrev pub invariant-loop-path : goal.invariant-loop-path
invariant-loop-path l = record {
  long : length l.costs.items ≡ length l.fn.costs.items;
  known : AreKnown l.plan.f.now l.costs.items;
  kept : (o : Operand) → cost_in l.fn.costs.items o ≡ tree_cost l.plan.f.now o → cost_in l.costs.items o ≡ tree_cost l.plan.f.now o;
  path : IsPath l.plan.f.now l.costs.items (cost_of_name l.plan.f.now l.root) l.path.items;
}

abbrev pub decreases-loop-path : goal.decreases-loop-path
decreases-loop-path l = steps_left l.plan.f.now l.root l.costs.items l.path.items
