use Rattle.std.proofs.Common.{◌≡◌, ◌<◌, ℕ, length}
use Rattle.ir_tree.specs.declared.tree.Operand.TheVariants.{Local}
use Rattle.verdicts.specs.Weight.{tree_cost}
use Rattle.pair_costs.specs.Trees.{AreKnown, cost_in}
use Rattle.pair_costs.proofs.trees.tree_costs.Given as goal

abbrev pub invariant-loop-name : goal.invariant-loop-name
invariant-loop-name l = record {
  long : length l.costs.items ≡ length l.plan.f.now.names;
  known : AreKnown l.plan.f.now l.costs.items;
  right : (name : ℕ) → name < l.name → cost_in l.costs.items (Local name) ≡ tree_cost l.plan.f.now (Local name);
}
