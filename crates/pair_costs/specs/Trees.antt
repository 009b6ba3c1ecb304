-- What is known of the costs of trees while they are found out.
use Rattle.std.specs.Prelude.{◌≡◌, ◌⊎◌, ◌+◌, ◌==◌, ◌&&◌, ℕ, if◌then◌else◌, List, length, slice_index_or, Option, Some, None}
use Rattle.std.specs.Option.{option_or}
use Rattle.ir_tree.specs.declared.tree.Operand.{Operand}
use Rattle.ir_tree.specs.declared.tree.Operand.TheVariants as operand
use Rattle.ir_tree.specs.declared.tree.Function.{Function}
use Rattle.ir_tree.specs.Carrying.{carries}
use Rattle.ir_tree.specs.Limits.{IsWithinLimits}
use Rattle.lowering.specs.declared.operations.Operation.{Operation}
use Rattle.lowering.specs.declared.operations.Operation.TheVariants.{Binary, Icmp, Cast, Select, Other}
use Rattle.lowering.specs.Lowered.{HasFewLeaves}
use Rattle.verdicts.specs.Weight.{type_width, op_cost, tree_cost}
use Rattle.pair_costs.specs.declared.trees.Trees.{Trees}

-- ---- operations

abbrev pub operation_cost : Operation → ℕ
operation_cost (Binary op width left right) = op_cost op width.bits
operation_cost (Icmp predicate same_sign width left right) = width.bits
operation_cost (Cast cast from o to) = to.bits
operation_cost (Select condition if_true if_false) = type_width if_true.of_type
operation_cost Other = 0

-- the operands whose undef the result carries; where there are fewer than three, the others are poison
abbrev pub operands_in : Operation → Operand × Operand × Operand
operands_in (Binary op width left right) = (left, right, operand.Poison)
operands_in (Icmp predicate same_sign width left right) = (left, right, operand.Poison)
operands_in (Cast cast from o to) = (o, operand.Poison, operand.Poison)
operands_in (Select condition if_true if_false) = (condition, if_true.operand, if_false.operand)
operands_in Other = (operand.Poison, operand.Poison, operand.Poison)

-- ---- tables of costs

-- an entry for each name; nothing else costs anything
abbrev pub cost_in : List ℕ → Operand → ℕ
cost_in costs (operand.Local name) = slice_index_or costs name 0
cost_in costs (operand.Number n) = 0
cost_in costs operand.Null = 0
cost_in costs operand.Poison = 0
cost_in costs operand.Undef = 0

-- what the operation that makes a name costs, with its operands
abbrev pub made_in : List ℕ → Operation → ℕ
made_in costs operation =
    operation_cost operation
    + (cost_in costs (operands_in operation).0 + (cost_in costs (operands_in operation).1 + cost_in costs (operands_in operation).2))

-- each entry is right, or 0, which says that it is not known yet
abbrev pub AreKnown : Function → List ℕ → Type 0
AreKnown f costs = (o : Operand) → (cost_in costs o ≡ 0) ⊎ (cost_in costs o ≡ tree_cost f o)

abbrev pub AreTreeCosts : Function → List ℕ → Type 0
AreTreeCosts f costs = (o : Operand) → cost_in costs o ≡ tree_cost f o

-- a name whose tree's cost is not known yet
abbrev pub unknown : Function → List ℕ → Operand → Option ℕ
unknown f costs (operand.Local name) = if carries f (operand.Local name) && (cost_in costs (operand.Local name) == 0) then Some name else None
unknown f costs (operand.Number n) = None
unknown f costs operand.Null = None
unknown f costs operand.Poison = None
unknown f costs operand.Undef = None

-- the first such name among an operation's operands
abbrev pub unknown_in : Function → List ℕ → Operation → Option ℕ
unknown_in f costs operation =
    option_or (unknown f costs (operands_in operation).0)
    (option_or (unknown f costs (operands_in operation).1) (unknown f costs (operands_in operation).2))

-- a name's cost is known, and the other entries are right where they were
pub record IsSettled (f : Function) (old new : List ℕ) (name : ℕ) : Type 0 where
  pub long : length new ≡ length old
  pub known : AreKnown f new
  pub kept : (o : Operand) → cost_in old o ≡ tree_cost f o → cost_in new o ≡ tree_cost f o
  pub own : cost_in new (operand.Local name) ≡ tree_cost f (operand.Local name)

-- the costs are those of the function's trees
pub record AreTrees (trees : Trees) : Type 0 where
  pub costs : AreTreeCosts trees.f.now trees.costs.items
  pub few : HasFewLeaves trees.f.now
  pub limits : IsWithinLimits trees.f.now
