-- What the lowering of a function knows of it.
use Rattle.std.specs.Prelude.{◌≡◌, ℕ, length, Option, Some, None}
use Rattle.ir_tree.specs.Carrying.{insts_of, leaf_count}
use Rattle.ir_tree.specs.declared.tree.Operand.TheVariants.{Local}
use Rattle.ir_tree.specs.declared.tree.TypedOperand.{TypedOperand}
use Rattle.ir_tree.specs.declared.tree.Function.{Function}
use Rattle.undef_uses.specs.Counts.{AreCounts}
use Rattle.lowering.specs.declared.plan.Plan.{Plan}
use Rattle.lowering.specs.Lowered.{HasFewLeaves, placed}
use Rattle.lowering.specs.Operations.{AreOperations}

-- the counts and the operations are those of the function
pub record IsPlan (plan : Plan) : Type 0 where
  pub counts : AreCounts plan.f.now plan.counts.items
  pub operations : AreOperations (insts_of plan.f.now) plan.operations.items
  pub names : length plan.operations.items ≡ length plan.f.now.names
  pub few : HasFewLeaves plan.f.now

abbrev pub typed_placed : Function → ℕ → TypedOperand → TypedOperand
typed_placed f height typed = record { of_type = typed.of_type; operand = placed f height typed.operand }

-- no name has a leaf
abbrev pub HasNoLeaves : Function → Type 0
HasNoLeaves f = (name : ℕ) → leaf_count f (Local name) ≡ 0

-- none where nothing is to be written out
abbrev pub IsPlanOf : Function → Option Plan → Type 0
IsPlanOf f None = HasNoLeaves f
IsPlanOf f (Some plan) = (plan.f.now ≡ f) × IsPlan plan
