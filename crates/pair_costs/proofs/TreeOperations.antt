-- The operation that makes a name which carries undef: its cost is that of the name's tree, with its operands.
use Rattle.std.proofs.Common.{◌≡◌, ◌⊎◌, ◌+◌, ◌*◌, ◌<◌, ◌≤◌, ℕ, true, [], ◌∷◌, length, sum_by, Option, Some, None, inl, inr, refl, sym, ◌∙◌, ap, arith}
use Rattle.std.proofs.lemmas.Bool.{cases_lt}
use Rattle.std.proofs.lemmas.List.{get_or_past}
use Rattle.std.proofs.lemmas.List.Sums.{sum_by-cons}
use Rattle.std.proofs.Math.Nat.{mul-le-mul_right}
use Rattle.tv_num.specs.declared.Width.{Width}
use Rattle.ir_tree.specs.declared.tree.IrType.{IrType}
use Rattle.ir_tree.specs.declared.tree.IrType.TheVariants as type
use Rattle.ir_tree.specs.declared.tree.Op.{Op}
use Rattle.ir_tree.specs.declared.tree.Op.TheVariants.{Add, Sub, Mul, UnsignedDiv, UnsignedRem, SignedDiv, SignedRem, ShiftLeft, LogicalShiftRight, ArithmeticShiftRight, And, Or, Xor}
use Rattle.ir_tree.specs.declared.tree.Operand.{Operand}
use Rattle.ir_tree.specs.declared.tree.Operand.TheVariants.{Local, Poison}
use Rattle.ir_tree.specs.declared.tree.Inst.{Inst}
use Rattle.ir_tree.specs.declared.tree.Inst.TheVariants as inst
use Rattle.ir_tree.specs.declared.tree.Function.{Function}
use Rattle.ir_tree.specs.Carrying.{carried_by, carried_from, carries, insts_of, leaf_count}
use Rattle.lowering.specs.declared.operations.Operation.{Operation}
use Rattle.lowering.specs.declared.operations.Operation.TheVariants.{Other}
use Rattle.lowering.specs.declared.plan.Plan.{Plan}
use Rattle.lowering.specs.Lowered.{HasFewLeaves, maker_of}
use Rattle.lowering.specs.Operations.{operation_of}
use Rattle.lowering.specs.Plan.{IsPlan}
use Rattle.lowering.proofs.Enough.{carries_poison}
use Rattle.lowering.proofs.TaskLemmas.{leaves-sum}
use Rattle.verdicts.specs.Weight.{op_cost, type_width, made_cost, tree_cost}
use Rattle.pair_costs.specs.Trees.{operands_in, operation_cost}
use Rattle.pair_costs.proofs.TreeCosts.{cost_none, some_leaves}

-- the costs of the operands, in one sum
abbrev pub operand_costs : (Operand → ℕ) → Operation → ℕ
operand_costs cost operation = cost (operands_in operation).0 + (cost (operands_in operation).1 + cost (operands_in operation).2)

sum-two : (g : Operand → ℕ) (a b : Operand) → sum_by g (a ∷ b ∷ []) ≡ g a + g b
sum-two g a b = rw (sum_by-cons g a (b ∷ []), sum_by-cons g b []) (omega arith)

sum-three : (g : Operand → ℕ) (a b c : Operand) → sum_by g (a ∷ b ∷ c ∷ []) ≡ g a + (g b + g c)
sum-three g a b c = rw (sum_by-cons g a (b ∷ c ∷ []), sum-two g b c) refl

sum-one : (g : Operand → ℕ) (a : Operand) → sum_by g (a ∷ []) ≡ g a
sum-one g a = rw (sum_by-cons g a []) (omega arith)

some-square : (w : Width) → 0 < w.bits * w.bits
some-square w = let some = w.at_least_1 in let m : 1 * w.bits ≤ w.bits * w.bits = mul-le-mul_right w.bits some in omega (arith, some, m)

some-op : (op : Op) (w : Width) → 0 < op_cost op w.bits
some-op (Add flags) w = w.at_least_1
some-op (Sub flags) w = w.at_least_1
some-op (Mul flags) w = some-square w
some-op (UnsignedDiv exact) w = some-square w
some-op UnsignedRem w = some-square w
some-op (SignedDiv exact) w = some-square w
some-op SignedRem w = some-square w
some-op (ShiftLeft flags) w = w.at_least_1
some-op (LogicalShiftRight exact) w = w.at_least_1
some-op (ArithmeticShiftRight exact) w = w.at_least_1
some-op And w = w.at_least_1
some-op (Or disjoint) w = w.at_least_1
some-op Xor w = w.at_least_1

some-width : (t : IrType) → 0 < type_width t
some-width (type.Int width) = width.at_least_1
some-width type.Ptr = omega arith

-- a maker that carries something is an operation, and costs something
pub record IsOperation (cost : Operand → ℕ) (maker : Option Inst) : Type 0 where
  pub is : made_cost cost maker ≡ operation_cost (operation_of maker) + operand_costs cost (operation_of maker)
  pub some : 0 < operation_cost (operation_of maker)

is-operation : (cost leaves : Operand → ℕ) → cost Poison ≡ 0 → (maker : Option Inst) → 0 < sum_by leaves (carried_from maker) → IsOperation cost maker
is-operation cost leaves none None some = absurd (omega (arith, some))
is-operation cost leaves none (Some (inst.Binary into op width left right)) some = record {
  is = let sum = sum-two cost left right in omega (arith, sum, none);
  some = some-op op width;
}
is-operation cost leaves none (Some (inst.Icmp into predicate same_sign width left right)) some = record {
  is = let sum = sum-two cost left right in omega (arith, sum, none);
  some = width.at_least_1;
}
is-operation cost leaves none (Some (inst.Cast into cast from operand to)) some = record {
  is = let sum = sum-one cost operand in omega (arith, sum, none);
  some = to.at_least_1;
}
is-operation cost leaves none (Some (inst.Select into condition if_true if_false)) some = record {
  is = let sum = sum-three cost condition if_true.operand if_false.operand in omega (arith, sum);
  some = some-width if_true.of_type;
}
is-operation cost leaves none (Some (inst.Freeze into type operand)) some = absurd (omega (arith, some))
is-operation cost leaves none (Some (inst.Alloca into number type align)) some = absurd (omega (arith, some))
is-operation cost leaves none (Some (inst.Load into type pointer align)) some = absurd (omega (arith, some))
is-operation cost leaves none (Some (inst.Store v pointer align)) some = absurd (omega (arith, some))
is-operation cost leaves none (Some (inst.GetElementPtr into inbounds nuw type base indices)) some = absurd (omega (arith, some))

-- a name that carries undef costs its operation, and what the operands of that cost
pub name-cost : (f : Function) → HasFewLeaves f → (name : ℕ) → carries f (Local name) ≡ true → IsOperation (tree_cost f) (maker_of f name)
name-cost f few name does =
    let leaves : 0 < leaf_count f (Local name) = some_leaves (leaf_count f (Local name)) does in
    let sum = leaves-sum f few name in
    let some : 0 < sum_by (leaf_count f) (carried_by (insts_of f) name) = omega (arith, sum, leaves) in
    is-operation (tree_cost f) (leaf_count f) (cost_none f Poison (carries_poison f)) (maker_of f name) some

-- it is in the function's table of names
pub carried-below : (plan : Plan) → IsPlan plan → (name : ℕ) → carries plan.f.now (Local name) ≡ true → name < length plan.f.now.names
carried-below plan is name does = by (cases_lt name (length plan.operations.items))
  where
    by : (name < length plan.operations.items) ⊎ (length plan.operations.items ≤ name) → name < length plan.f.now.names
    by (inl below) = let long = is.names in omega (arith, below, long)
    by (inr past) =
        absurd (let none : Other ≡ operation_of (maker_of plan.f.now name) = sym (get_or_past plan.operations.items name Other past) ∙ is.operations name in
        let some = (name-cost plan.f.now is.few name does).some in
        let same = ap operation_cost none in
        omega (arith, some, same))
