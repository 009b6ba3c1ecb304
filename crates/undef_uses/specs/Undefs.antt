-- Where undef itself may be an operand that is neither frozen nor returned: not of a division, which would divide by 0
-- or not as it is chosen, and of a select only between integers.
use Rattle.std.specs.Prelude.{◌≡◌, Bool, true, false, ◌&&◌, ◌||◌, List, [], ◌∷◌, All}
use Rattle.std.specs.List.{list_any}
use Rattle.ir_tree.specs.declared.tree.Operand.{Operand}
use Rattle.ir_tree.specs.declared.tree.Operand.TheVariants as operand
use Rattle.ir_tree.specs.declared.tree.Inst.{Inst}
use Rattle.ir_tree.specs.declared.tree.Inst.TheVariants.{Binary, Icmp, Cast, Select, Freeze, Alloca, Load, Store, GetElementPtr}
use Rattle.ir_tree.specs.declared.tree.Block.{Block}
use Rattle.ir_tree.specs.declared.tree.Function.{Function}
use Rattle.ir_tree.specs.Carrying.{is_division, is_pointer}

abbrev pub is_undef : Operand → Bool
is_undef operand.Undef = true
is_undef (operand.Local name) = false
is_undef (operand.Number n) = false
is_undef operand.Null = false
is_undef operand.Poison = false

-- undef is an operand of a division
abbrev pub divides_undef : Inst → Bool
divides_undef (Binary into op width left right) = is_division op && (is_undef left || is_undef right)
divides_undef (Icmp into predicate same_sign width left right) = false
divides_undef (Cast into cast from o to) = false
divides_undef (Select into condition if_true if_false) = false
divides_undef (Freeze into type o) = false
divides_undef (Alloca into number type align) = false
divides_undef (Load into type pointer align) = false
divides_undef (Store value pointer align) = false
divides_undef (GetElementPtr into inbounds nuw type base indices) = false

-- a select with an operand that is undef is between integers
abbrev pub HasIntegerUndefs : Inst → Type 0
HasIntegerUndefs (Select into condition if_true if_false) =
    list_any is_undef (condition ∷ if_true.operand ∷ if_false.operand ∷ []) ≡ true
    → (is_pointer if_true.of_type ≡ false) × (is_pointer if_false.of_type ≡ false)
HasIntegerUndefs (Binary into op width left right) = Unit {0}
HasIntegerUndefs (Icmp into predicate same_sign width left right) = Unit {0}
HasIntegerUndefs (Cast into cast from operand to) = Unit {0}
HasIntegerUndefs (Freeze into type operand) = Unit {0}
HasIntegerUndefs (Alloca into number type align) = Unit {0}
HasIntegerUndefs (Load into type pointer align) = Unit {0}
HasIntegerUndefs (Store value pointer align) = Unit {0}
HasIntegerUndefs (GetElementPtr into inbounds nuw type base indices) = Unit {0}

abbrev pub FitsUndef : Inst → Type 0
FitsUndef i = (divides_undef i ≡ false) × HasIntegerUndefs i

abbrev pub UndefsFit : Function → Type 0
UndefsFit f = All (λ (b : Block). All FitsUndef b.insts) f.blocks
