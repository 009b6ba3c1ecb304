-- A made function has no undef, so no name of it carries any.
use Rattle.read_back.proofs.Common.{◌≡◌, ◌+◌, ◌≤◌, ℕ, min, List, [], ◌∷◌, sum_by, Option, Some, None, refl, sym, append-nil, subst, arith, AllByRecursion, find, Name, Operand, Local, Number, Null, Poison, Undef, Inst, Function, carried_from, carrying_operands, insts_of, leaf_count, leaves_by, makes}
use Rattle.ir_tree.proofs.Leaves.{count-least, found}
use Rattle.read_back.proofs.MadeInsts.{AreMade}
use Rattle.read_back.proofs.MadeWritten.{plain_function}

-- the leaves that an operand has by itself
abbrev own : Operand → ℕ
own Undef = 1
own (Local name) = 0
own (Number k) = 0
own Null = 0
own Poison = 0

-- no operand whose undef an instruction carries is undef
abbrev HasNone : Inst → Type 0
HasNone i = sum_by own (carrying_operands i) ≡ 0

made_none : (i : ℕ) (insts : List Inst) → AreMade i insts → AllByRecursion HasNone insts
made_none i [] h = tt
made_none i (inst ∷ insts) h = (subst HasNone (sym h.0.is) refl, made_none (i + 1) insts h.1)

none_by : (insts : List Inst) → AllByRecursion HasNone insts → (o : Operand) → leaves_by insts own o ≤ own o
none_by insts all (Local name) = by (find (makes name) insts) refl
  where
    by : (o : Option Inst) → find (makes name) insts ≡ o → min 65 (sum_by own (carried_from (find (makes name) insts))) ≤ 0
    by None e = rw e (omega arith)
    by (Some i) e = rw e (let none = found HasNone (makes name) insts (Some i) all e i refl in omega (arith, none))
none_by insts all Undef = omega arith
none_by insts all (Number k) = omega arith
none_by insts all Null = omega arith
none_by insts all Poison = omega arith

pub no_leaves : (n : Name) (insts : List Inst) → AreMade 0 insts → (name : ℕ) → leaf_count (plain_function n insts) (Local name) ≤ 0
no_leaves n insts h name =
    let f : Function = plain_function n insts in
    let all : AllByRecursion HasNone (insts_of f) = subst (AllByRecursion HasNone) (sym (append-nil insts)) (made_none 0 insts h) in
    count-least f own (none_by (insts_of f) all) (Local name)
