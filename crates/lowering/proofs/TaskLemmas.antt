-- A stack of tasks: what it computes, how high its registers are, and how many steps are left.
use Rattle.std.proofs.Common.{◌≡◌, ◌⊎◌, ◌+◌, ◌*◌, ◌<◌, ◌≤◌, ◌++◌, ℕ, min, Bool, true, false, nat_lt, List, [], ◌∷◌, length, sum_by, Option, Some, None, inl, inr, refl, sym, ◌∙◌, ap, subst, arith, append-nil, length-append}
use Rattle.std.specs.Prelude.{if◌then◌else◌}
use Rattle.std.specs.List.{AllByRecursion}
use Rattle.std.proofs.lemmas.Bool.{cases_Bool}
use Rattle.std.proofs.lemmas.Bool.Decides.{nat_tests}
use Rattle.std.proofs.lemmas.List.{append_assoc}
use Rattle.std.proofs.lemmas.List.Sums.{sum_by-cons, sum_by-append}
use Rattle.ir_tree.specs.declared.tree.IrType.{IrType}
use Rattle.ir_tree.specs.declared.tree.IrType.TheVariants as type
use Rattle.ir_tree.specs.declared.tree.Operand.{Operand}
use Rattle.ir_tree.specs.declared.tree.Operand.TheVariants.{Local, Number, Null, Poison, Undef}
use Rattle.ir_tree.specs.declared.tree.Inst.{Inst}
use Rattle.ir_tree.specs.declared.tree.Inst.TheVariants.{Binary, Icmp, Cast, Select, Freeze, Alloca, Load, Store, GetElementPtr}
use Rattle.ir_tree.specs.declared.tree.Function.{Function}
use Rattle.ir_tree.specs.Types.{one_bit}
use Rattle.ir_tree.specs.Carrying.{carries, carried_by, carried_from, insts_of, leaf_count}
use Rattle.ir_tree.proofs.Leaves.{counts_agree}
use Rattle.lowering.specs.declared.computing.Task.{Task}
use Rattle.lowering.specs.declared.computing.Task.TheVariants.{Compute, Emit}
use Rattle.lowering.specs.Lowered.{HasFewLeaves, above, computed, computed_from, maker_of}
use Rattle.lowering.specs.Operations.{operation_of}
use Rattle.lowering.specs.Tasks.{operand_tasks, operation_tasks}
use Rattle.lowering.proofs.Enough.{carries_null, carries_number, carries_poison, computed_local, computed_none, computed_undef}

-- ---- what a stack computes

abbrev pub task_insts : Function → Task → List Inst
task_insts f (Compute height type o) = computed f height type o
task_insts f (Emit i) = i ∷ []

-- the last task is done first
abbrev pub stack_insts : Function → List Task → List Inst
stack_insts f [] = []
stack_insts f (task ∷ tasks) = stack_insts f tasks ++ task_insts f task

stack_insts-append : (f : Function) (xs ys : List Task) → stack_insts f (xs ++ ys) ≡ stack_insts f ys ++ stack_insts f xs
stack_insts-append f [] ys = sym (append-nil (stack_insts f ys))
stack_insts-append f (x ∷ xs) ys = ap (λ (is : List Inst). is ++ task_insts f x) (stack_insts-append f xs ys) ∙ append_assoc (stack_insts f ys) (stack_insts f xs) (task_insts f x)

operation_insts : (f : Function) (height : ℕ) (maker : Option Inst) → stack_insts f (operation_tasks f height (operation_of maker)) ≡ computed_from f (computed f) height maker
operation_insts f height None = refl
operation_insts f height (Some (Binary into op width left right)) = refl
operation_insts f height (Some (Icmp into predicate same_sign width left right)) = refl
operation_insts f height (Some (Cast into cast from o to)) = refl
operation_insts f height (Some (Select into condition if_true if_false)) = refl
operation_insts f height (Some (Freeze into type o)) = refl
operation_insts f height (Some (Alloca into number type align)) = refl
operation_insts f height (Some (Load into type pointer align)) = refl
operation_insts f height (Some (Store value pointer align)) = refl
operation_insts f height (Some (GetElementPtr into inbounds nuw type base indices)) = refl

operand_insts : (f : Function) → HasFewLeaves f → (height : ℕ) (type : IrType) (o : Operand) → stack_insts f (operand_tasks f height type o) ≡ computed f height type o
operand_insts f few height type Undef = sym (computed_undef f height type)
operand_insts f few height type (Number n) = sym (computed_none f height type (Number n) (carries_number f n))
operand_insts f few height type Null = sym (computed_none f height type Null (carries_null f))
operand_insts f few height type Poison = sym (computed_none f height type Poison (carries_poison f))
operand_insts f few height type (Local name) = by (cases_Bool (carries f (Local name)))
  where
    chosen : (b : Bool) → carries f (Local name) ≡ b → stack_insts f (operand_tasks f height type (Local name)) ≡ stack_insts f (if b then operation_tasks f height (operation_of (maker_of f name)) else [])
    chosen b e = ap (λ (c : Bool). stack_insts f (if c then operation_tasks f height (operation_of (maker_of f name)) else [])) e

    by : (carries f (Local name) ≡ true) ⊎ (carries f (Local name) ≡ false) → stack_insts f (operand_tasks f height type (Local name)) ≡ computed f height type (Local name)
    by (inl does) = chosen true does ∙ (operation_insts f height (maker_of f name) ∙ sym (computed_local f few height type name does))
    by (inr not') = chosen false not' ∙ sym (computed_none f height type (Local name) not')

-- an operand's tasks in its place
pub computes_on : (f : Function) → HasFewLeaves f → (insts whole : List Inst) (stack rest after : List Task) (height : ℕ) (type : IrType) (o : Operand)
    → stack ≡ rest ++ Compute height type o ∷ [] → after ≡ rest ++ operand_tasks f height type o → insts ++ stack_insts f stack ≡ whole → insts ++ stack_insts f after ≡ whole
computes_on f few insts whole stack rest after height type o was is before =
    let old : stack_insts f stack ≡ computed f height type o ++ stack_insts f rest = ap (stack_insts f) was ∙ stack_insts-append f rest (Compute height type o ∷ []) in
    let new : stack_insts f after ≡ computed f height type o ++ stack_insts f rest =
    ap (stack_insts f) is ∙ (stack_insts-append f rest (operand_tasks f height type o) ∙ ap (λ (is : List Inst). is ++ stack_insts f rest) (operand_insts f few height type o)) in
    ap (λ (is : List Inst). insts ++ is) (new ∙ sym old) ∙ before

-- an instruction after the others
pub emits_on : (f : Function) (insts more whole : List Inst) (stack rest : List Task) (i : Inst)
    → stack ≡ rest ++ Emit i ∷ [] → more ≡ insts ++ i ∷ [] → insts ++ stack_insts f stack ≡ whole → more ++ stack_insts f rest ≡ whole
emits_on f insts more whole stack rest i was is before =
    let old : stack_insts f stack ≡ (i ∷ []) ++ stack_insts f rest = ap (stack_insts f) was ∙ stack_insts-append f rest (Emit i ∷ []) in
    ap (λ (is : List Inst). is ++ stack_insts f rest) is
    ∙ (append_assoc insts (i ∷ []) (stack_insts f rest)
    ∙ (ap (λ (is : List Inst). insts ++ is) (sym old) ∙ before))

-- ---- heights

-- a task's registers are within the most leaves of a name
abbrev pub FitsTask : Function → Task → Type 0
FitsTask f (Compute height type o) = height + leaf_count f o ≤ 64
FitsTask f (Emit i) = Unit {0}

one-more : (n height : ℕ) → (if nat_lt 0 n then height + 1 else height) ≤ height + n
one-more n height = grind (arith, nat_tests)

pub above-le : (f : Function) (height : ℕ) (o : Operand) → above f height o ≤ height + leaf_count f o
above-le f height o = one-more (leaf_count f o) height

sum-one : (g : Operand → ℕ) (a : Operand) → sum_by g (a ∷ []) ≡ g a
sum-one g a = rw (sum_by-cons g a []) (omega arith)

sum-two : (g : Operand → ℕ) (a b : Operand) → sum_by g (a ∷ b ∷ []) ≡ g a + g b
sum-two g a b = rw (sum_by-cons g a (b ∷ []), sum-one g b) refl

sum-three : (g : Operand → ℕ) (a b c : Operand) → sum_by g (a ∷ b ∷ c ∷ []) ≡ g a + (g b + g c)
sum-three g a b c = rw (sum_by-cons g a (b ∷ c ∷ []), sum-two g b c) refl

-- the leaves of a name are those of what it carries
pub leaves-sum : (f : Function) → HasFewLeaves f → (name : ℕ) → leaf_count f (Local name) ≡ sum_by (leaf_count f) (carried_by (insts_of f) name)
leaves-sum f few name =
    let agree : leaf_count f (Local name) ≡ min 65 (sum_by (leaf_count f) (carried_by (insts_of f) name)) = counts_agree f (Local name) in
    let most = few name in
    omega (arith, agree, most)

pair_fits : (f : Function) (height : ℕ) (left right : Operand) → height + sum_by (leaf_count f) (left ∷ right ∷ []) ≤ 64
    → (above f height left + leaf_count f right ≤ 64) × (height + leaf_count f left ≤ 64)
pair_fits f height left right fits =
    let sum = sum-two (leaf_count f) left right in
    let first = above-le f height left in
    (omega (arith, fits, sum, first), omega (arith, fits, sum))

operation_fits : (f : Function) (height : ℕ) (maker : Option Inst) → height + sum_by (leaf_count f) (carried_from maker) ≤ 64 → AllByRecursion (FitsTask f) (operation_tasks f height (operation_of maker))
operation_fits f height None fits = tt
operation_fits f height (Some (Binary into op width left right)) fits = let pair = pair_fits f height left right fits in (tt, (pair.0, (pair.1, tt)))
operation_fits f height (Some (Icmp into predicate same_sign width left right)) fits = let pair = pair_fits f height left right fits in (tt, (pair.0, (pair.1, tt)))
operation_fits f height (Some (Cast into cast from o to)) fits = let sum = sum-one (leaf_count f) o in (tt, (omega (arith, fits, sum), tt))
operation_fits f height (Some (Select into condition if_true if_false)) fits =
    let sum = sum-three (leaf_count f) condition if_true.operand if_false.operand in
    let first = above-le f height condition in
    let second = above-le f (above f height condition) if_true.operand in
    (tt, (omega (arith, fits, sum, first, second), (omega (arith, fits, sum, first), (omega (arith, fits, sum), tt))))
operation_fits f height (Some (Freeze into type o)) fits = tt
operation_fits f height (Some (Alloca into number type align)) fits = tt
operation_fits f height (Some (Load into type pointer align)) fits = tt
operation_fits f height (Some (Store value pointer align)) fits = tt
operation_fits f height (Some (GetElementPtr into inbounds nuw type base indices)) fits = tt

operand_fits : (f : Function) → HasFewLeaves f → (height : ℕ) (type : IrType) (o : Operand) → height + leaf_count f o ≤ 64 → AllByRecursion (FitsTask f) (operand_tasks f height type o)
operand_fits f few height type Undef fits = (tt, tt)
operand_fits f few height type (Number n) fits = tt
operand_fits f few height type Null fits = tt
operand_fits f few height type Poison fits = tt
operand_fits f few height type (Local name) fits = by (carries f (Local name))
  where
    by : (b : Bool) → AllByRecursion (FitsTask f) (if b then operation_tasks f height (operation_of (maker_of f name)) else [])
    by true = operation_fits f height (maker_of f name) (let sum = leaves-sum f few name in omega (arith, fits, sum))
    by false = tt

all-append : (P : Task → Type 0) (xs ys : List Task) → AllByRecursion P xs → AllByRecursion P ys → AllByRecursion P (xs ++ ys)
all-append P [] ys all more = more
all-append P (x ∷ xs) ys all more = (all.0, all-append P xs ys all.1 more)

all-split : (P : Task → Type 0) (xs ys : List Task) → AllByRecursion P (xs ++ ys) → AllByRecursion P xs × AllByRecursion P ys
all-split P [] ys all = (tt, all)
all-split P (x ∷ xs) ys all = let rest = all-split P xs ys all.1 in ((all.0, rest.0), rest.1)

pub rest_fits : (f : Function) (stack rest : List Task) (task : Task) → stack ≡ rest ++ task ∷ [] → AllByRecursion (FitsTask f) stack → AllByRecursion (FitsTask f) rest × FitsTask f task
rest_fits f stack rest task was all = let parts = all-split (FitsTask f) rest (task ∷ []) (subst (AllByRecursion (FitsTask f)) was all) in (parts.0, parts.1.0)

pub fits_on : (f : Function) → HasFewLeaves f → (stack rest after : List Task) (height : ℕ) (type : IrType) (o : Operand)
    → stack ≡ rest ++ Compute height type o ∷ [] → after ≡ rest ++ operand_tasks f height type o → AllByRecursion (FitsTask f) stack → AllByRecursion (FitsTask f) after
fits_on f few stack rest after height type o was is all =
    let parts = rest_fits f stack rest (Compute height type o) was all in
    subst (AllByRecursion (FitsTask f)) (sym is) (all-append (FitsTask f) rest (operand_tasks f height type o) parts.0 (operand_fits f few height type o parts.1))

-- an operand alone fits from the lowest register on
pub leaves-few : (f : Function) → HasFewLeaves f → (o : Operand) → leaf_count f o ≤ 64
leaves-few f few (Local name) = few name
leaves-few f few Undef = let one : leaf_count f Undef ≡ 1 = counts_agree f Undef in omega (arith, one)
leaves-few f few (Number n) = let none : leaf_count f (Number n) ≡ 0 = counts_agree f (Number n) in omega (arith, none)
leaves-few f few Null = let none : leaf_count f Null ≡ 0 = counts_agree f Null in omega (arith, none)
leaves-few f few Poison = let none : leaf_count f Poison ≡ 0 = counts_agree f Poison in omega (arith, none)

-- ---- steps

-- an operand is at most three operands and an instruction, and each instruction is put once
abbrev pub task_steps : Function → Task → ℕ
task_steps f (Compute height type o) = 1 + 4 * length (computed f height type o)
task_steps f (Emit i) = 1

abbrev pub stack_steps : Function → List Task → ℕ
stack_steps f tasks = sum_by (task_steps f) tasks

one-steps : (only : List Inst) (i : Inst) → 1 + (1 + 4 * length only) ≤ 4 * length (only ++ i ∷ [])
one-steps only i = rw (length-append only (i ∷ [])) (omega arith)

two-steps : (left right : List Inst) (i : Inst) → 1 + (1 + 4 * length right) + (1 + 4 * length left) ≤ 4 * length (left ++ right ++ i ∷ [])
two-steps left right i = rw (length-append (left ++ right) (i ∷ []), length-append left right) (omega arith)

three-steps : (first second third : List Inst) (i : Inst) → 1 + (1 + 4 * length third) + (1 + 4 * length second) + (1 + 4 * length first) ≤ 4 * length (first ++ second ++ third ++ i ∷ [])
three-steps first second third i = rw (length-append (first ++ second ++ third) (i ∷ []), length-append (first ++ second) third, length-append first second) (omega arith)

operation_steps : (f : Function) (height : ℕ) (maker : Option Inst) → stack_steps f (operation_tasks f height (operation_of maker)) ≤ 4 * length (computed_from f (computed f) height maker)
operation_steps f height None = omega arith
operation_steps f height (Some (Binary into op width left right)) = two-steps (computed f height (type.Int width) left) (computed f (above f height left) (type.Int width) right) _
operation_steps f height (Some (Icmp into predicate same_sign width left right)) = two-steps (computed f height (type.Int width) left) (computed f (above f height left) (type.Int width) right) _
operation_steps f height (Some (Cast into cast from o to)) = one-steps (computed f height (type.Int from) o) _
operation_steps f height (Some (Select into condition if_true if_false)) =
    three-steps (computed f height (type.Int one_bit) condition) (computed f (above f height condition) if_true.of_type if_true.operand)
    (computed f (above f (above f height condition) if_true.operand) if_false.of_type if_false.operand) _
operation_steps f height (Some (Freeze into type o)) = omega arith
operation_steps f height (Some (Alloca into number type align)) = omega arith
operation_steps f height (Some (Load into type pointer align)) = omega arith
operation_steps f height (Some (Store value pointer align)) = omega arith
operation_steps f height (Some (GetElementPtr into inbounds nuw type base indices)) = omega arith

operand_steps : (f : Function) → HasFewLeaves f → (height : ℕ) (type : IrType) (o : Operand) → stack_steps f (operand_tasks f height type o) ≤ 4 * length (computed f height type o)
operand_steps f few height type Undef = rw (computed_undef f height type) (omega arith)
operand_steps f few height type (Number n) = omega arith
operand_steps f few height type Null = omega arith
operand_steps f few height type Poison = omega arith
operand_steps f few height type (Local name) = by (cases_Bool (carries f (Local name)))
  where
    chosen : (b : Bool) → carries f (Local name) ≡ b → stack_steps f (operand_tasks f height type (Local name)) ≡ stack_steps f (if b then operation_tasks f height (operation_of (maker_of f name)) else [])
    chosen b e = ap (λ (c : Bool). stack_steps f (if c then operation_tasks f height (operation_of (maker_of f name)) else [])) e

    by : (carries f (Local name) ≡ true) ⊎ (carries f (Local name) ≡ false) → stack_steps f (operand_tasks f height type (Local name)) ≤ 4 * length (computed f height type (Local name))
    by (inl does) = rw (chosen true does, computed_local f few height type name does) (operation_steps f height (maker_of f name))
    by (inr not') = rw (chosen false not') (omega arith)

-- an operand's tasks have fewer steps than the operand
pub steps_fall : (f : Function) → HasFewLeaves f → (stack rest after : List Task) (height : ℕ) (type : IrType) (o : Operand)
    → stack ≡ rest ++ Compute height type o ∷ [] → after ≡ rest ++ operand_tasks f height type o → stack_steps f after < stack_steps f stack
steps_fall f few stack rest after height type o was is =
    let own = operand_steps f few height type o in
    rw (was, is, sum_by-append (task_steps f) rest (Compute height type o ∷ []), sum_by-append (task_steps f) rest (operand_tasks f height type o)) (omega (arith, own))

pub steps_emit : (f : Function) (stack rest : List Task) (i : Inst) → stack ≡ rest ++ Emit i ∷ [] → stack_steps f rest < stack_steps f stack
steps_emit f stack rest i was = rw (was, sum_by-append (task_steps f) rest (Emit i ∷ [])) (omega arith)
