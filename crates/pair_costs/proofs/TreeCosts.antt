-- What trees cost: what carries nothing costs nothing, a name that carries undef costs its maker and what that carries,
-- and no tree of a function within the limits costs much.
use Rattle.std.proofs.Common.{◌≡◌, ◌⊎◌, ◌+◌, ◌*◌, ◌<◌, ◌≤◌, ℕ, zero, suc, Bool, true, false, nat_lt, length, sum_by, Option, Some, None, inl, inr, refl, sym, ◌∙◌, ap, arith}
use Rattle.std.specs.Prelude.{if◌then◌else◌}
use Rattle.std.specs.List.{AllByRecursion}
use Rattle.std.proofs.Math.Nat.{mul-le-mul_left}
use Rattle.std.proofs.lemmas.Bool.{cases_Bool}
use Rattle.std.proofs.lemmas.Bool.Decides.{nat_tests}
use Rattle.std.proofs.lemmas.List.Concat.{length-flat_map}
use Rattle.ir_tree.specs.declared.tree.Operand.{Operand}
use Rattle.ir_tree.specs.declared.tree.Operand.TheVariants.{Local, Number, Null, Poison, Undef}
use Rattle.ir_tree.specs.declared.tree.Inst.{Inst}
use Rattle.ir_tree.specs.declared.tree.Inst.TheVariants.{Binary, Icmp, Cast, Select, Freeze, Alloca, Load, Store, GetElementPtr}
use Rattle.ir_tree.specs.declared.tree.Block.{Block}
use Rattle.ir_tree.specs.declared.tree.Function.{Function}
use Rattle.ir_tree.specs.Carrying.{carrying_operands, carried_by, carried_from, carries, insts_of, leaf_count}
use Rattle.ir_tree.specs.Limits.{IsWithinLimits, instructions_of}
use Rattle.ir_tree.proofs.Leaves.{sum-le}
use Rattle.lowering.specs.Lowered.{HasFewLeaves, maker_of}
use Rattle.lowering.proofs.Enough.{IsCounted, all-map, carries-not, operands_counted}
use Rattle.lowering.proofs.TaskLemmas.{leaves-few, leaves-sum}
use Rattle.verdicts.specs.Weight.{inst_cost, made_cost, tree_cost_within, tree_cost}
use Rattle.pair_costs.proofs.Sizes.{small_op, small_width, plain_cost, sum_times_of}
use Rattle.pair_costs.proofs.TreeSteps.{counted_soon, counted-in, sum_alike}

-- ---- the steps of the definition

within-none : (f : Function) (n : ℕ) (o : Operand) → carries f o ≡ false → tree_cost_within n f o ≡ 0
unfolding tree_cost_within
within-none f zero o not' = refl
within-none f (suc n) (Local name) not' = ap (λ (b : Bool). if b then made_cost (tree_cost_within n f) (maker_of f name) else 0) not'
within-none f (suc n) (Number k) not' = refl
within-none f (suc n) Null not' = refl
within-none f (suc n) Poison not' = refl
within-none f (suc n) Undef not' = refl

within-local : (f : Function) (n name : ℕ) → carries f (Local name) ≡ true → tree_cost_within (suc n) f (Local name) ≡ made_cost (tree_cost_within n f) (maker_of f name)
unfolding tree_cost_within
within-local f n name does = ap (λ (b : Bool). if b then made_cost (tree_cost_within n f) (maker_of f name) else 0) does

-- what makes a name costs the same where its operands do
made-same : (cost other : Operand → ℕ) (maker : Option Inst) → AllByRecursion (λ o. cost o ≡ other o) (carried_from maker) → made_cost cost maker ≡ made_cost other maker
made-same cost other None same = refl
made-same cost other (Some i) same = ap (λ (n : ℕ). inst_cost 0 i + n) (sum_alike cost other (carrying_operands i) same)

-- in more steps than count all leaves nothing more is added
within-more : (f : Function) → HasFewLeaves f → (n m : ℕ) → n ≤ m → (o : Operand) → IsCounted f n o → tree_cost_within m f o ≡ tree_cost_within n f o
unfolding tree_cost_within
within-more f few zero m le o counted = within-none f m o (carries-not f o counted)
within-more f few (suc n) zero le o counted = absurd (omega (arith, le))
within-more f few (suc n) (suc m) le Undef counted = refl
within-more f few (suc n) (suc m) le (Number k) counted = refl
within-more f few (suc n) (suc m) le Null counted = refl
within-more f few (suc n) (suc m) le Poison counted = refl
within-more f few (suc n) (suc m) le (Local name) counted = by (within-more f few n m (omega (arith, le))) (cases_Bool (carries f (Local name)))
  where
    by : ((o : Operand) → IsCounted f n o → tree_cost_within m f o ≡ tree_cost_within n f o) → (carries f (Local name) ≡ true) ⊎ (carries f (Local name) ≡ false) → tree_cost_within (suc m) f (Local name) ≡ tree_cost_within (suc n) f (Local name)
    by each (inl does) =
        let same = all-map (IsCounted f n) (λ o. tree_cost_within m f o ≡ tree_cost_within n f o) each (carried_by (insts_of f) name) (operands_counted f few n name counted) in
        within-local f m name does ∙ (made-same (tree_cost_within m f) (tree_cost_within n f) (maker_of f name) same ∙ sym (within-local f n name does))
    by each (inr not') = within-none f (suc m) (Local name) not' ∙ sym (within-none f (suc n) (Local name) not')

-- ---- what users need

pub cost_none : (f : Function) (o : Operand) → carries f o ≡ false → tree_cost f o ≡ 0
unfolding tree_cost
cost_none f o not' = within-none f (66 * (length (insts_of f) + 1)) o not'

undef-in : (f : Function) (n : ℕ) → tree_cost_within n f Undef ≡ 0
unfolding tree_cost_within
undef-in f zero = refl
undef-in f (suc n) = refl

pub cost_undef : (f : Function) → tree_cost f Undef ≡ 0
unfolding tree_cost
cost_undef f = undef-in f (66 * (length (insts_of f) + 1))

local-in : (f : Function) → HasFewLeaves f → (n name : ℕ) → 0 < n → IsCounted f n (Local name) → carries f (Local name) ≡ true → tree_cost_within n f (Local name) ≡ made_cost (tree_cost_within n f) (maker_of f name)
local-in f few zero name some counted does = absurd (omega (arith, some))
local-in f few (suc n) name some counted does =
    let same = all-map (IsCounted f n) (λ o. tree_cost_within n f o ≡ tree_cost_within (suc n) f o) (λ o c. sym (within-more f few n (suc n) (omega arith) o c)) (carried_by (insts_of f) name) (operands_counted f few n name counted) in
    within-local f n name does ∙ made-same (tree_cost_within n f) (tree_cost_within (suc n) f) (maker_of f name) same

-- a name that carries undef costs what makes it
pub cost_local : (f : Function) → HasFewLeaves f → (name : ℕ) → carries f (Local name) ≡ true → tree_cost f (Local name) ≡ made_cost (tree_cost f) (maker_of f name)
unfolding tree_cost
cost_local f few name does = local-in f few (66 * (length (insts_of f) + 1)) name (omega arith) (counted-in f (66 * (length (insts_of f) + 1)) refl (Local name)) does

-- ---- how much a tree costs

-- an instruction that carries something costs at most the square of 64
small_made : (cost leaves : Operand → ℕ) (maker : Option Inst) → 0 < sum_by leaves (carried_from maker) → made_cost cost maker ≤ 4096 + sum_by cost (carried_from maker)
small_made cost leaves None some = absurd (omega (arith, some))
small_made cost leaves (Some (Binary into op width left right)) some = let most = small_op op width in omega (arith, most)
small_made cost leaves (Some (Icmp into predicate same_sign width left right)) some = let most = plain_cost width in omega (arith, most)
small_made cost leaves (Some (Cast into cast from operand to)) some = let most = plain_cost to in omega (arith, most)
small_made cost leaves (Some (Select into condition if_true if_false)) some = let most = small_width if_true.of_type in omega (arith, most)
small_made cost leaves (Some (Freeze into type operand)) some = absurd (omega (arith, some))
small_made cost leaves (Some (Alloca into number type align)) some = absurd (omega (arith, some))
small_made cost leaves (Some (Load into type pointer align)) some = absurd (omega (arith, some))
small_made cost leaves (Some (Store v pointer align)) some = absurd (omega (arith, some))
small_made cost leaves (Some (GetElementPtr into inbounds nuw type base indices)) some = absurd (omega (arith, some))

pub some_leaves : (n : ℕ) → nat_lt 0 n ≡ true → 0 < n
some_leaves n some = grind (arith, nat_tests)

one-more : (n cost sum leaves : ℕ) → cost ≤ 4096 + sum → sum ≤ (4096 * n) * leaves → 0 < leaves → cost ≤ (4096 * suc n) * leaves
one-more n cost sum leaves made of some = let split : (4096 * suc n) * leaves ≡ (4096 * n) * leaves + 4096 * leaves = omega arith in omega (arith, made, of, some, split)

-- each step that is needed adds one instruction for each leaf
within-most : (f : Function) → HasFewLeaves f → (n m : ℕ) (o : Operand) → IsCounted f n o → tree_cost_within m f o ≤ (4096 * n) * leaf_count f o
unfolding tree_cost_within
within-most f few zero m o counted = let none = within-none f m o (carries-not f o counted) in omega (arith, none)
within-most f few (suc n) zero o counted = omega arith
within-most f few (suc n) (suc m) (Number k) counted = omega arith
within-most f few (suc n) (suc m) Null counted = omega arith
within-most f few (suc n) (suc m) Poison counted = omega arith
within-most f few (suc n) (suc m) Undef counted = omega arith
within-most f few (suc n) (suc m) (Local name) counted = by (within-most f few n m) (cases_Bool (carries f (Local name)))
  where
    by : ((o : Operand) → IsCounted f n o → tree_cost_within m f o ≤ (4096 * n) * leaf_count f o) → (carries f (Local name) ≡ true) ⊎ (carries f (Local name) ≡ false) → tree_cost_within (suc m) f (Local name) ≤ (4096 * suc n) * leaf_count f (Local name)
    by each (inl does) =
        let sum = leaves-sum f few name in
        let leaves : 0 < leaf_count f (Local name) = some_leaves (leaf_count f (Local name)) does in
        let some : 0 < sum_by (leaf_count f) (carried_by (insts_of f) name) = omega (arith, sum, leaves) in
        let made = small_made (tree_cost_within m f) (leaf_count f) (maker_of f name) some in
        let of = sum_times_of (IsCounted f n) (tree_cost_within m f) (leaf_count f) (4096 * n) (carried_by (insts_of f) name) (operands_counted f few n name counted) each in
        let most = one-more n _ _ _ made of some in
        rw (within-local f m name does, sum) most
    by each (inr not') = let none = within-none f (suc m) (Local name) not' in omega (arith, none)

few-insts : (f : Function) → IsWithinLimits f → length (insts_of f) ≤ 65536
few-insts f limits =
    let all = length-flat_map (λ (b : Block). b.insts) f.blocks in
    let each = sum-le (λ (b : Block). length b.insts) instructions_of (λ b. omega arith) f.blocks in
    let most = limits.instructions in
    omega (arith, all, each, most)

pub tree_most : (f : Function) → HasFewLeaves f → IsWithinLimits f → (o : Operand) → tree_cost f o ≤ 17180131328
unfolding tree_cost
tree_most f few limits o =
    let most = within-most f few (suc (length (insts_of f))) (66 * (length (insts_of f) + 1)) o (counted_soon f few o) in
    let leaves = leaves-few f few o in
    let steps = few-insts f limits in
    let product : (4096 * suc (length (insts_of f))) * leaf_count f o ≤ (4096 * suc (length (insts_of f))) * 64 = mul-le-mul_left (4096 * suc (length (insts_of f))) leaves in
    omega (arith, most, steps, product)
