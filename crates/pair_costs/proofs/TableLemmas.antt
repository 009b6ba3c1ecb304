-- The table of what the trees of a function's names cost, as it is filled.
use Rattle.std.proofs.Common.{◌≡◌, ◌⊎◌, ◌+◌, ◌<◌, ◌≤◌, ℕ, true, false, nat_lt, List, [], length, inl, inr, sym, ◌∙◌, ap, subst, arith}
use Rattle.std.proofs.lemmas.Bool.{cases_Bool, cases_lt}
use Rattle.std.proofs.lemmas.List.{get_or_past}
use Rattle.ir_tree.specs.declared.tree.Operand.TheVariants.{Local, Number, Null, Poison, Undef}
use Rattle.ir_tree.specs.declared.tree.Function.{Function}
use Rattle.ir_tree.specs.Carrying.{carries}
use Rattle.lowering.specs.declared.plan.Plan.{Plan}
use Rattle.lowering.specs.Plan.{HasNoLeaves, IsPlan}
use Rattle.lowering.proofs.Enough.{carries_number, carries_null, carries_poison}
use Rattle.verdicts.specs.Weight.{tree_cost}
use Rattle.pair_costs.specs.Trees.{AreKnown, AreTreeCosts, IsSettled, cost_in}
use Rattle.pair_costs.proofs.TreeOperations.{carried-below}
use Rattle.pair_costs.proofs.TreeCosts.{cost_none, cost_undef}

-- the entries of the names before this one are right
abbrev pub AreRightBefore : Function → List ℕ → ℕ → Type 0
AreRightBefore f costs name = (n : ℕ) → n < name → cost_in costs (Local n) ≡ tree_cost f (Local n)

right-more : (f : Function) (costs : List ℕ) (name : ℕ) → AreRightBefore f costs name → cost_in costs (Local name) ≡ tree_cost f (Local name) → AreRightBefore f costs (name + 1)
right-more f costs name before own n below = by (cases_lt n name)
  where
    by : (n < name) ⊎ (name ≤ n) → cost_in costs (Local n) ≡ tree_cost f (Local n)
    by (inl less) = before n less
    by (inr more) = let e : name ≡ n = omega (arith, below, more) in subst (λ (m : ℕ). cost_in costs (Local m) ≡ tree_cost f (Local m)) e own

-- one whose cost is found out
pub right-settled : (f : Function) (old new : List ℕ) (name : ℕ) → AreRightBefore f old name → IsSettled f old new name → AreRightBefore f new (name + 1)
right-settled f old new name before settled = right-more f new name (λ n below. settled.kept (Local n) (before n below)) settled.own

-- one that carries nothing
pub right-plain : (f : Function) (costs : List ℕ) (name : ℕ) → AreRightBefore f costs name → AreKnown f costs → carries f (Local name) ≡ false → AreRightBefore f costs (name + 1)
right-plain f costs name before known not' = right-more f costs name before (by (known (Local name)))
  where
    by : (cost_in costs (Local name) ≡ 0) ⊎ (cost_in costs (Local name) ≡ tree_cost f (Local name)) → cost_in costs (Local name) ≡ tree_cost f (Local name)
    by (inl empty) = empty ∙ sym (cost_none f (Local name) not')
    by (inr own) = own

-- a table of all names is right
pub all-right : (plan : Plan) → IsPlan plan → (costs : List ℕ) → length costs ≡ length plan.f.now.names → AreRightBefore plan.f.now costs (length costs) → AreTreeCosts plan.f.now costs
all-right plan is costs long right (Number n) = sym (cost_none plan.f.now (Number n) (carries_number plan.f.now n))
all-right plan is costs long right Null = sym (cost_none plan.f.now Null (carries_null plan.f.now))
all-right plan is costs long right Poison = sym (cost_none plan.f.now Poison (carries_poison plan.f.now))
all-right plan is costs long right Undef = sym (cost_undef plan.f.now)
all-right plan is costs long right (Local name) = by (cases_lt name (length costs)) (cases_Bool (carries plan.f.now (Local name)))
  where
    by : (name < length costs) ⊎ (length costs ≤ name) → (carries plan.f.now (Local name) ≡ true) ⊎ (carries plan.f.now (Local name) ≡ false) → cost_in costs (Local name) ≡ tree_cost plan.f.now (Local name)
    by (inl below) _ = right name below
    by (inr past) (inl does) = absurd (let inside = carried-below plan is name does in omega (arith, inside, past, long))
    by (inr past) (inr not') = get_or_past costs name 0 past ∙ sym (cost_none plan.f.now (Local name) not')

-- where no name carries undef, an empty table is right
pub none-right : (f : Function) → HasNoLeaves f → (costs : List ℕ) → costs ≡ [] → AreTreeCosts f costs
none-right f none costs empty (Number n) = sym (cost_none f (Number n) (carries_number f n))
none-right f none costs empty Null = sym (cost_none f Null (carries_null f))
none-right f none costs empty Poison = sym (cost_none f Poison (carries_poison f))
none-right f none costs empty Undef = sym (cost_undef f)
none-right f none costs empty (Local name) = get_or_past costs name 0 (let long = ap length empty in omega (arith, long)) ∙ sym (cost_none f (Local name) (ap (nat_lt 0) (none name)))
