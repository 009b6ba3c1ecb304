-- A path of names whose costs wait for one another, as the walk goes along it.
use Rattle.std.proofs.Common.{◌≡◌, ◌⊎◌, ◌≢◌, ◌+◌, ◌-◌, ◌*◌, ◌<◌, ◌≤◌, ◌==◌, ◌&&◌, ◌++◌, ℕ, suc, Bool, true, false, List, [], ◌∷◌, length, set, get_or, sum_by, Option, Some, None, IsSome, inl, inr, refl, sym, ◌∙◌, ap, subst, arith}
use Rattle.std.specs.Prelude.{if◌then◌else◌}
use Rattle.std.specs.List.{AllByRecursion}
use Rattle.std.specs.Option.{option_or, option_to_list, unwrap_or}
use Rattle.std.proofs.lemmas.Bool.{cases_Bool, cases_eq, eq-eqb, ne_eqb}
use Rattle.std.proofs.lemmas.List.{get_or-set_same, get_or-set_other, get_or_default}
use Rattle.std.proofs.lemmas.List.Sums.{sum_by-set}
use Rattle.ir_tree.specs.declared.tree.Operand.{Operand}
use Rattle.ir_tree.specs.declared.tree.Operand.TheVariants.{Local, Number, Null, Poison, Undef}
use Rattle.ir_tree.specs.declared.tree.Function.{Function}
use Rattle.ir_tree.specs.Carrying.{carries}
use Rattle.ir_tree.specs.Limits.{IsWithinLimits}
use Rattle.lowering.specs.declared.operations.Operation.{Operation}
use Rattle.lowering.specs.Lowered.{HasFewLeaves, maker_of}
use Rattle.lowering.specs.Operations.{operation_of}
use Rattle.lowering.proofs.Enough.{carries_number, carries_null, carries_poison}
use Rattle.verdicts.specs.Weight.{tree_cost}
use Rattle.pair_costs.specs.Trees.{AreKnown, cost_in, made_in, operands_in, operation_cost, unknown, unknown_in}
use Rattle.pair_costs.proofs.TreeCosts.{cost_none, cost_undef, cost_local, tree_most}
use Rattle.pair_costs.proofs.TreeOperations.{name-cost, operand_costs}

abbrev pub cost_of_name : Function → ℕ → ℕ
cost_of_name f name = tree_cost f (Local name)

-- ---- operands whose costs are not known

-- a name is not known: it carries undef, and its entry is 0
pub record IsUnknown (f : Function) (costs : List ℕ) (o : Operand) (name : ℕ) : Type 0 where
  pub own : o ≡ Local name
  pub carried : carries f (Local name) ≡ true
  pub empty : cost_in costs (Local name) ≡ 0

unknown-some : (f : Function) (costs : List ℕ) (o : Operand) (name : ℕ) → unknown f costs o ≡ Some name → IsUnknown f costs o name
unknown-some f costs (Number n) name e = let never : None ≡ Some name = e in cc
unknown-some f costs Null name e = let never : None ≡ Some name = e in cc
unknown-some f costs Poison name e = let never : None ≡ Some name = e in cc
unknown-some f costs Undef name e = let never : None ≡ Some name = e in cc
unknown-some f costs (Local n) name e = by (cases_Bool (carries f (Local n))) (cases_eq (cost_in costs (Local n)) 0)
  where
    by : (carries f (Local n) ≡ true) ⊎ (carries f (Local n) ≡ false) → (cost_in costs (Local n) ≡ 0) ⊎ (cost_in costs (Local n) ≢ 0) → IsUnknown f costs (Local n) name
    by (inr not') _ = let never : None ≡ Some name = sym (ap (λ (b : Bool). if b && (cost_in costs (Local n) == 0) then Some n else None) not') ∙ e in cc
    by (inl does) (inr other) =
        let step : unknown f costs (Local n) ≡ None = rw (does, ne_eqb (cost_in costs (Local n)) 0 other) refl in
        let never : None ≡ Some name = sym step ∙ e in cc
    by (inl does) (inl empty) =
        let step : unknown f costs (Local n) ≡ Some n = rw (does, eq-eqb (cost_in costs (Local n)) 0 empty) refl in
        let same : Some n ≡ Some name = sym step ∙ e in
        let is : n ≡ name = cc in
        record { own = ap Local is; carried = subst (λ (m : ℕ). carries f (Local m) ≡ true) is does; empty = subst (λ (m : ℕ). cost_in costs (Local m) ≡ 0) is empty }

unknown-none : (f : Function) (costs : List ℕ) (o : Operand) → AreKnown f costs → unknown f costs o ≡ None → cost_in costs o ≡ tree_cost f o
unknown-none f costs (Number n) known e = sym (cost_none f (Number n) (carries_number f n))
unknown-none f costs Null known e = sym (cost_none f Null (carries_null f))
unknown-none f costs Poison known e = sym (cost_none f Poison (carries_poison f))
unknown-none f costs Undef known e = sym (cost_undef f)
unknown-none f costs (Local n) known e = by (cases_Bool (carries f (Local n))) (known (Local n))
  where
    by : (carries f (Local n) ≡ true) ⊎ (carries f (Local n) ≡ false) → (cost_in costs (Local n) ≡ 0) ⊎ (cost_in costs (Local n) ≡ tree_cost f (Local n)) → cost_in costs (Local n) ≡ tree_cost f (Local n)
    by _ (inr right) = right
    by (inr not') (inl empty) = empty ∙ sym (cost_none f (Local n) not')
    by (inl does) (inl empty) =
        let step : unknown f costs (Local n) ≡ Some n = rw (does, eq-eqb (cost_in costs (Local n)) 0 empty) refl in
        let never : Some n ≡ None = sym step ∙ e in cc

-- the first of three is one of them
first-some : (a b c : Option ℕ) (name : ℕ) → option_or a (option_or b c) ≡ Some name → (a ≡ Some name) ⊎ ((b ≡ Some name) ⊎ (c ≡ Some name))
first-some (Some n) b c name e = inl e
first-some None (Some n) c name e = inr (inl e)
first-some None None c name e = inr (inr e)

first-none : (a b c : Option ℕ) → option_or a (option_or b c) ≡ None → (a ≡ None) × (b ≡ None) × (c ≡ None)
first-none (Some n) b c e = let never : Some n ≡ None = e in cc
first-none None (Some n) c e = let never : Some n ≡ None = e in cc
first-none None None c e = (refl, refl, e)

-- what a name waits for costs less than it
pub record IsLower (f : Function) (costs : List ℕ) (name lower : ℕ) : Type 0 where
  pub carried : carries f (Local lower) ≡ true
  pub empty : cost_in costs (Local lower) ≡ 0
  pub less : cost_of_name f lower < cost_of_name f name

pub unknown-lower : (f : Function) (costs : List ℕ) (name lower : ℕ) (operation : Operation) → HasFewLeaves f → carries f (Local name) ≡ true → operation ≡ operation_of (maker_of f name)
    → unknown_in f costs operation ≡ Some lower → IsLower f costs name lower
unknown-lower f costs name lower operation few does is e = by (first-some _ _ _ lower e)
  where
    less : (o : Operand) → IsUnknown f costs o lower → tree_cost f o ≤ operand_costs (tree_cost f) operation → IsLower f costs name lower
    less o own most = record {
      carried = own.carried;
      empty = own.empty;
      less =
          let all = name-cost f few name does in
          let made = cost_local f few name does in
          let sum = all.is in
          let some = all.some in
          let same = ap (operand_costs (tree_cost f)) is in
          let here = ap (tree_cost f) own.own in
          omega (arith, made, sum, some, same, here, most);
    }

    by : (unknown f costs (operands_in operation).0 ≡ Some lower) ⊎ ((unknown f costs (operands_in operation).1 ≡ Some lower) ⊎ (unknown f costs (operands_in operation).2 ≡ Some lower)) → IsLower f costs name lower
    by (inl first) = less (operands_in operation).0 (unknown-some f costs _ lower first) (omega arith)
    by (inr (inl second)) = less (operands_in operation).1 (unknown-some f costs _ lower second) (omega arith)
    by (inr (inr third)) = less (operands_in operation).2 (unknown-some f costs _ lower third) (omega arith)

-- where all its operands are known, a name's cost is known
pub made-right : (f : Function) (costs : List ℕ) (name : ℕ) (operation : Operation) → HasFewLeaves f → AreKnown f costs → carries f (Local name) ≡ true → operation ≡ operation_of (maker_of f name)
    → unknown_in f costs operation ≡ None → (made_in costs operation ≡ tree_cost f (Local name)) × (0 < tree_cost f (Local name))
made-right f costs name operation few known does is e =
    let none = first-none _ _ _ e in
    let first = unknown-none f costs (operands_in operation).0 known none.0 in
    let second = unknown-none f costs (operands_in operation).1 known none.1 in
    let third = unknown-none f costs (operands_in operation).2 known none.2 in
    let all = name-cost f few name does in
    let made = cost_local f few name does in
    let sum = all.is in
    let some = all.some in
    let same = ap (operand_costs (tree_cost f)) is in
    let own = ap operation_cost is in
    (omega (arith, first, second, third, made, sum, same, own), omega (arith, made, sum, some))

-- ---- the path

-- a name waits: it carries undef, and its entry is 0; it costs no more than the first
pub record IsWaiting (f : Function) (costs : List ℕ) (most name : ℕ) : Type 0 where
  pub carried : carries f (Local name) ≡ true
  pub empty : cost_in costs (Local name) ≡ 0
  pub within : cost_of_name f name ≤ most

-- each costs less than those before it
abbrev pub IsPath : Function → List ℕ → ℕ → List ℕ → Type 0
IsPath f costs most [] = Unit {0}
IsPath f costs most (name ∷ names) = IsWaiting f costs most name × AllByRecursion (λ n. cost_of_name f n < cost_of_name f name) names × IsPath f costs most names

-- what the last name costs, and this where there is none
abbrev pub last_cost : Function → ℕ → List ℕ → ℕ
last_cost f most [] = most
last_cost f most (name ∷ names) = last_cost f (cost_of_name f name) names

last_cost-last : (f : Function) (most name : ℕ) (names : List ℕ) → last_cost f most (names ++ name ∷ []) ≡ cost_of_name f name
last_cost-last f most name [] = refl
last_cost-last f most name (n ∷ names) = last_cost-last f (cost_of_name f n) name names

last_cost-most : (f : Function) (costs : List ℕ) (most k : ℕ) (names : List ℕ) → IsPath f costs most names → k ≤ suc most → last_cost f k names ≤ suc most
last_cost-most f costs most k [] path le = le
last_cost-most f costs most k (n ∷ names) path le = last_cost-most f costs most (cost_of_name f n) names path.2 (let few = path.0.within in omega (arith, few))

all-last : (P : ℕ → Type 0) (names : List ℕ) (name : ℕ) → AllByRecursion P (names ++ name ∷ []) → AllByRecursion P names × P name
all-last P [] name all = (tt, all.0)
all-last P (n ∷ names) name all = let rest = all-last P names name all.1 in ((all.0, rest.0), rest.1)

all-push : (P : ℕ → Type 0) (names : List ℕ) (name : ℕ) → AllByRecursion P names → P name → AllByRecursion P (names ++ name ∷ [])
all-push P [] name all own = (own, tt)
all-push P (n ∷ names) name all own = (all.0, all-push P names name all.1 own)

-- each of these costs more than the name
abbrev pub AreAbove : Function → ℕ → List ℕ → Type 0
AreAbove f name names = AllByRecursion (λ n. cost_of_name f name < cost_of_name f n) names

path-last : (f : Function) (costs : List ℕ) (most name : ℕ) (names : List ℕ) → IsPath f costs most (names ++ name ∷ []) → IsPath f costs most names × IsWaiting f costs most name × AreAbove f name names
path-last f costs most name [] path = (tt, path.0, tt)
path-last f costs most name (n ∷ names) path =
    let rest = path-last f costs most name names path.2 in
    let below = all-last (λ m. cost_of_name f m < cost_of_name f n) names name path.1 in
    ((path.0, below.0, rest.0), rest.1, (below.1, rest.2))

path-push : (f : Function) (costs : List ℕ) (most name : ℕ) (names : List ℕ) → IsPath f costs most names → IsWaiting f costs most name → AreAbove f name names → IsPath f costs most (names ++ name ∷ [])
path-push f costs most name [] path own above = (own, tt, tt)
path-push f costs most name (n ∷ names) path own above =
    (path.0, all-push (λ m. cost_of_name f m < cost_of_name f n) names name path.1 above.0, path-push f costs most name names path.2 own above.1)

above-lower : (f : Function) (name lower : ℕ) → cost_of_name f lower < cost_of_name f name → (names : List ℕ) → AreAbove f name names → AreAbove f lower names
above-lower f name lower less [] above = tt
above-lower f name lower less (n ∷ names) above = (let here = above.0 in omega (arith, here, less), above-lower f name lower less names above.1)

set-other : (costs : List ℕ) (name cost other : ℕ) → other ≢ name → cost_in (set costs name cost) (Local other) ≡ cost_in costs (Local other)
set-other costs name cost other away = get_or-set_other costs name other cost 0 away

path-set : (f : Function) (costs : List ℕ) (most name cost : ℕ) (names : List ℕ) → IsPath f costs most names → AreAbove f name names → IsPath f (set costs name cost) most names
path-set f costs most name cost [] path above = tt
path-set f costs most name cost (n ∷ names) path above =
    let away : n ≢ name = λ same. (let here = above.0 in let e = ap (cost_of_name f) same in omega (arith, here, e)) in
    (record { carried = path.0.carried; empty = set-other costs name cost n away ∙ path.0.empty; within = path.0.within }, path.1, path-set f costs most name cost names path.2 above.1)

-- ---- a name that is taken from the path

pub record IsTaken (f : Function) (costs : List ℕ) (most : ℕ) (path rest : List ℕ) (name : ℕ) : Type 0 where
  pub left : IsPath f costs most rest
  pub own : IsWaiting f costs most name
  pub above : AreAbove f name rest
  pub last : cost_of_name f name ≤ last_cost f (suc most) path

pub taken : (f : Function) (costs : List ℕ) (root name : ℕ) (path rest : List ℕ) (popped : Option ℕ) → carries f (Local root) ≡ true → cost_in costs (Local root) ≡ 0
    → path ≡ rest ++ option_to_list popped → (0 < length path → IsSome popped) → name ≡ unwrap_or popped root → IsPath f costs (cost_of_name f root) path → IsTaken f costs (cost_of_name f root) path rest name
taken f costs root name path rest (Some last) does empty was some is all =
    let parts = path-last f costs (cost_of_name f root) last rest (subst (IsPath f costs (cost_of_name f root)) was all) in
    subst (IsTaken f costs (cost_of_name f root) path rest) (sym is) (record {
      left = parts.0;
      own = parts.1;
      above = parts.2;
      last = let e = ap (last_cost f (suc (cost_of_name f root))) was ∙ last_cost-last f (suc (cost_of_name f root)) last rest in omega (arith, e);
    })
taken f costs root name path [] None does empty was some is all =
    subst (IsTaken f costs (cost_of_name f root) path []) (sym is) (record {
      left = tt;
      own = record { carried = does; empty = empty; within = omega arith };
      above = tt;
      last = let e = ap (last_cost f (suc (cost_of_name f root))) was in omega (arith, e);
    })
taken f costs root name path (n ∷ rest) None does empty was some is all = let e = ap length was in let never : false ≡ true = some (omega (arith, e)) in cc

-- ---- steps of the walk

-- entries that are 0, and then what the last name costs
abbrev pub empty_entries : List ℕ → ℕ
empty_entries costs = sum_by (λ cost. 1 - cost) costs

abbrev pub steps_left : Function → ℕ → List ℕ → List ℕ → ℕ
steps_left f root costs path = empty_entries costs * (cost_of_name f root + 2) + last_cost f (suc (cost_of_name f root)) path

-- an operand goes on the path
pub path-goes : (f : Function) (costs : List ℕ) (root name lower : ℕ) (path rest : List ℕ) → IsTaken f costs (cost_of_name f root) path rest name → IsLower f costs name lower
    → IsPath f costs (cost_of_name f root) ((rest ++ name ∷ []) ++ lower ∷ []) × (steps_left f root costs ((rest ++ name ∷ []) ++ lower ∷ []) < steps_left f root costs path)
path-goes f costs root name lower path rest took low =
    let less = low.less in
    let most = took.own.within in
    let before = path-push f costs (cost_of_name f root) name rest took.left took.own took.above in
    let above = all-push (λ n. cost_of_name f lower < cost_of_name f n) rest name (above-lower f name lower less rest took.above) less in
    let last = took.last in
    let now = last_cost-last f (suc (cost_of_name f root)) lower (rest ++ name ∷ []) in
    (path-push f costs (cost_of_name f root) lower (rest ++ name ∷ []) before (record { carried = low.carried; empty = low.empty; within = omega (arith, less, most) }) above, omega (arith, now, last, less))

set-known : (f : Function) (costs : List ℕ) (name cost : ℕ) → name < length costs → cost ≡ tree_cost f (Local name) → (o : Operand) → (cost_in (set costs name cost) o ≡ tree_cost f o) ⊎ (cost_in (set costs name cost) o ≡ cost_in costs o)
set-known f costs name cost below right (Number n) = inr refl
set-known f costs name cost below right Null = inr refl
set-known f costs name cost below right Poison = inr refl
set-known f costs name cost below right Undef = inr refl
set-known f costs name cost below right (Local other) = by (cases_eq other name)
  where
    by : (other ≡ name) ⊎ (other ≢ name) → (cost_in (set costs name cost) (Local other) ≡ tree_cost f (Local other)) ⊎ (cost_in (set costs name cost) (Local other) ≡ cost_in costs (Local other))
    by (inl same) = inl (rw same (get_or-set_same costs name cost 0 below ∙ right))
    by (inr away) = inr (set-other costs name cost other away)

pub known-set : (f : Function) (costs : List ℕ) (name cost : ℕ) → name < length costs → cost ≡ tree_cost f (Local name) → AreKnown f costs → AreKnown f (set costs name cost)
known-set f costs name cost below right known o = by (set-known f costs name cost below right o) (known o)
  where
    by : (cost_in (set costs name cost) o ≡ tree_cost f o) ⊎ (cost_in (set costs name cost) o ≡ cost_in costs o) → (cost_in costs o ≡ 0) ⊎ (cost_in costs o ≡ tree_cost f o) → (cost_in (set costs name cost) o ≡ 0) ⊎ (cost_in (set costs name cost) o ≡ tree_cost f o)
    by (inl now) _ = inr now
    by (inr same) (inl empty) = inl (same ∙ empty)
    by (inr same) (inr own) = inr (same ∙ own)

pub kept-set : (f : Function) (costs : List ℕ) (name cost : ℕ) → name < length costs → cost ≡ tree_cost f (Local name) → (o : Operand) → cost_in costs o ≡ tree_cost f o → cost_in (set costs name cost) o ≡ tree_cost f o
kept-set f costs name cost below right o own = by (set-known f costs name cost below right o)
  where
    by : (cost_in (set costs name cost) o ≡ tree_cost f o) ⊎ (cost_in (set costs name cost) o ≡ cost_in costs o) → cost_in (set costs name cost) o ≡ tree_cost f o
    by (inl now) = now
    by (inr same) = same ∙ own

-- a name's cost goes into the table
pub path-settles : (f : Function) (costs : List ℕ) (root name cost : ℕ) (path rest : List ℕ) → name < length costs → 0 < cost → IsTaken f costs (cost_of_name f root) path rest name
    → IsPath f (set costs name cost) (cost_of_name f root) rest × (steps_left f root (set costs name cost) rest < steps_left f root costs path)
path-settles f costs root name cost path rest below some took =
    let after = path-set f costs (cost_of_name f root) name cost rest took.left took.above in
    let sum = sum_by-set (λ (cost : ℕ). 1 - cost) costs name cost 0 below in
    let empty : get_or costs name 0 ≡ 0 = took.own.empty in
    let fewer : empty_entries costs ≡ empty_entries (set costs name cost) + 1 = omega (arith, sum, empty, some) in
    let last = last_cost-most f costs (cost_of_name f root) (suc (cost_of_name f root)) rest took.left (omega arith) in
    let split : (empty_entries (set costs name cost) + 1) * (cost_of_name f root + 2) ≡ empty_entries (set costs name cost) * (cost_of_name f root + 2) + (cost_of_name f root + 2) = omega arith in
    let less : empty_entries (set costs name cost) * (cost_of_name f root + 2) + last_cost f (suc (cost_of_name f root)) rest < (empty_entries (set costs name cost) + 1) * (cost_of_name f root + 2) + last_cost f (suc (cost_of_name f root)) path = omega (arith, split, last) in
    (after, rw fewer less)

-- ---- what an entry reads

pub entry_is : (costs : List ℕ) (name read : ℕ) → name < length costs → read ≡ get_or costs name read → read ≡ cost_in costs (Local name)
entry_is costs name read below is = is ∙ get_or_default costs name read 0 below

-- each entry is within the most that a tree costs
pub known-most : (f : Function) → HasFewLeaves f → IsWithinLimits f → (costs : List ℕ) → AreKnown f costs → (o : Operand) → cost_in costs o ≤ 17180131328
known-most f few limits costs known o = by (known o)
  where
    by : (cost_in costs o ≡ 0) ⊎ (cost_in costs o ≡ tree_cost f o) → cost_in costs o ≤ 17180131328
    by (inl empty) = omega (arith, empty)
    by (inr own) = let most = tree_most f few limits o in omega (arith, own, most)

-- an entry that is not 0 is right
pub known-right : (f : Function) (costs : List ℕ) (name read : ℕ) → AreKnown f costs → read ≡ cost_in costs (Local name) → read ≢ 0 → cost_in costs (Local name) ≡ tree_cost f (Local name)
known-right f costs name read known is some = by (known (Local name))
  where
    by : (cost_in costs (Local name) ≡ 0) ⊎ (cost_in costs (Local name) ≡ tree_cost f (Local name)) → cost_in costs (Local name) ≡ tree_cost f (Local name)
    by (inl empty) = absurd (some (is ∙ empty))
    by (inr own) = own

-- ---- an iteration of the walk

-- what is taken, where the entry of the first name is read as 0
pub taken-now : (f : Function) (costs path rest : List ℕ) (root name read : ℕ) (popped : Option ℕ) → carries f (Local root) ≡ true → root < length costs → read ≡ get_or costs root read → read ≡ 0
    → path ≡ rest ++ option_to_list popped → (0 < length path → IsSome popped) → name ≡ unwrap_or popped root → IsPath f costs (cost_of_name f root) path → IsTaken f costs (cost_of_name f root) path rest name
taken-now f costs path rest root name read popped does below is none was some named all =
    taken f costs root name path rest popped does (sym (entry_is costs root read below is) ∙ none) was some named all

-- where an operand is not known, the walk goes on to it
pub walk-goes : (f : Function) (costs seen path rest between after : List ℕ) (root name lower : ℕ) (operation : Operation) (found : Option ℕ) → HasFewLeaves f → IsTaken f costs (cost_of_name f root) path rest name → operation ≡ operation_of (maker_of f name)
    → seen ≡ costs → found ≡ unknown_in f seen operation → found ≡ Some lower → between ≡ rest ++ name ∷ [] → after ≡ between ++ lower ∷ []
    → IsPath f costs (cost_of_name f root) after × (steps_left f root costs after < steps_left f root costs path)
walk-goes f costs seen path rest between after root name lower operation found few took is same finds has first more =
    let open' : unknown_in f costs operation ≡ Some lower = ap (λ (table : List ℕ). unknown_in f table operation) (sym same) ∙ (sym finds ∙ has) in
    let whole : after ≡ (rest ++ name ∷ []) ++ lower ∷ [] = more ∙ ap (λ (names : List ℕ). names ++ lower ∷ []) first in
    subst (λ (names : List ℕ). IsPath f costs (cost_of_name f root) names × (steps_left f root costs names < steps_left f root costs path)) (sym whole)
    (path-goes f costs root name lower path rest took (unknown-lower f costs name lower operation few took.own.carried is open'))

-- a name's cost is written
pub record IsWritten (f : Function) (costs path rest : List ℕ) (root name cost : ℕ) : Type 0 where
  pub right : cost ≡ tree_cost f (Local name)
  pub left : IsPath f (set costs name cost) (cost_of_name f root) rest
  pub less : steps_left f root (set costs name cost) rest < steps_left f root costs path

-- where each operand is known, the name's cost is right
pub walk-settles : (f : Function) (costs seen read path rest : List ℕ) (root name cost : ℕ) (operation : Operation) (found : Option ℕ) → HasFewLeaves f → AreKnown f costs → IsTaken f costs (cost_of_name f root) path rest name → operation ≡ operation_of (maker_of f name)
    → name < length costs → seen ≡ costs → found ≡ unknown_in f seen operation → found ≡ None → read ≡ costs → cost ≡ made_in read operation → IsWritten f costs path rest root name cost
walk-settles f costs seen read path rest root name cost operation found few known took is below same finds none alike made =
    let closed : unknown_in f costs operation ≡ None = ap (λ (table : List ℕ). unknown_in f table operation) (sym same) ∙ (sym finds ∙ none) in
    let sum = made-right f costs name operation few known took.own.carried is closed in
    let right : cost ≡ tree_cost f (Local name) = made ∙ (ap (λ (table : List ℕ). made_in table operation) alike ∙ sum.0) in
    let some = sum.1 in
    let steps = path-settles f costs root name cost path rest below (omega (arith, right, some)) took in
    record { right = right; left = steps.0; less = steps.1 }
