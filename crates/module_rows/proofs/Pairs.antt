-- The pairs that are judged: the judge takes each of them, and there are no more of them than functions.
use Rattle.module_rows.proofs.Common.{◌≡◌, ℕ, ◌+◌, ◌-◌, ◌*◌, ◌^◌, ◌<◌, ◌≤◌, arith, refl, List, [], ◌∷◌, ◌++◌, length, length-append, Option, Some, None, Result, Ok, Err, Bool, true, false, true≢false, sym, ap, is_some, if◌then◌else◌, AllByRecursion, Name, Function, Refused, Entry, same_name, IsJudgeable, IsJudgeableEntry, Functions, same_signature, CanBeJudged, function_named, pairs_in, judged_pairs, subst, same_Some}
use Rattle.std.specs.Prelude.{IfSome}
use Rattle.lowering.specs.Lowered.{CanBeLowered}
use Rattle.lowering.proofs.Accepted.{accepted_can_be_lowered}
use Rattle.module_rows.specs.Judging.{listed}
use Rattle.std.proofs.Math.Nat.{mul-le-mul_left}

-- ---- the judge takes them

abbrev Judgeable : Result Function Refused → Type 0
Judgeable r = (f : Function) → r ≡ Ok f → IsJudgeable f

abbrev NamedJudgeable : Option (Result Function Refused) → Type 0
NamedJudgeable o = (f : Function) → o ≡ Some (Ok f) → IsJudgeable f

all_append : {X : Type 0} (P : X → Type 0) (xs ys : List X) → AllByRecursion P xs → AllByRecursion P ys → AllByRecursion P (xs ++ ys)
all_append P [] ys h k = k
all_append P (x ∷ xs) ys h k = (h.0, all_append P xs ys h.1 k)

pub none≢some : {X : Type 0} (x : X) → None ≡ Some x → ⊥
none≢some x e = true≢false (sym (ap (λ o. is_some o) e))

pub named_judgeable : (targets : List Entry) (name : Name) → AllByRecursion IsJudgeableEntry targets → NamedJudgeable (function_named targets name)
named_judgeable [] name all = λ f e. absurd (none≢some (Ok f) e)
named_judgeable (t ∷ ts) name all = go (same_name name t.name) (named_judgeable ts name all.1)
  where
    go : (same : Bool) → NamedJudgeable (function_named ts name) → NamedJudgeable (if same then Some t.function else function_named ts name)
    go true rest = λ f e. all.0 f (same_Some t.function (Ok f) e)
    go false rest = rest

pair_judged : (source : Result Function Refused) (target : Option (Result Function Refused)) → Judgeable source → NamedJudgeable target → AllByRecursion CanBeJudged (pairs_in source target)
pair_judged (Ok f) (Some (Ok g)) s t = go (same_signature f g)
  where
    can : CanBeJudged (record { source = f; target = g })
    can =
        let a = s f refl in
        let b = t g refl in
        record {
          source_formed = a.well_formed;
          target_formed = b.well_formed;
          source_limits = a.limits;
          target_limits = b.limits;
          source_numbered = a.numbered;
          target_numbered = b.numbered;
          source_numbers = a.numbers;
          target_numbers = b.numbers;
          source_undefs = a.undefs;
          target_undefs = b.undefs;
        }

    go : (same : Bool) → AllByRecursion CanBeJudged (if same then record { source = f; target = g } ∷ [] else [])
    go true = (can, tt)
    go false = tt
pair_judged (Ok f) (Some (Err r)) s t = tt
pair_judged (Ok f) None s t = tt
pair_judged (Err r) (Some o) s t = tt
pair_judged (Err r) None s t = tt

pub pairs_judged : (targets sources : List Entry) → AllByRecursion IsJudgeableEntry targets → AllByRecursion IsJudgeableEntry sources → AllByRecursion CanBeJudged (judged_pairs targets sources)
pairs_judged targets [] all each = tt
pairs_judged targets (s ∷ ss) all each =
    all_append CanBeJudged (pairs_in s.function (function_named targets s.name)) (judged_pairs targets ss)
    (pair_judged s.function (function_named targets s.name) each.0 (named_judgeable targets s.name all)) (pairs_judged targets ss all each.1)

-- so does it the one pair of a function, where there is one
pub listed_judged : (targets : List Entry) (source : Entry) (found : Option Functions) → AllByRecursion IsJudgeableEntry targets → IsJudgeableEntry source
    → pairs_in source.function (function_named targets source.name) ≡ listed found → IfSome found CanBeJudged
listed_judged targets source None all one is = tt
listed_judged targets source (Some pair) all one is =
    (subst (λ (ps : List Functions). AllByRecursion CanBeJudged ps) is (pair_judged source.function (function_named targets source.name) one (named_judgeable targets source.name all))).0

pub judgeable_lowered : (f : Function) → IsJudgeable f → CanBeLowered f
judgeable_lowered f h = accepted_can_be_lowered f h.numbered h.well_formed h.limits h.numbers h.undefs

-- and both its functions can be lowered
pub listed_runnable : (targets : List Entry) (source : Entry) (found : Option Functions) → AllByRecursion IsJudgeableEntry targets → IsJudgeableEntry source
    → pairs_in source.function (function_named targets source.name) ≡ listed found → IfSome found (λ p. CanBeLowered p.source × CanBeLowered p.target)
listed_runnable targets source None all one is = tt
listed_runnable targets source (Some pair) all one is =
    let can = listed_judged targets source (Some pair) all one is in (
      accepted_can_be_lowered pair.source can.source_numbered can.source_formed can.source_limits can.source_numbers can.source_undefs,
      accepted_can_be_lowered pair.target can.target_numbered can.target_formed can.target_limits can.target_numbers can.target_undefs,
    )

-- ---- how many there are

pub one_pair : (source : Result Function Refused) (target : Option (Result Function Refused)) → length (pairs_in source target) ≤ 1
one_pair (Ok f) (Some (Ok g)) = go (same_signature f g)
  where
    go : (same : Bool) → length (let ps : List Functions = if same then record { source = f; target = g } ∷ [] else [] in ps) ≤ 1
    go true = omega arith
    go false = omega arith
one_pair (Ok f) (Some (Err r)) = omega arith
one_pair (Ok f) None = omega arith
one_pair (Err r) (Some o) = omega arith
one_pair (Err r) None = omega arith

pub few_pairs : (targets sources : List Entry) → length (judged_pairs targets sources) ≤ length sources
few_pairs targets [] = omega arith
few_pairs targets (s ∷ ss) =
    let one = one_pair s.function (function_named targets s.name) in
    let others = few_pairs targets ss in
    omega (arith, length-append (pairs_in s.function (function_named targets s.name)) (judged_pairs targets ss))

-- ---- a module has at most 4,096 functions

-- the driver's numbers fit where those of all functions do
pub pairs_fit : (targets sources : List Entry) (workers : ℕ) → workers * (length sources + 1) < 2 ^ 64 → workers * (length (judged_pairs targets sources) + 1) < 2 ^ 64
pairs_fit targets sources workers fits =
    let few = few_pairs targets sources in
    let within : length (judged_pairs targets sources) + 1 ≤ length sources + 1 = omega arith in
    let less = mul-le-mul_left workers within in
    omega arith
