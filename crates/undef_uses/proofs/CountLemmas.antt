-- The counts as they rise, and that they end as those of the function.
use Rattle.std.proofs.Common.{◌≡◌, ◌⊎◌, ◌≢◌, ◌+◌, ◌-◌, ◌*◌, ◌<◌, ◌≤◌, ℕ, min, List, [], ◌∷◌, ◌++◌, length, get_or, set, replicate, sum_by, Option, Some, None, inl, inr, refl, sym, ◌∙◌, ap, subst, arith, length-set, length-append, All, Contains}
use Rattle.std.specs.List.{find}
use Rattle.std.proofs.Math.Nat.{mul-le-mul_left}
use Rattle.std.proofs.lemmas.Bool.{cases_eq, cases_lt}
use Rattle.std.proofs.lemmas.List.{get_or-set_same, get_or-set_other, get_or-replicate, get_or_past, get_or_default, length-replicate}
use Rattle.std.proofs.lemmas.List.Sums.{sum_by-set, get_or-le-sum_by}
use Rattle.std.proofs.lemmas.List.Elements.{All-append, All-nil, All-push, All-get_or, All-pop, Contains-append_left, Contains-append_right, Contains-push, Contains-push_cases}
use Rattle.ir_tree.specs.declared.tree.Operand.{Operand}
use Rattle.ir_tree.specs.declared.tree.Operand.TheVariants.{Local, Number, Null, Poison, Undef}
use Rattle.ir_tree.specs.declared.tree.Inst.{Inst}
use Rattle.ir_tree.specs.declared.tree.Inst.TheVariants as inst
use Rattle.ir_tree.specs.declared.tree.Function.{Function}
use Rattle.ir_tree.specs.Sites.{AreNumbered}
use Rattle.ir_tree.specs.Carrying.{carrying_operands, insts_of, leaf_count, leaves_by, makes}
use Rattle.ir_tree.specs.Carrying as rule
use Rattle.ir_tree.proofs.Leaves.{count-least, counts_agree}
use Rattle.undef_uses.specs.declared.carried.Carried.{Carried}
use Rattle.undef_uses.specs.Counts.{AreCarried, AreCounts, AreEnough, AreLeast, IsCounting, carried_at, carried_from, carried_in, count_at, counted, leaves_in, nothing}
use Rattle.undef_uses.specs.Users.{AreUsers, Mentions, users_at}
use Rattle.undef_uses.proofs.TableLemmas.{none_makes}

-- ---- larger counts

counted-le : (f g : ℕ → ℕ) → ((n : ℕ) → f n ≤ g n) → (o : Operand) → counted f o ≤ counted g o
counted-le f g le (Local n) = le n
counted-le f g le Undef = omega arith
counted-le f g le (Number n) = omega arith
counted-le f g le Null = omega arith
counted-le f g le Poison = omega arith

min-le : (a b c x y z : ℕ) → a ≤ x → b ≤ y → c ≤ z → min 65 (a + b + c) ≤ min 65 (x + y + z)
min-le a b c x y z p q r = omega (arith, p, q, r)

leaves-le : (f g : ℕ → ℕ) → ((n : ℕ) → f n ≤ g n) → (c : Carried) → leaves_in f c ≤ leaves_in g c
leaves-le f g le c = min-le _ _ _ _ _ _ (counted-le f g le c.first) (counted-le f g le c.second) (counted-le f g le c.third)

-- ---- a count that changes

counted-other : (f g : ℕ → ℕ) (name : ℕ) → ((n : ℕ) → n ≢ name → f n ≡ g n) → (o : Operand) → (o ≡ Local name) ⊎ (counted f o ≡ counted g o)
counted-other f g name same (Local n) = by (cases_eq n name)
  where
    by : (n ≡ name) ⊎ (n ≢ name) → (Local n ≡ Local name) ⊎ (f n ≡ g n)
    by (inl is) = inl (ap Local is)
    by (inr away) = inr (same n away)
counted-other f g name same Undef = inr refl
counted-other f g name same (Number n) = inr refl
counted-other f g name same Null = inr refl
counted-other f g name same Poison = inr refl

sum-same : (a b c x y z : ℕ) → a ≡ x → b ≡ y → c ≡ z → min 65 (a + b + c) ≡ min 65 (x + y + z)
sum-same a b c x y z p q r = rw (p, q, r) refl

leaves-other : (f g : ℕ → ℕ) (name : ℕ) → ((n : ℕ) → n ≢ name → f n ≡ g n) → (c : Carried) → Mentions c name ⊎ (leaves_in f c ≡ leaves_in g c)
leaves-other f g name same c = by (counted-other f g name same c.first) (counted-other f g name same c.second) (counted-other f g name same c.third)
  where
    by : (c.first ≡ Local name) ⊎ (counted f c.first ≡ counted g c.first) → (c.second ≡ Local name) ⊎ (counted f c.second ≡ counted g c.second) → (c.third ≡ Local name) ⊎ (counted f c.third ≡ counted g c.third)
        → Mentions c name ⊎ (leaves_in f c ≡ leaves_in g c)
    by (inl is) _ _ = inl (inl is)
    by (inr _) (inl is) _ = inl (inr (inl is))
    by (inr _) (inr _) (inl is) = inl (inr (inr is))
    by (inr p) (inr q) (inr r) = inr (sum-same _ _ _ _ _ _ p q r)

-- ---- the walk

-- a name that waited, and the others
pub taken : (n : ℕ) (waiting rest : List ℕ) (name : ℕ) → waiting ≡ rest ++ name ∷ [] → All (λ k. k < n) waiting → name < n
taken n waiting rest name is all = (All-pop (λ k. k < n) waiting rest (Some name) is all).1

others : (n : ℕ) (waiting rest : List ℕ) (name : ℕ) → waiting ≡ rest ++ name ∷ [] → All (λ k. k < n) waiting → All (λ k. k < n) rest
others n waiting rest name is all = (All-pop (λ k. k < n) waiting rest (Some name) is all).0

-- its count is not too low
pub stays : (table : List Carried) (counts waiting rest : List ℕ) (name : ℕ) → waiting ≡ rest ++ name ∷ [] → leaves_in (count_at counts) (carried_at table name) ≤ count_at counts name → IsCounting table counts waiting → IsCounting table counts rest
stays table counts waiting rest name is quiet before = record { long = before.long; names = others (length table) waiting rest name is before.names; enough = λ n below. by n (before.enough n below); low = before.low }
  where
    away : (n : ℕ) → Contains rest n ⊎ (name ≡ n) → Contains rest n ⊎ (leaves_in (count_at counts) (carried_at table n) ≤ count_at counts n)
    away n (inl found) = inl found
    away n (inr same) = inr (subst (λ (k : ℕ). leaves_in (count_at counts) (carried_at table k) ≤ count_at counts k) same quiet)

    by : (n : ℕ) → Contains waiting n ⊎ (leaves_in (count_at counts) (carried_at table n) ≤ count_at counts n) → Contains rest n ⊎ (leaves_in (count_at counts) (carried_at table n) ≤ count_at counts n)
    by n (inl found) = away n (Contains-push_cases rest name n (subst (λ (ks : List ℕ). Contains ks n) is found))
    by n (inr enough) = inr enough

-- its count was too low, and rises; those that carry it wait
pub rises : (table : List Carried) (users : List (List ℕ)) (counts waiting rest after : List ℕ) (name leaves : ℕ) → waiting ≡ rest ++ name ∷ [] → after ≡ rest ++ users_at users name → name < length table
    → leaves ≡ leaves_in (count_at counts) (carried_at table name) → count_at counts name < leaves → AreUsers table (length table) users → IsCounting table counts waiting → IsCounting table (set counts name leaves) after
rises table users counts waiting rest after name leaves is more within leaves_is rose used before = record {
  long = length-set counts name leaves ∙ before.long;
  names = subst (All (λ k. k < length table)) (sym more) (All-append (λ k. k < length table) rest (users_at users name) (others (length table) waiting rest name is before.names)
      (All-get_or (All (λ k. k < length table)) users name [] (let long = used.long in omega (arith, within, long)) used.below));
  enough = λ n below. by n below (cases_eq n name) (leaves-other (count_at (set counts name leaves)) (count_at counts) name (λ k away. get_or-set_other counts name k leaves 0 away) (carried_at table n));
  low = λ count enough n. low count enough n (cases_eq n name);
}
  where
    inside : name < length counts
    inside = let long = before.long in omega (arith, within, long)

    now : count_at (set counts name leaves) name ≡ leaves
    now = get_or-set_same counts name leaves 0 inside

    IsSettled : ℕ → Type 0
    IsSettled n = Contains after n ⊎ (leaves_in (count_at (set counts name leaves)) (carried_at table n) ≤ count_at (set counts name leaves) n)

    waits : (n : ℕ) → Contains rest n → Contains after n
    waits n found = subst (λ (ks : List ℕ). Contains ks n) (sym more) (Contains-append_left rest (users_at users name) n found)

    old : (n : ℕ) → n ≢ name → leaves_in (count_at (set counts name leaves)) (carried_at table n) ≡ leaves_in (count_at counts) (carried_at table n)
        → Contains waiting n ⊎ (leaves_in (count_at counts) (carried_at table n) ≤ count_at counts n) → Contains after n ⊎ (leaves_in (count_at (set counts name leaves)) (carried_at table n) ≤ count_at (set counts name leaves) n)
    old n away same (inl found) = inl (waits n (left (Contains-push_cases rest name n (subst (λ (ks : List ℕ). Contains ks n) is found))))
      where
        left : Contains rest n ⊎ (name ≡ n) → Contains rest n
        left (inl there) = there
        left (inr e) = absurd (away (sym e))
    old n away same (inr enough) = inr (let kept = get_or-set_other counts name n leaves 0 away in omega (arith, same, enough, kept))

    by : (n : ℕ) → n < length table → (n ≡ name) ⊎ (n ≢ name) → Mentions (carried_at table n) name ⊎ (leaves_in (count_at (set counts name leaves)) (carried_at table n) ≡ leaves_in (count_at counts) (carried_at table n))
        → Contains after n ⊎ (leaves_in (count_at (set counts name leaves)) (carried_at table n) ≤ count_at (set counts name leaves) n)
    by n below _ (inl m) = inl (subst (λ (ks : List ℕ). Contains ks n) (sym more) (Contains-append_right rest (users_at users name) n (used.each n name below within m)))
    by n below (inl e) (inr same) =
        inr (let own : leaves_in (count_at counts) (carried_at table n) ≡ leaves = ap (λ (k : ℕ). leaves_in (count_at counts) (carried_at table k)) e ∙ sym leaves_is in
        let here : count_at (set counts name leaves) n ≡ leaves = ap (count_at (set counts name leaves)) e ∙ now in omega (arith, same, own, here))
    by n below (inr away) (inr same) = old n away same (before.enough n below)

    low : (count : ℕ → ℕ) → AreEnough table count → (n : ℕ) → (n ≡ name) ⊎ (n ≢ name) → count_at (set counts name leaves) n ≤ count n
    low count enough n (inl e) =
        let carried = leaves-le (count_at counts) count (before.low count enough) (carried_at table name) in
        let most = enough name within in
        subst (λ (k : ℕ). count_at (set counts name leaves) k ≤ count k) (sym e) (omega (arith, now, leaves_is, carried, most))
    low count enough n (inr away) = let kept = get_or-set_other counts name n leaves 0 away in let least = before.low count enough n in omega (arith, kept, least)

-- how far the counts may rise
abbrev pub room : List ℕ → ℕ
room counts = sum_by (λ (count : ℕ). 65 - count) counts

-- a bound on the names that may still be taken
unfoldable pub steps_left : List (List ℕ) → List ℕ → List ℕ → ℕ
steps_left users counts waiting = (sum_by length users + 1) * room counts + length waiting

products : (k small large few many : ℕ) → small + 1 ≤ large → few + 1 ≤ k → many ≡ few → k * small + many < k * large
products k small large few many rise fits is = let product = mul-le-mul_left k rise in omega (arith, product, fits, is)

pub steps-stay : (users : List (List ℕ)) (counts waiting rest : List ℕ) (name : ℕ) → waiting ≡ rest ++ name ∷ [] → steps_left users counts rest < steps_left users counts waiting
unfolding steps_left
steps-stay users counts waiting rest name is = let long = ap length is in let pushed = length-append rest (name ∷ []) in omega (arith, long, pushed)

pub steps-rise : (users : List (List ℕ)) (counts waiting rest after : List ℕ) (name leaves : ℕ) → waiting ≡ rest ++ name ∷ [] → after ≡ rest ++ users_at users name → name < length counts → name < length users
    → count_at counts name < leaves → leaves ≤ 65 → steps_left users (set counts name leaves) after < steps_left users counts waiting
unfolding steps_left
steps-rise users counts waiting rest after name leaves is more within used rose most =
    let sums = sum_by-set (λ (count : ℕ). 65 - count) counts name leaves 0 within in
    let fewer : room (set counts name leaves) + 1 ≤ room counts = omega (arith, sums, rose, most) in
    let fits : length (users_at users name) ≤ sum_by length users = get_or-le-sum_by length users name [] used in
    let product = products (sum_by length users + 1) (room (set counts name leaves)) (room counts) (length (users_at users name)) (length (users_at users name)) fewer (omega (arith, fits)) refl in
    let long = ap length is in
    let longer = ap length more in
    let pushed = length-append rest (name ∷ []) in
    let appended = length-append rest (users_at users name) in omega (arith, product, long, longer, pushed, appended)

pub settled : (table : List Carried) (counts waiting : List ℕ) → waiting ≡ [] → IsCounting table counts waiting → AreLeast table counts
settled table counts waiting none before = record { long = before.long; enough = λ n below. by n (before.enough n below); low = before.low }
  where
    by : (n : ℕ) → Contains waiting n ⊎ (leaves_in (count_at counts) (carried_at table n) ≤ count_at counts n) → leaves_in (count_at counts) (carried_at table n) ≤ count_at counts n
    by n (inl found) = absurd (let long = ap length none in let below = found.1 in omega (arith, long, below))
    by n (inr enough) = enough

-- ---- the start

-- of the names before an end those wait whose counts are too low
pub record IsBegun (table : List Carried) (counts : List ℕ) (end : ℕ) (waiting : List ℕ) : Type 0 where
  pub names : All (λ name. name < length table) waiting
  pub each : (name : ℕ) → name < end → Contains waiting name ⊎ (leaves_in (count_at counts) (carried_at table name) ≤ count_at counts name)

pub begun-none : (table : List Carried) (counts waiting : List ℕ) → waiting ≡ [] → IsBegun table counts 0 waiting
begun-none table counts waiting none = record { names = subst (All (λ name. name < length table)) (sym none) (All-nil (λ name. name < length table)); each = λ name below. absurd (omega (arith, below)) }

pub begun-waits : (table : List Carried) (counts : List ℕ) (end : ℕ) (old new : List ℕ) → end < length table → new ≡ old ++ end ∷ [] → IsBegun table counts end old → IsBegun table counts (end + 1) new
begun-waits table counts end old new within is before = record {
  names = subst (All (λ name. name < length table)) (sym is) (All-push (λ name. name < length table) old end before.names within);
  each = λ name below. by name below (cases_eq name end);
}
  where
    kept : (name : ℕ) → Contains old name ⊎ (leaves_in (count_at counts) (carried_at table name) ≤ count_at counts name) → Contains new name ⊎ (leaves_in (count_at counts) (carried_at table name) ≤ count_at counts name)
    kept name (inl found) = inl (subst (λ (ks : List ℕ). Contains ks name) (sym is) (Contains-append_left old (end ∷ []) name found))
    kept name (inr enough) = inr enough

    by : (name : ℕ) → name < end + 1 → (name ≡ end) ⊎ (name ≢ end) → Contains new name ⊎ (leaves_in (count_at counts) (carried_at table name) ≤ count_at counts name)
    by name below (inl same) = inl (subst (λ (ks : List ℕ). Contains ks name) (sym is) (subst (λ (k : ℕ). Contains (old ++ end ∷ []) k) (sym same) (Contains-push old end)))
    by name below (inr away) = kept name (before.each name (omega (arith, below, away)))

pub begun-stays : (table : List Carried) (counts : List ℕ) (end : ℕ) (waiting : List ℕ) → leaves_in (count_at counts) (carried_at table end) ≤ count_at counts end → IsBegun table counts end waiting → IsBegun table counts (end + 1) waiting
begun-stays table counts end waiting quiet before = record { names = before.names; each = λ name below. by name below (cases_eq name end) }
  where
    by : (name : ℕ) → name < end + 1 → (name ≡ end) ⊎ (name ≢ end) → Contains waiting name ⊎ (leaves_in (count_at counts) (carried_at table name) ≤ count_at counts name)
    by name below (inl same) = inr (subst (λ (k : ℕ). leaves_in (count_at counts) (carried_at table k) ≤ count_at counts k) (sym same) quiet)
    by name below (inr away) = before.each name (omega (arith, below, away))

zeros : (n name : ℕ) → count_at (replicate n 0) name ≡ 0
zeros n name = by (cases_lt name n)
  where
    by : (name < n) ⊎ (n ≤ name) → count_at (replicate n 0) name ≡ 0
    by (inl below) = get_or-replicate n name 0 0 below
    by (inr past) = get_or_past (replicate n 0) name 0 (let none : ℕ = 0 in let long = length-replicate n none in omega (arith, past, long))

-- ---- the rule by the table

sum_in : (count : Operand → ℕ) (i : Inst) → count Poison ≡ 0 → sum_by count (carrying_operands i) ≡ count (carried_in i).first + count (carried_in i).second + count (carried_in i).third
sum_in count (inst.Binary into op width left right) none = omega (arith, none)
sum_in count (inst.Icmp into predicate same_sign width left right) none = omega (arith, none)
sum_in count (inst.Cast into cast from operand to) none = omega (arith, none)
sum_in count (inst.Select into condition if_true if_false) none = omega (arith, none)
sum_in count (inst.Freeze into type operand) none = omega (arith, none)
sum_in count (inst.Alloca into number type align) none = omega (arith, none)
sum_in count (inst.Load into type pointer align) none = omega (arith, none)
sum_in count (inst.Store value pointer align) none = omega (arith, none)
sum_in count (inst.GetElementPtr into inbounds nuw type base indices) none = omega (arith, none)

sum_from : (count : Operand → ℕ) (o : Option Inst) → count Poison ≡ 0 → sum_by count (rule.carried_from o) ≡ count (carried_from o).first + count (carried_from o).second + count (carried_from o).third
sum_from count None none = omega (arith, none)
sum_from count (Some i) none = sum_in count i none

by_table : (f : Function) (table : List Carried) (count : Operand → ℕ) (name : ℕ) → AreCarried (insts_of f) table → name < length table → count Poison ≡ 0
    → leaves_by (insts_of f) count (Local name) ≡ min 65 (count (carried_at table name).first + count (carried_at table name).second + count (carried_at table name).third)
by_table f table count name carried below none = rw (carried name below) (ap (min 65) (sum_from count (find (makes name) (insts_of f)) none))

-- counts of a function that agree with the rule, by those of names
counted_is : (f : Function) (o : Operand) → counted (λ (n : ℕ). leaf_count f (Local n)) o ≡ leaf_count f o
counted_is f (Local n) = refl
counted_is f Undef = sym (counts_agree f Undef)
counted_is f (Number n) = sym (counts_agree f (Number n))
counted_is f Null = sym (counts_agree f Null)
counted_is f Poison = sym (counts_agree f Poison)

-- the least counts that the table allows are the function's
pub counts_are : (f : Function) (table : List Carried) (counts : List ℕ) → AreNumbered f → length table ≡ length f.names → AreCarried (insts_of f) table → AreLeast table counts → AreCounts f counts
counts_are f table counts numbered long carried least name = let low = least.low (λ (n : ℕ). leaf_count f (Local n)) enough name in let high = count-least f (counted (count_at counts)) closed (Local name) in omega (arith, low, high)
  where
    enough : AreEnough table (λ (n : ℕ). leaf_count f (Local n))
    enough n below =
        let c = carried_at table n in
        let its = sum-same _ _ _ _ _ _ (counted_is f c.first) (counted_is f c.second) (counted_is f c.third) in
        let same = by_table f table (leaf_count f) n carried below (counts_agree f Poison) in
        let agree = counts_agree f (Local n) in omega (arith, its, same, agree)

    local : (n : ℕ) → (n < length table) ⊎ (length table ≤ n) → leaves_by (insts_of f) (counted (count_at counts)) (Local n) ≤ count_at counts n
    local n (inl below) = let same = by_table f table (counted (count_at counts)) n carried below refl in let most = least.enough n below in omega (arith, same, most)
    local n (inr past) = rw (none_makes f n numbered (omega (arith, past, long))) (omega arith)

    closed : (o : Operand) → leaves_by (insts_of f) (counted (count_at counts)) o ≤ counted (count_at counts) o
    closed (Local n) = local n (cases_lt n (length table))
    closed Undef = omega arith
    closed (Number n) = omega arith
    closed Null = omega arith
    closed Poison = omega arith

-- ---- what a read gives

pub leaves_are : (table : List Carried) (counts read : List ℕ) (name leaves : ℕ) (d : Carried) → read ≡ counts → name < length table → leaves ≡ leaves_in (count_at read) (get_or table name d) → leaves ≡ leaves_in (count_at counts) (carried_at table name)
leaves_are table counts read name leaves d same below is = is ∙ ap (λ (cs : List ℕ). leaves_in (count_at cs) (get_or table name d)) same ∙ ap (leaves_in (count_at counts)) (get_or_default table name d nothing below)

pub count_is : (counts : List ℕ) (name count : ℕ) → name < length counts → count ≡ get_or counts name count → count ≡ count_at counts name
count_is counts name count below is = is ∙ get_or_default counts name count 0 below
