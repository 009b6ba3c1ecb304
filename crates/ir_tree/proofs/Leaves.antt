-- The counts of leaves agree with their rule, and are the least that do.
use Rattle.ir_tree.proofs.Common.{◌≡◌, ◌⊎◌, ◌+◌, ◌*◌, ◌<◌, ◌≤◌, ℕ, zero, suc, min, Bool, true, false, cond, List, [], ◌∷◌, length, sum_by, Option, Some, None, inl, inr, refl, ◌∙◌, ap, subst, arith, find, AllByRecursion, cases_Bool, cases_lt, Operand, Local, Number, Null, Poison, Undef, Inst, Function}
use Rattle.std.proofs.lemmas.List.Sums.{sum_by-cons}
use Rattle.ir_tree.specs.Carrying.{carrying_operands, insts_of, makes, carried_from, carried_by, leaves_by, leaves_within, leaf_count, LeafCountsAgree, LeafCountsAreLeast}

-- ---- sums

pub sum-le : {X : Type 0} (f g : X → ℕ) → ((x : X) → f x ≤ g x) → (xs : List X) → sum_by f xs ≤ sum_by g xs
sum-le f g le [] = omega arith
sum-le f g le (x ∷ xs) = rw (sum_by-cons f x xs, sum_by-cons g x xs) (let here = le x in let rest = sum-le f g le xs in omega (arith, here, rest))

pub sum-same : {X : Type 0} (f g : X → ℕ) → ((x : X) → f x ≡ g x) → (xs : List X) → sum_by f xs ≡ sum_by g xs
sum-same f g same [] = refl
sum-same f g same (x ∷ xs) = rw (sum_by-cons f x xs, sum_by-cons g x xs) (let here = same x in let rest = sum-same f g same xs in omega (arith, here, rest))

-- two functions of which one is nowhere larger are the same on the list, or differ in their sums
sum_grows : {X : Type 0} (f g : X → ℕ) → ((x : X) → f x ≤ g x) → (xs : List X) → AllByRecursion (λ x. f x ≡ g x) xs ⊎ (sum_by f xs < sum_by g xs)
sum_grows f g le [] = inl tt
sum_grows {X} f g le (x ∷ xs) = by (cases_lt (f x) (g x)) (sum_grows f g le xs)
  where
    by : (f x < g x) ⊎ (g x ≤ f x) → AllByRecursion (λ y. f y ≡ g y) xs ⊎ (sum_by f xs < sum_by g xs) → AllByRecursion (λ y. f y ≡ g y) (x ∷ xs) ⊎ (sum_by f (x ∷ xs) < sum_by g (x ∷ xs))
    by (inl less) _ = inr (rw (sum_by-cons f x xs, sum_by-cons g x xs) (let rest = sum-le f g le xs in omega (arith, less, rest)))
    by (inr more) (inr rest) = inr (rw (sum_by-cons f x xs, sum_by-cons g x xs) (let here = le x in omega (arith, here, rest)))
    by (inr more) (inl same) = inl (let here = le x in omega (arith, here, more), same)

sum-most : {X : Type 0} (f : X → ℕ) (m : ℕ) → ((x : X) → f x ≤ m) → (xs : List X) → sum_by f xs ≤ m * length xs
sum-most f m le [] = omega arith
sum-most f m le (x ∷ xs) = rw (sum_by-cons f x xs) (let here = le x in let rest = sum-most f m le xs in omega (arith, here, rest))

-- ---- the rule

-- larger counts give larger ones
pub by-le : (insts : List Inst) (f g : Operand → ℕ) → ((o : Operand) → f o ≤ g o) → (o : Operand) → leaves_by insts f o ≤ leaves_by insts g o
by-le insts f g le (Local name) = let sums = sum-le f g le (carried_by insts name) in omega (arith, sums)
by-le insts f g le Undef = omega arith
by-le insts f g le (Number n) = omega arith
by-le insts f g le Null = omega arith
by-le insts f g le Poison = omega arith

by-same : (insts : List Inst) (f g : Operand → ℕ) → ((o : Operand) → f o ≡ g o) → (o : Operand) → leaves_by insts f o ≡ leaves_by insts g o
by-same insts f g same (Local name) = ap (min 65) (sum-same f g same (carried_by insts name))
by-same insts f g same Undef = refl
by-same insts f g same (Number n) = refl
by-same insts f g same Null = refl
by-same insts f g same Poison = refl

-- ---- steps

-- a step more counts no fewer leaves
within-more : (insts : List Inst) (n : ℕ) (o : Operand) → leaves_within n insts o ≤ leaves_within (suc n) insts o
unfolding leaves_within
within-more insts zero o = omega arith
within-more insts (suc n) o = by-le insts (leaves_within n insts) (leaves_within (suc n) insts) (within-more insts n) o

-- counts that are nowhere below the rule are nowhere below those of any number of steps
pub within-least : (insts : List Inst) (count : Operand → ℕ) → ((o : Operand) → leaves_by insts count o ≤ count o) → (n : ℕ) (o : Operand) → leaves_within n insts o ≤ count o
unfolding leaves_within
within-least insts count closed zero o = omega arith
within-least insts count closed (suc n) o =
    let rule = by-le insts (leaves_within n insts) count (within-least insts count closed n) o in let last = closed o in omega (arith, rule, last)

-- what an instruction carries in this number of steps
weight : List Inst → ℕ → Inst → ℕ
weight insts n i = min 65 (sum_by (leaves_within n insts) (carrying_operands i))

weight-more : (insts : List Inst) (n : ℕ) (i : Inst) → weight insts n i ≤ weight insts (suc n) i
unfolding weight
weight-more insts n i = let sums = sum-le (leaves_within n insts) (leaves_within (suc n) insts) (within-more insts n) (carrying_operands i) in omega (arith, sums)

weight-most : (insts : List Inst) (n : ℕ) (i : Inst) → weight insts n i ≤ 65
unfolding weight
weight-most insts n i = omega arith

-- what holds of each instruction holds of the one that is found
pub found : (P : Inst → Type 0) (p : Inst → Bool) (insts : List Inst) (o : Option Inst) → AllByRecursion P insts → find p insts ≡ o → (i : Inst) → o ≡ Some i → P i
found P p [] o all e i is = let never : None ≡ Some i = e ∙ is in cc
found P p (x ∷ xs) o all e i is = by (cases_Bool (p x)) (λ same. found P p xs o all.1 same i is)
  where
    by : (p x ≡ true) ⊎ (p x ≡ false) → (find p xs ≡ o → P i) → P i
    by (inl yes') rest = subst P (let same : Some x ≡ Some i = (let step : find p (x ∷ xs) ≡ Some x = ap (λ (b : Bool). cond b (Some x) (find p xs)) yes' in cc) in let is : x ≡ i = cc in is) all.0
    by (inr no') rest = rest (let step : find p (x ∷ xs) ≡ find p xs = ap (λ (b : Bool). cond b (Some x) (find p xs)) no' in cc)

-- where no instruction's count rises, no count rises afterwards
still : (insts : List Inst) (n : ℕ) → AllByRecursion (λ i. weight insts n i ≡ weight insts (suc n) i) insts → (o : Operand) → leaves_within (suc n) insts o ≡ leaves_within (suc (suc n)) insts o
unfolding leaves_within weight
still insts n all (Local name) = by (find (makes name) insts) refl
  where
    by : (o : Option Inst) → find (makes name) insts ≡ o → min 65 (sum_by (leaves_within n insts) (carried_from (find (makes name) insts))) ≡ min 65 (sum_by (leaves_within (suc n) insts) (carried_from (find (makes name) insts)))
    by None e = rw e refl
    by (Some i) e = rw e (found (λ j. weight insts n j ≡ weight insts (suc n) j) (makes name) insts (Some i) all e i refl)
still insts n all Undef = refl
still insts n all (Number k) = refl
still insts n all Null = refl
still insts n all Poison = refl

still-on : (insts : List Inst) (n : ℕ) → ((o : Operand) → leaves_within n insts o ≡ leaves_within (suc n) insts o) → (o : Operand) → leaves_within (suc n) insts o ≡ leaves_within (suc (suc n)) insts o
unfolding leaves_within
still-on insts n same o = by-same insts (leaves_within n insts) (leaves_within (suc n) insts) same o

-- after n steps no count rises any more, or the instructions' counts have risen n times
abbrev AreStillOrLarge : List Inst → ℕ → Type 0
AreStillOrLarge insts n = ((o : Operand) → leaves_within (suc n) insts o ≡ leaves_within (suc (suc n)) insts o) ⊎ (suc n ≤ sum_by (weight insts (suc n)) insts)

rises : (insts : List Inst) (n : ℕ) → AreStillOrLarge insts n
rises insts zero = by (sum_grows (weight insts 0) (weight insts 1) (weight-more insts 0) insts)
  where
    by : AllByRecursion (λ i. weight insts 0 i ≡ weight insts 1 i) insts ⊎ (sum_by (weight insts 0) insts < sum_by (weight insts 1) insts) → AreStillOrLarge insts 0
    by (inl all) = inl (still insts 0 all)
    by (inr more) = inr (omega (arith, more))
rises insts (suc n) = by (rises insts n)
  where
    again : suc n ≤ sum_by (weight insts (suc n)) insts → AllByRecursion (λ i. weight insts (suc n) i ≡ weight insts (suc (suc n)) i) insts ⊎ (sum_by (weight insts (suc n)) insts < sum_by (weight insts (suc (suc n))) insts) → AreStillOrLarge insts (suc n)
    again large (inl all) = inl (still insts (suc n) all)
    again large (inr more) = inr (omega (arith, more, large))

    by : AreStillOrLarge insts n → AreStillOrLarge insts (suc n)
    by (inl same) = inl (still-on insts (suc n) same)
    by (inr large) = again large (sum_grows (weight insts (suc n)) (weight insts (suc (suc n))) (weight-more insts (suc n)) insts)

enough : (insts : List Inst) (n : ℕ) → n ≡ 66 * (length insts + 1) → (o : Operand) → leaves_within n insts o ≡ leaves_within (suc n) insts o
enough insts zero e o = absurd (omega (arith, e))
enough insts (suc n) e o = by (rises insts n)
  where
    by : AreStillOrLarge insts n → leaves_within (suc n) insts o ≡ leaves_within (suc (suc n)) insts o
    by (inl same) = same o
    by (inr large) = absurd (let most = sum-most (weight insts (suc n)) 65 (weight-most insts (suc n)) insts in omega (arith, large, most, e))

-- ---- the laws

pub counts_agree : LeafCountsAgree
unfolding leaf_count leaves_within
counts_agree f o = enough (insts_of f) (66 * (length (insts_of f) + 1)) refl o

-- counts that are nowhere below the rule are nowhere below the least
pub count-least : (f : Function) (count : Operand → ℕ) → ((o : Operand) → leaves_by (insts_of f) count o ≤ count o) → (o : Operand) → leaf_count f o ≤ count o
unfolding leaf_count
count-least f count closed o = within-least (insts_of f) count closed (66 * (length (insts_of f) + 1)) o

pub counts_least : LeafCountsAreLeast
counts_least f count agree o = count-least f count (λ p. let same = agree p in omega (arith, same)) o
