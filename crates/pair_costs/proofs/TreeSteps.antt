-- The steps in which all leaves are counted: where no name has too many, one for each instruction, and one more. While
-- a step counts the last leaf of some operand, it counts those of what some instruction carries.
use Rattle.std.proofs.Common.{◌≡◌, ◌⊎◌, ◌+◌, ◌-◌, ◌*◌, ◌<◌, ◌≤◌, ℕ, zero, suc, min, List, [], ◌∷◌, length, sum_by, Option, Some, None, inl, inr, refl, ◌∙◌, ap, sym, subst, arith}
use Rattle.std.specs.List.{AllByRecursion, find}
use Rattle.std.proofs.lemmas.Bool.{cases_lt}
use Rattle.std.proofs.lemmas.List.Sums.{sum_by-cons}
use Rattle.ir_tree.specs.declared.tree.Operand.{Operand}
use Rattle.ir_tree.specs.declared.tree.Operand.TheVariants.{Local, Number, Null, Poison, Undef}
use Rattle.ir_tree.specs.declared.tree.Inst.{Inst}
use Rattle.ir_tree.specs.declared.tree.Function.{Function}
use Rattle.ir_tree.specs.Carrying.{carrying_operands, carried_by, carried_from, insts_of, leaf_count, leaves_within, makes}
use Rattle.ir_tree.proofs.Leaves.{by-le, counts_agree, found, sum-le, within-least}
use Rattle.lowering.specs.Lowered.{HasFewLeaves}
use Rattle.lowering.proofs.Enough.{IsCounted, all-map, operands_counted}

-- ---- sums

-- two functions of which one is nowhere larger are the same on the list, or differ in their sums
sum_grows : {X : Type 0} (f g : X → ℕ) → ((x : X) → f x ≤ g x) → (xs : List X) → AllByRecursion (λ x. f x ≡ g x) xs ⊎ (sum_by f xs < sum_by g xs)
sum_grows f g le [] = inl tt
sum_grows {X} f g le (x ∷ xs) = by (cases_lt (f x) (g x)) (sum_grows f g le xs)
  where
    by : (f x < g x) ⊎ (g x ≤ f x) → AllByRecursion (λ y. f y ≡ g y) xs ⊎ (sum_by f xs < sum_by g xs) → AllByRecursion (λ y. f y ≡ g y) (x ∷ xs) ⊎ (sum_by f (x ∷ xs) < sum_by g (x ∷ xs))
    by (inl less) _ = inr (rw (sum_by-cons f x xs, sum_by-cons g x xs) (let rest = sum-le f g le xs in omega (arith, less, rest)))
    by (inr more) (inr rest) = inr (rw (sum_by-cons f x xs, sum_by-cons g x xs) (let here = le x in omega (arith, here, rest)))
    by (inr more) (inl same) = inl (let here = le x in omega (arith, here, more), same)

-- functions that are the same on the list have the same sum
pub sum_alike : {X : Type 0} (f g : X → ℕ) (xs : List X) → AllByRecursion (λ x. f x ≡ g x) xs → sum_by f xs ≡ sum_by g xs
sum_alike f g [] same = refl
sum_alike f g (x ∷ xs) same = rw (sum_by-cons f x xs, sum_by-cons g x xs) (let here = same.0 in let rest = sum_alike f g xs same.1 in omega (arith, here, rest))

sum-ones : {X : Type 0} (f : X → ℕ) → ((x : X) → f x ≤ 1) → (xs : List X) → sum_by f xs ≤ length xs
sum-ones f le [] = omega arith
sum-ones f le (x ∷ xs) = rw (sum_by-cons f x xs) (let here = le x in let rest = sum-ones f le xs in omega (arith, here, rest))

-- ---- one step more

within-more : (insts : List Inst) (n : ℕ) (o : Operand) → leaves_within n insts o ≤ leaves_within (suc n) insts o
unfolding leaves_within
within-more insts zero o = omega arith
within-more insts (suc n) o = by-le insts (leaves_within n insts) (leaves_within (suc n) insts) (within-more insts n) o

no-more : (f : Function) (n : ℕ) (o : Operand) → leaves_within n (insts_of f) o ≤ leaf_count f o
no-more f n o = within-least (insts_of f) (leaf_count f) (λ p. let same = counts_agree f p in omega (arith, same)) n o

-- 1 where in this number of steps all leaves of what an instruction carries are counted, else 0
done : Function → ℕ → Inst → ℕ
done f n i = 1 - (sum_by (leaf_count f) (carrying_operands i) - sum_by (leaves_within n (insts_of f)) (carrying_operands i))

done-more : (f : Function) (n : ℕ) (i : Inst) → done f n i ≤ done f (suc n) i
unfolding done
done-more f n i = let more = sum-le (leaves_within n (insts_of f)) (leaves_within (suc n) (insts_of f)) (within-more (insts_of f) n) (carrying_operands i) in omega (arith, more)

done-most : (f : Function) (n : ℕ) (i : Inst) → done f n i ≤ 1
unfolding done
done-most f n i = omega arith

-- ---- steps after which no more leaves are counted

-- in the next step no operand's last leaf is counted
abbrev IsStill : Function → ℕ → Type 0
IsStill f n = (o : Operand) → IsCounted f (suc n) o → IsCounted f n o

still : (f : Function) → HasFewLeaves f → (n : ℕ) → AllByRecursion (λ i. done f n i ≡ done f (suc n) i) (insts_of f) → IsStill f (suc n)
unfolding leaves_within done
still f few n all (Local name) counted = by (find (makes name) (insts_of f)) refl
  where
    by : (o : Option Inst) → find (makes name) (insts_of f) ≡ o → IsCounted f (suc n) (Local name)
    by None e =
        let agree : leaf_count f (Local name) ≡ min 65 (sum_by (leaf_count f) (carried_from None)) = counts_agree f (Local name) ∙ ap (λ (o : Option Inst). min 65 (sum_by (leaf_count f) (carried_from o))) e in
        ap (λ (o : Option Inst). min 65 (sum_by (leaves_within n (insts_of f)) (carried_from o))) e ∙ sym agree
    by (Some i) e =
        let agree : leaf_count f (Local name) ≡ min 65 (sum_by (leaf_count f) (carrying_operands i)) = counts_agree f (Local name) ∙ ap (λ (o : Option Inst). min 65 (sum_by (leaf_count f) (carried_from o))) e in
        let later : min 65 (sum_by (leaves_within (suc n) (insts_of f)) (carrying_operands i)) ≡ leaf_count f (Local name) = sym (ap (λ (o : Option Inst). min 65 (sum_by (leaves_within (suc n) (insts_of f)) (carried_from o))) e) ∙ counted in
        let same : done f n i ≡ done f (suc n) i = found (λ j. done f n j ≡ done f (suc n) j) (makes name) (insts_of f) (Some i) all e i refl in
        let most = few name in
        let most-now = sum-le (leaves_within n (insts_of f)) (leaf_count f) (no-more f n) (carrying_operands i) in
        let now : min 65 (sum_by (leaves_within n (insts_of f)) (carrying_operands i)) ≡ leaf_count f (Local name) = omega (arith, agree, later, same, most, most-now) in
        ap (λ (o : Option Inst). min 65 (sum_by (leaves_within n (insts_of f)) (carried_from o))) e ∙ now
still f few n all Undef counted = counted
still f few n all (Number k) counted = counted
still f few n all Null counted = counted
still f few n all Poison counted = counted

still-on : (f : Function) → HasFewLeaves f → (n : ℕ) → IsStill f n → IsStill f (suc n)
unfolding leaves_within
still-on f few n same (Local name) counted =
    let now = all-map (IsCounted f (suc n)) (IsCounted f n) same (carried_by (insts_of f) name) (operands_counted f few (suc n) name counted) in
    let agree : leaf_count f (Local name) ≡ min 65 (sum_by (leaf_count f) (carried_by (insts_of f) name)) = counts_agree f (Local name) in
    ap (min 65) (sum_alike (leaves_within n (insts_of f)) (leaf_count f) (carried_by (insts_of f) name) now) ∙ sym agree
still-on f few n same Undef counted = counted
still-on f few n same (Number k) counted = counted
still-on f few n same Null counted = counted
still-on f few n same Poison counted = counted

-- from then on what is counted in more steps was counted then
still-all : (f : Function) → HasFewLeaves f → (more n : ℕ) → IsStill f n → (o : Operand) → IsCounted f (more + n) o → IsCounted f n o
still-all f few zero n same o counted = subst (λ (m : ℕ). IsCounted f m o) (let e : zero + n ≡ n = omega arith in e) counted
still-all f few (suc more) n same o counted =
    same o (still-all f few more (suc n) (still-on f few n same) o (subst (λ (m : ℕ). IsCounted f m o) (let e : suc more + n ≡ more + suc n = omega arith in e) counted))

-- ---- each step counts those of one instruction more

-- nothing changes any more, or for each step there is an instruction
abbrev IsStillOrMany : Function → ℕ → Type 0
IsStillOrMany f n = IsStill f (suc n) ⊎ (suc n ≤ sum_by (done f (suc n)) (insts_of f))

rises : (f : Function) → HasFewLeaves f → (n : ℕ) → IsStillOrMany f n
rises f few zero = by (sum_grows (done f 0) (done f 1) (done-more f 0) (insts_of f))
  where
    by : AllByRecursion (λ i. done f 0 i ≡ done f 1 i) (insts_of f) ⊎ (sum_by (done f 0) (insts_of f) < sum_by (done f 1) (insts_of f)) → IsStillOrMany f 0
    by (inl all) = inl (still f few 0 all)
    by (inr more) = inr (omega (arith, more))
rises f few (suc n) = by (rises f few n)
  where
    again : suc n ≤ sum_by (done f (suc n)) (insts_of f) → AllByRecursion (λ i. done f (suc n) i ≡ done f (suc (suc n)) i) (insts_of f) ⊎ (sum_by (done f (suc n)) (insts_of f) < sum_by (done f (suc (suc n))) (insts_of f)) → IsStillOrMany f (suc n)
    again many (inl all) = inl (still f few (suc n) all)
    again many (inr more) = inr (omega (arith, more, many))

    by : IsStillOrMany f n → IsStillOrMany f (suc n)
    by (inl same) = inl (still-on f few (suc n) same)
    by (inr many) = again many (sum_grows (done f (suc n)) (done f (suc (suc n))) (done-more f (suc n)) (insts_of f))

at-last : (f : Function) → HasFewLeaves f → IsStill f (suc (length (insts_of f)))
at-last f few = by (rises f few (length (insts_of f)))
  where
    by : IsStillOrMany f (length (insts_of f)) → IsStill f (suc (length (insts_of f)))
    by (inl same) = same
    by (inr many) = absurd (let most = sum-ones (done f (suc (length (insts_of f)))) (done-most f (suc (length (insts_of f)))) (insts_of f) in omega (arith, many, most))

pub counted-in : (f : Function) (n : ℕ) → n ≡ 66 * (length (insts_of f) + 1) → (o : Operand) → IsCounted f n o
unfolding leaf_count
counted-in f n e o = ap (λ (m : ℕ). leaves_within m (insts_of f) o) e

pub counted_soon : (f : Function) → HasFewLeaves f → (o : Operand) → IsCounted f (suc (length (insts_of f))) o
counted_soon f few o =
    still-all f few (65 * (length (insts_of f) + 1)) (suc (length (insts_of f))) (at-last f few) o
    (counted-in f (65 * (length (insts_of f) + 1) + suc (length (insts_of f))) (omega arith) o)
