-- Truths that hold together.
use Rattle.refine_terms.proofs.Common.{ℕ, ◌≡◌, ◌≤◌, ◌↔◌, Bool, true, false, ◌&&◌, nat_eq, nat_le, refl, arith, eqb-true, eq-eqb, and_from, nat_tests}

pub and_left : (a b : Bool) → (a && b) ≡ true → a ≡ true
and_left true b h = refl
and_left false b h = h

pub and_right : (a b : Bool) → (a && b) ≡ true → b ≡ true
and_right true b h = h
and_right false b h = absurd (let x : ⊥ = cc in x)

pub and_says : (a b : Bool) (A B : Type 0) → (a ≡ true) ↔ A → (b ≡ true) ↔ B → ((a && b) ≡ true) ↔ (A × B)
and_says a b A B p q = ((λ h. (p.0 (and_left a b h), q.0 (and_right a b h))), (λ f. and_from a b (p.1 f.0) (q.1 f.1)))

pub equal_says : (a b : ℕ) → (nat_eq a b ≡ true) ↔ (a ≡ b)
equal_says a b = (eqb-true a b, eq-eqb a b)

le_says : (a b : ℕ) → nat_le a b ≡ true → a ≤ b
le_says a b t = grind (arith, nat_tests)

says_le : (a b : ℕ) → a ≤ b → nat_le a b ≡ true
says_le a b t = grind (arith, nat_tests)

pub at_most_says : (a b : ℕ) → (nat_le a b ≡ true) ↔ (a ≤ b)
at_most_says a b = (le_says a b, says_le a b)
