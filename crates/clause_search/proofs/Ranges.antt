-- What holds of each by its index holds of each member.
use Rattle.clause_search.proofs.Common.{ℕ, suc, ◌<◌, ◌≤◌, inl, inr, List, [], ◌∷◌, arith, subst, All, Has, Lit, AreWithin, AreInRange}

module _ {X : Type 0} (Q : X → Type 0) where
  has-all : (xs : List X) (x : X) → All Q xs → Has xs x → Q x
  has-all [] x h a = absurd a
  has-all (y ∷ ys) x h (inl e) = subst Q e (h 0 y (omega arith))
  has-all (y ∷ ys) x h (inr a) = has-all ys x (λ k d lt. h (suc k) d (omega arith)) a

-- clauses that are within by their type are in range
pub in_range-within : (variables : ℕ) (clauses : List (List Lit)) → AreWithin variables clauses → AreInRange variables clauses
in_range-within variables clauses h c among l has =
    let In : Lit → Type 0 = λ k. (0 < k.variable) × (k.variable ≤ variables) in
    has-all In c l (has-all (λ d. All In d) clauses c h among) has
