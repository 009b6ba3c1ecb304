-- The measure of the search: the trail read as a number of base 3, which rises at each step.
use Rattle.clause_search.proofs.Common.{ℕ, zero, suc, ◌≡◌, ◌<◌, ◌+◌, ◌*◌, ◌^◌, ◌++◌, cond, List, [], ◌∷◌, eqb, length, true, false, arith, Entry, digit_of, code_of}
use Rattle.std.proofs.Math.Nat.{pow-suc}

pow_above : (n : ℕ) → 0 < 3 ^ n
pow_above zero = omega arith
pow_above (suc n) = rw (pow-suc 3 n) (omega (arith, pow_above n))

digit-below : (e : Entry) → digit_of e < 3
digit-below e = elim (eqb e.reason 0) as (λ t. cond t 1 2 < 3) [ true ↦ omega arith | false ↦ omega arith ]

digit-above : (e : Entry) → 0 < digit_of e
digit-above e = elim (eqb e.reason 0) as (λ t. 0 < cond t 1 2) [ true ↦ omega arith | false ↦ omega arith ]

below_three : (d p c : ℕ) → d < 3 → c < p → d * p + c < 3 * p
below_three zero p c h k = omega arith
below_three (suc zero) p c h k = omega arith
below_three (suc (suc zero)) p c h k = omega arith
below_three (suc (suc (suc d))) p c h k = absurd (omega arith)

pub code-below : (n : ℕ) (trail : List Entry) → code_of n trail < 3 ^ n
code-below zero trail = pow_above 0
code-below (suc n) [] = pow_above (suc n)
code-below (suc n) (e ∷ es) = rw (pow-suc 3 n) (omega (arith, below_three (digit_of e) (3 ^ n) (code_of n es) (digit-below e) (code-below n es)))

more_digit : (d p : ℕ) → 0 < d → 0 < p → 0 < d * p
more_digit (suc d) p h k = omega arith
more_digit zero p h k = absurd (omega arith)

-- one more entry
pub code-push : (n : ℕ) (trail : List Entry) (e : Entry) → length trail < n → code_of n trail < code_of n (trail ++ e ∷ [])
code-push zero trail e h = absurd (omega arith)
code-push (suc n) [] e h = omega (arith, more_digit (digit_of e) (3 ^ n) (digit-above e) (pow_above n))
code-push (suc n) (d ∷ es) e h = omega (arith, code-push n es e (omega arith))

-- an implied entry in place of a decision and all that came after it
pub code-jump : (n : ℕ) (kept : List Entry) (d : Entry) (dropped : List Entry) (e : Entry) → length kept < n → digit_of d ≡ 1 → digit_of e ≡ 2
    → code_of n (kept ++ d ∷ dropped) < code_of n (kept ++ e ∷ [])
code-jump zero kept d dropped e h one two = absurd (omega arith)
code-jump (suc n) [] d dropped e h one two = rw (one, two) (omega (arith, code-below n dropped))
code-jump (suc n) (c ∷ kept) d dropped e h one two = omega (arith, code-jump n kept d dropped e (omega arith) one two)
