-- Why a search ends: its trail, read as a number of base 3, rises at each step.
use Rattle.std.specs.Prelude.{ℕ, ◌+◌, ◌-◌, ◌*◌, ◌^◌, cond, nat_eq, List, [], ◌∷◌, zero, suc}
use Rattle.clause_search.specs.declared.trail.Entry.{Entry}

-- the digit of a decision is 1, and that of an implied literal 2
abbrev pub digit_of : Entry → ℕ
digit_of e = cond (nat_eq e.reason 0) 1 2

-- the first n entries as digits of base 3, most significant first
abbrev pub code_of : ℕ → List Entry → ℕ
code_of zero trail = 0
code_of (suc n) [] = 0
code_of (suc n) (e ∷ es) = digit_of e * 3 ^ n + code_of n es

-- how far the trail is from its greatest number
abbrev pub left_of : ℕ → List Entry → ℕ
left_of variables trail = 3 ^ (variables + 2) - code_of (variables + 2) trail
