-- The name of what is written without one, a parameter or an entry: one more than the greatest
-- number among the names before, or 0 (LLVM Language Reference, "Functions"). Numbers have any
-- size, so this is stated on decimal digits.
use Rattle.std.specs.Prelude.{ℕ, ◌+◌, List, [], ◌∷◌, length, reverse, Bool, false, ◌&&◌, ◌||◌, ◌==◌, nat_lt, if◌then◌else◌, codes}
use Rattle.ir_tree.specs.declared.name.Name.{Name}
use Rattle.ir_tree.specs.declared.name.Name.TheVariants.{Number, Word}

-- of two numbers of the same length, whether the first is greater, from the first digit on
abbrev pub is_greater : List ℕ → List ℕ → Bool
is_greater (x ∷ xs) (y ∷ ys) = nat_lt y x || (x == y && is_greater xs ys)
is_greater _ _ = false

-- whether the first number is greater; neither has leading zeros
abbrev pub is_above : List ℕ → List ℕ → Bool
is_above xs ys = nat_lt (length ys) (length xs) || (length xs == length ys && is_greater xs ys)

-- the digits of the greatest number among the names and one before; no digits where there is none
abbrev pub greatest : List ℕ → List Name → List ℕ
greatest most [] = most
greatest most (Number digits ∷ names) = greatest (if is_above digits most then digits else most) names
greatest most (Word text ∷ names) = greatest most names

-- one more, from the last digit on: a nine becomes a zero and carries
abbrev pub carried : List ℕ → List ℕ
carried [] = codes "1"
carried (d ∷ ds) = (if nat_lt d 57 then (d + 1) ∷ ds else 48 ∷ carried ds)

abbrev pub one_more : List ℕ → List ℕ
one_more [] = codes "0"
one_more (d ∷ ds) = reverse (carried (reverse (d ∷ ds)))

abbrev pub next_name : List Name → Name
next_name names = Number (one_more (greatest [] names))
