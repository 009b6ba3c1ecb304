-- Numbers as decimal digits spell them.
use Rattle.std.specs.Prelude.{◌≡◌, ℕ, ◌+◌, ◌-◌, ◌*◌, ◌^◌, ◌%◌, List, [], ◌∷◌, Option, Some, None, Bool, true, false, ◌==◌, nat_le, nat_lt, if◌then◌else◌, refl}
use Rattle.std.proofs.lemmas.Bool.{leb-true}
use Rattle.tv_num.specs.declared.Width.{Width}

-- the number of these digits, after digits of value v
abbrev pub value_after : ℕ → List ℕ → ℕ
value_after v [] = v
value_after v (d ∷ ds) = value_after (v * 10 + (d - 48)) ds

abbrev pub value_of : List ℕ → ℕ
value_of digits = value_after 0 digits

-- a number, if it is below this one
abbrev pub some_below : ℕ → ℕ → Option ℕ
some_below limit n = (if nat_lt n limit then Some n else None)

-- the width of n bits, if there is one
abbrev pub width_when : (n : ℕ) (low high : Bool) → nat_le 1 n ≡ low → nat_le n 64 ≡ high → Option Width
width_when n true true l h = Some (record { bits = n; at_least_1 = leb-true 1 n l; at_most_64 = leb-true n 64 h })
width_when n _ _ l h = None

unfoldable pub width_of : ℕ → Option Width
width_of n = width_when n (nat_le 1 n) (nat_le n 64) refl refl

-- a number with a minus
abbrev pub is_negative : List ℕ → Bool
is_negative [] = false
is_negative (c ∷ ds) = c == 45

abbrev pub magnitude : List ℕ → ℕ
magnitude [] = 0
magnitude (c ∷ ds) = (if c == 45 then value_of ds else value_of (c ∷ ds))

-- from -2^(width - 1) up to 2^width, exclusive
abbrev pub in_range : ℕ → Bool → ℕ → Bool
in_range width negative n = (if negative then nat_le n (2 ^ (width - 1)) else nat_lt n (2 ^ width))

-- wrapped to the width
abbrev pub wrapped : ℕ → Bool → ℕ → ℕ
wrapped width negative n = (if negative then (2 ^ width - n) % 2 ^ width else n)

-- the literal of a width that the token spells, if it is in range
abbrev pub literal_in : ℕ → List ℕ → Option ℕ
literal_in width text = (if in_range width (is_negative text) (magnitude text) then Some (wrapped width (is_negative text) (magnitude text)) else None)
