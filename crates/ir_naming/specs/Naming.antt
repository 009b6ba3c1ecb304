-- How a name is printed after its sign (LLVM Language Reference, "Identifiers").
use Rattle.std.specs.Prelude.{ℕ, ◌+◌, ◌-◌, ◌/◌, ◌%◌, List, [], ◌∷◌, ◌++◌, Bool, false, not, ◌&&◌, ◌||◌, ◌==◌, nat_lt, if◌then◌else◌}
use Rattle.std.specs.List.{flat_map, list_all}
use Rattle.ir_tree.specs.declared.name.Name.{Name}
use Rattle.ir_tree.specs.declared.name.Name.TheVariants.{Number, Word}

-- a hexadecimal digit; `ten` is the letter for ten
abbrev pub hex_digit : ℕ → ℕ → ℕ
hex_digit ten n = if nat_lt n 10 then 48 + n else ten + (n - 10)

-- two hexadecimal digits, with letters from this one on
abbrev pub hex_byte : ℕ → ℕ → List ℕ
hex_byte ten b = hex_digit ten (b / 16) ∷ hex_digit ten (b % 16) ∷ []

-- from the first to the last, both with it
abbrev pub is_between : ℕ → ℕ → ℕ → Bool
is_between first last b = not (nat_lt b first) && not (nat_lt last b)

abbrev pub is_digit : ℕ → Bool
is_digit b = is_between 48 57 b

-- a letter, a digit, `-`, `$`, `.` or `_`
abbrev pub is_name_byte : ℕ → Bool
is_name_byte b = is_between 97 122 b || is_between 65 90 b || is_digit b || b == 45 || b == 36 || b == 46 || b == 95

-- a word that needs no quotes: characters of a name, of which the first is no digit
abbrev pub is_bare : List ℕ → Bool
is_bare [] = false
is_bare (b ∷ bs) = not (is_digit b) && list_all is_name_byte (b ∷ bs)

-- between space and `~`, and neither a quote nor a backslash
abbrev pub is_plain : ℕ → Bool
is_plain b = is_between 32 126 b && not (b == 34) && not (b == 92)

-- a byte between quotes: as it is, or a backslash and its two digits in upper case
abbrev pub escaped : ℕ → List ℕ
escaped b = if is_plain b then b ∷ [] else 92 ∷ hex_byte 65 b

abbrev pub quoted : List ℕ → List ℕ
quoted bytes = 34 ∷ [] ++ flat_map escaped bytes ++ 34 ∷ []

-- a number's digits, a bare word, or a word in quotes
abbrev pub name_text : Name → List ℕ
name_text (Number digits) = digits
name_text (Word bytes) = if is_bare bytes then bytes else quoted bytes
