-- The name that a token spells (LLVM Language Reference, "Identifiers").
use Rattle.std.specs.Prelude.{ℕ, ◌+◌, ◌-◌, ◌*◌, List, [], ◌∷◌, length, take, drop, Option, Some, None, Bool, ◌&&◌, ◌==◌, nat_lt, nat_le, if◌then◌else◌}
use Rattle.ir_lexer.specs.Bytes.{is_hexadecimal_digit}
use Rattle.ir_lexer.specs.Spelling.{is_digits}
use Rattle.ir_lexer.specs.declared.token.Kind.{Kind}
use Rattle.ir_lexer.specs.declared.token.Kind.TheVariants as kind
use Rattle.ir_tree.specs.declared.name.Name.{Name}
use Rattle.ir_tree.specs.declared.name.Name.TheVariants as name

-- digits without leading zeros; the last one stays
abbrev pub without_zeros : List ℕ → List ℕ
without_zeros [] = []
without_zeros (d ∷ ds) = (if d == 48 && nat_lt 0 (length ds) then without_zeros ds else d ∷ ds)

-- the value of a hexadecimal digit
abbrev pub hexadecimal_value : ℕ → ℕ
hexadecimal_value b = (if nat_le b 57 then b - 48 else (if nat_le b 70 then b - 55 else b - 87))

abbrev pub is_backslash : ℕ → Bool
is_backslash b = b == 92

-- Bytes with escapes, read from the left: two backslashes are one, a backslash and two hexadecimal digits are a byte, and
-- any other backslash stands for itself.
abbrev pub unescaped : List ℕ → List ℕ
unescaped [] = []
unescaped (b ∷ []) = b ∷ []
unescaped (b ∷ c ∷ []) = (if is_backslash b && is_backslash c then 92 ∷ [] else b ∷ unescaped (c ∷ []))
unescaped (b ∷ c ∷ d ∷ rest) =
    (if is_backslash b && is_backslash c then 92 ∷ unescaped (d ∷ rest)
    else (if is_backslash b && is_hexadecimal_digit c && is_hexadecimal_digit d then (16 * hexadecimal_value c + hexadecimal_value d) ∷ unescaped rest
    else b ∷ unescaped (c ∷ d ∷ rest)))

-- The name that these bytes spell: a quoted string gives what is between its quotes and is never a
-- number, digits go by their value.
abbrev pub name_of : List ℕ → Name
name_of [] = name.Word []
name_of (b ∷ bs) =
    (if b == 34 then name.Word (unescaped (take (length bs - 1) bs)) else (if is_digits (b ∷ bs) then name.Number (without_zeros (b ∷ bs)) else name.Word (b ∷ bs)))

-- the name after a token's sign, or before a label's colon
abbrev pub name_in : Kind → List ℕ → Option Name
name_in kind.Local text = Some (name_of (drop 1 text))
name_in kind.Global text = Some (name_of (drop 1 text))
name_in kind.Comdat text = Some (name_of (drop 1 text))
name_in kind.Label text = Some (name_of (take (length text - 1) text))
name_in _ text = None
