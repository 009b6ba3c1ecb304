-- What a token is: the class that all of some bytes spell (LLVM Language Reference, "Identifiers" and "High Level
-- Structure").
use Rattle.std.specs.Prelude.{ℕ, List, [], ◌∷◌, Option, Some, None, Bool, false, ◌||◌, ◌==◌, if◌then◌else◌}
use Rattle.std.specs.List.{list_all}
use Rattle.ir_lexer.specs.declared.token.Kind.{Kind}
use Rattle.ir_lexer.specs.declared.token.Kind.TheVariants as kind
use Rattle.ir_lexer.specs.Bytes.{is_digit, begins_word, is_name_byte, begins_name, is_hexadecimal_digit, is_float_kind, is_sign, is_inside_quotes, is_mark_byte}
use Rattle.ir_lexer.specs.Parts.{nothing, one, byte, many, some, maybe}

-- one or more digits
abbrev pub is_digits : List ℕ → Bool
is_digits [] = false
is_digits (b ∷ bs) = list_all is_digit (b ∷ bs)

-- an optional `-`, then digits
abbrev pub is_number : List ℕ → Bool
is_number = maybe (λ b. b == 45) is_digits

-- a letter, `_` or `.`, then name bytes
abbrev pub is_word : List ℕ → Bool
is_word = one begins_word (many is_name_byte nothing)

-- `"`, any bytes but `"`, `"`, and then the rest
abbrev pub quoted : (List ℕ → Bool) → List ℕ → Bool
quoted rest = byte 34 (many is_inside_quotes (byte 34 rest))

abbrev pub is_quoted : List ℕ → Bool
is_quoted = quoted nothing

-- name bytes of which the first is no digit
abbrev pub is_plain_name : List ℕ → Bool
is_plain_name = one begins_name (many is_name_byte nothing)

-- a number without a sign, name bytes that don't begin with a digit, or a quoted string
abbrev pub is_name : List ℕ → Bool
is_name text = is_digits text || is_plain_name text || is_quoted text

abbrev pub is_word_or_number : List ℕ → Bool
is_word_or_number text = is_word text || is_number text

-- name bytes, or a quoted string, followed directly by `:`
abbrev pub is_label : List ℕ → Bool
is_label text = some is_name_byte (byte 58 nothing) text || quoted (byte 58 nothing) text

-- `e`, a sign, digits
abbrev pub is_exponent : List ℕ → Bool
is_exponent = byte 101 (one is_sign (some is_digit nothing))

abbrev pub is_exponent_or_nothing : List ℕ → Bool
is_exponent_or_nothing text = is_exponent text || nothing text

-- an optional sign, digits, `.`, digits, optionally an exponent
abbrev pub is_float : List ℕ → Bool
is_float = maybe is_sign (some is_digit (byte 46 (some is_digit is_exponent_or_nothing)))

-- `0x`, an optional letter of K L M H R, hexadecimal digits
abbrev pub is_hexadecimal : List ℕ → Bool
is_hexadecimal = byte 48 (byte 120 (maybe is_float_kind (some is_hexadecimal_digit nothing)))

-- a quoted string, also with `c` before it
abbrev pub is_string : List ℕ → Bool
is_string = maybe (λ b. b == 99) is_quoted

-- a mark of one byte, or three dots
abbrev pub is_mark : List ℕ → Bool
is_mark text = one is_mark_byte nothing text || byte 46 (byte 46 (byte 46 nothing)) text

-- What the bytes spell, if they are one token. No bytes pass two of these tests, but for three dots alone, which are a
-- mark and no word.
abbrev pub class_of : List ℕ → Option Kind
class_of text =
    (if is_mark text then Some kind.Mark
    else (if is_word text then Some kind.Word
    else (if is_number text then Some kind.Number
    else (if byte 37 is_name text then Some kind.Local
    else (if byte 64 is_name text then Some kind.Global
    else (if byte 36 is_name text then Some kind.Comdat
    else (if byte 33 is_word_or_number text then Some kind.Metadata
    else (if byte 35 is_word_or_number text then Some kind.Hash
    else (if byte 94 is_number text then Some kind.Caret
    else (if is_label text then Some kind.Label
    else (if is_float text then Some kind.Float
    else (if is_hexadecimal text then Some kind.Hexadecimal
    else (if is_string text then Some kind.String else None)))))))))))))
