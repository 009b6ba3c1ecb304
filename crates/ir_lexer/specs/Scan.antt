-- What follows the longest prefix of each class, as the code finds it.
use Rattle.std.specs.Prelude.{ℕ, ◌+◌, ◌-◌, List, [], ◌∷◌, length, take_while, Option, Some, None, option_and_then, unwrap_or, Bool, ◌==◌, nat_lt, if◌then◌else◌}
use Rattle.ir_lexer.specs.declared.token.Kind.{Kind}
use Rattle.ir_lexer.specs.declared.token.Kind.TheVariants as kind
use Rattle.ir_lexer.specs.Bytes.{is_digit, begins_word, is_name_byte, begins_name, is_hexadecimal_digit, is_float_kind, is_sign, is_inside_quotes, is_mark_byte}
use Rattle.ir_lexer.specs.Parts.{behind, behind_one}

infixl 10 ◌>>=◌
abbrev pub ◌>>=◌ : {A B : Type 0} → Option A → (A → Option B) → Option B
o >>= f = option_and_then f o

-- the number of leading bytes that can be in a name
abbrev pub name_run : List ℕ → ℕ
name_run text = length (take_while is_name_byte text)

abbrev pub after_one : (ℕ → Bool) → List ℕ → Option (List ℕ)
after_one p [] = None
after_one p (b ∷ bs) = (if p b then Some bs else None)

abbrev pub after_byte : ℕ → List ℕ → Option (List ℕ)
after_byte wanted text = after_one (λ b. b == wanted) text

abbrev pub after_some : (ℕ → Bool) → List ℕ → Option (List ℕ)
after_some p [] = None
after_some p (b ∷ bs) = (if p b then Some (behind p bs) else None)

-- of two rests the shorter one, the first where they are equal
abbrev pub shorter : Option (List ℕ) → Option (List ℕ) → Option (List ℕ)
shorter None other = other
shorter (Some rest) None = Some rest
shorter (Some rest) (Some other) = (if nat_lt (length other) (length rest) then Some other else Some rest)

unfoldable pub after_digits : List ℕ → Option (List ℕ)
after_digits text = after_some is_digit text

unfoldable pub after_number : List ℕ → Option (List ℕ)
after_number text = after_digits (behind_one (λ b. b == 45) text)

unfoldable pub after_word : List ℕ → Option (List ℕ)
after_word text = do
  rest ← after_one begins_word text
  Some (behind is_name_byte rest)

unfoldable pub after_quoted : List ℕ → Option (List ℕ)
after_quoted text = do
  inside ← after_byte 34 text
  after_byte 34 (behind is_inside_quotes inside)

unfoldable pub after_plain_name : List ℕ → Option (List ℕ)
after_plain_name text = do
  rest ← after_one begins_name text
  Some (behind is_name_byte rest)

unfoldable pub after_name : List ℕ → Option (List ℕ)
after_name text = shorter (shorter (after_digits text) (after_plain_name text)) (after_quoted text)

unfoldable pub after_named : ℕ → List ℕ → Option (List ℕ)
after_named sign text = do
  rest ← after_byte sign text
  after_name rest

unfoldable pub after_tagged : ℕ → List ℕ → Option (List ℕ)
after_tagged sign text = do
  rest ← after_byte sign text
  shorter (after_word rest) (after_number rest)

unfoldable pub after_caret : List ℕ → Option (List ℕ)
after_caret text = do
  rest ← after_byte 94 text
  after_number rest

unfoldable pub after_plain_label : List ℕ → Option (List ℕ)
after_plain_label text = do
  rest ← after_some is_name_byte text
  after_byte 58 rest

unfoldable pub after_quoted_label : List ℕ → Option (List ℕ)
after_quoted_label text = do
  rest ← after_quoted text
  after_byte 58 rest

unfoldable pub after_label : List ℕ → Option (List ℕ)
after_label text = shorter (after_plain_label text) (after_quoted_label text)

unfoldable pub after_exponent : List ℕ → Option (List ℕ)
after_exponent text = do
  rest ← after_byte 101 text
  rest' ← after_one is_sign rest
  after_digits rest'

unfoldable pub after_float : List ℕ → Option (List ℕ)
after_float text = do
  rest ← after_digits (behind_one is_sign text)
  fraction ← after_byte 46 rest
  exponent ← after_digits fraction
  Some (unwrap_or (after_exponent exponent) exponent)

unfoldable pub after_hexadecimal : List ℕ → Option (List ℕ)
after_hexadecimal text = do
  rest ← after_byte 48 text
  digits ← after_byte 120 rest
  after_some is_hexadecimal_digit (behind_one is_float_kind digits)

unfoldable pub after_string : List ℕ → Option (List ℕ)
after_string text = after_quoted (behind_one (λ b. b == 99) text)

unfoldable pub after_dots : List ℕ → Option (List ℕ)
after_dots text = do
  rest ← after_byte 46 text
  rest' ← after_byte 46 rest
  after_byte 46 rest'

unfoldable pub after_mark : List ℕ → Option (List ℕ)
after_mark text = shorter (after_one is_mark_byte text) (after_dots text)

-- the length of what was found
abbrev pub length_of : Option (Kind × ℕ) → ℕ
length_of None = 0
length_of (Some found) = found.1

-- the longer of what was found and of a prefix of this class before a rest, the first if equal
unfoldable pub longer : ℕ → Option (Kind × ℕ) → Kind → Option (List ℕ) → Option (Kind × ℕ)
longer total found kind None = found
longer total found kind (Some rest) = (if nat_lt (length_of found) (total - length rest) then Some (kind, total - length rest) else found)

unfoldable pub front_token : List ℕ → Option (Kind × ℕ)
front_token text =
    let mark = longer (length text) None kind.Mark (after_mark text) in
    let word = longer (length text) mark kind.Word (after_word text) in
    let number = longer (length text) word kind.Number (after_number text) in
    let local = longer (length text) number kind.Local (after_named 37 text) in
    let global = longer (length text) local kind.Global (after_named 64 text) in
    let comdat = longer (length text) global kind.Comdat (after_named 36 text) in
    let metadata = longer (length text) comdat kind.Metadata (after_tagged 33 text) in
    let hash = longer (length text) metadata kind.Hash (after_tagged 35 text) in
    let caret = longer (length text) hash kind.Caret (after_caret text) in
    let label = longer (length text) caret kind.Label (after_label text) in
    let float = longer (length text) label kind.Float (after_float text) in
    let hexadecimal = longer (length text) float kind.Hexadecimal (after_hexadecimal text) in
    longer (length text) hexadecimal kind.String (after_string text)

-- a run of name bytes before a rest: a label with the colon that follows, or else a word
abbrev pub word_or_label : ℕ → List ℕ → Kind × ℕ
word_or_label run [] = (kind.Word, run)
word_or_label run (b ∷ bs) = (if b == 58 then (kind.Label, run + 1) else (kind.Word, run))

-- the longest token that begins with a digit or a minus
unfoldable pub number_token : List ℕ → Option (Kind × ℕ)
number_token text =
    let number = longer (length text) None kind.Number (after_number text) in
    let label = longer (length text) number kind.Label (after_label text) in
    let float = longer (length text) label kind.Float (after_float text) in
    longer (length text) float kind.Hexadecimal (after_hexadecimal text)
