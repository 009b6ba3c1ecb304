-- The items of a module, by the indices of its tokens: an index is the number of tokens before.
use Rattle.std.specs.Prelude.{◌≡◌, ◌⊎◌, ℕ, ◌+◌, ◌-◌, ◌<◌, ◌≤◌, List, [], ◌∷◌, ◌++◌, length, take, take_while, drop, slice_get, map, codes, Option, Some, None, Bool, true, false, not, ◌&&◌, ◌||◌, ◌==◌, nat_lt, count_by, if◌then◌else◌}
use Rattle.std.specs.List.{list_any}
use Rattle.std.specs.Str.{bytes_eq}
use Rattle.text_places.specs.Place.{is_line_feed}
use Rattle.ir_lexer.specs.Bytes.{is_digit}
use Rattle.ir_lexer.specs.Parts.{behind}
use Rattle.ir_lexer.specs.declared.token.Kind.{Kind}
use Rattle.ir_lexer.specs.declared.token.Kind.TheVariants as kind
use Rattle.ir_lexer.specs.Lexeme.{Lexeme}
use Rattle.ir_tree.specs.declared.name.Name.{Name}
use Rattle.ir_tree.specs.Names.{same_name}
use Rattle.ir_items.specs.declared.item.Define.{Define}
use Rattle.ir_items.specs.Names.{name_in, without_zeros}
use Rattle.ir_items.specs.Marks.{mark_of, IsBalanced, IsPiece}

-- ---- tests of a token at an index

-- what a test says of the token at an index, and false past the end
abbrev pub passes : (Lexeme → Bool) → Option Lexeme → Bool
passes test None = false
passes test (Some t) = test t

abbrev pub token_passes : List Lexeme → (Lexeme → Bool) → ℕ → Bool
token_passes tokens test place = passes test (slice_get tokens place)

abbrev pub is_word_of : Kind → List ℕ → List ℕ → Bool
is_word_of kind.Word text word = bytes_eq text word
is_word_of _ text word = false

abbrev pub is_word : List ℕ → Lexeme → Bool
is_word word t = is_word_of t.kind t.text word

abbrev pub is_mark : ℕ → Lexeme → Bool
is_mark mark t = mark_of t == mark

-- the words that begin an item
abbrev pub is_head_word_of : Kind → List ℕ → Bool
is_head_word_of kind text =
    is_word_of kind text (codes "define") || is_word_of kind text (codes "declare") || is_word_of kind text (codes "source_filename") || is_word_of kind text (codes "target")
    || is_word_of kind text (codes "attributes") || is_word_of kind text (codes "module") || is_word_of kind text (codes "uselistorder") || is_word_of kind text (codes "uselistorder_bb")

abbrev pub is_head_word : Lexeme → Bool
is_head_word t = is_head_word_of t.kind t.text

abbrev pub is_global_kind : Kind → Bool
is_global_kind kind.Global = true
is_global_kind _ = false

abbrev pub is_global : Lexeme → Bool
is_global t = is_global_kind t.kind

-- a local, global, comdat, metadata or caret name
abbrev pub is_name_kind : Kind → Bool
is_name_kind kind.Local = true
is_name_kind kind.Global = true
is_name_kind kind.Comdat = true
is_name_kind kind.Metadata = true
is_name_kind kind.Caret = true
is_name_kind _ = false

abbrev pub is_name : Lexeme → Bool
is_name t = is_name_kind t.kind

-- a head: one of the words, or such a name with `=` after it
unfoldable pub is_head : List Lexeme → ℕ → Bool
is_head tokens place = token_passes tokens is_head_word place || token_passes tokens is_name place && token_passes tokens (is_mark 61) (place + 1)

unfoldable pub is_define : List Lexeme → ℕ → Bool
is_define tokens place = token_passes tokens (is_word (codes "define")) place

-- the line on which a token ends
abbrev pub last_line : Lexeme → ℕ
last_line t = t.place.line + count_by is_line_feed t.text

-- the token before, if there is one, ends on an earlier line
abbrev pub is_behind_line : Option Lexeme → Lexeme → Bool
is_behind_line None t = true
is_behind_line (Some before) t = nat_lt (last_line before) t.place.line

-- no token, and no part of one, is before it on its line
unfoldable pub is_first_on_line : List Lexeme → ℕ → Bool
is_first_on_line tokens place = token_passes tokens (λ t. place == 0 || is_behind_line (slice_get tokens (place - 1)) t) place

-- a head that is the first token on its line
unfoldable pub begins_item : List Lexeme → ℕ → Bool
begins_item tokens place = is_head tokens place && is_first_on_line tokens place

-- a global name with `(` after it
unfoldable pub is_called : List Lexeme → ℕ → Bool
is_called tokens place = token_passes tokens is_global place && token_passes tokens (is_mark 40) (place + 1)

unfoldable pub is_brace : List Lexeme → ℕ → Bool
is_brace tokens place = token_passes tokens (is_mark 123) place

-- ---- the data layout

-- the parts between the `-`
abbrev pub parts : List ℕ → List ℕ → List (List ℕ)
parts part [] = part ∷ []
parts part (b ∷ bs) = (if b == 45 then part ∷ parts [] bs else parts (part ++ b ∷ []) bs)

-- the first number in these bytes, or nothing
abbrev pub number_in : List ℕ → List ℕ
number_in part = take_while is_digit (behind (λ b. not (is_digit b)) part)

-- `p:` and more
abbrev pub begins_pointer : List ℕ → Bool
begins_pointer [] = false
begins_pointer (a ∷ []) = false
begins_pointer (a ∷ b ∷ rest) = a == 112 && b == 58

-- `E`, or a part that begins `p:` and has a first number other than 64
unfoldable pub is_bad_part : List ℕ → Bool
is_bad_part part = bytes_eq part (codes "E") || begins_pointer part && nat_lt 0 (length (number_in part)) && not (bytes_eq (without_zeros (number_in part)) (codes "64"))

-- some part is one of those, of a text with some bytes before it
abbrev pub has_bad_part : List ℕ → List ℕ → Bool
has_bad_part before text = list_any is_bad_part (parts before text)

abbrev pub inside_quotes : List ℕ → List ℕ
inside_quotes text = take (length text - 2) (drop 1 text)

-- the layout between a string's quotes has such a part
unfoldable pub is_bad_layout : List ℕ → Bool
is_bad_layout text = has_bad_part [] (inside_quotes text)

abbrev pub is_plain_string : Kind → List ℕ → Bool
is_plain_string kind.String (b ∷ bs) = b == 34
is_plain_string _ text = false

abbrev pub has_bad_layout : Lexeme → Bool
has_bad_layout t = is_plain_string t.kind t.text && is_bad_layout t.text

-- `target datalayout = "..."` begins here, with a layout other than little-endian with pointers of 64 bits
unfoldable pub is_wrong_layout : List Lexeme → ℕ → Bool
is_wrong_layout tokens place =
    token_passes tokens (is_word (codes "target")) place && token_passes tokens (is_word (codes "datalayout")) (place + 1)
    && token_passes tokens (is_mark 61) (place + 2) && token_passes tokens has_bad_layout (place + 3)

-- ---- what is at depth 0

-- after the first token and before this index, no head at depth 0 is first on its line
abbrev pub NoHeadBetween : List Lexeme → ℕ → ℕ → Type 0
NoHeadBetween tokens first place = (m : ℕ) → first < m → m < place → IsBalanced tokens first m → begins_item tokens m ≡ false

-- ---- an item that is no define

-- it goes on to this index
pub record OtherGoesOn (tokens : List Lexeme) (first place : ℕ) : Type 0 where
  pub head : is_head tokens first ≡ true
  pub other : is_define tokens first ≡ false
  pub some : first < place
  pub within : place ≤ length tokens
  pub no_head : NoHeadBetween tokens first place
  pub layout : is_wrong_layout tokens first ≡ true → place ≤ first + 3

-- it ends before the next head at depth 0 that is first on its line, or at the end
pub record IsOther (tokens : List Lexeme) (first end : ℕ) : Type 0 where
  pub goes_on : OtherGoesOn tokens first end
  pub layout : is_wrong_layout tokens first ≡ false
  pub balanced : IsBalanced tokens first end
  pub ends : (end ≡ length tokens) ⊎ (begins_item tokens end ≡ true)

-- ---- a define

-- it goes on to this index without a name
pub record BeforeName (tokens : List Lexeme) (first place : ℕ) : Type 0 where
  pub word : is_define tokens first ≡ true
  pub some : first < place
  pub within : place ≤ length tokens
  pub no_head : NoHeadBetween tokens first place
  pub no_name : (m : ℕ) → first < m → m < place → IsBalanced tokens first m → is_called tokens m ≡ false

-- its name is here: the first global name at depth 0 with `(` after it
pub record IsNamed (tokens : List Lexeme) (first name : ℕ) : Type 0 where
  pub before : BeforeName tokens first name
  pub balanced : IsBalanced tokens first name
  pub called : is_called tokens name ≡ true

-- it goes on after its parameters to this index without a body
pub record BeforeBody (tokens : List Lexeme) (first name place : ℕ) : Type 0 where
  pub named : IsNamed tokens first name
  pub end : ℕ
  pub parameters : IsPiece tokens (name + 1) end
  pub behind : end ≤ place
  pub within : place ≤ length tokens
  pub no_head : NoHeadBetween tokens first place
  pub no_brace : (m : ℕ) → end ≤ m → m < place → IsBalanced tokens first m → is_brace tokens m ≡ false

-- its body begins here: the first `{` at depth 0 after the parenthesis that closes its parameters
pub record HasBody (tokens : List Lexeme) (first name body : ℕ) : Type 0 where
  pub before : BeforeBody tokens first name body
  pub balanced : IsBalanced tokens first body
  pub brace : is_brace tokens body ≡ true

-- it ends with the mark that closes its body
pub record IsDefine (tokens : List Lexeme) (first name end : ℕ) : Type 0 where
  pub body : ℕ
  pub has_body : HasBody tokens first name body
  pub closed : IsPiece tokens body end

-- ---- all items

abbrev pub name_from : Option Lexeme → Option Name
name_from None = None
name_from (Some t) = name_in t.kind t.text

-- the name that the token at an index spells
unfoldable pub name_at : List Lexeme → ℕ → Option Name
name_at tokens place = name_from (slice_get tokens place)

-- one of the defines has this name
abbrev pub has_name : List Define → Name → Bool
has_name defines name = list_any (same_name name) (map (λ d. d.name) defines)

-- The tokens before an index are items one after another, and these are the defines among them. No
-- two defines have the same name, and there are at most 4,096.
pub data IsCut (tokens : List Lexeme) : ℕ → List Define → Type 0 where
  nothing : IsCut tokens 0 []
  other : {first end : ℕ} {defines : List Define} → IsCut tokens first defines → IsOther tokens first end → IsCut tokens end defines
  define : {first place end : ℕ} {name : Name} {defines : List Define} → IsCut tokens first defines → IsDefine tokens first place end → name_at tokens place ≡ Some name
      → has_name defines name ≡ false → length defines < 4096 → IsCut tokens end (defines ++ record { name = name; first = first; last = end - 1 } ∷ [])
