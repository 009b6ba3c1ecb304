-- Each printed token is of its class, and stays apart.
use Rattle.read_back.proofs.Common.{◌≡◌, ℕ, ◌<◌, ◌≤◌, ◌^◌, Bool, true, false, List, [], ◌∷◌, ◌++◌, Some, refl, arith, All, list_all, Contains, AllByRecursion, decimal, pow-le-pow_right, or_right, and_parts, All-contains, All-from_recursion, recursion_from_All, Width, is_blank, class_of, alignments, Name, IrType, Int, Ptr, MemoryType, WrittenName, WrittenValue, WrittenTyped, Piece, is_separator, none, space, indented, word, mark, number, comma, local, global, label, width_text, type_text, array_pieces, closing_pieces, object_pieces, word_if, align_pieces}
use Rattle.std.proofs.Common.{◌||◌}
use Rattle.std.specs.Prelude.{codes}
use Rattle.ir_lexer.specs.declared.token.Kind.TheVariants as kind
use Rattle.ir_tree.specs.declared.name.Name.TheVariants as name
use Rattle.ir_words.specs.declared.written.WrittenValue.TheVariants as value
use Rattle.read_back.proofs.Written.{value_piece, typed_pieces, pointer_pieces, target, result_pieces}
use Rattle.read_back.proofs.Spellable.{IsName, FitsValue, IsTyped, IsPointer, IsObject}
use Rattle.read_back.proofs.ApartClasses.{HasDigits, decimal-digits, number-class, int_type-class, local-class, global-class}
use Rattle.read_back.proofs.ApartLabels.{label-class}
use Rattle.read_back.proofs.ApartLinks.{IsToken, Links, BeginsAlone, IsFree, IsAlone, nothing-links, token-stands, free-links, mark-links, gap-alone}

-- ---- words

pub word-token : (gap text : List ℕ) → list_all is_blank gap ≡ true → class_of text ≡ Some kind.Word → IsToken (word gap text)
word-token gap text blanks class = record { blanks = blanks; class = class; ended = λ rest h. h }

-- after a space
pub said : (text : List ℕ) → class_of text ≡ Some kind.Word → IsFree (word space text)
said text class = record { token = word-token space text refl class; alone = gap-alone (word space text) 32 [] refl refl }

-- on a line of its own
pub begun : (text : List ℕ) → class_of text ≡ Some kind.Word → IsFree (word indented text)
begun text class = record { token = word-token indented text refl class; alone = gap-alone (word indented text) 10 (32 ∷ 32 ∷ []) refl refl }

pub word_if-links : (test : Bool) (text : List ℕ) → class_of text ≡ Some kind.Word → Links (word_if test text)
word_if-links true text class = free-links (word space text) [] (said text class) nothing-links
word_if-links false text class = nothing-links

-- ---- marks

byte_alone : (b : ℕ) (blank : Bool) → is_separator b ≡ true → (blank || is_separator b) ≡ true
byte_alone b blank h = or_right blank (is_separator b) h

mark_begins : (gap : List ℕ) (b : ℕ) → list_all is_blank gap ≡ true → is_separator b ≡ true → BeginsAlone (mark gap (b ∷ []))
mark_begins [] b blanks h rest = byte_alone b (is_blank b) h
mark_begins (g ∷ gap) b blanks h rest = let e = and_parts (is_blank g) (list_all is_blank gap) blanks in gap-alone (mark (g ∷ gap) (b ∷ [])) g gap refl e.0 rest

pub mark-alone : (gap : List ℕ) (b : ℕ) → list_all is_blank gap ≡ true → is_separator b ≡ true → class_of (b ∷ []) ≡ Some kind.Mark → IsAlone (mark gap (b ∷ []))
mark-alone gap b blanks h class = record {
  free = record { token = record { blanks = blanks; class = class; ended = λ rest e. h }; alone = mark_begins gap b blanks h };
  mark = refl;
}

pub comma-free : IsFree comma
comma-free = (mark-alone none 44 refl refl refl).free

-- ---- numbers

number_token : (gap : List ℕ) (n : ℕ) → list_all is_blank gap ≡ true → n < 2 ^ 64 → IsToken (number gap n)
number_token gap n blanks h = record { blanks = blanks; class = number-class (decimal n) (decimal-digits n h); ended = λ rest e. e }

pub number-free : (n : ℕ) → n < 2 ^ 64 → IsFree (number space n)
number-free n h = record { token = number_token space n refl h; alone = gap-alone (number space n) 32 [] refl refl }

pub literal-small : (w : Width) (n : ℕ) → n < 2 ^ w.bits → n < 2 ^ 64
literal-small w n h = let most : 2 ^ w.bits ≤ 2 ^ 64 = pow-le-pow_right (let some : 0 < 2 = omega arith in some) w.at_most_64 in omega (arith, most)

-- ---- names

pub has-digits : (n : Name) → IsName n → HasDigits n
has-digits (name.Number ds) h = h.0
has-digits (name.Word bytes) h = tt

local_token : (gap : List ℕ) (n : Name) → list_all is_blank gap ≡ true → HasDigits n → IsToken (local gap n)
local_token gap n blanks h = record { blanks = blanks; class = local-class n h; ended = λ rest e. e }

pub local-free : (n : Name) → IsName n → IsFree (local space n)
local-free n h = record { token = local_token space n refl (has-digits n h); alone = gap-alone (local space n) 32 [] refl refl }

pub indented-free : (n : Name) → IsName n → IsFree (local indented n)
indented-free n h = record { token = local_token indented n refl (has-digits n h); alone = gap-alone (local indented n) 10 (32 ∷ 32 ∷ []) refl refl }

pub global-free : (n : Name) → IsName n → IsFree (global space n)
global-free n h = record {
  token = record { blanks = refl; class = global-class n (has-digits n h); ended = λ rest e. e };
  alone = gap-alone (global space n) 32 [] refl refl;
}

pub label-free : (n : Name) → IsName n → IsFree (label n)
label-free n h = record {
  token = record { blanks = refl; class = label-class n (has-digits n h); ended = λ rest e. e };
  alone = gap-alone (label n) 10 [] refl refl;
}

-- ---- types

pub width-class : (w : Width) → class_of (width_text w) ≡ Some kind.Word
width-class w = int_type-class (decimal w.bits) (decimal-digits w.bits small)
  where
    small : w.bits < 2 ^ 64
    small = omega (arith, w.at_most_64)

pub type-class : (type : IrType) → class_of (type_text type) ≡ Some kind.Word
type-class (Int w) = width-class w
type-class Ptr = refl

closing_links : (lengths : List ℕ) → Links (closing_pieces lengths)
closing_links [] = nothing-links
closing_links (n ∷ lengths) = free-links (mark none (codes "]")) (closing_pieces lengths) (mark-alone none 93 refl refl refl).free (closing_links lengths)

array_links : (lengths : List ℕ) (rest : List Piece) → AllByRecursion (λ (n : ℕ). n < 2 ^ 64) lengths → Links rest → Links (array_pieces lengths ++ rest)
array_links [] rest small links = links
array_links (n ∷ lengths) rest small links =
    mark-links (mark space (codes "[")) (number none n ∷ word space (codes "x") ∷ (array_pieces lengths ++ rest)) (mark-alone space 91 refl refl refl)
    (token-stands (number none n) (word space (codes "x") ∷ (array_pieces lengths ++ rest)) (number_token none n refl small.0)
    (free-links (word space (codes "x")) (array_pieces lengths ++ rest) (said (codes "x") refl) (array_links lengths rest small.1 links)))

pub object-links : (in_alloca : Bool) (type : MemoryType) → IsObject in_alloca type → Links (object_pieces type)
object-links in_alloca type h =
    array_links type.lengths (word space (type_text type.element) ∷ closing_pieces type.lengths) (recursion_from_All (λ (n : ℕ). n < 2 ^ 64) type.lengths h.lengths)
    (free-links (word space (type_text type.element)) (closing_pieces type.lengths) (said (type_text type.element) (type-class type.element)) (closing_links type.lengths))

-- ---- operands

pub value-free : (undef_too : Bool) (type : IrType) (v : WrittenValue) → FitsValue undef_too type v → IsFree (value_piece v)
value-free undef_too type (value.Local n) h = local-free n h
value-free undef_too (Int w) (value.Literal n) h = number-free n (literal-small w n h)
value-free undef_too Ptr (value.Literal n) h = absurd h
value-free undef_too type value.Null h = said (codes "null") refl
value-free undef_too type value.Poison h = said (codes "poison") refl
value-free undef_too type value.Undef h = said (codes "undef") refl

pub typed-links : (undef_too : Bool) (t : WrittenTyped) → IsTyped undef_too t → Links (typed_pieces t)
typed-links undef_too t h =
    free-links (word space (type_text t.of_type.of_type)) (value_piece t.operand.value ∷ []) (said (type_text t.of_type.of_type) (type-class t.of_type.of_type))
    (free-links (value_piece t.operand.value) [] (value-free undef_too t.of_type.of_type t.operand.value h) nothing-links)

pub pointer-links : (t : WrittenTyped) → IsPointer t → Links (pointer_pieces t)
pointer-links t h =
    free-links (word space (codes "ptr")) (value_piece t.operand.value ∷ []) (said (codes "ptr") refl)
    (free-links (value_piece t.operand.value) [] (value-free false Ptr t.operand.value h.value) nothing-links)

pub target-links : (n : WrittenName) → IsName n.name → Links (target n)
target-links n h = free-links (word space (codes "label")) (local space n.name ∷ []) (said (codes "label") refl) (free-links (local space n.name) [] (local-free n.name h) nothing-links)

pub result-links : (into : WrittenName) → IsName into.name → Links (result_pieces into)
result-links into h =
    free-links (local indented into.name) (mark space (codes "=") ∷ []) (indented-free into.name h)
    (free-links (mark space (codes "=")) [] (mark-alone space 61 refl refl refl).free nothing-links)

-- ---- alignments

alignments_small : All (λ (n : ℕ). n < 2 ^ 64) alignments
alignments_small = All-from_recursion (λ (n : ℕ). n < 2 ^ 64) alignments
    (omega arith, (omega arith, (omega arith, (omega arith, (omega arith, (omega arith, (omega arith, (omega arith, (omega arith, (omega arith, (omega arith, (omega arith, (omega arith, tt)))))))))))))

pub align-links : (align : ℕ) → Contains alignments align → Links (align_pieces align)
align-links align h =
    free-links comma (word space (codes "align") ∷ number space align ∷ []) comma-free
    (free-links (word space (codes "align")) (number space align ∷ []) (said (codes "align") refl)
    (free-links (number space align) [] (number-free align (All-contains (λ (n : ℕ). n < 2 ^ 64) alignments align alignments_small h)) nothing-links))
