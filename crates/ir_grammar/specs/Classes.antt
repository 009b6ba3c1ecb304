-- Classes of tokens.
use Rattle.std.specs.Prelude.{◌≡◌, refl, ℕ, List, Option, Some, None, Bool, true, false, codes, ◌&&◌, ◌||◌}
use Rattle.tv_num.specs.declared.Width.{Width}
use Rattle.text_places.specs.declared.place.Place.{Place}
use Rattle.ir_lexer.specs.declared.token.Kind.{Kind}
use Rattle.ir_lexer.specs.declared.token.Kind.TheVariants as kind
use Rattle.ir_lexer.specs.Lexeme.{Lexeme}
use Rattle.ir_tree.specs.declared.name.Name.TheVariants as name
use Rattle.ir_tree.specs.declared.tree.IrType.{IrType}
use Rattle.ir_tree.specs.declared.tree.IrType.TheVariants.{Ptr}
use Rattle.ir_tree.specs.declared.tree.Op.TheVariants as op
use Rattle.ir_tree.specs.declared.tree.Predicate.{Predicate}
use Rattle.ir_tree.specs.declared.tree.Predicate.TheVariants as predicate
use Rattle.token_forms.specs.Form.{Class}
use Rattle.ir_words.specs.declared.word.Opcode.TheVariants as opcode
use Rattle.ir_words.specs.declared.word.LineWord.{LineWord}
use Rattle.ir_words.specs.declared.word.LineWord.TheVariants as line
use Rattle.ir_words.specs.declared.word.TerminatorWord.{TerminatorWord}
use Rattle.ir_words.specs.declared.word.TerminatorWord.TheVariants as finish
use Rattle.ir_words.specs.declared.word.Flag.{Flag}
use Rattle.ir_words.specs.declared.word.Flag.TheVariants as flag
use Rattle.ir_words.specs.declared.written.WrittenName.{WrittenName}
use Rattle.ir_words.specs.declared.written.WrittenIntType.{WrittenIntType}
use Rattle.ir_words.specs.declared.written.WrittenType.{WrittenType}
use Rattle.ir_words.specs.declared.written.WrittenReturnType.{WrittenReturnType}
use Rattle.ir_words.specs.declared.written.WrittenOperand.{WrittenOperand}
use Rattle.ir_words.specs.declared.written.WrittenValue.TheVariants as value
use Rattle.ir_words.specs.declared.written.WrittenLiteral.{WrittenLiteral}
use Rattle.ir_words.specs.Numbers.{width_of, is_negative, magnitude, wrapped}
use Rattle.ir_words.specs.Reasons.{reason, type_reason}
use Rattle.ir_words.specs.Words.{is_word_of, is_mark_of, line_word_of, terminator_of, predicate_of, flag_text}
use Rattle.ir_words.specs.Spelling.{local_of, global_of, named_at, width_in, width_or_one, int_typed_at, is_width, type_in, typed_at, is_type, type_at, pointer_in, fits_object, number_of_kind, is_alignment, is_length, bit_at, width_reason, is_void, return_type_of, value_in, operand_at, literal_value, literal_at, fits_bits, fits_type, is_attached, is_numbered, is_metadata_of, is_comdat_kind}

-- where a text begins
abbrev pub start : Place
start = record { line = 1; column = 1 }

abbrev pub token : Kind → List ℕ → Lexeme
token k text = record { kind = k; text = text; at = 0; place = start }

-- no limit
abbrev pub any : Lexeme → Bool
any t = true

abbrev pub passed : Bool → Option (Unit {0})
passed true = Some tt
passed false = None

-- the position of a token that passes
abbrev pub passed_at : Bool → Place → Option Place
passed_at true at = Some at
passed_at false at = None

abbrev pub as_word : List ℕ → Lexeme → Option (Unit {0})
as_word text t = passed (is_word_of t.kind t.text text)

abbrev pub as_mark : List ℕ → Lexeme → Option (Unit {0})
as_mark text t = passed (is_mark_of t.kind t.text text)

abbrev pub word : (text : List ℕ) → passed (is_word_of kind.Word text text) ≡ Some tt → Class (Unit {0})
word text fits = record { stands = as_word text; within = any; reason = reason; sample = token kind.Word text; value = tt; fits = fits }

abbrev pub mark : (text : List ℕ) → passed (is_mark_of kind.Mark text text) ≡ Some tt → Class (Unit {0})
mark text fits = record { stands = as_mark text; within = any; reason = reason; sample = token kind.Mark text; value = tt; fits = fits }

-- a mark, where there is room for what it begins
abbrev pub counted_mark : (text : List ℕ) → Bool → passed (is_mark_of kind.Mark text text) ≡ Some tt → Class (Unit {0})
counted_mark text room fits = record { stands = as_mark text; within = λ t. room; reason = reason; sample = token kind.Mark text; value = tt; fits = fits }

-- the mark that closes what is where a type could be
abbrev pub mark_or_type : (text : List ℕ) → passed (is_mark_of kind.Mark text text) ≡ Some tt → Class (Unit {0})
mark_or_type text fits = record { stands = as_mark text; within = any; reason = type_reason; sample = token kind.Mark text; value = tt; fits = fits }

-- the position of the mark that opens a body
abbrev pub brace : Class Place
brace = record { stands = λ t. passed_at (is_mark_of t.kind t.text (codes "{")) t.place; within = any; reason = reason; sample = token kind.Mark (codes "{"); value = start; fits = refl }

-- ---- names

abbrev pub local : Class WrittenName
local = record { stands = λ t. named_at (local_of t.kind t.text) t.place; within = any; reason = reason; sample = token kind.Local (codes "%a"); value = record { name = name.Word (codes "a"); at = start }; fits = refl }

abbrev pub global : Class WrittenName
global = record { stands = λ t. named_at (global_of t.kind t.text) t.place; within = any; reason = reason; sample = token kind.Global (codes "@a"); value = record { name = name.Word (codes "a"); at = start }; fits = refl }

-- ---- types

-- an integer type of 1 to 64 bits
abbrev pub int_type : Class WrittenIntType
int_type = record { stands = λ t. int_typed_at (width_in t) t.place; within = λ t. is_width (width_in t); reason = type_reason; sample = token kind.Word (codes "i1"); value = record { width = width_or_one (width_of 1); at = start }; fits = refl }

-- an integer type or ptr, where there is room for one more of what it is counted as
abbrev pub counted_type : Bool → Class WrittenType
counted_type room = record { stands = λ t. typed_at (type_in t) t.place; within = λ t. room && is_type (type_in t); reason = type_reason; sample = token kind.Word (codes "ptr"); value = record { of_type = Ptr; at = start }; fits = refl }

-- a type that a value may have
abbrev pub value_type : Class WrittenType
value_type = counted_type true

pub bit_fits : bit_at (width_in (token kind.Word (codes "i1"))) start ≡ Some start
unfolding width_of
bit_fits = refl

-- the element of nested arrays of these lengths, the outermost first, of an alloca or of another instruction
abbrev pub element_type : Bool → List ℕ → Class WrittenType
element_type in_alloca lengths = record { stands = λ t. typed_at (type_in t) t.place; within = λ t. fits_object in_alloca lengths (type_in t); reason = type_reason; sample = token kind.Word (codes "ptr"); value = record { of_type = Ptr; at = start }; fits = refl }

abbrev pub pointer_type : Class WrittenType
pointer_type = record { stands = λ t. type_at (pointer_in t) t.place; within = any; reason = width_reason; sample = token kind.Word (codes "ptr"); value = record { of_type = Ptr; at = start }; fits = refl }

-- the type of one bit, and its position
abbrev pub bit_type : Class Place
bit_type = record { stands = λ t. bit_at (width_in t) t.place; within = any; reason = width_reason; sample = token kind.Word (codes "i1"); value = start; fits = bit_fits }

-- void or a type
abbrev pub return_type : Class WrittenReturnType
return_type = record { stands = return_type_of; within = λ t. is_void t || is_type (type_in t); reason = type_reason; sample = token kind.Word (codes "void"); value = record { of_type = None; at = start }; fits = refl }

-- ---- operands

-- an operand of a type, maybe undef
abbrev pub operand_class : Bool → IrType → Class WrittenOperand
operand_class undef_too type = record { stands = λ t. operand_at (value_in undef_too type t.kind t.text) t.place; within = λ t. fits_type type t.kind t.text; reason = reason; sample = token kind.Local (codes "%a"); value = record { value = value.Local (name.Word (codes "a")); at = start }; fits = refl }

-- a literal of a type
abbrev pub literal_class : Width → Class WrittenLiteral
literal_class w = record { stands = λ t. literal_at (literal_value w.bits t.kind t.text) t.place; within = λ t. fits_bits w.bits t.kind t.text; reason = reason; sample = token kind.Number (codes "0"); value = record { value = wrapped w.bits (is_negative (codes "0")) (magnitude (codes "0")); at = start }; fits = refl }

-- how many elements an array has
abbrev pub array_length : Class ℕ
array_length = record { stands = λ t. number_of_kind t.kind t.text; within = λ t. is_length t.text; reason = reason; sample = token kind.Number (codes "1"); value = magnitude (codes "1"); fits = refl }

abbrev pub alignment : Class ℕ
alignment = record { stands = λ t. number_of_kind t.kind t.text; within = λ t. is_alignment t.text; reason = reason; sample = token kind.Number (codes "1"); value = magnitude (codes "1"); fits = refl }

-- ---- words

abbrev pub line_word_fits : (phi_too : Bool) → line_word_of phi_too kind.Word (codes "and") ≡ Some (line.Inst (opcode.Plain op.And))
line_word_fits true = refl
line_word_fits false = refl

-- the word that names an instruction after its result, a phi only where one is allowed
abbrev pub line_word : Bool → Class LineWord
line_word phi_too = record { stands = λ t. line_word_of phi_too t.kind t.text; within = any; reason = reason; sample = token kind.Word (codes "and"); value = line.Inst (opcode.Plain op.And); fits = line_word_fits phi_too }

-- the word that names the last instruction of a block, where there is room for it
abbrev pub terminator_word : Bool → Class TerminatorWord
terminator_word room = record { stands = λ t. terminator_of t.kind t.text; within = λ t. room; reason = reason; sample = token kind.Word (codes "ret"); value = finish.Return; fits = refl }

-- the word that names a comparison
abbrev pub predicate_class : Class Predicate
predicate_class = record { stands = λ t. predicate_of t.kind t.text; within = any; reason = reason; sample = token kind.Word (codes "eq"); value = predicate.Equal; fits = refl }

abbrev pub flag_fits : (f : Flag) → passed (is_word_of kind.Word (flag_text f) (flag_text f)) ≡ Some tt
flag_fits flag.Exact = refl
flag_fits flag.Disjoint = refl
flag_fits flag.NonNegative = refl
flag_fits flag.SameSign = refl

-- the word of a flag
abbrev pub flag_word : Flag → Class (Unit {0})
flag_word f = word (flag_text f) (flag_fits f)

-- ---- what is read and ignored

-- !dbg, !prof or !llvm.loop
abbrev pub attachment_word : Class (Unit {0})
attachment_word = record { stands = λ t. passed (is_metadata_of is_attached t.kind t.text); within = any; reason = reason; sample = token kind.Metadata (codes "!dbg"); value = tt; fits = refl }

-- the same where a type could be
abbrev pub attachment_or_type : Class (Unit {0})
attachment_or_type = record { stands = λ t. passed (is_metadata_of is_attached t.kind t.text); within = any; reason = type_reason; sample = token kind.Metadata (codes "!dbg"); value = tt; fits = refl }

-- ! and a number
abbrev pub metadata_number : Class (Unit {0})
metadata_number = record { stands = λ t. passed (is_metadata_of is_numbered t.kind t.text); within = any; reason = reason; sample = token kind.Metadata (codes "!0"); value = tt; fits = refl }

abbrev pub comdat_name : Class (Unit {0})
comdat_name = record { stands = λ t. passed (is_comdat_kind t.kind); within = any; reason = reason; sample = token kind.Comdat (codes "$a"); value = tt; fits = refl }
