-- Which tokens spell an instruction (LLVM Language Reference, "Instruction Reference"). In brief, as
-- in Grammar.antt, with each flag at most once:
--
--   instruction = %name "=" operation | "store" TYPE VALUE "," pointer align?
--   operation   = ( "add" | "sub" | "mul" | "shl" ) ( "nuw" | "nsw" )* operands
--               | ( "udiv" | "sdiv" | "lshr" | "ashr" ) "exact"? operands
--               | ( "urem" | "srem" | "and" | "xor" | "or" "disjoint"? ) operands
--               | "icmp" "samesign"? predicate operands
--               | ( "trunc" "nuw"? "nsw"? | "zext" "nneg"? | "sext" ) TYPE VALUE "to" TYPE
--               | "select" "i1" VALUE "," TYPE VALUE "," TYPE VALUE | "freeze" TYPE VALUE
--               | "phi" TYPE entry ( "," entry )*
--               | "alloca" object align? | "load" TYPE "," pointer align?
--               | "getelementptr" ( "inbounds" "nuw"? )? object "," pointer ( "," TYPE VALUE )*
--   operands    = TYPE VALUE "," VALUE
--   entry       = "[" VALUE "," %block "]"
--   object      = TYPE | "[" NUMBER "x" object "]"
--   pointer     = "ptr" VALUE
--   align       = "," "align" NUMBER
--
-- undef may be a VALUE of an operation that doesn't divide, of icmp, a cast, select and freeze (LLVM
-- Language Reference, "Undefined Values"). An arm of a select that is undef has an integer type, and
-- where the condition is undef both arms have.
use Rattle.std.specs.Prelude.{refl, ℕ, zero, suc, [], ◌∷◌, ◌++◌, length, Option, Bool, true, false, ◌||◌, not, nat_lt, codes}
use Rattle.ir_lexer.specs.Lexeme.{Lexeme}
use Rattle.ir_tree.specs.Carrying.{is_division, is_pointer}
use Rattle.ir_tree.specs.Types.{one_bit}
use Rattle.ir_tree.specs.declared.tree.Flags.{Flags}
use Rattle.ir_tree.specs.Types.{type_align}
use Rattle.ir_tree.specs.declared.tree.IrType.TheVariants.{Int}
use Rattle.ir_tree.specs.declared.tree.Op.{Op}
use Rattle.ir_tree.specs.declared.tree.Op.TheVariants as op
use Rattle.ir_tree.specs.declared.tree.Predicate.{Predicate}
use Rattle.ir_tree.specs.declared.tree.Cast.{Cast}
use Rattle.ir_tree.specs.declared.tree.Cast.TheVariants as cast
use Rattle.token_forms.specs.Form.{Class, Form, never, either, give, one, upto, peek, tail, mapped, ◌>>=◌}
use Rattle.ir_words.specs.declared.word.WrapWord.{WrapWord}
use Rattle.ir_words.specs.declared.word.ExactWord.{ExactWord}
use Rattle.ir_words.specs.declared.word.Opcode.{Opcode}
use Rattle.ir_words.specs.declared.word.Opcode.TheVariants as opcode
use Rattle.ir_words.specs.declared.word.LineWord.{LineWord}
use Rattle.ir_words.specs.declared.word.LineWord.TheVariants as word_of
use Rattle.ir_words.specs.declared.word.Flag.{Flag}
use Rattle.ir_words.specs.declared.word.Flag.TheVariants as flag
use Rattle.ir_words.specs.declared.written.WrittenName.{WrittenName}
use Rattle.ir_words.specs.declared.written.WrittenIntType.{WrittenIntType}
use Rattle.ir_words.specs.declared.written.WrittenType.{WrittenType}
use Rattle.ir_words.specs.declared.written.WrittenTyped.{WrittenTyped}
use Rattle.ir_words.specs.declared.written.WrittenValue.{WrittenValue}
use Rattle.ir_words.specs.declared.written.WrittenValue.TheVariants as value
use Rattle.ir_words.specs.declared.written.WrittenInst.{WrittenInst}
use Rattle.ir_words.specs.declared.written.WrittenInst.TheVariants as inst
use Rattle.ir_words.specs.declared.written.GepFlags.{GepFlags}
use Rattle.ir_words.specs.declared.written.WrittenArrays.{WrittenArrays}
use Rattle.ir_words.specs.declared.written.WrittenObject.{WrittenObject}
use Rattle.ir_words.specs.declared.written.WrittenAccess.{WrittenAccess}
use Rattle.ir_words.specs.declared.written.WrittenAccess.TheVariants as access
use Rattle.ir_words.specs.declared.written.WrittenIndex.{WrittenIndex}
use Rattle.ir_words.specs.declared.written.WrittenGep.{WrittenGep}
use Rattle.ir_words.specs.declared.written.WrittenEntry.{WrittenEntry}
use Rattle.ir_words.specs.declared.written.WrittenPhi.{WrittenPhi}
use Rattle.ir_words.specs.declared.written.WrittenLine.{WrittenLine}
use Rattle.ir_words.specs.declared.written.WrittenLine.TheVariants as line
use Rattle.ir_words.specs.Words.{is_word_of, is_mark_of, no_flags, wrapping_op, exact_op}
use Rattle.ir_words.specs.Spelling.{wrap_of, gep_flag_of}
use Rattle.ir_grammar.specs.Classes.{any, word, mark, counted_mark, as_mark, local, int_type, value_type, element_type, pointer_type, array_length, alignment, bit_type, operand_class, line_word, predicate_class, flag_word, attachment_word, attachment_or_type, metadata_number}

-- ---- what may be repeated, and what may be left out

-- parts, as long as the next token begins one, each of which changes what was read; none passes a limit where it begins
abbrev pub many : {A S : Type 0} {o p : Lexeme → Bool} → (goes_on : Lexeme → Bool) → (begins : S → Lexeme → Option A) → (part : S → A → Form o S) → Form p S → Form (either p (either goes_on o)) S
many goes_on begins part first = tail goes_on begins (λ s. any) part first

-- the same, where each part is one token, which gives what was read with it
abbrev pub words : {S : Type 0} → (goes_on : Lexeme → Bool) → (next : S → Lexeme → Option S) → S → Form (either never (either goes_on never)) S
words goes_on next start = many goes_on next (λ s more. give more) (give start)

-- an optional word, and a token of the class; whether the word is there, and what the token denotes
abbrev pub optional : {A : Type 0} → Class (Unit {0}) → Class A → Form never (Bool × A)
optional w c = peek w (λ stands. one c >>= λ x. give (true, x)) c (λ x. give (false, x))

-- ---- flags

abbrev pub is_wrap : Lexeme → Bool
is_wrap t = is_word_of t.kind t.text (codes "nuw") || is_word_of t.kind t.text (codes "nsw")

abbrev pub next_wrap : Bool → Flags → Lexeme → Option Flags
next_wrap ordered flags t = wrap_of ordered flags t.kind t.text

-- nuw and nsw, each at most once; in this order, where they have one
unfoldable pub wraps : Bool → Form (either never (either is_wrap never)) Flags
wraps ordered = words is_wrap (next_wrap ordered) no_flags

-- an optional flag, and a type
unfoldable pub flagged_type : Flag → Form never (Bool × WrittenIntType)
flagged_type f = optional (flag_word f) int_type

-- optionally samesign, and a comparison
unfoldable pub comparison : Form never (Bool × Predicate)
comparison = optional (flag_word flag.SameSign) predicate_class

-- ---- operands

-- type value, which may be undef where that is allowed
unfoldable pub typed : Bool → Form never WrittenTyped
typed undef_too = do
  type ← one value_type
  value ← one (operand_class undef_too type.of_type)
  give (record { of_type = type; operand = value })

-- ---- instructions, after their word

-- left, right, after the type; undef is neither in a division
unfoldable pub binary : WrittenName → Op → WrittenIntType → Form never WrittenInst
binary name o type = do
  left ← one (operand_class (not (is_division o)) (Int type.width))
  comma ← one (mark (codes ",") refl)
  right ← one (operand_class (not (is_division o)) (Int type.width))
  give (inst.Binary name o type left right)

-- [nuw] [nsw] type left, right
unfoldable pub wrapping : WrittenName → WrapWord → Form never WrittenInst
wrapping name w = do
  flagged ← upto (wraps false) (λ flags. int_type) (λ flags. refl)
  binary name (wrapping_op w flagged.0) flagged.1

-- [exact] type left, right
unfoldable pub exact : WrittenName → ExactWord → Form never WrittenInst
exact name w = do
  flagged ← flagged_type flag.Exact
  binary name (exact_op w flagged.0) flagged.1

-- type left, right
unfoldable pub plain : WrittenName → Op → Form never WrittenInst
plain name o = do
  type ← one int_type
  binary name o type

-- [disjoint] type left, right
unfoldable pub disjunction : WrittenName → Form never WrittenInst
disjunction name = do
  flagged ← flagged_type flag.Disjoint
  binary name (op.Or flagged.0) flagged.1

-- [samesign] predicate type left, right
unfoldable pub icmp : WrittenName → Form never WrittenInst
icmp name = do
  compares ← comparison
  type ← one int_type
  left ← one (operand_class true (Int type.width))
  comma ← one (mark (codes ",") refl)
  right ← one (operand_class true (Int type.width))
  give (inst.Icmp name compares.1 compares.0 type left right)

-- value to type, after the first type
unfoldable pub cast_by : WrittenName → Cast → WrittenIntType → Form never WrittenInst
cast_by name c from = do
  value ← one (operand_class true (Int from.width))
  word_to ← one (word (codes "to") refl)
  to ← one int_type
  give (inst.Cast name c from value to)

-- [nuw] [nsw] type value to type
unfoldable pub truncate : WrittenName → Form never WrittenInst
truncate name = do
  flagged ← upto (wraps true) (λ flags. int_type) (λ flags. refl)
  cast_by name (cast.Truncate flagged.0) flagged.1

-- [nneg] type value to type
unfoldable pub zero_extend : WrittenName → Form never WrittenInst
zero_extend name = do
  flagged ← flagged_type flag.NonNegative
  cast_by name (cast.ZeroExtend flagged.0) flagged.1

-- type value to type
unfoldable pub sign_extend : WrittenName → Form never WrittenInst
sign_extend name = do
  type ← one int_type
  cast_by name cast.SignExtend type

abbrev pub is_undef : WrittenValue → Bool
is_undef (value.Local name) = false
is_undef (value.Literal number) = false
is_undef value.Null = false
is_undef value.Poison = false
is_undef value.Undef = true

-- the type of an arm, an integer type where it has to be one
abbrev pub arm_type : Bool → Form never WrittenType
arm_type false = one value_type
arm_type true = one int_type >>= λ type. give (record { of_type = Int type.width; at = type.at })

-- type value of an arm, where only an integer is undef
unfoldable pub arm : Bool → Form never WrittenTyped
arm of_integer = do
  type ← arm_type of_integer
  value ← one (operand_class (not (is_pointer type.of_type)) type.of_type)
  give (record { of_type = type; operand = value })

-- i1 condition, type value, type value; between integers where the condition is undef
unfoldable pub select : WrittenName → Form never WrittenInst
select name = do
  bit ← one bit_type
  condition ← one (operand_class true (Int one_bit))
  comma ← one (mark (codes ",") refl)
  if_true ← arm (is_undef condition.value)
  comma' ← one (mark (codes ",") refl)
  if_false ← arm (is_undef condition.value)
  give (inst.Select name bit condition if_true if_false)

-- type value
unfoldable pub freeze : WrittenName → Form never WrittenInst
freeze name = do
  value ← typed true
  give (inst.Freeze name value)

abbrev pub inst_by : WrittenName → Opcode → Form never WrittenInst
inst_by name (opcode.Wrapping w) = wrapping name w
inst_by name (opcode.Exact w) = exact name w
inst_by name (opcode.Plain o) = plain name o
inst_by name opcode.Or = disjunction name
inst_by name opcode.Icmp = icmp name
inst_by name opcode.Truncate = truncate name
inst_by name opcode.ZeroExtend = zero_extend name
inst_by name opcode.SignExtend = sign_extend name
inst_by name opcode.Select = select name
inst_by name opcode.Freeze = freeze name

-- ---- phis

-- how many entries a phi may have
abbrev pub most_entries : ℕ
most_entries = 16777216

-- value, %block ], after the opening mark
unfoldable pub entry : WrittenType → Form never WrittenEntry
entry type = do
  value ← one (operand_class false type.of_type)
  comma ← one (mark (codes ",") refl)
  from ← one local
  closing ← one (mark (codes "]") refl)
  give (record { operand = value; from = from })

-- type [ value, %block ], the first entry
unfoldable pub phi : WrittenName → Form never WrittenLine
phi name = do
  type ← one value_type
  opening ← one (mark (codes "[") refl)
  first ← entry type
  give (line.Entries (record { into = name; of_type = type; entries = first ∷ [] }))

abbrev pub with_entry : WrittenPhi → WrittenEntry → WrittenPhi
with_entry phi entry = record phi { entries = phi.entries ++ entry ∷ [] }

-- after a comma: the entry whose opening mark was read, counted at that mark
unfoldable pub next_entry : WrittenPhi → Form never WrittenLine
next_entry phi = do
  more ← entry phi.of_type
  give (line.Entries (with_entry phi more))

-- !number after the word of a line's first attachment
unfoldable pub attached : WrittenLine → Form never WrittenLine
attached l = do
  number ← one metadata_number
  give l

-- after a comma: another entry, or an attachment
unfoldable pub entry_or_attachment : WrittenPhi → Form never WrittenLine
entry_or_attachment phi = peek (counted_mark (codes "[") (nat_lt (length phi.entries) most_entries) refl) (λ opening. next_entry phi) attachment_word (λ kind_word. attached (line.Phi phi))

-- ---- types of objects in memory

-- how many arrays may be within one another
abbrev pub most_arrays : ℕ
most_arrays = 8

abbrev pub is_square : Lexeme → Bool
is_square t = is_mark_of t.kind t.text (codes "[")

abbrev pub array_begins : WrittenArrays → Lexeme → Option (Unit {0})
array_begins s t = as_mark (codes "[") t

-- an array is counted at its opening mark
abbrev pub array_within : WrittenArrays → Lexeme → Bool
array_within s t = nat_lt (length s.lengths) most_arrays

-- length x, after the opening mark
unfoldable pub with_length : WrittenArrays → Form never WrittenArrays
with_length s = do
  n ← one array_length
  times ← one (word (codes "x") refl)
  give (record s { lengths = s.lengths ++ n ∷ [] })

-- what was read of arrays, and others within them
unfoldable pub arrays : WrittenArrays → Form (either never (either is_square never)) WrittenArrays
arrays s = tail is_square array_begins array_within (λ s' opening. with_length s') (give s)

abbrev pub no_gep_flags : GepFlags
no_gep_flags = record { inbounds = false; nuw = false }

abbrev pub behind_flags : GepFlags → WrittenArrays
behind_flags flags = record { flags = flags; lengths = [] }

-- the closing marks of this number of arrays
abbrev pub closers : ℕ → Form never (Unit {0})
closers zero = give tt
closers (suc n) = one (mark (codes "]") refl) >>= λ closing. closers n

abbrev pub object_of : WrittenArrays → WrittenType → WrittenObject
object_of s element = record { of_type = record { lengths = s.lengths; element = element.of_type }; at = element.at }

-- element, or [ length x .. ] around it
unfoldable pub alloca_object : Form never WrittenObject
alloca_object = do
  found ← upto (arrays (behind_flags no_gep_flags)) (λ s. element_type true s.lengths) (λ s. refl)
  closed ← closers (length found.0.lengths)
  give (object_of found.0 found.1)

abbrev pub is_gep_flag : Lexeme → Bool
is_gep_flag t = is_word_of t.kind t.text (codes "inbounds") || is_word_of t.kind t.text (codes "nuw")

abbrev pub next_gep_flag : GepFlags → Lexeme → Option GepFlags
next_gep_flag flags t = gep_flag_of flags t.kind t.text

-- inbounds, and optionally nuw after it, or neither
unfoldable pub gep_flags : Form (either never (either is_gep_flag never)) GepFlags
gep_flags = words is_gep_flag next_gep_flag no_gep_flags

unfoldable pub gep_arrays : Form (either (either (either never (either is_gep_flag never)) never) (either is_square never)) WrittenArrays
gep_arrays = tail is_square array_begins array_within (λ s opening. with_length s) (mapped behind_flags gep_flags)

-- flags, and element or [ length x .. ] around it
unfoldable pub gep_object : Form never (GepFlags × WrittenObject)
gep_object = do
  found ← upto gep_arrays (λ s. element_type false s.lengths) (λ s. refl)
  closed ← closers (length found.0.lengths)
  give (found.0.flags, object_of found.0 found.1)

-- ---- instructions on memory

-- ptr value
unfoldable pub pointer : Form never WrittenTyped
pointer = do
  type ← one pointer_type
  value ← one (operand_class false type.of_type)
  give (record { of_type = type; operand = value })

-- type
unfoldable pub alloca : WrittenName → ℕ → Form never WrittenLine
alloca name number = do
  object ← alloca_object
  give (line.Access (access.Alloca name number object))

-- type, ptr value
unfoldable pub load : WrittenName → Form never WrittenLine
load name = do
  type ← one value_type
  comma ← one (mark (codes ",") refl)
  from ← pointer
  give (line.Access (access.Load name type from))

-- type value, ptr value
unfoldable pub store : Form never WrittenLine
store = do
  type ← one value_type
  value ← one (operand_class false type.of_type)
  comma ← one (mark (codes ",") refl)
  to ← pointer
  give (line.Access (access.Store (record { of_type = type; operand = value }) to))

-- [inbounds [nuw]] type, ptr value
unfoldable pub gep : WrittenName → Form never WrittenLine
gep name = do
  object ← gep_object
  comma ← one (mark (codes ",") refl)
  base ← pointer
  give (line.Indices (record { into = name; flags = object.0; of_type = object.1; base = base; indices = [] }))

-- the alignment of an instruction where none is written: that of its type, or of the type's innermost element
abbrev pub default_align : WrittenAccess → ℕ
default_align (access.Alloca into number type) = type_align type.of_type.element
default_align (access.Load into type from) = type_align type.of_type
default_align (access.Store value to) = type_align value.of_type.of_type

-- number, after the word align
unfoldable pub aligned : WrittenAccess → Form never WrittenLine
aligned a = do
  n ← one alignment
  give (line.Inst (inst.Access a n))

-- after a comma: an alignment, or an attachment
unfoldable pub align_or_attachment : WrittenAccess → Form never WrittenLine
align_or_attachment a = peek (word (codes "align") refl) (λ align_word. aligned a) attachment_word (λ kind_word. attached (line.Inst (inst.Access a (default_align a))))

abbrev pub with_index : WrittenGep → WrittenIndex → WrittenGep
with_index g index = record g { indices = g.indices ++ index ∷ [] }

-- value, after the type of an index
unfoldable pub next_index : WrittenGep → WrittenIntType → Form never WrittenLine
next_index g type = do
  value ← one (operand_class false (Int type.width))
  give (line.Indices (with_index g (record { of_type = type; operand = value })))

-- after a comma: another index, or an attachment
unfoldable pub index_or_attachment : WrittenGep → Form never WrittenLine
index_or_attachment g = peek int_type (next_index g) attachment_or_type (λ kind_word. attached (line.Inst (inst.GetElementPtr g)))

-- ---- any instruction with a result

unfoldable pub inst_line : WrittenName → Opcode → Form never WrittenLine
inst_line name o = do
  i ← inst_by name o
  give (line.Inst i)

-- an instruction with this number among those of the function
abbrev pub line_by : ℕ → WrittenName → LineWord → Form never WrittenLine
line_by number name word_of.Phi = phi name
line_by number name word_of.Alloca = alloca name number
line_by number name word_of.Load = load name
line_by number name word_of.GetElementPtr = gep name
line_by number name (word_of.Inst o) = inst_line name o

-- after the name: = and the instruction, which may be a phi where one is allowed
unfoldable pub line_named : Bool → ℕ → WrittenName → Form never WrittenLine
line_named phi_too number name = do
  equals ← one (mark (codes "=") refl)
  w ← one (line_word phi_too)
  line_by number name w
