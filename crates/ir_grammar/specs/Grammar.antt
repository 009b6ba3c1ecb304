-- Which tokens spell a function with a body (LLVM Language Reference, "Functions"). In brief, where
-- * is any number of times, ? at most once and | a choice; a TYPE, a VALUE and a LITERAL are one
-- token each, a VALUE and a LITERAL of the type before it:
--
--   function   = "define" prefix* ( TYPE | "void" ) @name "(" parameters? ")" header*
--                "{" label? lines ( label lines )* "}"
--   prefix     = linkage | visibility | calling convention | "zeroext" | "signext" | "noundef"
--   parameters = parameter ( "," parameter )*
--   parameter  = TYPE ( "noundef" | "nonnull" | "zeroext" | "signext" )* %name?
--   header     = "unnamed_addr" | "local_unnamed_addr" | "nounwind" | #number
--              | "comdat" ( "(" $name ")" )? | "!dbg" !number
--   lines      = ( instruction attachment* | record )* terminator attachment*
--   attachment = "," ( "!dbg" | "!prof" | "!llvm.loop" ) !number
--   record     = #dbg_.. "(" tokens whose brackets match ")"
--   terminator = "ret" ( "void" | TYPE VALUE ) | "br" target | "br" "i1" VALUE "," target "," target
--              | "switch" TYPE VALUE "," target "[" ( TYPE LITERAL "," target )* "]" | "unreachable"
--   target     = "label" %name
--
-- Each name in it is a form of that name or the like below; Instructions.antt has the instructions.
use Rattle.std.specs.Prelude.{refl, ℕ, List, [], ◌∷◌, ◌++◌, length, ◌+◌, ◌-◌, ◌==◌, if◌then◌else◌, Option, Some, None, Bool, true, false, ◌&&◌, ◌||◌, not, codes, nat_lt, is_some}
use Rattle.text_places.specs.declared.place.Place.{Place}
use Rattle.ir_lexer.specs.declared.token.Kind.{Kind}
use Rattle.ir_lexer.specs.declared.token.Kind.TheVariants as kind
use Rattle.ir_lexer.specs.Lexeme.{Lexeme}
use Rattle.ir_tree.specs.Types.{one_bit}
use Rattle.ir_tree.specs.declared.tree.IrType.{IrType}
use Rattle.ir_tree.specs.declared.tree.IrType.TheVariants.{Int}
use Rattle.token_forms.specs.declared.bracket.Bracket.TheVariants.{Round}
use Rattle.token_forms.specs.Form.{Form, never, either, give, one, upto, peek, tail, balanced, mapped, ◌>>=◌}
use Rattle.ir_words.specs.declared.word.LineStart.{LineStart}
use Rattle.ir_words.specs.declared.word.LineStart.TheVariants as start
use Rattle.ir_words.specs.declared.word.TerminatorWord.{TerminatorWord}
use Rattle.ir_words.specs.declared.word.TerminatorWord.TheVariants as finish
use Rattle.ir_words.specs.declared.word.ParameterPart.{ParameterPart}
use Rattle.ir_words.specs.declared.word.ParameterPart.TheVariants as part
use Rattle.ir_words.specs.declared.word.HeaderPart.{HeaderPart}
use Rattle.ir_words.specs.declared.word.HeaderPart.TheVariants as header
use Rattle.ir_words.specs.declared.written.WrittenIntType.{WrittenIntType}
use Rattle.ir_words.specs.declared.written.WrittenType.{WrittenType}
use Rattle.ir_words.specs.declared.written.WrittenParameter.{WrittenParameter}
use Rattle.ir_words.specs.declared.written.WrittenParameters.{WrittenParameters}
use Rattle.ir_words.specs.declared.written.WrittenLines.{WrittenLines}
use Rattle.ir_words.specs.declared.written.WrittenPhi.{WrittenPhi}
use Rattle.ir_words.specs.declared.written.WrittenInst.{WrittenInst}
use Rattle.ir_words.specs.declared.written.WrittenInst.TheVariants as inst
use Rattle.ir_words.specs.declared.written.WrittenLine.{WrittenLine}
use Rattle.ir_words.specs.declared.written.WrittenLine.TheVariants as line
use Rattle.ir_words.specs.declared.written.WrittenCase.{WrittenCase}
use Rattle.ir_words.specs.declared.written.WrittenTerminator.{WrittenTerminator}
use Rattle.ir_words.specs.declared.written.WrittenTerminator.TheVariants as end
use Rattle.ir_words.specs.declared.written.WrittenBody.{WrittenBody}
use Rattle.ir_words.specs.declared.written.WrittenBlocks.{WrittenBlocks}
use Rattle.ir_words.specs.declared.written.WrittenName.{WrittenName}
use Rattle.ir_words.specs.declared.written.WrittenReturn.{WrittenReturn}
use Rattle.ir_words.specs.declared.written.WrittenReturn.TheVariants.{Void, Value}
use Rattle.ir_grammar.specs.declared.written.WrittenFunction.{WrittenFunction}
use Rattle.ir_words.specs.Words.{is_word_of, is_mark_of, prefix_of}
use Rattle.ir_words.specs.Spelling.{is_pointer_type, parameter_part, header_part, line_start, label_of, named_at, width_in, int_typed_at, is_width}
use Rattle.ir_grammar.specs.Classes.{word, mark, mark_or_type, brace, as_mark, local, global, counted_type, value_type, int_type, bit_type, return_type, operand_class, literal_class, terminator_word, attachment_word, metadata_number, comdat_name}
use Rattle.ir_grammar.specs.Instructions.{many, words, line_named, store, default_align, entry_or_attachment, align_or_attachment, index_or_attachment}

abbrev pub is_comma : Lexeme → Bool
is_comma t = is_mark_of t.kind t.text (codes ",")

-- ---- before the return type

abbrev pub is_prefix : Lexeme → Bool
is_prefix t = is_some (prefix_of t.kind t.text false)

abbrev pub next_prefix : Bool → Lexeme → Option Bool
next_prefix no_undef t = prefix_of t.kind t.text no_undef

-- words, and whether noundef is one of them
unfoldable pub prefixes : Form (either never (either is_prefix never)) Bool
prefixes = words is_prefix next_prefix false

-- ---- parameters

abbrev pub most_parameters : ℕ
most_parameters = 16

abbrev pub new_parameter : WrittenType → WrittenParameter
new_parameter type = record { of_type = type; no_undef = false; non_null = false; name = None }

abbrev pub follows_parameter : Lexeme → Bool
follows_parameter t = is_some (parameter_part false true t.kind t.text t.place)

abbrev pub parameter_begins : WrittenParameters → Lexeme → Option ParameterPart
parameter_begins s t = parameter_part (is_some s.last.name) (is_pointer_type s.last.of_type.of_type) t.kind t.text t.place

abbrev pub no_undef_too : WrittenParameter → WrittenParameter
no_undef_too p = record p { no_undef = true }

abbrev pub non_null_too : WrittenParameter → WrittenParameter
non_null_too p = record p { non_null = true }

abbrev pub with_name : WrittenName → WrittenParameter → WrittenParameter
with_name name p = record p { name = Some name }

-- attributes, an optional name, and after a comma the next type; a parameter is counted at its type
abbrev pub with_part : WrittenParameters → ParameterPart → Form never WrittenParameters
with_part s part.NoUndef = give (record s { last = no_undef_too s.last })
with_part s part.NonNull = give (record s { last = non_null_too s.last })
with_part s part.Extension = give s
with_part s (part.Name name) = give (record s { last = with_name name s.last })
with_part s part.Next = one (counted_type (nat_lt (length s.before + 1) most_parameters)) >>= λ type. give (record { before = s.before ++ s.last ∷ []; last = new_parameter type })

-- the parameters after the type of the first
unfoldable pub parameter_parts : WrittenType → Form (either never (either follows_parameter never)) WrittenParameters
parameter_parts type = many follows_parameter parameter_begins with_part (give (record { before = []; last = new_parameter type }))

unfoldable pub first_parameter : WrittenType → Form never (List WrittenParameter)
first_parameter type = do
  all ← upto (parameter_parts type) (λ s. mark (codes ")") refl) (λ s. refl)
  give (all.0.before ++ all.0.last ∷ [])

-- the parameters, by commas, and the closing parenthesis
unfoldable pub parameters : Form never (List WrittenParameter)
parameters = peek (mark (codes ")") refl) (λ closed. give []) value_type first_parameter

-- ---- after the parameters

abbrev pub follows_header : Lexeme → Bool
follows_header t = is_some (header_part true t.kind t.text)

abbrev pub header_begins : Bool → Lexeme → Option HeaderPart
header_begins behind_comdat t = header_part behind_comdat t.kind t.text

-- $name )
unfoldable pub comdat_rest : Form never Bool
comdat_rest = do
  name ← one comdat_name
  closing ← one (mark (codes ")") refl)
  give false

-- !number
unfoldable pub debug_rest : Form never Bool
debug_rest = do
  number ← one metadata_number
  give false

abbrev pub with_header : Bool → HeaderPart → Form never Bool
with_header s header.Attribute = give false
with_header s header.Comdat = give true
with_header s header.Opening = comdat_rest
with_header s header.Debug = debug_rest

-- attributes, comdat with an optional name, and !dbg; whether comdat came last
unfoldable pub header_parts : Form (either never (either follows_header never)) Bool
header_parts = many follows_header header_begins with_header (give false)

-- ---- the lines of a block

-- how many instructions a function may have, the last one of each block counted
abbrev pub most_insts : ℕ
most_insts = 65536

-- after the comma: !word !number
unfoldable pub attachment : Form never (Unit {0})
attachment = do
  kind_word ← one attachment_word
  number ← one metadata_number
  give tt

-- after the word of a record: what is in parentheses
unfoldable pub record_rest : Form never (Unit {0})
record_rest = do
  opening ← one (mark (codes "(") refl)
  balanced Round

abbrev pub is_local_kind : Kind → Bool
is_local_kind kind.Local = true
is_local_kind _ = false

abbrev pub is_label_kind : Kind → Bool
is_label_kind kind.Label = true
is_label_kind _ = false

abbrev pub is_hash_kind : Kind → Bool
is_hash_kind kind.Hash = true
is_hash_kind _ = false

abbrev pub is_store : Lexeme → Bool
is_store t = is_word_of t.kind t.text (codes "store")

-- the first token of an instruction: the name of its result, or store, which has none
abbrev pub starts_inst : Lexeme → Bool
starts_inst t = is_local_kind t.kind || is_store t

abbrev pub starts_line : Lexeme → Bool
starts_line t = starts_inst t || is_label_kind t.kind || is_hash_kind t.kind

abbrev pub line_begins : WrittenLines → Lexeme → Option LineStart
line_begins s t = line_start s.is_new t.kind t.text t.place

-- an instruction is counted at its first token
abbrev pub line_within : WrittenLines → Lexeme → Bool
line_within s t = not (starts_inst t) || nat_lt 0 s.room

-- a phi is allowed only before all other instructions of its block
abbrev pub may_have_phi : WrittenLines → Bool
may_have_phi s = length s.insts == 0

-- the number of the next instruction among those of the function, from 0
abbrev pub next_number : WrittenLines → ℕ
next_number s = most_insts - s.room

-- what comes before the first comma of a line
abbrev pub started : Bool → ℕ → LineStart → Form never WrittenLine
started phi_too number (start.Label name) = give (line.Label name)
started phi_too number (start.Inst name) = line_named phi_too number name
started phi_too number start.Store = store
started phi_too number start.Record = record_rest >>= λ passed. give line.Record

abbrev pub takes_comma : WrittenLine → Bool
takes_comma (line.Label name) = false
takes_comma line.Record = false
takes_comma (line.Entries phi) = true
takes_comma (line.Access a) = true
takes_comma (line.Indices g) = true
takes_comma (line.Phi phi) = true
takes_comma (line.Inst i) = true

abbrev pub line_comma : WrittenLine → Lexeme → Option (Unit {0})
line_comma l t = (if takes_comma l then as_mark (codes ",") t else None)

-- after a comma an attachment; or an entry of a phi, an alignment or an index, while one may follow
abbrev pub with_comma : WrittenLine → Form never WrittenLine
with_comma (line.Label name) = give (line.Label name)
with_comma line.Record = give line.Record
with_comma (line.Entries phi) = entry_or_attachment phi
with_comma (line.Access a) = align_or_attachment a
with_comma (line.Indices g) = index_or_attachment g
with_comma (line.Phi phi) = attachment >>= λ passed. give (line.Phi phi)
with_comma (line.Inst i) = attachment >>= λ passed. give (line.Inst i)

abbrev pub commas : Lexeme → Bool
commas = either never (either is_comma never)

-- what was read of a line, with what follows its commas
unfoldable pub behind_commas : WrittenLine → Form commas WrittenLine
behind_commas l = many is_comma line_comma (λ l' comma. with_comma l') (give l)

unfoldable pub whole_line : WrittenLines → LineStart → Form commas WrittenLine
whole_line s a = many is_comma line_comma (λ l comma. with_comma l) (started (may_have_phi s) (next_number s) a)

abbrev pub with_phi : WrittenLines → WrittenPhi → WrittenLines
with_phi s phi = record s { phis = s.phis ++ phi ∷ []; is_new = false; room = s.room - 1 }

abbrev pub with_inst : WrittenLines → WrittenInst → WrittenLines
with_inst s i = record s { insts = s.insts ++ i ∷ []; is_new = false; room = s.room - 1 }

abbrev pub with_line : WrittenLines → WrittenLine → WrittenLines
with_line s (line.Label name) = record s { label = Some name; is_new = false }
with_line s line.Record = record s { is_new = false }
with_line s (line.Entries phi) = with_phi s phi
with_line s (line.Phi phi) = with_phi s phi
with_line s (line.Access a) = with_inst s (inst.Access a (default_align a))
with_line s (line.Indices g) = with_inst s (inst.GetElementPtr g)
with_line s (line.Inst i) = with_inst s i

unfoldable pub next_line : WrittenLines → LineStart → Form (either commas never) WrittenLines
next_line s a = mapped (with_line s) (whole_line s a)

-- a block before its first line; a label may follow where it is new
abbrev pub opened : Bool → ℕ → WrittenLines
opened is_new room = record { label = None; phis = []; insts = []; is_new = is_new; room = room }

-- an optional label, and instructions with what is attached to them and records between them
unfoldable pub lines : Bool → ℕ → Form (either never (either starts_line (either commas never))) WrittenLines
lines is_new room = tail starts_line line_begins line_within next_line (give (opened is_new room))

-- ---- the last instruction of a block

-- after a type: its value, or nothing after void
abbrev pub returned_by : Option IrType → Place → Form never WrittenReturn
returned_by None at = give (Void at)
returned_by (Some type) at = one (operand_class true type) >>= λ value. give (Value (record { of_type = record { of_type = type; at = at }; operand = value }))

-- after ret: void, or type value
unfoldable pub returned : Form never WrittenReturn
returned = one return_type >>= λ type. returned_by type.of_type type.at

-- label %block
unfoldable pub target : Form never WrittenName
target = do
  label_word ← one (word (codes "label") refl)
  one local

-- value, label %block, label %block, after i1
unfoldable pub cond_branch : Place → Form never WrittenTerminator
cond_branch bit = do
  condition ← one (operand_class false (Int one_bit))
  comma ← one (mark (codes ",") refl)
  if_true ← target
  comma' ← one (mark (codes ",") refl)
  if_false ← target
  give (end.CondBranch bit condition if_true if_false)

unfoldable pub branch_to : Form never WrittenTerminator
branch_to = do
  to ← one local
  give (end.Branch to)

-- after br: a label, or i1 and what it chooses
unfoldable pub branch : Form never WrittenTerminator
branch = peek (word (codes "label") refl) (λ label_word. branch_to) bit_type cond_branch

-- how many cases a switch may have
abbrev pub most_cases : ℕ
most_cases = 256

abbrev pub is_type : Lexeme → Bool
is_type t = is_some (width_in t)

abbrev pub case_begins : List WrittenCase → Lexeme → Option WrittenIntType
case_begins s t = int_typed_at (width_in t) t.place

-- a case is counted at its type
abbrev pub case_within : List WrittenCase → Lexeme → Bool
case_within s t = nat_lt (length s) most_cases && is_width (width_in t)

-- literal, label %block, after the type
unfoldable pub with_case : List WrittenCase → WrittenIntType → Form never (List WrittenCase)
with_case s type = do
  literal ← one (literal_class type.width)
  comma ← one (mark (codes ",") refl)
  to ← target
  give (s ++ (record { of_type = type; literal = literal; to = to }) ∷ [])

unfoldable pub cases : Form (either never (either is_type never)) (List WrittenCase)
cases = tail is_type case_begins case_within with_case (give [])

-- after switch: type value, label %block [ cases ]
unfoldable pub switch : Form never WrittenTerminator
switch = do
  type ← one int_type
  value ← one (operand_class false (Int type.width))
  comma ← one (mark (codes ",") refl)
  default ← target
  opening ← one (mark (codes "[") refl)
  all ← upto cases (λ s. mark_or_type (codes "]") refl) (λ s. refl)
  give (end.Switch type value default all.0)

unfoldable pub return_of : Form never WrittenTerminator
return_of = do
  value ← returned
  give (end.Return value)

abbrev pub terminator_by : TerminatorWord → Form never WrittenTerminator
terminator_by finish.Return = return_of
terminator_by finish.Branch = branch
terminator_by finish.Switch = switch
terminator_by finish.Unreachable = give end.Unreachable

abbrev pub comma_begins : Unit {0} → Lexeme → Option (Unit {0})
comma_begins s t = as_mark (codes ",") t

-- attachments of the last instruction of a block
unfoldable pub attachments : Form (either never (either is_comma never)) (Unit {0})
attachments = many is_comma comma_begins (λ s comma. attachment) (give tt)

-- ---- blocks

-- the lines of a block and its last instruction, with what is attached to it
unfoldable pub block : Bool → ℕ → Form (either commas never) (WrittenLines × WrittenTerminator)
block is_new room = do
  all ← upto (lines is_new room) (λ s. terminator_word (nat_lt 0 s.room)) (λ s. refl)
  last ← terminator_by all.1
  mapped (λ passed. (all.0, last)) attachments

abbrev pub body_of : WrittenLines × WrittenTerminator → WrittenBody
body_of b = record { phis = b.0.phis; insts = b.0.insts; terminator = b.1 }

-- the entry, with an optional label
abbrev pub entry_alone : WrittenLines × WrittenTerminator → WrittenBlocks
entry_alone b = record { label = b.0.label; entry = body_of b; others = []; room = b.0.room - 1 }

unfoldable pub entry_block : Form (either (either commas never) never) WrittenBlocks
entry_block = mapped entry_alone (block true most_insts)

abbrev pub begins_block : Lexeme → Bool
begins_block t = is_label_kind t.kind

abbrev pub block_begins : WrittenBlocks → Lexeme → Option WrittenName
block_begins s t = named_at (label_of t.kind t.text) t.place

abbrev pub with_block : WrittenBlocks → WrittenName → WrittenLines × WrittenTerminator → WrittenBlocks
with_block s name b = record s { others = s.others ++ (record { label = name; body = body_of b }) ∷ []; room = b.0.room - 1 }

-- a block after its label
unfoldable pub next_block : WrittenBlocks → WrittenName → Form (either (either commas never) never) WrittenBlocks
next_block s name = mapped (with_block s name) (block false s.room)

-- what was read of the blocks, and others, each after its label
unfoldable pub other_blocks : WrittenBlocks → Form (either never (either begins_block (either (either commas never) never))) WrittenBlocks
other_blocks s = many begins_block block_begins next_block (give s)

-- the entry, and others, each after its label
unfoldable pub blocks : Form (either (either (either commas never) never) (either begins_block (either (either commas never) never))) WrittenBlocks
blocks = many begins_block block_begins next_block entry_block

-- ---- functions

-- define words type @name(parameters) words { blocks }
unfoldable pub define : Form never WrittenFunction
define = do
  head ← one (word (codes "define") refl)
  type ← upto prefixes (λ s. return_type) (λ s. refl)
  name ← one global
  opening ← one (mark (codes "(") refl)
  all ← parameters
  body ← upto header_parts (λ s. brace) (λ s. refl)
  closed ← upto blocks (λ s. mark (codes "}") refl) (λ s. refl)
  give (record { returns_no_undef = type.0; returns = type.1; name = name; parameters = all; brace = body.1; label = closed.0.label; entry = closed.0.entry; others = closed.0.others })
