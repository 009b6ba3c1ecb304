-- Which words name an instruction, a comparison, a flag, or occur in a header.
use Rattle.std.specs.Prelude.{ℕ, List, Option, Some, None, Bool, true, false, ◌&&◌, ◌||◌, if◌then◌else◌, codes}
use Rattle.std.specs.Str.{bytes_eq}
use Rattle.ir_lexer.specs.declared.token.Kind.{Kind}
use Rattle.ir_lexer.specs.declared.token.Kind.TheVariants as kind
use Rattle.ir_tree.specs.declared.tree.Flags.{Flags}
use Rattle.ir_tree.specs.declared.tree.Op.{Op}
use Rattle.ir_tree.specs.declared.tree.Op.TheVariants as op
use Rattle.ir_tree.specs.declared.tree.Predicate.{Predicate}
use Rattle.ir_tree.specs.declared.tree.Predicate.TheVariants as predicate
use Rattle.ir_words.specs.declared.word.WrapWord.{WrapWord}
use Rattle.ir_words.specs.declared.word.WrapWord.TheVariants as wrap
use Rattle.ir_words.specs.declared.word.ExactWord.{ExactWord}
use Rattle.ir_words.specs.declared.word.ExactWord.TheVariants as exact
use Rattle.ir_words.specs.declared.word.Opcode.{Opcode}
use Rattle.ir_words.specs.declared.word.Opcode.TheVariants as opcode
use Rattle.ir_words.specs.declared.word.LineWord.{LineWord}
use Rattle.ir_words.specs.declared.word.LineWord.TheVariants as line
use Rattle.ir_words.specs.declared.word.TerminatorWord.{TerminatorWord}
use Rattle.ir_words.specs.declared.word.TerminatorWord.TheVariants as finish
use Rattle.ir_words.specs.declared.word.Flag.{Flag}
use Rattle.ir_words.specs.declared.word.Flag.TheVariants as flag

-- whether a token of a kind is spelled so
abbrev pub is_word_of : Kind → List ℕ → List ℕ → Bool
is_word_of kind.Word text word = bytes_eq text word
is_word_of _ text word = false

abbrev pub is_mark_of : Kind → List ℕ → List ℕ → Bool
is_mark_of kind.Mark text mark = bytes_eq text mark
is_mark_of _ text mark = false

-- ---- instructions

abbrev pub flagged_word : List ℕ → Option Opcode
flagged_word text =
    (if bytes_eq text (codes "add") then Some (opcode.Wrapping wrap.Add)
    else (if bytes_eq text (codes "sub") then Some (opcode.Wrapping wrap.Sub)
    else (if bytes_eq text (codes "mul") then Some (opcode.Wrapping wrap.Mul)
    else (if bytes_eq text (codes "udiv") then Some (opcode.Exact exact.UnsignedDiv)
    else (if bytes_eq text (codes "sdiv") then Some (opcode.Exact exact.SignedDiv)
    else (if bytes_eq text (codes "shl") then Some (opcode.Wrapping wrap.ShiftLeft)
    else (if bytes_eq text (codes "lshr") then Some (opcode.Exact exact.LogicalShiftRight)
    else (if bytes_eq text (codes "ashr") then Some (opcode.Exact exact.ArithmeticShiftRight) else None))))))))

abbrev pub plain_word : List ℕ → Option Opcode
plain_word text =
    (if bytes_eq text (codes "urem") then Some (opcode.Plain op.UnsignedRem)
    else (if bytes_eq text (codes "srem") then Some (opcode.Plain op.SignedRem)
    else (if bytes_eq text (codes "and") then Some (opcode.Plain op.And)
    else (if bytes_eq text (codes "or") then Some opcode.Or
    else (if bytes_eq text (codes "xor") then Some (opcode.Plain op.Xor) else None)))))

abbrev pub cast_word : List ℕ → Option Opcode
cast_word text =
    (if bytes_eq text (codes "trunc") then Some opcode.Truncate
    else (if bytes_eq text (codes "zext") then Some opcode.ZeroExtend
    else (if bytes_eq text (codes "sext") then Some opcode.SignExtend else None)))

abbrev pub other_word : List ℕ → Option Opcode
other_word text =
    (if bytes_eq text (codes "icmp") then Some opcode.Icmp
    else (if bytes_eq text (codes "select") then Some opcode.Select
    else (if bytes_eq text (codes "freeze") then Some opcode.Freeze else None)))

abbrev pub or_else : Option Opcode → Option Opcode → Option Opcode
or_else None other = other
or_else (Some opcode) other = Some opcode

abbrev pub opcode_named : List ℕ → Option Opcode
opcode_named text = or_else (flagged_word text) (or_else (plain_word text) (or_else (cast_word text) (other_word text)))

abbrev pub opcode_of : Kind → List ℕ → Option Opcode
opcode_of kind.Word text = opcode_named text
opcode_of _ text = None

abbrev pub inst_word : Option Opcode → Option LineWord
inst_word None = None
inst_word (Some opcode) = Some (line.Inst opcode)

abbrev pub memory_word : List ℕ → Option LineWord
memory_word text =
    (if bytes_eq text (codes "alloca") then Some line.Alloca
    else (if bytes_eq text (codes "load") then Some line.Load
    else (if bytes_eq text (codes "getelementptr") then Some line.GetElementPtr else None)))

abbrev pub memory_word_of : Kind → List ℕ → Option LineWord
memory_word_of kind.Word text = memory_word text
memory_word_of _ text = None

abbrev pub or_word : Option LineWord → Option LineWord → Option LineWord
or_word None other = other
or_word (Some word) other = Some word

-- the word of a phi, where one is allowed, or of another instruction
abbrev pub line_word_of : Bool → Kind → List ℕ → Option LineWord
line_word_of phi_too k text = (if phi_too && is_word_of k text (codes "phi") then Some line.Phi else or_word (memory_word_of k text) (inst_word (opcode_of k text)))

-- ---- the last instruction of a block

abbrev pub terminator_named : List ℕ → Option TerminatorWord
terminator_named text =
    (if bytes_eq text (codes "ret") then Some finish.Return
    else (if bytes_eq text (codes "br") then Some finish.Branch
    else (if bytes_eq text (codes "switch") then Some finish.Switch
    else (if bytes_eq text (codes "unreachable") then Some finish.Unreachable else None))))

abbrev pub terminator_of : Kind → List ℕ → Option TerminatorWord
terminator_of kind.Word text = terminator_named text
terminator_of _ text = None

-- ---- operations with flags

abbrev pub no_flags : Flags
no_flags = record { nuw = false; nsw = false }

abbrev pub wrapping_op : WrapWord → Flags → Op
wrapping_op wrap.Add flags = op.Add flags
wrapping_op wrap.Sub flags = op.Sub flags
wrapping_op wrap.Mul flags = op.Mul flags
wrapping_op wrap.ShiftLeft flags = op.ShiftLeft flags

abbrev pub exact_op : ExactWord → Bool → Op
exact_op exact.UnsignedDiv is_exact = op.UnsignedDiv is_exact
exact_op exact.SignedDiv is_exact = op.SignedDiv is_exact
exact_op exact.LogicalShiftRight is_exact = op.LogicalShiftRight is_exact
exact_op exact.ArithmeticShiftRight is_exact = op.ArithmeticShiftRight is_exact

-- the word of a flag
abbrev pub flag_text : Flag → List ℕ
flag_text flag.Exact = codes "exact"
flag_text flag.Disjoint = codes "disjoint"
flag_text flag.NonNegative = codes "nneg"
flag_text flag.SameSign = codes "samesign"

-- ---- comparisons

abbrev pub predicate_named : List ℕ → Option Predicate
predicate_named text =
    (if bytes_eq text (codes "eq") then Some predicate.Equal
    else (if bytes_eq text (codes "ne") then Some predicate.NotEqual
    else (if bytes_eq text (codes "ugt") then Some predicate.UnsignedGreater
    else (if bytes_eq text (codes "uge") then Some predicate.UnsignedGreaterOrEqual
    else (if bytes_eq text (codes "ult") then Some predicate.UnsignedLess
    else (if bytes_eq text (codes "ule") then Some predicate.UnsignedLessOrEqual
    else (if bytes_eq text (codes "sgt") then Some predicate.SignedGreater
    else (if bytes_eq text (codes "sge") then Some predicate.SignedGreaterOrEqual
    else (if bytes_eq text (codes "slt") then Some predicate.SignedLess
    else (if bytes_eq text (codes "sle") then Some predicate.SignedLessOrEqual else None))))))))))

abbrev pub predicate_of : Kind → List ℕ → Option Predicate
predicate_of kind.Word text = predicate_named text
predicate_of _ text = None

-- ---- words before a return type

abbrev pub is_linkage : List ℕ → Bool
is_linkage text =
    bytes_eq text (codes "private") || bytes_eq text (codes "internal") || bytes_eq text (codes "external") || bytes_eq text (codes "available_externally")
    || bytes_eq text (codes "linkonce") || bytes_eq text (codes "weak") || bytes_eq text (codes "linkonce_odr") || bytes_eq text (codes "weak_odr")

-- visibility, calling convention, extension
abbrev pub is_visibility : List ℕ → Bool
is_visibility text =
    bytes_eq text (codes "default") || bytes_eq text (codes "hidden") || bytes_eq text (codes "protected") || bytes_eq text (codes "dso_local")
    || bytes_eq text (codes "ccc") || bytes_eq text (codes "fastcc") || bytes_eq text (codes "zeroext") || bytes_eq text (codes "signext")

-- whether noundef is among the words so far and this one, if it is allowed there
abbrev pub prefix_named : List ℕ → Bool → Option Bool
prefix_named text so_far =
    (if bytes_eq text (codes "noundef") then Some true else (if is_linkage text || is_visibility text then Some so_far else None))

abbrev pub prefix_of : Kind → List ℕ → Bool → Option Bool
prefix_of kind.Word text so_far = prefix_named text so_far
prefix_of _ text so_far = None
