-- The tokens of each instruction (LLVM Language Reference, "Instruction Reference"), flags in the order of the instruction table, alignments written.
use Rattle.std.specs.Prelude.{ℕ, List, [], ◌∷◌, ◌++◌, codes, Bool, true, false, Option, Some, None}
use Rattle.std.specs.List.{flat_map}
use Rattle.tv_num.specs.declared.Width.{Width}
use Rattle.ir_tree.specs.declared.name.Name.{Name}
use Rattle.ir_tree.specs.declared.tree.Flags.{Flags}
use Rattle.ir_tree.specs.declared.tree.Op.{Op}
use Rattle.ir_tree.specs.declared.tree.Op.TheVariants as op
use Rattle.ir_tree.specs.declared.tree.Predicate.{Predicate}
use Rattle.ir_tree.specs.declared.tree.Predicate.TheVariants as predicate
use Rattle.ir_tree.specs.declared.tree.Cast.{Cast}
use Rattle.ir_tree.specs.declared.tree.Cast.TheVariants as cast
use Rattle.ir_tree.specs.declared.tree.Operand.{Operand}
use Rattle.ir_tree.specs.declared.tree.TypedOperand.{TypedOperand}
use Rattle.ir_tree.specs.declared.tree.GepIndex.{GepIndex}
use Rattle.ir_tree.specs.declared.tree.Inst.{Inst}
use Rattle.ir_tree.specs.declared.tree.Inst.TheVariants as inst
use Rattle.ir_tree.specs.declared.tree.PhiEntry.{PhiEntry}
use Rattle.ir_tree.specs.declared.tree.Phi.{Phi}
use Rattle.ir_tree.specs.declared.tree.Case.{Case}
use Rattle.ir_tree.specs.declared.tree.Terminator.{Terminator}
use Rattle.ir_tree.specs.declared.tree.Terminator.TheVariants.{Return, Branch, CondBranch, Switch, Unreachable}
use Rattle.token_text.specs.Pieces.{Piece}
use Rattle.ir_printer.specs.Pieces.{space, indented, word, mark, number, comma, name_in, local, target, width_text, type_text, object_pieces, operand_piece, typed_pieces, pointer_pieces}

-- ---- words and flags

-- an optional word
abbrev pub word_if : Bool → List ℕ → List Piece
word_if true text = word space text ∷ []
word_if false text = []

abbrev pub flag_pieces : Flags → List Piece
flag_pieces flags = word_if flags.nuw (codes "nuw") ++ word_if flags.nsw (codes "nsw")

abbrev pub op_pieces : Op → List Piece
op_pieces (op.Add flags) = word space (codes "add") ∷ flag_pieces flags
op_pieces (op.Sub flags) = word space (codes "sub") ∷ flag_pieces flags
op_pieces (op.Mul flags) = word space (codes "mul") ∷ flag_pieces flags
op_pieces (op.UnsignedDiv exact) = word space (codes "udiv") ∷ word_if exact (codes "exact")
op_pieces op.UnsignedRem = word space (codes "urem") ∷ []
op_pieces (op.SignedDiv exact) = word space (codes "sdiv") ∷ word_if exact (codes "exact")
op_pieces op.SignedRem = word space (codes "srem") ∷ []
op_pieces (op.ShiftLeft flags) = word space (codes "shl") ∷ flag_pieces flags
op_pieces (op.LogicalShiftRight exact) = word space (codes "lshr") ∷ word_if exact (codes "exact")
op_pieces (op.ArithmeticShiftRight exact) = word space (codes "ashr") ∷ word_if exact (codes "exact")
op_pieces op.And = word space (codes "and") ∷ []
op_pieces (op.Or disjoint) = word space (codes "or") ∷ word_if disjoint (codes "disjoint")
op_pieces op.Xor = word space (codes "xor") ∷ []

abbrev pub predicate_text : Predicate → List ℕ
predicate_text predicate.Equal = codes "eq"
predicate_text predicate.NotEqual = codes "ne"
predicate_text predicate.UnsignedGreater = codes "ugt"
predicate_text predicate.UnsignedGreaterOrEqual = codes "uge"
predicate_text predicate.UnsignedLess = codes "ult"
predicate_text predicate.UnsignedLessOrEqual = codes "ule"
predicate_text predicate.SignedGreater = codes "sgt"
predicate_text predicate.SignedGreaterOrEqual = codes "sge"
predicate_text predicate.SignedLess = codes "slt"
predicate_text predicate.SignedLessOrEqual = codes "sle"

abbrev pub cast_pieces : Cast → List Piece
cast_pieces (cast.Truncate flags) = word space (codes "trunc") ∷ flag_pieces flags
cast_pieces (cast.ZeroExtend non_negative) = word space (codes "zext") ∷ word_if non_negative (codes "nneg")
cast_pieces cast.SignExtend = word space (codes "sext") ∷ []

-- ---- instructions

-- on a line of its own, the name of the result and `=`
abbrev pub result_pieces : List Name → ℕ → List Piece
result_pieces names into = local indented (name_in names into) ∷ mark space (codes "=") ∷ []

abbrev pub align_pieces : ℕ → List Piece
align_pieces align = comma ∷ word space (codes "align") ∷ number space align ∷ []

-- two operands after their type
abbrev pub operand_pieces : List Name → Width → Operand → Operand → List Piece
operand_pieces names width left right = word space (width_text width) ∷ operand_piece names left ∷ comma ∷ operand_piece names right ∷ []

abbrev pub index_pieces : List Name → GepIndex → List Piece
index_pieces names index = comma ∷ word space (width_text index.width) ∷ operand_piece names index.operand ∷ []

abbrev pub inst_pieces : List Name → Inst → List Piece
inst_pieces names (inst.Binary into o width left right) = result_pieces names into ++ op_pieces o ++ operand_pieces names width left right
inst_pieces names (inst.Icmp into p same_sign width left right) =
    result_pieces names into ++ word space (codes "icmp") ∷ word_if same_sign (codes "samesign") ++ word space (predicate_text p) ∷ operand_pieces names width left right
inst_pieces names (inst.Cast into c from o to) =
    result_pieces names into ++ cast_pieces c ++ word space (width_text from) ∷ operand_piece names o ∷ word space (codes "to") ∷ word space (width_text to) ∷ []
inst_pieces names (inst.Select into condition if_true if_false) =
    result_pieces names into ++ word space (codes "select") ∷ word space (codes "i1") ∷ operand_piece names condition ∷ comma ∷ (typed_pieces names if_true ++ comma ∷ typed_pieces names if_false)
inst_pieces names (inst.Freeze into type o) = result_pieces names into ++ word space (codes "freeze") ∷ word space (type_text type) ∷ operand_piece names o ∷ []
inst_pieces names (inst.Alloca into n type align) = result_pieces names into ++ word space (codes "alloca") ∷ (object_pieces type ++ align_pieces align)
inst_pieces names (inst.Load into type pointer align) =
    result_pieces names into ++ word space (codes "load") ∷ word space (type_text type) ∷ comma ∷ (pointer_pieces names pointer ++ align_pieces align)
inst_pieces names (inst.Store value pointer align) =
    word indented (codes "store") ∷ (typed_pieces names value ++ comma ∷ (pointer_pieces names pointer ++ align_pieces align))
inst_pieces names (inst.GetElementPtr into inbounds nuw type base indices) =
    result_pieces names into ++ word space (codes "getelementptr") ∷ (word_if inbounds (codes "inbounds") ++ word_if nuw (codes "nuw") ++ object_pieces type ++ comma ∷ (pointer_pieces names base ++ flat_map (index_pieces names) indices))

-- ---- phis

abbrev pub entry_pieces : List Name → PhiEntry → List Piece
entry_pieces names e = mark space (codes "[") ∷ operand_piece names e.operand ∷ comma ∷ local space (name_in names e.from) ∷ mark space (codes "]") ∷ []

-- entries by commas
abbrev pub entries_pieces : List Name → List PhiEntry → List Piece
entries_pieces names [] = []
entries_pieces names (e ∷ entries) = entry_pieces names e ++ flat_map (λ (other : PhiEntry). comma ∷ entry_pieces names other) entries

abbrev pub phi_pieces : List Name → Phi → List Piece
phi_pieces names phi = result_pieces names phi.into ++ word space (codes "phi") ∷ word space (type_text phi.of_type) ∷ entries_pieces names phi.entries

-- ---- terminators

abbrev pub case_pieces : List Name → Case → List Piece
case_pieces names c = word space (width_text c.width) ∷ number space c.value ∷ comma ∷ target names c.to

abbrev pub returned_pieces : List Name → Option TypedOperand → List Piece
returned_pieces names None = word space (codes "void") ∷ []
returned_pieces names (Some t) = typed_pieces names t

abbrev pub terminator_pieces : List Name → Terminator → List Piece
terminator_pieces names (Return returned) = word indented (codes "ret") ∷ returned_pieces names returned
terminator_pieces names (Branch to) = word indented (codes "br") ∷ target names to
terminator_pieces names (CondBranch condition if_true if_false) =
    word indented (codes "br") ∷ word space (codes "i1") ∷ operand_piece names condition ∷ comma ∷ (target names if_true ++ comma ∷ target names if_false)
terminator_pieces names (Switch width o default cases) =
    word indented (codes "switch") ∷ word space (width_text width) ∷ operand_piece names o ∷ comma ∷ (target names default ++ mark space (codes "[") ∷ (flat_map (case_pieces names) cases ++ mark space (codes "]") ∷ []))
terminator_pieces names Unreachable = word indented (codes "unreachable") ∷ []
