-- The tokens of a function as it is written, where its parts are printed instead of their numbers.
use Rattle.read_back.proofs.Common.{ℕ, List, [], ◌∷◌, ◌++◌, flat_map, Width, Name, WrittenName, WrittenValue, WrittenTyped, WrittenAccess, WrittenIndex, WrittenInst, WrittenEntry, WrittenPhi, WrittenCase, WrittenReturn, Void, Value, WrittenTerminator, WrittenBody, WrittenBlock, WrittenFunction, NamedParameter, named_behind, entry_name, Piece, none, space, line, indented, word, mark, number, comma, local, global, label, width_text, type_text, object_pieces, word_if, op_pieces, predicate_text, cast_pieces, align_pieces, return_text}
use Rattle.std.specs.Prelude.{codes}
use Rattle.ir_words.specs.declared.written.WrittenValue.TheVariants as value
use Rattle.ir_words.specs.declared.written.WrittenAccess.TheVariants as access
use Rattle.ir_words.specs.declared.written.WrittenInst.TheVariants as inst
use Rattle.ir_words.specs.declared.written.WrittenTerminator.TheVariants as end

abbrev pub value_piece : WrittenValue → Piece
value_piece (value.Local name) = local space name
value_piece (value.Literal n) = number space n
value_piece value.Null = word space (codes "null")
value_piece value.Poison = word space (codes "poison")
value_piece value.Undef = word space (codes "undef")

abbrev pub typed_pieces : WrittenTyped → List Piece
typed_pieces t = word space (type_text t.of_type.of_type) ∷ value_piece t.operand.value ∷ []

-- ptr and the operand
abbrev pub pointer_pieces : WrittenTyped → List Piece
pointer_pieces t = word space (codes "ptr") ∷ value_piece t.operand.value ∷ []

abbrev pub target : WrittenName → List Piece
target n = word space (codes "label") ∷ local space n.name ∷ []

abbrev pub result_pieces : WrittenName → List Piece
result_pieces into = local indented into.name ∷ mark space (codes "=") ∷ []

abbrev pub operand_pieces : Width → WrittenValue → WrittenValue → List Piece
operand_pieces width left right = word space (width_text width) ∷ value_piece left ∷ comma ∷ value_piece right ∷ []

abbrev pub index_pieces : WrittenIndex → List Piece
index_pieces i = comma ∷ word space (width_text i.of_type.width) ∷ value_piece i.operand.value ∷ []

abbrev pub access_pieces : WrittenAccess → ℕ → List Piece
access_pieces (access.Alloca into n type) align = result_pieces into ++ word space (codes "alloca") ∷ (object_pieces type.of_type ++ align_pieces align)
access_pieces (access.Load into type from) align =
    result_pieces into ++ word space (codes "load") ∷ word space (type_text type.of_type) ∷ comma ∷ (pointer_pieces from ++ align_pieces align)
access_pieces (access.Store value to) align = word indented (codes "store") ∷ (typed_pieces value ++ comma ∷ (pointer_pieces to ++ align_pieces align))

abbrev pub inst_pieces : WrittenInst → List Piece
inst_pieces (inst.Binary into o type left right) = result_pieces into ++ op_pieces o ++ operand_pieces type.width left.value right.value
inst_pieces (inst.Icmp into p same_sign type left right) =
    result_pieces into ++ word space (codes "icmp") ∷ word_if same_sign (codes "samesign") ++ word space (predicate_text p) ∷ operand_pieces type.width left.value right.value
inst_pieces (inst.Cast into c from o to) =
    result_pieces into ++ cast_pieces c ++ word space (width_text from.width) ∷ value_piece o.value ∷ word space (codes "to") ∷ word space (width_text to.width) ∷ []
inst_pieces (inst.Select into bit condition if_true if_false) =
    result_pieces into ++ word space (codes "select") ∷ word space (codes "i1") ∷ value_piece condition.value ∷ comma ∷ (typed_pieces if_true ++ comma ∷ typed_pieces if_false)
inst_pieces (inst.Freeze into t) = result_pieces into ++ word space (codes "freeze") ∷ word space (type_text t.of_type.of_type) ∷ value_piece t.operand.value ∷ []
inst_pieces (inst.Access a align) = access_pieces a align
inst_pieces (inst.GetElementPtr g) =
    result_pieces g.into ++ word space (codes "getelementptr") ∷ (word_if g.flags.inbounds (codes "inbounds") ++ word_if g.flags.nuw (codes "nuw") ++ object_pieces g.of_type.of_type ++ comma ∷ (pointer_pieces g.base ++ flat_map index_pieces g.indices))

abbrev pub entry_pieces : WrittenEntry → List Piece
entry_pieces e = mark space (codes "[") ∷ value_piece e.operand.value ∷ comma ∷ local space e.from.name ∷ mark space (codes "]") ∷ []

abbrev pub entries_pieces : List WrittenEntry → List Piece
entries_pieces [] = []
entries_pieces (e ∷ entries) = entry_pieces e ++ flat_map (λ (other : WrittenEntry). comma ∷ entry_pieces other) entries

abbrev pub phi_pieces : WrittenPhi → List Piece
phi_pieces phi = result_pieces phi.into ++ word space (codes "phi") ∷ word space (type_text phi.of_type.of_type) ∷ entries_pieces phi.entries

abbrev pub case_pieces : WrittenCase → List Piece
case_pieces c = word space (width_text c.of_type.width) ∷ number space c.literal.value ∷ comma ∷ target c.to

abbrev pub returned_pieces : WrittenReturn → List Piece
returned_pieces (Void at) = word space (codes "void") ∷ []
returned_pieces (Value t) = typed_pieces t

abbrev pub terminator_pieces : WrittenTerminator → List Piece
terminator_pieces (end.Return returned) = word indented (codes "ret") ∷ returned_pieces returned
terminator_pieces (end.Branch to) = word indented (codes "br") ∷ target to
terminator_pieces (end.CondBranch bit condition if_true if_false) =
    word indented (codes "br") ∷ word space (codes "i1") ∷ value_piece condition.value ∷ comma ∷ (target if_true ++ comma ∷ target if_false)
terminator_pieces (end.Switch type o default cases) =
    word indented (codes "switch") ∷ word space (width_text type.width) ∷ value_piece o.value ∷ comma ∷ (target default ++ mark space (codes "[") ∷ (flat_map case_pieces cases ++ mark space (codes "]") ∷ []))
terminator_pieces end.Unreachable = word indented (codes "unreachable") ∷ []

-- after a label of this name
abbrev pub body_pieces : Name → WrittenBody → List Piece
body_pieces name b = label name ∷ (flat_map phi_pieces b.phis ++ (flat_map inst_pieces b.insts ++ terminator_pieces b.terminator))

abbrev pub block_pieces : WrittenBlock → List Piece
block_pieces b = body_pieces b.label.name b.body

abbrev pub parameter_pieces : List ℕ → NamedParameter → List Piece
parameter_pieces gap p =
    word gap (type_text p.of_type) ∷ (word_if p.no_undef (codes "noundef") ++ (word_if p.non_null (codes "nonnull") ++ local space p.name ∷ []))

abbrev pub parameters_pieces : List NamedParameter → List Piece
parameters_pieces [] = []
parameters_pieces (p ∷ ps) = parameter_pieces none p ++ flat_map (λ (other : NamedParameter). comma ∷ parameter_pieces space other) ps

abbrev pub header_pieces : List ℕ → WrittenFunction → List Piece
header_pieces gap w =
    word gap (codes "define") ∷ (word_if w.returns_no_undef (codes "noundef") ++ word space (return_text w.returns.of_type) ∷ global space w.name.name ∷ mark none (codes "(") ∷ [])

-- names that are not written are as the language gives them
abbrev pub written_pieces : List ℕ → WrittenFunction → List Piece
written_pieces gap w =
    header_pieces gap w ++ (parameters_pieces (named_behind [] w.parameters) ++ (mark none (codes ")") ∷ mark space (codes "{") ∷ (body_pieces (entry_name w) w.entry ++ flat_map block_pieces w.others ++ mark line (codes "}") ∷ [])))
