-- The brackets of what is printed between a function's parentheses, and between its braces, close what they open.
use Rattle.read_back.proofs.Common.{◌≡◌, ℕ, Bool, true, false, List, [], ◌∷◌, ◌++◌, map, refl, sym, ap, ◌∙◌, append_assoc, subst, flat_map, map-append, Width, Name, Flags, Op, Cast, MemoryType, mark_in, opens, closes, WrittenName, WrittenValue, WrittenTyped, WrittenAccess, WrittenIndex, WrittenInst, WrittenEntry, WrittenPhi, WrittenCase, WrittenReturn, Void, Value, WrittenTerminator, WrittenBody, WrittenBlock, NamedParameter, Piece, none, space, indented, word, mark, number, comma, local, label, width_text, type_text, array_pieces, closing_pieces, object_pieces, word_if, flag_pieces, op_pieces, predicate_text, cast_pieces, align_pieces}
use Rattle.std.specs.Prelude.{codes}
use Rattle.ir_tree.specs.declared.tree.Op.TheVariants as op
use Rattle.ir_tree.specs.declared.tree.Cast.TheVariants as cast
use Rattle.ir_words.specs.declared.written.WrittenValue.TheVariants as value
use Rattle.ir_words.specs.declared.written.WrittenAccess.TheVariants as access
use Rattle.ir_words.specs.declared.written.WrittenInst.TheVariants as inst
use Rattle.ir_words.specs.declared.written.WrittenTerminator.TheVariants as end
use Rattle.read_back.proofs.Written.{value_piece, typed_pieces, pointer_pieces, target, result_pieces, operand_pieces, index_pieces, access_pieces, inst_pieces, entry_pieces, entries_pieces, phi_pieces, case_pieces, returned_pieces, terminator_pieces, body_pieces, block_pieces, parameter_pieces, parameters_pieces}
use Rattle.read_back.proofs.CutNested.{Nested, nothing-nested, plain-nested, nested-append, pair-nested}

abbrev pub piece_mark : Piece → ℕ
piece_mark p = mark_in p.kind p.text

-- each bracket among them is closed, and no other
pub record Closed (ps : List Piece) : Type 0 where
  pub nested : Nested (map piece_mark ps)

pub nothing-closed : Closed []
nothing-closed = record { nested = nothing-nested }

pub closed-append : (ps qs : List Piece) → Closed ps → Closed qs → Closed (ps ++ qs)
closed-append ps qs a b = record { nested = subst Nested (sym (map-append piece_mark ps qs)) (nested-append (map piece_mark ps) (map piece_mark qs) a.nested b.nested) }

-- a token that is no bracket
abbrev IsQuiet : Piece → Type 0
IsQuiet p = (opens (piece_mark p) ≡ false) × (closes (piece_mark p) ≡ false)

quiet : (p : Piece) (ps : List Piece) → IsQuiet p → Closed ps → Closed (p ∷ ps)
quiet p ps h closed = record { nested = plain-nested (piece_mark p) (map piece_mark ps) h.0 h.1 closed.nested }

one : (p : Piece) → IsQuiet p → Closed (p ∷ [])
one p h = quiet p [] h nothing-closed

-- a part between [ and ]
bracketed : (gap behind : List ℕ) (ps : List Piece) → Closed ps → Closed (mark gap (codes "[") ∷ (ps ++ mark behind (codes "]") ∷ []))
bracketed gap behind ps h = record {
  nested = subst (λ (ms : List ℕ). Nested (91 ∷ ms)) (sym (map-append piece_mark ps (mark behind (codes "]") ∷ [])))
      (pair-nested 91 93 (map piece_mark ps) (record { opened = refl; close_is = refl; no_other = refl; closed = refl }) h.nested);
}

word_if_closed : (test : Bool) (text : List ℕ) → Closed (word_if test text)
word_if_closed true text = one (word space text) (refl, refl)
word_if_closed false text = nothing-closed

-- ---- types and operands

closing_last : (lengths : List ℕ) → closing_pieces lengths ++ mark none (codes "]") ∷ [] ≡ mark none (codes "]") ∷ closing_pieces lengths
closing_last [] = refl
closing_last (n ∷ lengths) = ap (λ (ps : List Piece). mark none (codes "]") ∷ ps) (closing_last lengths)

object_closed : (lengths : List ℕ) (element : Piece) → IsQuiet element → Closed (array_pieces lengths ++ element ∷ closing_pieces lengths)
object_closed [] element h = one element h
object_closed (n ∷ lengths) element h =
    let inner : List Piece = array_pieces lengths ++ element ∷ closing_pieces lengths in
    let last : (array_pieces lengths ++ element ∷ closing_pieces lengths) ++ mark none (codes "]") ∷ [] ≡ array_pieces lengths ++ element ∷ mark none (codes "]") ∷ closing_pieces lengths =
    append_assoc (array_pieces lengths) (element ∷ closing_pieces lengths) (mark none (codes "]") ∷ []) ∙ ap (λ (ps : List Piece). array_pieces lengths ++ element ∷ ps) (closing_last lengths) in
    subst (λ (ps : List Piece). Closed (mark space (codes "[") ∷ number none n ∷ word space (codes "x") ∷ ps)) last
    (bracketed space none (number none n ∷ word space (codes "x") ∷ inner) (quiet (number none n) (word space (codes "x") ∷ inner) (refl, refl) (quiet (word space (codes "x")) inner (refl, refl) (object_closed lengths element h))))

object_is_closed : (type : MemoryType) → Closed (object_pieces type)
object_is_closed type = object_closed type.lengths (word space (type_text type.element)) (refl, refl)

value_quiet : (v : WrittenValue) → IsQuiet (value_piece v)
value_quiet (value.Local n) = (refl, refl)
value_quiet (value.Literal n) = (refl, refl)
value_quiet value.Null = (refl, refl)
value_quiet value.Poison = (refl, refl)
value_quiet value.Undef = (refl, refl)

valued : (v : WrittenValue) (ps : List Piece) → Closed ps → Closed (value_piece v ∷ ps)
valued v ps closed = quiet (value_piece v) ps (value_quiet v) closed

said : (text : List ℕ) (ps : List Piece) → Closed ps → Closed (word space text ∷ ps)
said text ps closed = quiet (word space text) ps (refl, refl) closed

begun : (text : List ℕ) (ps : List Piece) → Closed ps → Closed (word indented text ∷ ps)
begun text ps closed = quiet (word indented text) ps (refl, refl) closed

parted : (ps : List Piece) → Closed ps → Closed (comma ∷ ps)
parted ps closed = quiet comma ps (refl, refl) closed

typed_closed : (t : WrittenTyped) → Closed (typed_pieces t)
typed_closed t = said (type_text t.of_type.of_type) (value_piece t.operand.value ∷ []) (valued t.operand.value [] nothing-closed)

pointer_closed : (t : WrittenTyped) → Closed (pointer_pieces t)
pointer_closed t = said (codes "ptr") (value_piece t.operand.value ∷ []) (valued t.operand.value [] nothing-closed)

target_closed : (n : WrittenName) → Closed (target n)
target_closed n = said (codes "label") (local space n.name ∷ []) (one (local space n.name) (refl, refl))

result_closed : (into : WrittenName) → Closed (result_pieces into)
result_closed into = quiet (local indented into.name) (mark space (codes "=") ∷ []) (refl, refl) (one (mark space (codes "=")) (refl, refl))

align_closed : (align : ℕ) → Closed (align_pieces align)
align_closed align = parted (word space (codes "align") ∷ number space align ∷ []) (said (codes "align") (number space align ∷ []) (one (number space align) (refl, refl)))

-- ---- instructions

flags_closed : (flags : Flags) → Closed (flag_pieces flags)
flags_closed flags = closed-append (word_if flags.nuw (codes "nuw")) (word_if flags.nsw (codes "nsw")) (word_if_closed flags.nuw (codes "nuw")) (word_if_closed flags.nsw (codes "nsw"))

op_closed : (o : Op) → Closed (op_pieces o)
op_closed (op.Add flags) = said (codes "add") (flag_pieces flags) (flags_closed flags)
op_closed (op.Sub flags) = said (codes "sub") (flag_pieces flags) (flags_closed flags)
op_closed (op.Mul flags) = said (codes "mul") (flag_pieces flags) (flags_closed flags)
op_closed (op.UnsignedDiv exact) = said (codes "udiv") (word_if exact (codes "exact")) (word_if_closed exact (codes "exact"))
op_closed op.UnsignedRem = said (codes "urem") [] nothing-closed
op_closed (op.SignedDiv exact) = said (codes "sdiv") (word_if exact (codes "exact")) (word_if_closed exact (codes "exact"))
op_closed op.SignedRem = said (codes "srem") [] nothing-closed
op_closed (op.ShiftLeft flags) = said (codes "shl") (flag_pieces flags) (flags_closed flags)
op_closed (op.LogicalShiftRight exact) = said (codes "lshr") (word_if exact (codes "exact")) (word_if_closed exact (codes "exact"))
op_closed (op.ArithmeticShiftRight exact) = said (codes "ashr") (word_if exact (codes "exact")) (word_if_closed exact (codes "exact"))
op_closed op.And = said (codes "and") [] nothing-closed
op_closed (op.Or disjoint) = said (codes "or") (word_if disjoint (codes "disjoint")) (word_if_closed disjoint (codes "disjoint"))
op_closed op.Xor = said (codes "xor") [] nothing-closed

cast_closed : (c : Cast) → Closed (cast_pieces c)
cast_closed (cast.Truncate flags) = said (codes "trunc") (flag_pieces flags) (flags_closed flags)
cast_closed (cast.ZeroExtend non_negative) = said (codes "zext") (word_if non_negative (codes "nneg")) (word_if_closed non_negative (codes "nneg"))
cast_closed cast.SignExtend = said (codes "sext") [] nothing-closed

operands_closed : (width : Width) (left right : WrittenValue) → Closed (operand_pieces width left right)
operands_closed width left right =
    said (width_text width) (value_piece left ∷ comma ∷ value_piece right ∷ []) (valued left (comma ∷ value_piece right ∷ []) (parted (value_piece right ∷ []) (valued right [] nothing-closed)))

indices_closed : (is : List WrittenIndex) → Closed (flat_map index_pieces is)
indices_closed [] = nothing-closed
indices_closed (i ∷ is) =
    closed-append (index_pieces i) (flat_map index_pieces is)
    (parted (word space (width_text i.of_type.width) ∷ value_piece i.operand.value ∷ []) (said (width_text i.of_type.width) (value_piece i.operand.value ∷ []) (valued i.operand.value [] nothing-closed)))
    (indices_closed is)

access_closed : (a : WrittenAccess) (align : ℕ) → Closed (access_pieces a align)
access_closed (access.Alloca into n type) align =
    closed-append (result_pieces into) (word space (codes "alloca") ∷ (object_pieces type.of_type ++ align_pieces align)) (result_closed into)
    (said (codes "alloca") (object_pieces type.of_type ++ align_pieces align) (closed-append (object_pieces type.of_type) (align_pieces align) (object_is_closed type.of_type) (align_closed align)))
access_closed (access.Load into type from) align =
    closed-append (result_pieces into) (word space (codes "load") ∷ word space (type_text type.of_type) ∷ comma ∷ (pointer_pieces from ++ align_pieces align)) (result_closed into)
    (said (codes "load") (word space (type_text type.of_type) ∷ comma ∷ (pointer_pieces from ++ align_pieces align))
    (said (type_text type.of_type) (comma ∷ (pointer_pieces from ++ align_pieces align))
    (parted (pointer_pieces from ++ align_pieces align) (closed-append (pointer_pieces from) (align_pieces align) (pointer_closed from) (align_closed align)))))
access_closed (access.Store value to) align =
    begun (codes "store") (typed_pieces value ++ comma ∷ (pointer_pieces to ++ align_pieces align))
    (closed-append (typed_pieces value) (comma ∷ (pointer_pieces to ++ align_pieces align)) (typed_closed value)
    (parted (pointer_pieces to ++ align_pieces align) (closed-append (pointer_pieces to) (align_pieces align) (pointer_closed to) (align_closed align))))

inst_closed : (i : WrittenInst) → Closed (inst_pieces i)
inst_closed (inst.Binary into o type left right) =
    closed-append (result_pieces into) (op_pieces o ++ operand_pieces type.width left.value right.value) (result_closed into)
    (closed-append (op_pieces o) (operand_pieces type.width left.value right.value) (op_closed o) (operands_closed type.width left.value right.value))
inst_closed (inst.Icmp into p same_sign type left right) =
    let operands : List Piece = word space (predicate_text p) ∷ operand_pieces type.width left.value right.value in
    closed-append (result_pieces into) (word space (codes "icmp") ∷ (word_if same_sign (codes "samesign") ++ operands)) (result_closed into)
    (said (codes "icmp") (word_if same_sign (codes "samesign") ++ operands)
    (closed-append (word_if same_sign (codes "samesign")) operands (word_if_closed same_sign (codes "samesign"))
    (said (predicate_text p) (operand_pieces type.width left.value right.value) (operands_closed type.width left.value right.value))))
inst_closed (inst.Cast into c from o to) =
    let operands : List Piece = word space (width_text from.width) ∷ value_piece o.value ∷ word space (codes "to") ∷ word space (width_text to.width) ∷ [] in
    closed-append (result_pieces into) (cast_pieces c ++ operands) (result_closed into)
    (closed-append (cast_pieces c) operands (cast_closed c)
    (said (width_text from.width) (value_piece o.value ∷ word space (codes "to") ∷ word space (width_text to.width) ∷ [])
    (valued o.value (word space (codes "to") ∷ word space (width_text to.width) ∷ [])
    (said (codes "to") (word space (width_text to.width) ∷ []) (said (width_text to.width) [] nothing-closed)))))
inst_closed (inst.Select into bit condition if_true if_false) =
    let operands : List Piece = typed_pieces if_true ++ comma ∷ typed_pieces if_false in
    closed-append (result_pieces into) (word space (codes "select") ∷ word space (codes "i1") ∷ value_piece condition.value ∷ comma ∷ operands) (result_closed into)
    (said (codes "select") (word space (codes "i1") ∷ value_piece condition.value ∷ comma ∷ operands)
    (said (codes "i1") (value_piece condition.value ∷ comma ∷ operands)
    (valued condition.value (comma ∷ operands)
    (parted operands (closed-append (typed_pieces if_true) (comma ∷ typed_pieces if_false) (typed_closed if_true) (parted (typed_pieces if_false) (typed_closed if_false)))))))
inst_closed (inst.Freeze into t) =
    closed-append (result_pieces into) (word space (codes "freeze") ∷ typed_pieces t) (result_closed into) (said (codes "freeze") (typed_pieces t) (typed_closed t))
inst_closed (inst.Access a align) = access_closed a align
inst_closed (inst.GetElementPtr g) =
    let flags : List Piece = word_if g.flags.inbounds (codes "inbounds") ++ word_if g.flags.nuw (codes "nuw") in
    let tail : List Piece = comma ∷ (pointer_pieces g.base ++ flat_map index_pieces g.indices) in
    closed-append (result_pieces g.into) (word space (codes "getelementptr") ∷ (flags ++ object_pieces g.of_type.of_type ++ tail)) (result_closed g.into)
    (said (codes "getelementptr") (flags ++ object_pieces g.of_type.of_type ++ tail)
    (closed-append (flags ++ object_pieces g.of_type.of_type) tail
    (closed-append flags (object_pieces g.of_type.of_type)
    (closed-append (word_if g.flags.inbounds (codes "inbounds")) (word_if g.flags.nuw (codes "nuw")) (word_if_closed g.flags.inbounds (codes "inbounds")) (word_if_closed g.flags.nuw (codes "nuw")))
    (object_is_closed g.of_type.of_type))
    (parted (pointer_pieces g.base ++ flat_map index_pieces g.indices)
    (closed-append (pointer_pieces g.base) (flat_map index_pieces g.indices) (pointer_closed g.base) (indices_closed g.indices)))))

insts_closed : (is : List WrittenInst) → Closed (flat_map inst_pieces is)
insts_closed [] = nothing-closed
insts_closed (i ∷ is) = closed-append (inst_pieces i) (flat_map inst_pieces is) (inst_closed i) (insts_closed is)

-- ---- phis

entry_closed : (e : WrittenEntry) → Closed (entry_pieces e)
entry_closed e =
    bracketed space space (value_piece e.operand.value ∷ comma ∷ local space e.from.name ∷ [])
    (valued e.operand.value (comma ∷ local space e.from.name ∷ []) (parted (local space e.from.name ∷ []) (one (local space e.from.name) (refl, refl))))

other_entries_closed : (entries : List WrittenEntry) → Closed (flat_map (λ (other : WrittenEntry). comma ∷ entry_pieces other) entries)
other_entries_closed [] = nothing-closed
other_entries_closed (e ∷ entries) =
    closed-append (comma ∷ entry_pieces e) (flat_map (λ (other : WrittenEntry). comma ∷ entry_pieces other) entries) (parted (entry_pieces e) (entry_closed e)) (other_entries_closed entries)

entries_closed : (entries : List WrittenEntry) → Closed (entries_pieces entries)
entries_closed [] = nothing-closed
entries_closed (e ∷ entries) = closed-append (entry_pieces e) (flat_map (λ (other : WrittenEntry). comma ∷ entry_pieces other) entries) (entry_closed e) (other_entries_closed entries)

phis_closed : (phis : List WrittenPhi) → Closed (flat_map phi_pieces phis)
phis_closed [] = nothing-closed
phis_closed (phi ∷ phis) =
    closed-append (phi_pieces phi) (flat_map phi_pieces phis)
    (closed-append (result_pieces phi.into) (word space (codes "phi") ∷ word space (type_text phi.of_type.of_type) ∷ entries_pieces phi.entries) (result_closed phi.into)
    (said (codes "phi") (word space (type_text phi.of_type.of_type) ∷ entries_pieces phi.entries) (said (type_text phi.of_type.of_type) (entries_pieces phi.entries) (entries_closed phi.entries))))
    (phis_closed phis)

-- ---- terminators

cases_closed : (cases : List WrittenCase) → Closed (flat_map case_pieces cases)
cases_closed [] = nothing-closed
cases_closed (c ∷ cases) =
    closed-append (case_pieces c) (flat_map case_pieces cases)
    (said (width_text c.of_type.width) (number space c.literal.value ∷ comma ∷ target c.to) (quiet (number space c.literal.value) (comma ∷ target c.to) (refl, refl) (parted (target c.to) (target_closed c.to))))
    (cases_closed cases)

returned_closed : (r : WrittenReturn) → Closed (returned_pieces r)
returned_closed (Void at) = said (codes "void") [] nothing-closed
returned_closed (Value t) = typed_closed t

terminator_closed : (t : WrittenTerminator) → Closed (terminator_pieces t)
terminator_closed (end.Return returned) = begun (codes "ret") (returned_pieces returned) (returned_closed returned)
terminator_closed (end.Branch to) = begun (codes "br") (target to) (target_closed to)
terminator_closed (end.CondBranch bit condition if_true if_false) =
    let targets : List Piece = target if_true ++ comma ∷ target if_false in
    begun (codes "br") (word space (codes "i1") ∷ value_piece condition.value ∷ comma ∷ targets)
    (said (codes "i1") (value_piece condition.value ∷ comma ∷ targets)
    (valued condition.value (comma ∷ targets)
    (parted targets (closed-append (target if_true) (comma ∷ target if_false) (target_closed if_true) (parted (target if_false) (target_closed if_false))))))
terminator_closed (end.Switch type o default cases) =
    let list : List Piece = mark space (codes "[") ∷ (flat_map case_pieces cases ++ mark space (codes "]") ∷ []) in
    begun (codes "switch") (word space (width_text type.width) ∷ value_piece o.value ∷ comma ∷ (target default ++ list))
    (said (width_text type.width) (value_piece o.value ∷ comma ∷ (target default ++ list))
    (valued o.value (comma ∷ (target default ++ list))
    (parted (target default ++ list) (closed-append (target default) list (target_closed default) (bracketed space space (flat_map case_pieces cases) (cases_closed cases))))))
terminator_closed end.Unreachable = begun (codes "unreachable") [] nothing-closed

-- ---- bodies and parameters

pub body-closed : (label_name : Name) (b : WrittenBody) → Closed (body_pieces label_name b)
body-closed label_name b =
    quiet (label label_name) (flat_map phi_pieces b.phis ++ (flat_map inst_pieces b.insts ++ terminator_pieces b.terminator)) (refl, refl)
    (closed-append (flat_map phi_pieces b.phis) (flat_map inst_pieces b.insts ++ terminator_pieces b.terminator) (phis_closed b.phis)
    (closed-append (flat_map inst_pieces b.insts) (terminator_pieces b.terminator) (insts_closed b.insts) (terminator_closed b.terminator)))

pub blocks-closed : (bs : List WrittenBlock) → Closed (flat_map block_pieces bs)
blocks-closed [] = nothing-closed
blocks-closed (b ∷ bs) = closed-append (block_pieces b) (flat_map block_pieces bs) (body-closed b.label.name b.body) (blocks-closed bs)

parameter_closed : (gap : List ℕ) (p : NamedParameter) → Closed (parameter_pieces gap p)
parameter_closed gap p =
    quiet (word gap (type_text p.of_type)) (word_if p.no_undef (codes "noundef") ++ (word_if p.non_null (codes "nonnull") ++ local space p.name ∷ [])) (refl, refl)
    (closed-append (word_if p.no_undef (codes "noundef")) (word_if p.non_null (codes "nonnull") ++ local space p.name ∷ []) (word_if_closed p.no_undef (codes "noundef"))
    (closed-append (word_if p.non_null (codes "nonnull")) (local space p.name ∷ []) (word_if_closed p.non_null (codes "nonnull")) (one (local space p.name) (refl, refl))))

other_parameters_closed : (ps : List NamedParameter) → Closed (flat_map (λ (other : NamedParameter). comma ∷ parameter_pieces space other) ps)
other_parameters_closed [] = nothing-closed
other_parameters_closed (p ∷ ps) =
    closed-append (comma ∷ parameter_pieces space p) (flat_map (λ (other : NamedParameter). comma ∷ parameter_pieces space other) ps) (parted (parameter_pieces space p) (parameter_closed space p))
    (other_parameters_closed ps)

pub parameters-closed : (ps : List NamedParameter) → Closed (parameters_pieces ps)
parameters-closed [] = nothing-closed
parameters-closed (p ∷ ps) =
    closed-append (parameter_pieces none p) (flat_map (λ (other : NamedParameter). comma ∷ parameter_pieces space other) ps) (parameter_closed none p) (other_parameters_closed ps)
