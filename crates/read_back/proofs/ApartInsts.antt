-- The tokens of printed instructions stay apart.
use Rattle.read_back.proofs.Common.{◌≡◌, ℕ, ◌+◌, true, false, List, [], ◌∷◌, ◌++◌, Some, refl, flat_map, Contains, AllByRecursion, Width, class_of, one_bit, alignments, Flags, Op, Cast, Predicate, Int, WrittenValue, WrittenAccess, WrittenIndex, WrittenInst, Piece, space, indented, word, number, comma, width_text, type_text, object_pieces, word_if, flag_pieces, op_pieces, predicate_text, cast_pieces, align_pieces}
use Rattle.std.specs.Prelude.{Bool, not, codes}
use Rattle.ir_tree.specs.Carrying.{is_division, is_pointer}
use Rattle.ir_lexer.specs.declared.token.Kind.TheVariants as kind
use Rattle.ir_tree.specs.declared.tree.Op.TheVariants as op
use Rattle.ir_tree.specs.declared.tree.Cast.TheVariants as cast
use Rattle.ir_tree.specs.declared.tree.Predicate.TheVariants as predicate
use Rattle.ir_words.specs.declared.written.WrittenAccess.TheVariants as access
use Rattle.ir_words.specs.declared.written.WrittenInst.TheVariants as inst
use Rattle.read_back.proofs.Written.{value_piece, typed_pieces, pointer_pieces, result_pieces, operand_pieces, index_pieces, access_pieces, inst_pieces}
use Rattle.read_back.proofs.Spellable.{FitsValue, IsAccess, IsIndex, IsInst, AreInsts}
use Rattle.read_back.proofs.ApartLinks.{Links, nothing-links, links-append, free-links}
use Rattle.read_back.proofs.ApartPieces.{said, begun, word_if-links, comma-free, width-class, type-class, object-links, value-free, typed-links, pointer-links, result-links, align-links}

-- ---- operations

flags_links : (flags : Flags) → Links (flag_pieces flags)
flags_links flags = links-append (word_if flags.nuw (codes "nuw")) (word_if flags.nsw (codes "nsw")) (word_if-links flags.nuw (codes "nuw") refl) (word_if-links flags.nsw (codes "nsw") refl)

pub said-links : (text : List ℕ) (ps : List Piece) → class_of text ≡ Some kind.Word → Links ps → Links (word space text ∷ ps)
said-links text ps class links = free-links (word space text) ps (said text class) links

op_links : (o : Op) → Links (op_pieces o)
op_links (op.Add flags) = said-links (codes "add") (flag_pieces flags) refl (flags_links flags)
op_links (op.Sub flags) = said-links (codes "sub") (flag_pieces flags) refl (flags_links flags)
op_links (op.Mul flags) = said-links (codes "mul") (flag_pieces flags) refl (flags_links flags)
op_links (op.UnsignedDiv exact) = said-links (codes "udiv") (word_if exact (codes "exact")) refl (word_if-links exact (codes "exact") refl)
op_links op.UnsignedRem = said-links (codes "urem") [] refl nothing-links
op_links (op.SignedDiv exact) = said-links (codes "sdiv") (word_if exact (codes "exact")) refl (word_if-links exact (codes "exact") refl)
op_links op.SignedRem = said-links (codes "srem") [] refl nothing-links
op_links (op.ShiftLeft flags) = said-links (codes "shl") (flag_pieces flags) refl (flags_links flags)
op_links (op.LogicalShiftRight exact) = said-links (codes "lshr") (word_if exact (codes "exact")) refl (word_if-links exact (codes "exact") refl)
op_links (op.ArithmeticShiftRight exact) = said-links (codes "ashr") (word_if exact (codes "exact")) refl (word_if-links exact (codes "exact") refl)
op_links op.And = said-links (codes "and") [] refl nothing-links
op_links (op.Or disjoint) = said-links (codes "or") (word_if disjoint (codes "disjoint")) refl (word_if-links disjoint (codes "disjoint") refl)
op_links op.Xor = said-links (codes "xor") [] refl nothing-links

predicate_class : (p : Predicate) → class_of (predicate_text p) ≡ Some kind.Word
predicate_class predicate.Equal = refl
predicate_class predicate.NotEqual = refl
predicate_class predicate.UnsignedGreater = refl
predicate_class predicate.UnsignedGreaterOrEqual = refl
predicate_class predicate.UnsignedLess = refl
predicate_class predicate.UnsignedLessOrEqual = refl
predicate_class predicate.SignedGreater = refl
predicate_class predicate.SignedGreaterOrEqual = refl
predicate_class predicate.SignedLess = refl
predicate_class predicate.SignedLessOrEqual = refl

cast_links : (c : Cast) → Links (cast_pieces c)
cast_links (cast.Truncate flags) = said-links (codes "trunc") (flag_pieces flags) refl (flags_links flags)
cast_links (cast.ZeroExtend non_negative) = said-links (codes "zext") (word_if non_negative (codes "nneg")) refl (word_if-links non_negative (codes "nneg") refl)
cast_links cast.SignExtend = said-links (codes "sext") [] refl nothing-links

-- ---- instructions

pub comma-links : (ps : List Piece) → Links ps → Links (comma ∷ ps)
comma-links ps links = free-links comma ps comma-free links

operands_links : (undef_too : Bool) (width : Width) (left right : WrittenValue) → FitsValue undef_too (Int width) left → FitsValue undef_too (Int width) right → Links (operand_pieces width left right)
operands_links undef_too width left right l r =
    said-links (width_text width) (value_piece left ∷ comma ∷ value_piece right ∷ []) (width-class width)
    (free-links (value_piece left) (comma ∷ value_piece right ∷ []) (value-free undef_too (Int width) left l)
    (comma-links (value_piece right ∷ []) (free-links (value_piece right) [] (value-free undef_too (Int width) right r) nothing-links)))

index_links : (i : WrittenIndex) → IsIndex i → Links (index_pieces i)
index_links i h =
    comma-links (word space (width_text i.of_type.width) ∷ value_piece i.operand.value ∷ [])
    (said-links (width_text i.of_type.width) (value_piece i.operand.value ∷ []) (width-class i.of_type.width)
    (free-links (value_piece i.operand.value) [] (value-free false (Int i.of_type.width) i.operand.value h) nothing-links))

indices_links : (is : List WrittenIndex) → AllByRecursion IsIndex is → Links (flat_map index_pieces is)
indices_links [] h = nothing-links
indices_links (i ∷ is) h = links-append (index_pieces i) (flat_map index_pieces is) (index_links i h.0) (indices_links is h.1)

access_links : (n : ℕ) (a : WrittenAccess) (align : ℕ) → IsAccess n a → Contains alignments align → Links (access_pieces a align)
access_links n (access.Alloca into number type) align h k =
    links-append (result_pieces into) (word space (codes "alloca") ∷ (object_pieces type.of_type ++ align_pieces align)) (result-links into h.0)
    (said-links (codes "alloca") (object_pieces type.of_type ++ align_pieces align) refl
    (links-append (object_pieces type.of_type) (align_pieces align) (object-links true type.of_type h.2) (align-links align k)))
access_links n (access.Load into type from) align h k =
    links-append (result_pieces into) (word space (codes "load") ∷ word space (type_text type.of_type) ∷ comma ∷ (pointer_pieces from ++ align_pieces align)) (result-links into h.0)
    (said-links (codes "load") (word space (type_text type.of_type) ∷ comma ∷ (pointer_pieces from ++ align_pieces align)) refl
    (said-links (type_text type.of_type) (comma ∷ (pointer_pieces from ++ align_pieces align)) (type-class type.of_type)
    (comma-links (pointer_pieces from ++ align_pieces align) (links-append (pointer_pieces from) (align_pieces align) (pointer-links from h.1) (align-links align k)))))
access_links n (access.Store value to) align h k =
    free-links (word indented (codes "store")) (typed_pieces value ++ comma ∷ (pointer_pieces to ++ align_pieces align)) (begun (codes "store") refl)
    (links-append (typed_pieces value) (comma ∷ (pointer_pieces to ++ align_pieces align)) (typed-links false value h.0)
    (comma-links (pointer_pieces to ++ align_pieces align) (links-append (pointer_pieces to) (align_pieces align) (pointer-links to h.1) (align-links align k))))

inst_links : (n : ℕ) (i : WrittenInst) → IsInst n i → Links (inst_pieces i)
inst_links n (inst.Binary into o type left right) h =
    links-append (result_pieces into) (op_pieces o ++ operand_pieces type.width left.value right.value) (result-links into h.0)
    (links-append (op_pieces o) (operand_pieces type.width left.value right.value) (op_links o) (operands_links (not (is_division o)) type.width left.value right.value h.1 h.2))
inst_links n (inst.Icmp into p same_sign type left right) h =
    links-append (result_pieces into) (word space (codes "icmp") ∷ word_if same_sign (codes "samesign") ++ word space (predicate_text p) ∷ operand_pieces type.width left.value right.value) (result-links into h.0)
    (said-links (codes "icmp") (word_if same_sign (codes "samesign") ++ word space (predicate_text p) ∷ operand_pieces type.width left.value right.value) refl
    (links-append (word_if same_sign (codes "samesign")) (word space (predicate_text p) ∷ operand_pieces type.width left.value right.value) (word_if-links same_sign (codes "samesign") refl)
    (said-links (predicate_text p) (operand_pieces type.width left.value right.value) (predicate_class p) (operands_links true type.width left.value right.value h.1 h.2))))
inst_links n (inst.Cast into c from o to) h =
    links-append (result_pieces into) (cast_pieces c ++ word space (width_text from.width) ∷ value_piece o.value ∷ word space (codes "to") ∷ word space (width_text to.width) ∷ []) (result-links into h.0)
    (links-append (cast_pieces c) (word space (width_text from.width) ∷ value_piece o.value ∷ word space (codes "to") ∷ word space (width_text to.width) ∷ []) (cast_links c)
    (said-links (width_text from.width) (value_piece o.value ∷ word space (codes "to") ∷ word space (width_text to.width) ∷ []) (width-class from.width)
    (free-links (value_piece o.value) (word space (codes "to") ∷ word space (width_text to.width) ∷ []) (value-free true (Int from.width) o.value h.1)
    (said-links (codes "to") (word space (width_text to.width) ∷ []) refl (said-links (width_text to.width) [] (width-class to.width) nothing-links)))))
inst_links n (inst.Select into bit condition if_true if_false) h =
    links-append (result_pieces into) (word space (codes "select") ∷ word space (codes "i1") ∷ value_piece condition.value ∷ comma ∷ (typed_pieces if_true ++ comma ∷ typed_pieces if_false)) (result-links into h.0)
    (said-links (codes "select") (word space (codes "i1") ∷ value_piece condition.value ∷ comma ∷ (typed_pieces if_true ++ comma ∷ typed_pieces if_false)) refl
    (said-links (codes "i1") (value_piece condition.value ∷ comma ∷ (typed_pieces if_true ++ comma ∷ typed_pieces if_false)) refl
    (free-links (value_piece condition.value) (comma ∷ (typed_pieces if_true ++ comma ∷ typed_pieces if_false)) (value-free true (Int one_bit) condition.value h.1)
    (comma-links (typed_pieces if_true ++ comma ∷ typed_pieces if_false)
    (links-append (typed_pieces if_true) (comma ∷ typed_pieces if_false) (typed-links (not (is_pointer if_true.of_type.of_type)) if_true h.2.value) (comma-links (typed_pieces if_false) (typed-links (not (is_pointer if_false.of_type.of_type)) if_false h.3.value)))))))
inst_links n (inst.Freeze into t) h =
    links-append (result_pieces into) (word space (codes "freeze") ∷ typed_pieces t) (result-links into h.0)
    (said-links (codes "freeze") (typed_pieces t) refl (typed-links true t h.1))
inst_links n (inst.Access a align) h = access_links n a align h.0 h.1
inst_links n (inst.GetElementPtr g) h =
    let flags : List Piece = word_if g.flags.inbounds (codes "inbounds") ++ word_if g.flags.nuw (codes "nuw") in
    let tail : List Piece = comma ∷ (pointer_pieces g.base ++ flat_map index_pieces g.indices) in
    links-append (result_pieces g.into) (word space (codes "getelementptr") ∷ (flags ++ object_pieces g.of_type.of_type ++ tail)) (result-links g.into h.0)
    (said-links (codes "getelementptr") (flags ++ object_pieces g.of_type.of_type ++ tail) refl
    (links-append (flags ++ object_pieces g.of_type.of_type) tail
    (links-append flags (object_pieces g.of_type.of_type)
    (links-append (word_if g.flags.inbounds (codes "inbounds")) (word_if g.flags.nuw (codes "nuw")) (word_if-links g.flags.inbounds (codes "inbounds") refl) (word_if-links g.flags.nuw (codes "nuw") refl))
    (object-links false g.of_type.of_type h.2))
    (comma-links (pointer_pieces g.base ++ flat_map index_pieces g.indices)
    (links-append (pointer_pieces g.base) (flat_map index_pieces g.indices) (pointer-links g.base h.3) (indices_links g.indices h.4)))))

pub insts-links : (n : ℕ) (is : List WrittenInst) → AreInsts n is → Links (flat_map inst_pieces is)
insts-links n [] h = nothing-links
insts-links n (i ∷ is) h = links-append (inst_pieces i) (flat_map inst_pieces is) (inst_links n i h.0) (insts-links (n + 1) is h.1)
