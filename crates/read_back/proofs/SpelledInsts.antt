-- Printed instructions whose lines end without a comma are spelled.
use Rattle.read_back.proofs.Common.{◌≡◌, ℕ, Bool, true, false, List, [], ◌∷◌, ◌++◌, Some, refl, ap, ◌∙◌, codes, not, bytes_eq, Place, Lexeme, no_place, one_bit, Int, Flags, Op, Cast, Predicate, Opcode, WrittenName, WrittenIntType, WrittenOperand, WrittenTyped, WrittenInst, WrittenLine, wrapping_op, exact_op, or_word, memory_word, inst_word, opcode_named, comparison, wrapping, exact, plain, disjunction, icmp, cast_by, truncate, zero_extend, sign_extend, select, freeze, inst_by, line_named, Form, seq, Piece, space, comma, width_text, word_if, flag_pieces, op_pieces, predicate_text, cast_pieces}
use Rattle.ir_tree.specs.Carrying.{is_division}
use Rattle.ir_tree.specs.declared.tree.Op.TheVariants as op
use Rattle.ir_tree.specs.declared.tree.Cast.TheVariants as cast
use Rattle.ir_words.specs.declared.word.Flag.TheVariants as flag
use Rattle.ir_words.specs.declared.word.WrapWord.{WrapWord}
use Rattle.ir_words.specs.declared.word.WrapWord.TheVariants as wrap
use Rattle.ir_words.specs.declared.word.ExactWord.{ExactWord}
use Rattle.ir_words.specs.declared.word.ExactWord.TheVariants as exact_word
use Rattle.ir_words.specs.declared.word.Opcode.TheVariants as opcode
use Rattle.ir_words.specs.declared.word.LineWord.TheVariants as word_of
use Rattle.ir_words.specs.declared.written.WrittenInst.TheVariants as inst
use Rattle.ir_words.specs.declared.written.WrittenLine.TheVariants as line
use Rattle.ir_grammar.specs.Instructions.{inst_line, is_undef}
use Rattle.ir_printer.specs.Pieces as piece
use Rattle.read_back.proofs.Written.{value_piece, typed_pieces, operand_pieces}
use Rattle.read_back.proofs.Placeless.{name_of, operand_of, inst_of}
use Rattle.read_back.proofs.Spellable.{FitsValue, IsTyped, IsArm}
use Rattle.read_back.proofs.SpelledTokens.{IsSpelled, spelled-give, one-then, seq-then, seq-last, seq-is, upto-is, peek-first, peek-second}
use Rattle.read_back.proofs.SpelledClasses.{a_width, a_value, width-reads, value-reads, bit-reads, predicate-reads, line-reads}
use Rattle.read_back.proofs.SpelledOperands.{word-reads, word-then, mark-then, typed-spelled, arm-spelled, binary-spelled, wraps-spelled, flagged-then}

pub same-both : {A B C : Type 0} (f : A → B → C) {a x : A} {b y : B} → a ≡ x → b ≡ y → f a b ≡ f x y
same-both f {a = a} {y = y} e e' = ap (f a) e' ∙ ap (λ z. f z y) e

-- ---- after the word

wrapping-spelled : (name : WrittenName) (w : WrapWord) (flags : Flags) (type : WrittenIntType)
    (left right : WrittenOperand) → FitsValue (not (is_division (wrapping_op w flags))) (Int type.width) left.value
    → FitsValue (not (is_division (wrapping_op w flags))) (Int type.width) right.value
    → IsSpelled (wrapping name w)
    (flag_pieces flags ++ operand_pieces type.width left.value right.value)
    (λ i. inst_of i ≡ inst_of (inst.Binary name (wrapping_op w flags) type left right))
unfolding wrapping
wrapping-spelled name w flags type left right l r =
    upto-is flags (flag_pieces flags)
    (value_piece left.value ∷ comma ∷ value_piece right.value ∷ [])
    (piece.word space (width_text type.width)) (a_width type.width) (wraps-spelled false flags)
    (width-reads space type.width)
    (λ at. binary-spelled name (wrapping_op w flags) (a_width type.width at) left right l r)

exact-spelled : (name : WrittenName) (w : ExactWord) (on : Bool) (type : WrittenIntType)
    (left right : WrittenOperand) → FitsValue (not (is_division (exact_op w on))) (Int type.width) left.value
    → FitsValue (not (is_division (exact_op w on))) (Int type.width) right.value
    → IsSpelled (exact name w)
    (word_if on (codes "exact") ++ operand_pieces type.width left.value right.value)
    (λ i. inst_of i ≡ inst_of (inst.Binary name (exact_op w on) type left right))
unfolding exact
exact-spelled name w on type left right l r =
    flagged-then flag.Exact on type.width
    (λ at. binary-spelled name (exact_op w on) (a_width type.width at) left right l r)

disjunction-spelled : (name : WrittenName) (on : Bool) (type : WrittenIntType)
    (left right : WrittenOperand) → FitsValue true (Int type.width) left.value
    → FitsValue true (Int type.width) right.value
    → IsSpelled (disjunction name)
    (word_if on (codes "disjoint") ++ operand_pieces type.width left.value right.value)
    (λ i. inst_of i ≡ inst_of (inst.Binary name (op.Or on) type left right))
unfolding disjunction
disjunction-spelled name on type left right l r =
    flagged-then flag.Disjoint on type.width
    (λ at. binary-spelled name (op.Or on) (a_width type.width at) left right l r)

plain-spelled : (name : WrittenName) (o : Op) (type : WrittenIntType) (left right : WrittenOperand)
    → FitsValue (not (is_division o)) (Int type.width) left.value → FitsValue (not (is_division o)) (Int type.width) right.value
    → IsSpelled (plain name o) (operand_pieces type.width left.value right.value)
    (λ i. inst_of i ≡ inst_of (inst.Binary name o type left right))
unfolding plain
plain-spelled name o type left right l r =
    one-then (a_width type.width) (width-reads space type.width)
    (λ at. binary-spelled name o (a_width type.width at) left right l r)

comparison-spelled : (same_sign : Bool) (p : Predicate)
    → IsSpelled comparison
    (word_if same_sign (codes "samesign") ++ piece.word space (predicate_text p) ∷ [])
    (λ x. (at : Place) × (x ≡ (same_sign, p)))
unfolding comparison
comparison-spelled true p =
    peek-first (λ at. tt) (word-reads space (codes "samesign") refl)
    (λ at. one-then (λ at'. p) (predicate-reads space p) (λ at'. spelled-give (at', refl)))
comparison-spelled false p =
    peek-second (λ at. p) (predicate-reads space p) (λ at. spelled-give (at, refl))

comparison-then : {X : Type 0} {o : Lexeme → Bool} {Is : X → Type 0}
    {k : Bool × Predicate → Form o X} {qs : List Piece} (same_sign : Bool) (p : Predicate)
    → IsSpelled (k (same_sign, p)) qs Is → IsSpelled (seq comparison k)
    (word_if same_sign (codes "samesign") ++ piece.word space (predicate_text p) ∷ qs) Is
comparison-then {qs = qs} true p next =
    seq-is (λ at. (true, p))
    (piece.word space (codes "samesign") ∷ piece.word space (predicate_text p) ∷ []) qs
    (comparison-spelled true p) (λ at. next)
comparison-then {qs = qs} false p next =
    seq-is (λ at. (false, p)) (piece.word space (predicate_text p) ∷ []) qs
    (comparison-spelled false p) (λ at. next)

icmp-spelled : (name : WrittenName) (p : Predicate) (same_sign : Bool) (type : WrittenIntType)
    (left right : WrittenOperand) → FitsValue true (Int type.width) left.value
    → FitsValue true (Int type.width) right.value
    → IsSpelled (icmp name)
    (word_if same_sign (codes "samesign") ++ piece.word space
    (predicate_text p) ∷ operand_pieces type.width left.value right.value)
    (λ i. inst_of i ≡ inst_of (inst.Icmp name p same_sign type left right))
unfolding icmp
icmp-spelled name p same_sign type left right l r =
    comparison-then same_sign p (
    one-then (a_width type.width) (width-reads space type.width) (λ at.
    one-then (a_value left.value) (value-reads true (Int type.width) left.value l) (λ at'.
    mark-then (
    one-then (a_value right.value) (value-reads true (Int type.width) right.value r) (λ at''.
    spelled-give refl)))))

cast-spelled : (name : WrittenName) (c : Cast) (from : WrittenIntType) (o : WrittenOperand)
    (to : WrittenIntType) → FitsValue true (Int from.width) o.value
    → IsSpelled (cast_by name c from)
    (value_piece o.value ∷ piece.word space (codes "to") ∷ piece.word space
    (width_text to.width) ∷ []) (λ i. inst_of i ≡ inst_of (inst.Cast name c from o to))
unfolding cast_by
cast-spelled name c from o to fits =
    one-then (a_value o.value) (value-reads true (Int from.width) o.value fits) (λ at.
    word-then (
    one-then (a_width to.width) (width-reads space to.width) (λ at'.
    spelled-give refl)))

abbrev pub cast_end : WrittenIntType → WrittenOperand → WrittenIntType → List Piece
cast_end from o to =
    piece.word space (width_text from.width) ∷ value_piece o.value ∷ piece.word space
    (codes "to") ∷ piece.word space (width_text to.width) ∷ []

truncate-spelled : (name : WrittenName) (flags : Flags) (from : WrittenIntType) (o : WrittenOperand)
    (to : WrittenIntType) → FitsValue true (Int from.width) o.value
    → IsSpelled (truncate name) (flag_pieces flags ++ cast_end from o to)
    (λ i. inst_of i ≡ inst_of (inst.Cast name (cast.Truncate flags) from o to))
unfolding truncate
truncate-spelled name flags from o to fits =
    upto-is flags (flag_pieces flags)
    (value_piece o.value ∷ piece.word space (codes "to") ∷ piece.word space
    (width_text to.width) ∷ []) (piece.word space (width_text from.width))
    (a_width from.width) (wraps-spelled true flags) (width-reads space from.width)
    (λ at. cast-spelled name (cast.Truncate flags) (a_width from.width at) o to fits)

zero-extend-spelled : (name : WrittenName) (on : Bool) (from : WrittenIntType) (o : WrittenOperand)
    (to : WrittenIntType) → FitsValue true (Int from.width) o.value
    → IsSpelled (zero_extend name) (word_if on (codes "nneg") ++ cast_end from o to)
    (λ i. inst_of i ≡ inst_of (inst.Cast name (cast.ZeroExtend on) from o to))
unfolding zero_extend
zero-extend-spelled name on from o to fits =
    flagged-then flag.NonNegative on from.width
    (λ at. cast-spelled name (cast.ZeroExtend on) (a_width from.width at) o to fits)

sign-extend-spelled : (name : WrittenName) (from : WrittenIntType) (o : WrittenOperand)
    (to : WrittenIntType) → FitsValue true (Int from.width) o.value
    → IsSpelled (sign_extend name) (cast_end from o to)
    (λ i. inst_of i ≡ inst_of (inst.Cast name cast.SignExtend from o to))
unfolding sign_extend
sign-extend-spelled name from o to fits =
    one-then (a_width from.width) (width-reads space from.width)
    (λ at. cast-spelled name cast.SignExtend (a_width from.width at) o to fits)

select-spelled : (name : WrittenName) (bit : Place) (condition : WrittenOperand)
    (if_true if_false : WrittenTyped) → FitsValue true (Int one_bit) condition.value
    → IsArm (is_undef condition.value) if_true → IsArm (is_undef condition.value) if_false
    → IsSpelled (select name)
    (piece.word space
    (codes "i1") ∷ value_piece condition.value ∷ comma
    ∷ (typed_pieces if_true ++ comma ∷ typed_pieces if_false))
    (λ i. inst_of i ≡ inst_of (inst.Select name bit condition if_true if_false))
unfolding select
select-spelled name bit condition if_true if_false c a b =
    one-then (λ at. at) (bit-reads space) (λ at.
    one-then (a_value condition.value) (value-reads true (Int one_bit) condition.value c) (λ at'.
    mark-then (
    seq-then (typed_pieces if_true) (comma ∷ typed_pieces if_false) (arm-spelled (is_undef condition.value) if_true a)
    (λ x e.
    mark-then (
    seq-last (arm-spelled (is_undef condition.value) if_false b) (λ y e'.
    spelled-give
    (same-both
    (λ (u v : WrittenTyped). inst.Select (name_of name) no_place (operand_of condition) u v)
    e e')))))))

freeze-spelled : (name : WrittenName) (t : WrittenTyped) → IsTyped true t → IsSpelled (freeze name)
    (typed_pieces t) (λ i. inst_of i ≡ inst_of (inst.Freeze name t))
unfolding freeze
freeze-spelled name t is =
    seq-last (typed-spelled true t is)
    (λ x e. spelled-give (ap (λ (u : WrittenTyped). inst.Freeze (name_of name) u) e))

-- ---- lines

-- a line that is an instruction with these parts
pub record IsInstLine (v : WrittenInst) (l : WrittenLine) : Type 0 where
  pub inst : WrittenInst
  pub is : l ≡ line.Inst inst
  pub same : inst_of inst ≡ v

inst-then : {qs : List Piece} {v : WrittenInst} (phi_too : Bool) (n : ℕ) (name : WrittenName)
    (text : List ℕ) (o : Opcode) → bytes_eq text (codes "phi") ≡ false → or_word (memory_word text)
    (inst_word (opcode_named text)) ≡ Some (word_of.Inst o)
    → IsSpelled (inst_by name o) qs (λ i. inst_of i ≡ v) → IsSpelled (line_named phi_too n name)
    (piece.mark space (codes "=") ∷ piece.word space text ∷ qs) (IsInstLine v)
unfolding line_named inst_line
inst-then phi_too n name text o no_phi is found =
    mark-then (
    one-then (λ at. word_of.Inst o) (line-reads phi_too space text (word_of.Inst o) no_phi is)
    (λ at.
    seq-last found (λ i e. spelled-give (record { inst = i; is = refl; same = e }))))

pub binary-line : (phi_too : Bool) (n : ℕ) (name : WrittenName) (o : Op) (type : WrittenIntType)
    (left right : WrittenOperand) → FitsValue (not (is_division o)) (Int type.width) left.value
    → FitsValue (not (is_division o)) (Int type.width) right.value
    → IsSpelled (line_named phi_too n name)
    (piece.mark space
    (codes "=") ∷ (op_pieces o ++ operand_pieces type.width left.value right.value))
    (IsInstLine (inst_of (inst.Binary name o type left right)))
binary-line phi_too n name (op.Add flags) type left right l r =
    inst-then phi_too n name (codes "add") (opcode.Wrapping wrap.Add) refl refl
    (wrapping-spelled name wrap.Add flags type left right l r)
binary-line phi_too n name (op.Sub flags) type left right l r =
    inst-then phi_too n name (codes "sub") (opcode.Wrapping wrap.Sub) refl refl
    (wrapping-spelled name wrap.Sub flags type left right l r)
binary-line phi_too n name (op.Mul flags) type left right l r =
    inst-then phi_too n name (codes "mul") (opcode.Wrapping wrap.Mul) refl refl
    (wrapping-spelled name wrap.Mul flags type left right l r)
binary-line phi_too n name (op.ShiftLeft flags) type left right l r =
    inst-then phi_too n name (codes "shl") (opcode.Wrapping wrap.ShiftLeft) refl refl
    (wrapping-spelled name wrap.ShiftLeft flags type left right l r)
binary-line phi_too n name (op.UnsignedDiv on) type left right l r =
    inst-then phi_too n name (codes "udiv") (opcode.Exact exact_word.UnsignedDiv) refl refl
    (exact-spelled name exact_word.UnsignedDiv on type left right l r)
binary-line phi_too n name (op.SignedDiv on) type left right l r =
    inst-then phi_too n name (codes "sdiv") (opcode.Exact exact_word.SignedDiv) refl refl
    (exact-spelled name exact_word.SignedDiv on type left right l r)
binary-line phi_too n name (op.LogicalShiftRight on) type left right l r =
    inst-then phi_too n name (codes "lshr") (opcode.Exact exact_word.LogicalShiftRight) refl refl
    (exact-spelled name exact_word.LogicalShiftRight on type left right l r)
binary-line phi_too n name (op.ArithmeticShiftRight on) type left right l r =
    inst-then phi_too n name (codes "ashr") (opcode.Exact exact_word.ArithmeticShiftRight) refl refl
    (exact-spelled name exact_word.ArithmeticShiftRight on type left right l r)
binary-line phi_too n name op.UnsignedRem type left right l r =
    inst-then phi_too n name (codes "urem") (opcode.Plain op.UnsignedRem) refl refl
    (plain-spelled name op.UnsignedRem type left right l r)
binary-line phi_too n name op.SignedRem type left right l r =
    inst-then phi_too n name (codes "srem") (opcode.Plain op.SignedRem) refl refl
    (plain-spelled name op.SignedRem type left right l r)
binary-line phi_too n name op.And type left right l r =
    inst-then phi_too n name (codes "and") (opcode.Plain op.And) refl refl
    (plain-spelled name op.And type left right l r)
binary-line phi_too n name (op.Or on) type left right l r =
    inst-then phi_too n name (codes "or") opcode.Or refl refl
    (disjunction-spelled name on type left right l r)
binary-line phi_too n name op.Xor type left right l r =
    inst-then phi_too n name (codes "xor") (opcode.Plain op.Xor) refl refl
    (plain-spelled name op.Xor type left right l r)

pub icmp-line : (phi_too : Bool) (n : ℕ) (name : WrittenName) (p : Predicate) (same_sign : Bool)
    (type : WrittenIntType) (left right : WrittenOperand)
    → FitsValue true (Int type.width) left.value → FitsValue true (Int type.width) right.value
    → IsSpelled (line_named phi_too n name)
    (piece.mark space (codes "=") ∷ piece.word space
    (codes "icmp") ∷ (word_if same_sign (codes "samesign") ++ piece.word space
    (predicate_text p) ∷ operand_pieces type.width left.value right.value))
    (IsInstLine (inst_of (inst.Icmp name p same_sign type left right)))
icmp-line phi_too n name p same_sign type left right l r =
    inst-then phi_too n name (codes "icmp") opcode.Icmp refl refl
    (icmp-spelled name p same_sign type left right l r)

pub cast-line : (phi_too : Bool) (n : ℕ) (name : WrittenName) (c : Cast) (from : WrittenIntType)
    (o : WrittenOperand) (to : WrittenIntType) → FitsValue true (Int from.width) o.value
    → IsSpelled (line_named phi_too n name)
    (piece.mark space (codes "=") ∷ (cast_pieces c ++ cast_end from o to))
    (IsInstLine (inst_of (inst.Cast name c from o to)))
cast-line phi_too n name (cast.Truncate flags) from o to fits =
    inst-then phi_too n name (codes "trunc") opcode.Truncate refl refl
    (truncate-spelled name flags from o to fits)
cast-line phi_too n name (cast.ZeroExtend on) from o to fits =
    inst-then phi_too n name (codes "zext") opcode.ZeroExtend refl refl
    (zero-extend-spelled name on from o to fits)
cast-line phi_too n name cast.SignExtend from o to fits =
    inst-then phi_too n name (codes "sext") opcode.SignExtend refl refl
    (sign-extend-spelled name from o to fits)

pub select-line : (phi_too : Bool) (n : ℕ) (name : WrittenName) (bit : Place)
    (condition : WrittenOperand) (if_true if_false : WrittenTyped)
    → FitsValue true (Int one_bit) condition.value → IsArm (is_undef condition.value) if_true → IsArm (is_undef condition.value) if_false
    → IsSpelled (line_named phi_too n name)
    (piece.mark space (codes "=") ∷ piece.word space (codes "select") ∷ piece.word space
    (codes "i1") ∷ value_piece condition.value ∷ comma
    ∷ (typed_pieces if_true ++ comma ∷ typed_pieces if_false))
    (IsInstLine (inst_of (inst.Select name bit condition if_true if_false)))
select-line phi_too n name bit condition if_true if_false c a b =
    inst-then phi_too n name (codes "select") opcode.Select refl refl
    (select-spelled name bit condition if_true if_false c a b)

pub freeze-line : (phi_too : Bool) (n : ℕ) (name : WrittenName) (t : WrittenTyped) → IsTyped true t
    → IsSpelled (line_named phi_too n name)
    (piece.mark space (codes "=") ∷ piece.word space (codes "freeze") ∷ typed_pieces t)
    (IsInstLine (inst_of (inst.Freeze name t)))
freeze-line phi_too n name t is =
    inst-then phi_too n name (codes "freeze") opcode.Freeze refl refl (freeze-spelled name t is)
