-- Printed operands are spelled.
use Rattle.read_back.proofs.Common.{◌≡◌, ℕ, Bool, true, false, List, [], ◌∷◌, ◌++◌, Some, refl, codes, not, Place, Lexeme, no_place, IrType, Int, Ptr, Flags, Op, Width, WrittenIntType, WrittenTyped, WrittenOperand, WrittenValue, WrittenName, is_word_of, is_mark_of, flag_text, passed, flag_fits, is_wrap, wraps, flagged_type, typed, arm, pointer, binary, Form, never, one, seq, Piece, space, comma, width_text, type_text, word_if, flag_pieces}
use Rattle.ir_lexer.specs.declared.token.Kind.TheVariants as kind
use Rattle.ir_tree.specs.Carrying.{is_division, is_pointer}
use Rattle.ir_words.specs.declared.word.Flag.{Flag}
use Rattle.ir_words.specs.declared.written.WrittenInst.TheVariants as inst
use Rattle.ir_grammar.specs.Classes.{word, mark}
use Rattle.ir_grammar.specs.Instructions.{arm_type}
use Rattle.ir_printer.specs.Pieces as piece
use Rattle.read_back.proofs.Written.{value_piece, typed_pieces, pointer_pieces}
use Rattle.read_back.proofs.Placeless.{typed_of, inst_of}
use Rattle.read_back.proofs.Spellable.{FitsValue, IsTyped, IsArm, IsPointer}
use Rattle.read_back.proofs.SpelledTokens.{Reads, IsSpelled, spelled-give, one-then, seq-is, peek-first, peek-second, tail-from, flag-more, no-more}
use Rattle.read_back.proofs.SpelledClasses.{a_width, a_type, a_value, width-reads, type-reads, value-reads, pointer-reads}

pub word-reads : (gap text : List ℕ) (fits : passed (is_word_of kind.Word text text) ≡ Some tt)
    → Reads (word text fits).stands (word text fits).within (piece.word gap text) (λ at. tt)
word-reads gap text fits = record { stands_for = λ t. fits; keeps = λ t. refl }

pub mark-reads : (gap text : List ℕ) (fits : passed (is_mark_of kind.Mark text text) ≡ Some tt)
    → Reads (mark text fits).stands (mark text fits).within (piece.mark gap text) (λ at. tt)
mark-reads gap text fits = record { stands_for = λ t. fits; keeps = λ t. refl }

-- a word that is read and forgotten
pub word-then : {X : Type 0} {o : Lexeme → Bool} {Is : X → Type 0} {gap text : List ℕ}
    {fits : passed (is_word_of kind.Word text text) ≡ Some tt} {k : Unit {0} → Form o X}
    {ps : List Piece} → IsSpelled (k tt) ps Is → IsSpelled (seq (one (word text fits)) k)
    (piece.word gap text ∷ ps) Is
word-then {gap = gap} {text = text} {fits = fits} next =
    one-then (λ at. tt) (word-reads gap text fits) (λ at. next)

pub mark-then : {X : Type 0} {o : Lexeme → Bool} {Is : X → Type 0} {gap text : List ℕ}
    {fits : passed (is_mark_of kind.Mark text text) ≡ Some tt} {k : Unit {0} → Form o X}
    {ps : List Piece} → IsSpelled (k tt) ps Is → IsSpelled (seq (one (mark text fits)) k)
    (piece.mark gap text ∷ ps) Is
mark-then {gap = gap} {text = text} {fits = fits} next =
    one-then (λ at. tt) (mark-reads gap text fits) (λ at. next)

pub typed-spelled : (undef_too : Bool) (t : WrittenTyped) → IsTyped undef_too t
    → IsSpelled (typed undef_too) (typed_pieces t) (λ t'. typed_of t' ≡ typed_of t)
unfolding typed
typed-spelled undef_too t fits =
    one-then (a_type t.of_type.of_type) (type-reads space true t.of_type.of_type refl) (λ at.
    one-then (a_value t.operand.value)
    (value-reads undef_too t.of_type.of_type t.operand.value fits) (λ at'.
    spelled-give refl))

integer-type-spelled : (w : Width) → IsSpelled (arm_type true) (piece.word space (width_text w) ∷ [])
    (λ x. (at : Place) × (x ≡ a_type (Int w) at))
integer-type-spelled w =
    one-then (a_width w) (width-reads space w) (λ at. spelled-give (at, refl))

integer-arm-spelled : (type : IrType) (v : WrittenValue) → is_pointer type ≡ false
    → FitsValue (not (is_pointer type)) type v
    → IsSpelled (arm true) (piece.word space (type_text type) ∷ value_piece v ∷ [])
    (λ t. typed_of t ≡ typed_of
    (record { of_type = a_type type no_place; operand = a_value v no_place }))
unfolding arm
integer-arm-spelled (Int w) v e fits =
    seq-is (λ at. a_type (Int w) at) (piece.word space (width_text w) ∷ []) (value_piece v ∷ [])
    (integer-type-spelled w) (λ at.
    one-then (a_value v) (value-reads true (Int w) v fits) (λ at'. spelled-give refl))
integer-arm-spelled Ptr v e fits = absurd (cc e)

pub arm-spelled : (of_integer : Bool) (t : WrittenTyped) → IsArm of_integer t
    → IsSpelled (arm of_integer) (typed_pieces t) (λ t'. typed_of t' ≡ typed_of t)
unfolding arm
arm-spelled false t is =
    one-then (a_type t.of_type.of_type) (type-reads space true t.of_type.of_type refl) (λ at.
    one-then (a_value t.operand.value)
    (value-reads (not (is_pointer t.of_type.of_type)) t.of_type.of_type t.operand.value is.value)
    (λ at'. spelled-give refl))
arm-spelled true t is =
    integer-arm-spelled t.of_type.of_type t.operand.value (is.type refl) is.value

-- its value, which was ptr before it
pointer-same : (t : WrittenTyped) (type : t.of_type.of_type ≡ Ptr) (at at' : Place)
    → typed_of
    (record { of_type = a_type Ptr at; operand = a_value t.operand.value at' }) ≡ typed_of t
pointer-same t type at at' = rw type refl

pub pointer-spelled : (t : WrittenTyped) → IsPointer t → IsSpelled pointer (pointer_pieces t)
    (λ t'. typed_of t' ≡ typed_of t)
unfolding pointer
pointer-spelled t is =
    one-then (a_type Ptr) (pointer-reads space) (λ at.
    one-then (a_value t.operand.value) (value-reads false Ptr t.operand.value is.value) (λ at'.
    spelled-give (pointer-same t is.type at at')))

pub binary-spelled : (name : WrittenName) (o : Op) (type : WrittenIntType)
    (left right : WrittenOperand) → FitsValue (not (is_division o)) (Int type.width) left.value
    → FitsValue (not (is_division o)) (Int type.width) right.value
    → IsSpelled (binary name o type) (value_piece left.value ∷ comma ∷ value_piece right.value ∷ [])
    (λ i. inst_of i ≡ inst_of (inst.Binary name o type left right))
unfolding binary
binary-spelled name o type left right fits fits' =
    let undef_too : Bool = not (is_division o) in
    one-then (a_value left.value) (value-reads undef_too (Int type.width) left.value fits) (λ at.
    mark-then (
    one-then (a_value right.value) (value-reads undef_too (Int type.width) right.value fits') (λ at'.
    spelled-give refl)))

-- ---- flags

abbrev the_flags : Bool → Bool → Flags
the_flags nuw nsw = record { nuw = nuw; nsw = nsw }

any-wraps : (ordered nuw nsw : Bool) → IsSpelled (wraps ordered)
    (word_if nuw (codes "nuw") ++ word_if nsw (codes "nsw")) (λ f. f ≡ the_flags nuw nsw)
unfolding wraps
any-wraps ordered false false = tail-from is_wrap never (no-more refl)
any-wraps ordered false true =
    tail-from is_wrap never
    (flag-more (the_flags false true) (record { stands_for = λ t. refl; keeps = λ t. refl })
    (no-more refl))
any-wraps false true false =
    tail-from is_wrap never
    (flag-more (the_flags true false) (record { stands_for = λ t. refl; keeps = λ t. refl })
    (no-more refl))
any-wraps true true false =
    tail-from is_wrap never
    (flag-more (the_flags true false) (record { stands_for = λ t. refl; keeps = λ t. refl })
    (no-more refl))
any-wraps false true true =
    tail-from is_wrap never
    (flag-more (the_flags true false) (record { stands_for = λ t. refl; keeps = λ t. refl })
    (flag-more (the_flags true true) (record { stands_for = λ t. refl; keeps = λ t. refl })
    (no-more refl)))
any-wraps true true true =
    tail-from is_wrap never
    (flag-more (the_flags true false) (record { stands_for = λ t. refl; keeps = λ t. refl })
    (flag-more (the_flags true true) (record { stands_for = λ t. refl; keeps = λ t. refl })
    (no-more refl)))

pub wraps-spelled : (ordered : Bool) (flags : Flags) → IsSpelled (wraps ordered) (flag_pieces flags)
    (λ f. f ≡ flags)
wraps-spelled ordered flags = any-wraps ordered flags.nuw flags.nsw

pub flagged-spelled : (f : Flag) (on : Bool) (w : Width) → IsSpelled (flagged_type f)
    (word_if on (flag_text f) ++ piece.word space (width_text w) ∷ [])
    (λ x. (at : Place) × (x ≡ (on, a_width w at)))
unfolding flagged_type
flagged-spelled f true w =
    peek-first (λ at. tt) (word-reads space (flag_text f) (flag_fits f))
    (λ at. one-then (a_width w) (width-reads space w) (λ at'. spelled-give (at', refl)))
flagged-spelled f false w =
    peek-second (a_width w) (width-reads space w) (λ at. spelled-give (at, refl))

-- a flag or none, a type, and what depends on them
pub flagged-then : {X : Type 0} {o : Lexeme → Bool} {Is : X → Type 0}
    {k : Bool × WrittenIntType → Form o X} {qs : List Piece} (f : Flag) (on : Bool) (w : Width)
    → ((at : Place) → IsSpelled (k (on, a_width w at)) qs Is) → IsSpelled (seq (flagged_type f) k)
    (word_if on (flag_text f) ++ piece.word space (width_text w) ∷ qs) Is
flagged-then {qs = qs} f true w next =
    seq-is (λ at. (true, a_width w at))
    (piece.word space (flag_text f) ∷ piece.word space (width_text w) ∷ []) qs
    (flagged-spelled f true w) next
flagged-then {qs = qs} f false w next =
    seq-is (λ at. (false, a_width w at)) (piece.word space (width_text w) ∷ []) qs
    (flagged-spelled f false w) next
