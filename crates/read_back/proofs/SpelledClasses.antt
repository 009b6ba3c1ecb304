-- What single tokens denote that have the bytes of printed names, types, operands and words.
use Rattle.read_back.proofs.Common.{◌≡◌, ℕ, ◌^◌, ◌<◌, ◌≤◌, Bool, true, false, List, Option, Some, None, refl, sym, ap, ◌∙◌, arith, codes, Contains, bytes_eq, decimal, lt-ltb, Width, Place, is_digits, Lexeme, alignments, Name, IrType, Int, Ptr, Predicate, LineWord, WrittenName, WrittenIntType, WrittenType, WrittenReturnType, WrittenOperand, WrittenValue, WrittenLiteral, value_of, width_of, is_negative, magnitude, wrapped, in_range, or_word, memory_word, inst_word, opcode_named, bits_behind, spelled_width, int_typed_at, is_width, int_type_in, type_in, typed_at, is_small_object, fits_object, returned_at, int_type, counted_type, element_type, pointer_type, bit_type, return_type, operand_class, literal_class, array_length, alignment, predicate_class, line_word, width_text, type_text, predicate_text, return_text}
use Rattle.ir_tree.specs.declared.tree.Predicate.TheVariants as predicate
use Rattle.ir_words.specs.declared.written.WrittenValue.TheVariants as value
use Rattle.ir_words.specs.Spelling.{is_type}
use Rattle.ir_grammar.specs.Classes.{local, global}
use Rattle.ir_words.proofs.Widths.{width_of-bits}
use Rattle.ir_printer.specs.Pieces as piece
use Rattle.read_back.proofs.Written.{value_piece}
use Rattle.read_back.proofs.Spellable.{IsName, FitsValue}
use Rattle.read_back.proofs.SpelledTokens.{Reads, as_piece}
use Rattle.read_back.proofs.SpelledNames.{name-again}
use Rattle.read_back.proofs.SpelledNumbers.{numeral, digits-numeral, value-numeral, positive-numeral, magnitude-numeral, literal-small, is-alignment, alignment-small}

-- ---- parts at a position

abbrev pub a_name : Name → Place → WrittenName
a_name n at = record { name = n; at = at }

abbrev pub a_width : Width → Place → WrittenIntType
a_width w at = record { width = w; at = at }

abbrev pub a_type : IrType → Place → WrittenType
a_type type at = record { of_type = type; at = at }

abbrev pub a_return : Option IrType → Place → WrittenReturnType
a_return type at = record { of_type = type; at = at }

abbrev pub a_value : WrittenValue → Place → WrittenOperand
a_value v at = record { value = v; at = at }

abbrev pub a_literal : ℕ → Place → WrittenLiteral
a_literal n at = record { value = n; at = at }

-- ---- names

pub local-reads : (gap : List ℕ) (n : Name) → IsName n
    → Reads local.stands local.within (piece.local gap n) (a_name n)
local-reads gap n is =
    record {
      stands_for = λ t. ap (λ (m : Name). Some (a_name m t.place)) (name-again n is);
      keeps = λ t. refl;
    }

pub global-reads : (gap : List ℕ) (n : Name) → IsName n
    → Reads global.stands global.within (piece.global gap n) (a_name n)
global-reads gap n is =
    record {
      stands_for = λ t. ap (λ (m : Name). Some (a_name m t.place)) (name-again n is);
      keeps = λ t. refl;
    }

-- ---- types

pub width-again : (w : Width) → spelled_width (bits_behind (width_text w)) ≡ Some (Some w)
width-again w =
    let N = numeral w.bits (omega (arith, w.at_most_64)) in
    let digits : is_digits (decimal w.bits) ≡ true = digits-numeral w.bits _ N in
    rw digits
    (ap (λ (v : Option Width). Some v)
    (width_of-bits (value_of (decimal w.bits)) w (sym (value-numeral w.bits _ N))))

pub width-reads : (gap : List ℕ) (w : Width)
    → Reads int_type.stands int_type.within (piece.word gap (width_text w)) (a_width w)
width-reads gap w =
    record {
      stands_for = λ t. ap (λ (o : Option (Option Width)). int_typed_at o t.place) (width-again w);
      keeps = λ t. ap is_width (width-again w);
    }

type-again : (gap : List ℕ) (type : IrType) (t : Lexeme)
    → type_in (as_piece (piece.word gap (type_text type)) t) ≡ Some (Some type)
type-again gap (Int w) t = ap int_type_in (width-again w)
type-again gap Ptr t = refl

pub type-reads : (gap : List ℕ) (room : Bool) (type : IrType) → room ≡ true
    → Reads (counted_type room).stands (counted_type room).within (piece.word gap (type_text type))
    (a_type type)
type-reads gap room type e =
    record {
      stands_for = λ t. ap (λ (o : Option (Option IrType)). typed_at o t.place)
          (type-again gap type t);
      keeps = λ t. rw e (ap is_type (type-again gap type t));
    }

pub element-reads : (gap : List ℕ) (in_alloca : Bool) (lengths : List ℕ) (type : IrType)
    → is_small_object in_alloca lengths type ≡ true
    → Reads (element_type in_alloca lengths).stands (element_type in_alloca lengths).within
    (piece.word gap (type_text type)) (a_type type)
element-reads gap in_alloca lengths type small = record {
  stands_for =
      λ t. ap (λ (o : Option (Option IrType)). typed_at o t.place) (type-again gap type t);
  keeps = λ t. ap (fits_object in_alloca lengths) (type-again gap type t) ∙ small;
}

pub pointer-reads : (gap : List ℕ)
    → Reads pointer_type.stands pointer_type.within (piece.word gap (codes "ptr")) (a_type Ptr)
pointer-reads gap = record { stands_for = λ t. refl; keeps = λ t. refl }

pub bit-reads : (gap : List ℕ) → Reads bit_type.stands bit_type.within (piece.word gap (codes "i1"))
    (λ at. at)
unfolding width_of
bit-reads gap = record { stands_for = λ t. refl; keeps = λ t. refl }

pub return-reads : (gap : List ℕ) (type : Option IrType)
    → Reads return_type.stands return_type.within (piece.word gap (return_text type))
    (a_return type)
return-reads gap None = record { stands_for = λ t. refl; keeps = λ t. refl }
return-reads gap (Some Ptr) = record { stands_for = λ t. refl; keeps = λ t. refl }
return-reads gap (Some (Int w)) = record {
  stands_for =
      λ t. ap (λ (o : Option (Option IrType)). returned_at o t.place) (type-again gap (Int w) t);
  keeps = λ t. ap is_type (type-again gap (Int w) t);
}

-- ---- operands

number-again : (n bits : ℕ) → bits ≤ 64 → n < 2 ^ bits → wrapped bits (is_negative (decimal n))
    (magnitude (decimal n)) ≡ n
number-again n bits h l =
    let N = numeral n (literal-small n bits h l) in rw
    (positive-numeral n _ N, magnitude-numeral n _ N) refl

number-fits : (n bits : ℕ) → bits ≤ 64 → n < 2 ^ bits → in_range bits (is_negative (decimal n))
    (magnitude (decimal n)) ≡ true
number-fits n bits h l =
    let N = numeral n (literal-small n bits h l) in rw
    (positive-numeral n _ N, magnitude-numeral n _ N) (lt-ltb n (2 ^ bits) l)

local-value-reads : (undef_too : Bool) (type : IrType) (n : Name) → IsName n
    → Reads (operand_class undef_too type).stands (operand_class undef_too type).within
    (value_piece (value.Local n)) (a_value (value.Local n))
local-value-reads undef_too (Int w) n is =
    record {
      stands_for = λ t. ap (λ (m : Name). Some (a_value (value.Local m) t.place)) (name-again n is);
      keeps = λ t. refl;
    }
local-value-reads undef_too Ptr n is =
    record {
      stands_for = λ t. ap (λ (m : Name). Some (a_value (value.Local m) t.place)) (name-again n is);
      keeps = λ t. refl;
    }

pub value-reads : (undef_too : Bool) (type : IrType) (v : WrittenValue) → FitsValue undef_too type v
    → Reads (operand_class undef_too type).stands (operand_class undef_too type).within
    (value_piece v) (a_value v)
value-reads undef_too type (value.Local n) is = local-value-reads undef_too type n is
value-reads undef_too (Int w) (value.Literal n) l = record {
  stands_for =
      λ t. ap (λ (m : ℕ). Some (a_value (value.Literal m) t.place))
      (number-again n w.bits w.at_most_64 l);
  keeps = λ t. number-fits n w.bits w.at_most_64 l;
}
value-reads undef_too Ptr (value.Literal n) l = absurd l
value-reads undef_too (Int w) value.Null e = absurd (cc e)
value-reads true Ptr value.Null e = record { stands_for = λ t. refl; keeps = λ t. refl }
value-reads false Ptr value.Null e = record { stands_for = λ t. refl; keeps = λ t. refl }
value-reads undef_too (Int w) value.Poison e = record { stands_for = λ t. refl; keeps = λ t. refl }
value-reads undef_too Ptr value.Poison e = record { stands_for = λ t. refl; keeps = λ t. refl }
value-reads undef_too (Int w) value.Undef e =
    record { stands_for = λ t. rw e refl; keeps = λ t. refl }
value-reads undef_too Ptr value.Undef e = record { stands_for = λ t. rw e refl; keeps = λ t. refl }

pub literal-reads : (gap : List ℕ) (w : Width) (n : ℕ) → n < 2 ^ w.bits
    → Reads (literal_class w).stands (literal_class w).within (piece.number gap n) (a_literal n)
literal-reads gap w n l = record {
  stands_for =
      λ t. ap (λ (m : ℕ). Some (a_literal m t.place)) (number-again n w.bits w.at_most_64 l);
  keeps = λ t. number-fits n w.bits w.at_most_64 l;
}

pub length-reads : (gap : List ℕ) (n : ℕ) → n < 2 ^ 64
    → Reads array_length.stands array_length.within (piece.number gap n) (λ at. n)
length-reads gap n l =
    let N = numeral n l in
    record {
      stands_for = λ t. ap (λ (m : ℕ). Some m) (magnitude-numeral n _ N);
      keeps = λ t. rw (positive-numeral n _ N, magnitude-numeral n _ N) (lt-ltb n (2 ^ 64) l);
    }

pub alignment-reads : (gap : List ℕ) (n : ℕ) → Contains alignments n
    → Reads alignment.stands alignment.within (piece.number gap n) (λ at. n)
alignment-reads gap n is =
    let one_of = is-alignment n alignments is in
    let N = numeral n (alignment-small n one_of) in
    record {
      stands_for = λ t. ap (λ (m : ℕ). Some m) (magnitude-numeral n _ N);
      keeps = λ t. rw (positive-numeral n _ N, magnitude-numeral n _ N) one_of;
    }

-- ---- words

pub predicate-reads : (gap : List ℕ) (p : Predicate)
    → Reads predicate_class.stands predicate_class.within (piece.word gap (predicate_text p))
    (λ at. p)
predicate-reads gap predicate.Equal = record { stands_for = λ t. refl; keeps = λ t. refl }
predicate-reads gap predicate.NotEqual = record { stands_for = λ t. refl; keeps = λ t. refl }
predicate-reads gap predicate.UnsignedGreater = record { stands_for = λ t. refl; keeps = λ t. refl }
predicate-reads gap predicate.UnsignedGreaterOrEqual =
    record { stands_for = λ t. refl; keeps = λ t. refl }
predicate-reads gap predicate.UnsignedLess = record { stands_for = λ t. refl; keeps = λ t. refl }
predicate-reads gap predicate.UnsignedLessOrEqual =
    record { stands_for = λ t. refl; keeps = λ t. refl }
predicate-reads gap predicate.SignedGreater = record { stands_for = λ t. refl; keeps = λ t. refl }
predicate-reads gap predicate.SignedGreaterOrEqual =
    record { stands_for = λ t. refl; keeps = λ t. refl }
predicate-reads gap predicate.SignedLess = record { stands_for = λ t. refl; keeps = λ t. refl }
predicate-reads gap predicate.SignedLessOrEqual =
    record { stands_for = λ t. refl; keeps = λ t. refl }

-- a word that names an instruction, whether a phi may occur there or not
pub line-reads : (phi_too : Bool) (gap text : List ℕ) (w : LineWord)
    → bytes_eq text (codes "phi") ≡ false → or_word (memory_word text)
    (inst_word (opcode_named text)) ≡ Some w
    → Reads (line_word phi_too).stands (line_word phi_too).within (piece.word gap text) (λ at. w)
line-reads true gap text w no_phi is = record { stands_for = λ t. rw no_phi is; keeps = λ t. refl }
line-reads false gap text w no_phi is = record { stands_for = λ t. is; keeps = λ t. refl }
