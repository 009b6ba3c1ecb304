-- What is spelled of instructions on memory keeps their limits.
use Rattle.ir_reader.proofs.Common.{◌≡◌, ℕ, zero, suc, ◌<◌, ◌≤◌, Bool, true, false, List, [], ◌∷◌, length, Option, Some, None, subst, arith, ◌&&◌, not, nat_eq, list_any, ltb-true, leb-true, length-append, Place, Lexeme, Kind, IsAlignment, HasSmallArrays, alignments, nested_size, Op, Cast, IrType, Int, SpellParts, Spells, Opcode, WrittenName, WrittenIntType, WrittenType, WrittenArrays, WrittenInst, type_in, typed_at, fits_object, is_small_object, number_of_kind, is_alignment, is_square, array_begins, array_within, with_length, arrays, alloca_object, gep_arrays, gep_object, binary, cast_by, wrapping, exact, plain, disjunction, icmp, truncate, zero_extend, sign_extend, select, freeze, inst_by}
use Rattle.ir_lexer.specs.declared.token.Kind.TheVariants as kind
use Rattle.ir_words.specs.declared.word.Opcode.TheVariants as opcode
use Rattle.ir_words.specs.declared.written.GepFlags.{GepFlags}
use Rattle.ir_words.specs.declared.written.WrittenObject.{WrittenObject}
use Rattle.ir_words.specs.Numbers.{is_negative, magnitude}
use Rattle.ir_grammar.specs.Instructions.{is_undef}
use Rattle.ir_grammar.proofs.SmallArrays.{are-small}
use Rattle.ir_reader.proofs.Objects.{IsReadInst}
use Rattle.ir_reader.proofs.Undefs.{binary-spelled, arm-spelled}

-- ---- alignments

and-second : (a b : Bool) → (a && b) ≡ true → b ≡ true
and-second true b e = e
and-second false b e = absurd (cc e)

pub alignment-kept : (t : Lexeme) (n : ℕ) → number_of_kind t.kind t.text ≡ Some n → is_alignment t.text ≡ true → IsAlignment n
alignment-kept t n e kept = go t.kind e
  where
    go : (k : Kind) → number_of_kind k t.text ≡ Some n → IsAlignment n
    go kind.Number e' = let same : magnitude t.text ≡ n = cc e' in subst IsAlignment same (and-second (not (is_negative t.text)) (list_any (nat_eq (magnitude t.text)) alignments) kept)
    go _ e' = absurd (cc e')

-- ---- nested arrays

parts-nested : (n : ℕ) (s x : WrittenArrays) (ts rest : List Lexeme) → SpellParts true is_square array_begins array_within (λ s' a next inside behind. Spells true (with_length s') next inside behind) n s x ts rest → length s.lengths ≤ 8 → length x.lengths ≤ 8
unfolding with_length
parts-nested zero s x ts rest (same, left, nothing) h = subst (λ (p : WrittenArrays). length p.lengths ≤ 8) same h
parts-nested (suc n) s x ts rest (a, inside, next, behind, T, (many, m1, t1, (times, m2, t2, (same, left))), more) h =
    let room : length s.lengths < 8 = ltb-true (length s.lengths) 8 T.keeps in
    parts-nested n next x behind rest more (subst (λ (p : WrittenArrays). length p.lengths ≤ 8) same (omega (arith, room, length-append s.lengths (many ∷ []))))

small-element : (in_alloca : Bool) (lengths : List ℕ) (m : Option (Option IrType)) (at : Place) (x : WrittenType) → typed_at m at ≡ Some x → fits_object in_alloca lengths m ≡ true → is_small_object in_alloca lengths x.of_type ≡ true
small-element in_alloca lengths None at x e kept = absurd (cc e)
small-element in_alloca lengths (Some None) at x e kept = absurd (cc kept)
small-element in_alloca lengths (Some (Some type)) at x e kept = let same : (let y : WrittenType = record { of_type = type; at = at } in y) ≡ x = cc e in subst (λ (y : WrittenType). is_small_object in_alloca lengths y.of_type ≡ true) same kept

abbrev IsSmallObject : WrittenObject → Type 0
IsSmallObject o = (length o.of_type.lengths ≤ 8) × (nested_size o.of_type.lengths o.of_type.element ≤ 64)

pub alloca-small : (x : WrittenObject) (ts rest : List Lexeme) → Spells true alloca_object x ts rest → IsSmallObject x
unfolding alloca_object arrays
alloca-small x ts rest (found, m1, (m2, (s, m3, (first, at), n, P), T), (closed, m4, C, (same, left))) =
    let nested : length found.0.lengths ≤ 8 = parts-nested n s found.0 m3 m2 P (subst (λ (p : WrittenArrays). length p.lengths ≤ 8) first (omega arith)) in
    let small : nested_size found.0.lengths found.1.of_type ≤ 64 = leb-true (nested_size found.0.lengths found.1.of_type) 64 (small-element true found.0.lengths (type_in T.first) T.first.place found.1 T.stands_for T.keeps) in
    subst IsSmallObject same (nested, small)

abbrev IsSmallNest : WrittenObject → Type 0
IsSmallNest o = (length o.of_type.lengths ≤ 8) × HasSmallArrays o.of_type.lengths o.of_type.element

pub gep-small : (x : GepFlags × WrittenObject) (ts rest : List Lexeme) → Spells true gep_object x ts rest → IsSmallNest x.1
unfolding gep_object gep_arrays
gep-small x ts rest (found, m1, (m2, (s, m3, (flags, F, first), n, P), T), (closed, m4, C, (same, left))) =
    let nested : length found.0.lengths ≤ 8 = parts-nested n s found.0 m3 m2 P (subst (λ (p : WrittenArrays). length p.lengths ≤ 8) first (omega arith)) in
    let small : HasSmallArrays found.0.lengths found.1.of_type = are-small found.0.lengths found.1.of_type (small-element false found.0.lengths (type_in T.first) T.first.place found.1 T.stands_for T.keeps) in
    subst (λ (y : GepFlags × WrittenObject). IsSmallNest y.1) same (nested, small)

-- ---- instructions on values: where undef may be an operand

binary-known : (name : WrittenName) (o : Op) (type : WrittenIntType) (i : WrittenInst) (ts rest : List Lexeme) → Spells true (binary name o type) i ts rest → IsReadInst i
unfolding binary
binary-known name o type i ts rest (l, m1, L, (comma, m2, t2, (r, m3, R, (same, left)))) = subst IsReadInst same (binary-spelled o (Int type.width) l r ts m2 m1 m3 L R)

cast-known : (name : WrittenName) (c : Cast) (from : WrittenIntType) (i : WrittenInst) (ts rest : List Lexeme) → Spells true (cast_by name c from) i ts rest → IsReadInst i
unfolding cast_by
cast-known name c from i ts rest (v, m1, t1, (word_to, m2, t2, (to, m3, t3, (same, left)))) = subst IsReadInst same tt

pub plain-known : (name : WrittenName) (o : Opcode) (i : WrittenInst) (ts rest : List Lexeme) → Spells true (inst_by name o) i ts rest → IsReadInst i
unfolding wrapping exact plain disjunction icmp truncate zero_extend sign_extend select freeze
plain-known name (opcode.Wrapping w) i ts rest (flagged, mid, F, B) = binary-known name _ flagged.1 i mid rest B
plain-known name (opcode.Exact w) i ts rest (flagged, mid, F, B) = binary-known name _ flagged.1 i mid rest B
plain-known name (opcode.Plain o) i ts rest (type, mid, T, B) = binary-known name o type i mid rest B
plain-known name opcode.Or i ts rest (flagged, mid, F, B) = binary-known name _ flagged.1 i mid rest B
plain-known name opcode.Icmp i ts rest (compares, m1, C, (type, m2, t2, (l, m3, t3, (comma, m4, t4, (r, m5, t5, (same, left)))))) = subst IsReadInst same tt
plain-known name opcode.Truncate i ts rest (flagged, mid, F, B) = cast-known name _ flagged.1 i mid rest B
plain-known name opcode.ZeroExtend i ts rest (flagged, mid, F, B) = cast-known name _ flagged.1 i mid rest B
plain-known name opcode.SignExtend i ts rest (type, mid, T, B) = cast-known name _ type i mid rest B
plain-known name opcode.Select i ts rest (bit, m1, t1, (condition, m2, C, (comma, m3, t3, (if_true, m4, A, (comma', m5, t5, (if_false, m6, B, (same, left))))))) = subst IsReadInst same (arm-spelled (is_undef condition.value) if_true m3 m4 A, arm-spelled (is_undef condition.value) if_false m5 m6 B)
plain-known name opcode.Freeze i ts rest (value, m1, V, (same, left)) = subst IsReadInst same tt
