-- Operands, types, and the parts of instructions that one token is.
use Rattle.read_back.proofs.Common.{◌≡◌, ℕ, ◌-◌, ◌<◌, ◌≤◌, ◌^◌, Bool, true, false, cond, List, drop, Option, Some, None, codes, refl, sym, ap, subst, arith, ◌&&◌, not, ◌==◌, bytes_eq, ltb-true, pow_pos, pow_below, mod_below, Place, Width, Kind, name_of, IrType, Int, Ptr, WrittenType, WrittenValue, WrittenOperand, WrittenLiteral, WrittenTyped, is_negative, magnitude, in_range, wrapped, truth_value, literal_value, literal_of, word_of_type, word_value, number_value, literal_at, operand_at, fits_bits, fits_type, type_at, is_pointer, pointer_in, operand_class, literal_class, pointer_type, typed, arm, pointer}
use Rattle.ir_lexer.specs.declared.token.Kind.TheVariants as kind
use Rattle.ir_tree.specs.Carrying.{is_pointer as is_arm_pointer}
use Rattle.ir_words.specs.declared.written.WrittenValue.TheVariants as value
use Rattle.ir_words.specs.Spelling.{value_in}
use Rattle.read_back.proofs.Spellable.{FitsValue, IsTyped, IsArm, IsPointer}
use Rattle.read_back.proofs.FitsForms.{Stands, Gives}
use Rattle.read_back.proofs.FitsNames.{AreBytes, local-is}

-- ---- literals

wrapped-fits : (w : ℕ) (negative : Bool) (n : ℕ) → in_range w negative n ≡ true → wrapped w negative n < 2 ^ w
wrapped-fits w true n e = mod_below (2 ^ w - n) (2 ^ w) (pow_pos w)
wrapped-fits w false n e = ltb-true n (2 ^ w) e

truth-small : (a b : Bool) (n : ℕ) → cond a (Some 1) (cond b (Some 0) None) ≡ Some n → n ≤ 1
truth-small true b n e = let same : 1 ≡ n = cc e in omega (arith, same)
truth-small false true n e = let same : 0 ≡ n = cc e in omega (arith, same)
truth-small false false n e = absurd (cc e)

truth-fits : (w : Width) (text : List ℕ) (n : ℕ) → truth_value w.bits text ≡ Some n → n < 2 ^ w.bits
truth-fits w text n e =
    let small : n ≤ 1 = truth-small (w.bits == 1 && bytes_eq text (codes "true")) (w.bits == 1 && bytes_eq text (codes "false")) n e in
    let wide : 2 ^ 0 < 2 ^ w.bits = pow_below 0 w.bits w.at_least_1 in
    omega (arith, small, wide)

number-fits : (w : Width) (text : List ℕ) → fits_bits w.bits kind.Number text ≡ true → wrapped w.bits (is_negative text) (magnitude text) < 2 ^ w.bits
number-fits w text kept = wrapped-fits w.bits (is_negative text) (magnitude text) kept

literal-small : (w : Width) (k : Kind) (text : List ℕ) (n : ℕ) → literal_value w.bits k text ≡ Some n → fits_bits w.bits k text ≡ true → n < 2 ^ w.bits
literal-small w kind.Number text n e kept = let same : wrapped w.bits (is_negative text) (magnitude text) ≡ n = cc e in subst (λ (m : ℕ). m < 2 ^ w.bits) same (number-fits w text kept)
literal-small w kind.Word text n e kept = truth-fits w text n e
literal-small w _ text n e kept = absurd (cc e)

literal-at : (m : Option ℕ) (at : Place) (x : WrittenLiteral) → literal_at m at ≡ Some x → m ≡ Some x.value
literal-at None at x e = absurd (cc e)
literal-at (Some n) at x e = let same : (let y : WrittenLiteral = record { value = n; at = at } in y) ≡ x = cc e in ap (λ (y : WrittenLiteral). Some y.value) same

pub literal-fits : (w : Width) (x : WrittenLiteral) → Stands (literal_class w).stands (literal_class w).within x → x.value < 2 ^ w.bits
literal-fits w x S = literal-small w S.token.kind S.token.text x.value (literal-at (literal_value w.bits S.token.kind S.token.text) S.token.place x S.stands_for) S.keeps

-- ---- values

word-of-type : (undef_too : Bool) (type : IrType) (text : List ℕ) (v : WrittenValue) → word_of_type type text ≡ Some v → FitsValue undef_too type v
word-of-type undef_too (Int w) text v e = go (truth_value w.bits text) refl e
  where
    go : (m : Option ℕ) → truth_value w.bits text ≡ m → literal_of m ≡ Some v → FitsValue undef_too (Int w) v
    go None is e' = absurd (cc e')
    go (Some n) is e' = let same : value.Literal n ≡ v = cc e' in subst (λ (u : WrittenValue). FitsValue undef_too (Int w) u) same (truth-fits w text n is)
word-of-type undef_too Ptr text v e = go (bytes_eq text (codes "null")) e
  where
    go : (b : Bool) → cond b (Some value.Null) None ≡ Some v → FitsValue undef_too Ptr v
    go true e' = let same : value.Null ≡ v = cc e' in subst (λ (u : WrittenValue). FitsValue undef_too Ptr u) same refl
    go false e' = absurd (cc e')

word-fits : (undef_too : Bool) (type : IrType) (text : List ℕ) (v : WrittenValue) → word_value undef_too type text ≡ Some v → FitsValue undef_too type v
word-fits undef_too type text v e = go undef_too (bytes_eq text (codes "poison")) (bytes_eq text (codes "undef")) e
  where
    go : (too poison undef : Bool) → cond poison (Some value.Poison) (cond (too && undef) (Some value.Undef) (word_of_type type text)) ≡ Some v → FitsValue too type v
    go too true undef e' = let same : value.Poison ≡ v = cc e' in subst (λ (u : WrittenValue). FitsValue too type u) same tt
    go true false true e' = let same : value.Undef ≡ v = cc e' in subst (λ (u : WrittenValue). FitsValue true type u) same refl
    go true false false e' = word-of-type true type text v e'
    go false false undef e' = word-of-type false type text v e'

local-value : (undef_too : Bool) (type : IrType) (text : List ℕ) (v : WrittenValue) → AreBytes text → Some (value.Local (name_of (drop 1 text))) ≡ Some v → FitsValue undef_too type v
local-value undef_too type text v all e =
    let same : value.Local (name_of (drop 1 text)) ≡ v = cc e in
    subst (λ (u : WrittenValue). FitsValue undef_too type u) same (local-is kind.Local text (name_of (drop 1 text)) all refl)

number-value : (undef_too : Bool) (type : IrType) (text : List ℕ) (v : WrittenValue) → number_value type text ≡ Some v → fits_type type kind.Number text ≡ true → FitsValue undef_too type v
number-value undef_too (Int w) text v e kept = let same : value.Literal (wrapped w.bits (is_negative text) (magnitude text)) ≡ v = cc e in subst (λ (u : WrittenValue). FitsValue undef_too (Int w) u) same (number-fits w text kept)
number-value undef_too Ptr text v e kept = absurd (cc e)

value-fits : (undef_too : Bool) (type : IrType) (k : Kind) (text : List ℕ) (v : WrittenValue) → AreBytes text → value_in undef_too type k text ≡ Some v → fits_type type k text ≡ true → FitsValue undef_too type v
value-fits undef_too type kind.Local text v all e kept = local-value undef_too type text v all e
value-fits undef_too type kind.Number text v all e kept = number-value undef_too type text v e kept
value-fits undef_too type kind.Word text v all e kept = word-fits undef_too type text v e
value-fits undef_too type _ text v all e kept = absurd (cc e)

value-at : (m : Option WrittenValue) (at : Place) (x : WrittenOperand) → operand_at m at ≡ Some x → m ≡ Some x.value
value-at None at x e = absurd (cc e)
value-at (Some v) at x e = let same : (let y : WrittenOperand = record { value = v; at = at } in y) ≡ x = cc e in ap (λ (y : WrittenOperand). Some y.value) same

pub operand-fits : (undef_too : Bool) (type : IrType) (x : WrittenOperand) → Stands (operand_class undef_too type).stands (operand_class undef_too type).within x → FitsValue undef_too type x.value
operand-fits undef_too type x S =
    value-fits undef_too type S.token.kind S.token.text x.value S.bytes (value-at (value_in undef_too type S.token.kind S.token.text) S.token.place x S.stands_for) S.keeps

-- ---- the type of a pointer

type-at : (m : Option IrType) (at : Place) (x : WrittenType) → type_at m at ≡ Some x → m ≡ Some x.of_type
type-at None at x e = absurd (cc e)
type-at (Some type) at x e = let same : (let y : WrittenType = record { of_type = type; at = at } in y) ≡ x = cc e in ap (λ (y : WrittenType). Some y.of_type) same

pointer-of : (b : Bool) (type : IrType) → cond b (Some Ptr) None ≡ Some type → type ≡ Ptr
pointer-of true type e = cc e
pointer-of false type e = absurd (cc e)

pointer-fits : (x : WrittenType) → Stands pointer_type.stands pointer_type.within x → x.of_type ≡ Ptr
pointer-fits x S = pointer-of (is_pointer S.token) x.of_type (type-at (pointer_in S.token) S.token.place x S.stands_for)

-- ---- a type and an operand

pub typed-gives : (undef_too : Bool) (t : WrittenTyped) → Gives (typed undef_too) t → IsTyped undef_too t
unfolding typed
typed-gives undef_too t (type, T, (o, O, same)) = subst (λ (u : WrittenTyped). IsTyped undef_too u) same (operand-fits undef_too type.of_type o O)

pub arm-gives : (of_integer : Bool) (t : WrittenTyped) → Gives (arm of_integer) t → IsArm of_integer t
unfolding arm
arm-gives false t (type, T, (o, O, same)) =
    subst (λ (u : WrittenTyped). IsArm false u) same (record { type = λ e. absurd (cc e); value = operand-fits (not (is_arm_pointer type.of_type)) type.of_type o O })
arm-gives true t (type, (w, W, is), (o, O, same)) =
    subst (λ (u : WrittenTyped). IsArm true u) same (record { type = λ e. ap (λ (y : WrittenType). is_arm_pointer y.of_type) (sym is); value = operand-fits (not (is_arm_pointer type.of_type)) type.of_type o O })

pub pointer-gives : (t : WrittenTyped) → Gives pointer t → IsPointer t
unfolding pointer
pointer-gives t (type, T, (o, O, same)) =
    let is : type.of_type ≡ Ptr = pointer-fits type T in
    let fits : FitsValue false Ptr o.value = subst (λ (other : IrType). FitsValue false other o.value) is (operand-fits false type.of_type o O) in
    subst (λ (u : WrittenTyped). IsPointer u) same (record { type = is; value = fits })
