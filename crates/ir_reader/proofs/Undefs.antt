-- No division has undef for an operand, and a select that has one is between integers: as it is spelled, as it is
-- numbered, and, since its arms have the same type, of a function whose types are right.
use Rattle.ir_reader.proofs.Common.{◌≡◌, ◌∙◌, ◌⊎◌, inl, inr, ℕ, Bool, true, false, cond, List, Option, Some, None, refl, sym, ap, subst, ◌&&◌, ◌||◌, not, bytes_eq, codes, Lexeme, Kind, Name, IrType, Int, Ptr, Inst, Spells, WrittenType, number_of, truth_value, operand_at, operand_class, one, arm, so, value_in, typed_in, then-so}
use Rattle.ir_lexer.specs.declared.token.Kind.TheVariants as kind
use Rattle.ir_items.specs.Names.{name_in}
use Rattle.ir_words.specs.Numbers.{is_negative, magnitude, wrapped}
use Rattle.ir_words.specs.Spelling.{value_in as spelled_in, local_value, number_value, literal_of, word_of_type}
use Rattle.ir_words.specs.declared.written.WrittenValue.{WrittenValue}
use Rattle.ir_words.specs.declared.written.WrittenValue.TheVariants as written
use Rattle.ir_words.specs.declared.written.WrittenOperand.{WrittenOperand}
use Rattle.ir_words.specs.declared.written.WrittenTyped.{WrittenTyped}
use Rattle.ir_tree.specs.declared.tree.Operand.{Operand}
use Rattle.ir_tree.specs.declared.tree.Operand.TheVariants as operand
use Rattle.ir_tree.specs.declared.tree.TypedOperand.{TypedOperand}
use Rattle.ir_tree.specs.declared.tree.Inst.TheVariants as inst
use Rattle.ir_tree.specs.declared.tree.Op.{Op}
use Rattle.tv_num.specs.declared.Width.{Width}
use Rattle.ir_tree.specs.Carrying.{is_division, is_pointer}
use Rattle.ir_tree.specs.Sites.{is_same_type}
use Rattle.ir_grammar.specs.Instructions.{is_undef as is_undef_written}
use Rattle.undef_uses.specs.Undefs.{is_undef, divides_undef, HasIntegerUndefs}

-- ---- what is written

-- an arm of a select is an integer where it has to be one, and where it is undef
abbrev IsWrittenArm : Bool → WrittenTyped → Type 0
IsWrittenArm of_integer t = (of_integer || is_undef_written t.operand.value) ≡ true → is_pointer t.of_type.of_type ≡ false

-- what HasIntegerArms says, of the parts of a select that is written
abbrev pub HasWrittenArms : WrittenOperand → WrittenTyped → WrittenTyped → Type 0
HasWrittenArms condition if_true if_false = IsWrittenArm (is_undef_written condition.value) if_true × IsWrittenArm (is_undef_written condition.value) if_false

-- what divides_undef says, of the operands of an operation that is written
abbrev pub divides_written : Op → WrittenOperand → WrittenOperand → Bool
divides_written op left right = is_division op && (is_undef_written left.value || is_undef_written right.value)

-- ---- what is spelled: undef is an operand only where the grammar takes it

local-defined : (m : Option Name) (v : WrittenValue) → local_value m ≡ Some v → is_undef_written v ≡ false
local-defined None v e = absurd (cc e)
local-defined (Some name) v e = let same : written.Local name ≡ v = cc e in ap is_undef_written (sym same)

number-defined : (type : IrType) (text : List ℕ) (v : WrittenValue) → number_value type text ≡ Some v → is_undef_written v ≡ false
number-defined (Int width) text v e = let same : written.Literal (wrapped width.bits (is_negative text) (magnitude text)) ≡ v = cc e in ap is_undef_written (sym same)
number-defined Ptr text v e = absurd (cc e)

literal-defined : (m : Option ℕ) (v : WrittenValue) → literal_of m ≡ Some v → is_undef_written v ≡ false
literal-defined None v e = absurd (cc e)
literal-defined (Some number) v e = let same : written.Literal number ≡ v = cc e in ap is_undef_written (sym same)

null-defined : (b : Bool) (v : WrittenValue) → cond b (Some written.Null) None ≡ Some v → is_undef_written v ≡ false
null-defined true v e = let same : written.Null ≡ v = cc e in ap is_undef_written (sym same)
null-defined false v e = absurd (cc e)

word-defined : (type : IrType) (text : List ℕ) (v : WrittenValue) → word_of_type type text ≡ Some v → is_undef_written v ≡ false
word-defined (Int width) text v e = literal-defined (truth_value width.bits text) v e
word-defined Ptr text v e = null-defined (bytes_eq text (codes "null")) v e

true-or-false : (b : Bool) {P : Type 0} → b ≡ false → b ≡ true → P
true-or-false b e h = absurd (cc (e, h))

word-taken : (undef_too poison undef : Bool) (type : IrType) (text : List ℕ) (v : WrittenValue)
    → cond poison (Some written.Poison) (cond (undef_too && undef) (Some written.Undef) (word_of_type type text)) ≡ Some v → is_undef_written v ≡ true → undef_too ≡ true
word-taken true poison undef type text v e h = refl
word-taken false true undef type text v e h = let same : written.Poison ≡ v = cc e in true-or-false (is_undef_written v) (ap is_undef_written (sym same)) h
word-taken false false undef type text v e h = true-or-false (is_undef_written v) (word-defined type text v e) h

value-taken : (undef_too : Bool) (type : IrType) (k : Kind) (text : List ℕ) (v : WrittenValue) → spelled_in undef_too type k text ≡ Some v → is_undef_written v ≡ true → undef_too ≡ true
value-taken undef_too type kind.Local text v e h = true-or-false (is_undef_written v) (local-defined (name_in kind.Local text) v e) h
value-taken undef_too type kind.Number text v e h = true-or-false (is_undef_written v) (number-defined type text v e) h
value-taken undef_too type kind.Word text v e h = word-taken undef_too (bytes_eq text (codes "poison")) (bytes_eq text (codes "undef")) type text v e h
value-taken undef_too type _ text v e h = absurd (cc e)

operand-taken : (undef_too : Bool) (type : IrType) (x : WrittenOperand) (ts rest : List Lexeme) → Spells true (one (operand_class undef_too type)) x ts rest → is_undef_written x.value ≡ true → undef_too ≡ true
operand-taken undef_too type x ts rest T h = go (spelled_in undef_too type T.first.kind T.first.text) refl T.stands_for
  where
    go : (m : Option WrittenValue) → spelled_in undef_too type T.first.kind T.first.text ≡ m → operand_at m T.first.place ≡ Some x → undef_too ≡ true
    go None is e = absurd (cc e)
    go (Some v) is e =
        let same : (let y : WrittenOperand = record { value = v; at = T.first.place } in y) ≡ x = cc e in
        value-taken undef_too type T.first.kind T.first.text v is (subst (λ (y : WrittenOperand). is_undef_written y.value ≡ true) (sym same) h)

no-pointer : (b : Bool) → not b ≡ true → b ≡ false
no-pointer true e = absurd (cc e)
no-pointer false e = refl

pub arm-spelled : (of_integer : Bool) (x : WrittenTyped) (ts rest : List Lexeme) → Spells true (arm of_integer) x ts rest → IsWrittenArm of_integer x
unfolding arm
arm-spelled false x ts rest (type, mid, T, (value, m2, V, (same, left))) =
    subst (λ (y : WrittenTyped). IsWrittenArm false y) same (λ undef. no-pointer (is_pointer type.of_type) (operand-taken (not (is_pointer type.of_type)) type.of_type value mid m2 V undef))
arm-spelled true x ts rest (type, mid, (width, m1, W, (is, left1)), (value, m2, V, (same, left))) =
    subst (λ (y : WrittenTyped). IsWrittenArm true y) same (λ undef. ap (λ (y : WrittenType). is_pointer y.of_type) (sym is))

-- an operation without undef where it divides
neither : (d a b : Bool) → (a ≡ true → not d ≡ true) → (b ≡ true → not d ≡ true) → (d && (a || b)) ≡ false
neither false a b p q = refl
neither true false false p q = refl
neither true true b p q = absurd (cc (p refl))
neither true false true p q = absurd (cc (q refl))

pub binary-spelled : (op : Op) (type : IrType) (left right : WrittenOperand) (t1 t2 r1 r2 : List Lexeme)
    → Spells true (one (operand_class (not (is_division op)) type)) left t1 r1 → Spells true (one (operand_class (not (is_division op)) type)) right t2 r2 → divides_written op left right ≡ false
binary-spelled op type left right t1 t2 r1 r2 L R =
    neither (is_division op) (is_undef_written left.value) (is_undef_written right.value)
    (operand-taken (not (is_division op)) type left t1 r1 L)
    (operand-taken (not (is_division op)) type right t2 r2 R)

-- ---- what is numbered

value-numbered : (names : List Name) (v : WrittenValue) (o : Operand) (after : List Name) → value_in names v ≡ so o after → is_undef o ≡ is_undef_written v
value-numbered names (written.Local name) o after e = let is : operand.Local (number_of names name) ≡ o = cc e in ap is_undef (sym is)
value-numbered names (written.Literal number) o after e = let is : operand.Number number ≡ o = cc e in ap is_undef (sym is)
value-numbered names written.Null o after e = let is : operand.Null ≡ o = cc e in ap is_undef (sym is)
value-numbered names written.Poison o after e = let is : operand.Poison ≡ o = cc e in ap is_undef (sym is)
value-numbered names written.Undef o after e = let is : operand.Undef ≡ o = cc e in ap is_undef (sym is)

pub binary-numbered : (into : ℕ) (op : Op) (width : Width) (names n1 n2 : List Name) (left right : WrittenOperand) (l r : Operand)
    → value_in names left.value ≡ so l n1 → value_in n1 right.value ≡ so r n2 → divides_written op left right ≡ false → divides_undef (inst.Binary into op width l r) ≡ false
binary-numbered into op width names n1 n2 left right l r L R none =
    let first = value-numbered names left.value l n1 L in
    let second = value-numbered n1 right.value r n2 R in
    rw (first, second) none

record IsTypedOf (t : WrittenTyped) (o : TypedOperand) : Type 0 where
  undef : is_undef o.operand ≡ is_undef_written t.operand.value
  type : o.of_type ≡ t.of_type.of_type

typed-numbered : (names : List Name) (t : WrittenTyped) (o : TypedOperand) (after : List Name) → typed_in names t ≡ so o after → IsTypedOf t o
unfolding typed_in
typed-numbered names t o after e =
    let V = then-so (value_in names t.operand.value) _ o after e in
    let is : (let y : TypedOperand = record { of_type = t.of_type.of_type; operand = V.value } in y) ≡ o = cc V.later in
    subst (λ (y : TypedOperand). IsTypedOf t y) is (record { undef = value-numbered names t.operand.value V.value V.mid V.first; type = refl })

-- the same of an arm that is numbered
abbrev IsIntegerArm : Bool → TypedOperand → Type 0
IsIntegerArm of_integer t = (of_integer || is_undef t.operand) ≡ true → is_pointer t.of_type ≡ false

-- both arms of a select are integers where the condition is undef, and each where it is undef itself
abbrev HasIntegerArms : Inst → Type 0
HasIntegerArms (inst.Select into condition if_true if_false) = IsIntegerArm (is_undef condition) if_true × IsIntegerArm (is_undef condition) if_false
HasIntegerArms _ = Unit {0}

-- where undef is an operand as far as the grammar says
abbrev pub FitsArms : Inst → Type 0
FitsArms i = (divides_undef i ≡ false) × HasIntegerArms i

arm-numbered : (a b : Bool) (t : WrittenTyped) (o : TypedOperand) → a ≡ b → IsTypedOf t o → IsWrittenArm b t → IsIntegerArm a o
arm-numbered a b t o same is arm undef = let integer = arm (rw (same, is.undef) at undef) in ap is_pointer is.type ∙ integer

pub select-numbered : (into : ℕ) (names n1 n2 n3 : List Name) (condition : WrittenOperand) (if_true if_false : WrittenTyped) (c : Operand) (t f : TypedOperand)
    → value_in names condition.value ≡ so c n1 → typed_in n1 if_true ≡ so t n2 → typed_in n2 if_false ≡ so f n3
    → HasWrittenArms condition if_true if_false → HasIntegerArms (inst.Select into c t f)
select-numbered into names n1 n2 n3 condition if_true if_false c t f C T F arms =
    let undef : is_undef c ≡ is_undef_written condition.value = value-numbered names condition.value c n1 C in (
      arm-numbered (is_undef c) (is_undef_written condition.value) if_true t undef (typed-numbered n1 if_true t n2 T) arms.0,
      arm-numbered (is_undef c) (is_undef_written condition.value) if_false f undef (typed-numbered n2 if_false f n3 F) arms.1,
    )

-- ---- with the types of the arms

both-pointers : (a b : IrType) → is_same_type a b ≡ true → is_pointer a ≡ is_pointer b
both-pointers (Int v) (Int w) e = refl
both-pointers Ptr Ptr e = refl
both-pointers (Int v) Ptr e = absurd (cc e)
both-pointers Ptr (Int w) e = absurd (cc e)

one-of : (a b c : Bool) → (a || (b || (c || false))) ≡ true → (a ≡ true) ⊎ ((b ≡ true) ⊎ (c ≡ true))
one-of true b c e = inl refl
one-of false true c e = inr (inl refl)
one-of false false true e = inr (inr refl)
one-of false false false e = absurd (cc e)

either-true : (a b : Bool) → b ≡ true → (a || b) ≡ true
either-true true b e = refl
either-true false b e = e

-- the arms of a select have the same type, so both are integers where one of its operands is undef
pub select-integers : (into : ℕ) (c : Operand) (t f : TypedOperand) → is_same_type t.of_type f.of_type ≡ true → HasIntegerArms (inst.Select into c t f) → HasIntegerUndefs (inst.Select into c t f)
select-integers into c t f e (first, second) some =
    let same : is_pointer t.of_type ≡ is_pointer f.of_type = both-pointers t.of_type f.of_type e in
    elim (one-of (is_undef c) (is_undef t.operand) (is_undef f.operand) some) [
      | inl here ↦ (first (ap (λ b. b || is_undef t.operand) here), second (ap (λ b. b || is_undef f.operand) here))
      | inr (inl here) ↦ (let integer = first (either-true (is_undef c) (is_undef t.operand) here) in (integer, sym same ∙ integer))
      | inr (inr here) ↦ (let integer = second (either-true (is_undef c) (is_undef f.operand) here) in (same ∙ integer, integer))
    ]
