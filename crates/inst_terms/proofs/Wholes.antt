-- The results of the public calls denote what the table gives.
use Rattle.inst_terms.proofs.Common.{ℕ, zero, suc, ◌≡◌, ◌<◌, ◌/◌, ◌%◌, ◌^◌, Bool, true, false, cond, ◌||◌, nat_eq, nat_le, nat_lt, not, List, inl, inr, refl, ap, sym, subst, ◌∙◌, arith, cases_lt, lt-ltb, le-ltb, lt-leb, le-leb, eq-eqb, ne_eqb, if◌then◌else◌, Op, Value, Num, TermId, Term, truth, Keeps, IsTerm, Makes, Tests, term_at, bit_at, is_undefined, value_result, are_unlike, holds_of, compared, cast_number, cast_value, selected, IsSymNumber, IsSymValue, Reading, number_at, value_at, value_from, value_of, option_from, bit-later, term-later, value-later, keeps_self, keeps_trans, NarrowValue, IsNarrow, narrow_at, IsRow, row_of}
use Rattle.ir_tree.specs.declared.tree.Cast.{Cast}
use Rattle.ir_tree.specs.declared.tree.Predicate.{Predicate}
use Rattle.byte_block.specs.declared.value.BlockName.{BlockName}
use Rattle.points.specs.Table as table
use Rattle.mem_terms.specs.declared.integers.SymNumber.{SymNumber}
use Rattle.mem_terms.specs.declared.values.SymValue.{SymValue}
use Rattle.inst_terms.proofs.Rows.{binary_is, from_is-if}

-- ---- two operands at their width

-- the terms of two operands that were made one after the other, at a later list
record AreOperands (old new : List Term) (n : ℕ) (left right : SymNumber) (a b : NarrowValue) : Type 0 where
  first_poison : (v : ℕ → ℕ → ℕ) → bit_at v new a.poison ≡ bit_at v old left.poison
  first_number : (v : ℕ → ℕ → ℕ) → term_at v new a.number ≡ term_at v old left.number % 2 ^ n
  second_poison : (v : ℕ → ℕ → ℕ) → bit_at v new b.poison ≡ bit_at v old right.poison
  second_number : (v : ℕ → ℕ → ℕ) → term_at v new b.number ≡ term_at v old right.number % 2 ^ n

-- ... which are in the lists old, g1, g2 and the later one
operands-later : (old g1 g2 new : List Term) (n : ℕ) (left right : SymNumber) (a b : NarrowValue) → IsSymNumber old left → IsSymNumber old right
    → Keeps old g1 → a.poison ≡ left.poison → Makes g1 a.number n (λ v. term_at v old left.number % 2 ^ n)
    → Keeps g1 g2 → b.poison ≡ right.poison → Makes g2 b.number n (λ v. term_at v g1 right.number % 2 ^ n)
    → Keeps g2 new → AreOperands old new n left right a b
operands-later old g1 g2 new n left right a b hl hr k1 ea ma k2 eb mb k3 =
    let k13 = keeps_trans g1 g2 new k2 k3 in
    let k03 = keeps_trans old g1 new k1 k13 in
    record {
      first_poison = λ v. ap (bit_at v new) ea ∙ bit-later old new k03 v left.poison hl.poison.within;
      first_number = λ v. term-later g1 new k13 v a.number ma.within ∙ ma.says v;
      second_poison = λ v. ap (bit_at v new) eb ∙ bit-later old new k03 v right.poison hr.poison.within;
      second_number = λ v. term-later g2 new k3 v b.number mb.within ∙ (mb.says v ∙ ap (λ k. k % 2 ^ n) (term-later old g1 k1 v right.number hr.number.within));
    }

two : {p p' q q' : Bool} → p ≡ p' → q ≡ q' → (p || q) ≡ (p' || q')
two e f = cc

pub binary-stands : (old g1 g2 g3 g4 g5 g6 g7 : List Term) (op : Op) (n : ℕ) (left right : SymNumber) (a b row : NarrowValue) (undefined operands poison : TermId) (value : SymNumber) → IsSymNumber old left → IsSymNumber old right
    → Keeps old g1 → a.poison ≡ left.poison → Makes g1 a.number n (λ v. term_at v old left.number % 2 ^ n)
    → Keeps g1 g2 → b.poison ≡ right.poison → Makes g2 b.number n (λ v. term_at v g1 right.number % 2 ^ n)
    → Keeps g2 g3 → Tests g3 undefined (λ v. is_undefined op n (narrow_at v g2 a) (narrow_at v g2 b))
    → Keeps g3 g4 → Tests g4 operands (λ v. bit_at v g3 a.poison || bit_at v g3 b.poison)
    → Keeps g4 g5 → IsNarrow g5 n row → IsRow g4 g5 op operands n a.number b.number row
    → Keeps g5 g6 → Tests g6 poison (λ v. bit_at v g5 operands || bit_at v g5 row.poison)
    → Keeps g6 g7 → ((v : ℕ → ℕ → ℕ) → number_at v g7 value ≡ narrow_at v g6 (record { poison = poison; number = row.number }))
    → (v : ℕ → ℕ → ℕ) → option_from (bit_at v g7 undefined) (number_at v g7 value) ≡ value_result op n (number_at v old left) (number_at v old right)
unfolding number_at
binary-stands old g1 g2 g3 g4 g5 g6 g7 op n left right a b row undefined operands poison value hl hr k1 ea ma k2 eb mb k3 tu k4 to k5 hw is k6 tp k7 sv v =
    let k22 = keeps_self g2 in
    let o2 = operands-later old g1 g2 g2 n left right a b hl hr k1 ea ma k2 eb mb k22 in
    let o3 = operands-later old g1 g2 g3 n left right a b hl hr k1 ea ma k2 eb mb k3 in
    let k24 = keeps_trans g2 g3 g4 k3 k4 in
    let o4 = operands-later old g1 g2 g4 n left right a b hl hr k1 ea ma k2 eb mb k24 in
    let k37 = keeps_trans g3 g4 g7 k4 (keeps_trans g4 g5 g7 k5 (keeps_trans g5 g6 g7 k6 k7)) in
    let p = bit_at v old left.poison in
    let q = bit_at v old right.poison in
    let x = term_at v old left.number in
    let y = term_at v old right.number in
    let first : narrow_at v g2 a ≡ value_from p (x % 2 ^ n) = ap (λ t. value_from t (term_at v g2 a.number)) (o2.first_poison v) ∙ ap (value_from p) (o2.first_number v) in
    let second : narrow_at v g2 b ≡ value_from q (y % 2 ^ n) = ap (λ t. value_from t (term_at v g2 b.number)) (o2.second_poison v) ∙ ap (value_from q) (o2.second_number v) in
    let never : bit_at v g7 undefined ≡ is_undefined op n (value_from p (x % 2 ^ n)) (value_from q (y % 2 ^ n)) =
    bit-later g3 g7 k37 v undefined tu.within ∙ (tu.says v ∙ (ap (λ z. is_undefined op n z (narrow_at v g2 b)) first ∙ ap (is_undefined op n (value_from p (x % 2 ^ n))) second)) in
    let either : bit_at v g4 operands ≡ (p || q) = to.says v ∙ two (o3.first_poison v) (o3.second_poison v) in
    let stands : (p || q) ≡ false → is_undefined op n (Num (x % 2 ^ n)) (Num (y % 2 ^ n)) ≡ false → narrow_at v g5 row ≡ row_of op n (x % 2 ^ n) (y % 2 ^ n) = λ d.
    subst (λ j. is_undefined op n (Num (x % 2 ^ n)) (Num j) ≡ false → narrow_at v g5 row ≡ row_of op n (x % 2 ^ n) j) (o4.second_number v)
    (subst (λ i. is_undefined op n (Num i) (Num (term_at v g4 b.number)) ≡ false → narrow_at v g5 row ≡ row_of op n i (term_at v g4 b.number)) (o4.first_number v) (is v (either ∙ d))) in
    let any : bit_at v g6 poison ≡ ((p || q) || bit_at v g5 row.poison) = tp.says v ∙ ap (λ t. t || bit_at v g5 row.poison) (bit-later g4 g5 k5 v operands to.within ∙ either) in
    let whole : narrow_at v g6 (record { poison = poison; number = row.number }) ≡ value_from ((p || q) || bit_at v g5 row.poison) (term_at v g5 row.number) =
    ap (λ t. value_from t (term_at v g6 row.number)) any ∙ ap (value_from ((p || q) || bit_at v g5 row.poison)) (term-later g5 g6 k6 v row.number hw.number.within) in
    ap (option_from (bit_at v g7 undefined)) (sv v ∙ whole)
    ∙ binary_is op n p q (bit_at v g7 undefined) (bit_at v g5 row.poison) x y (term_at v g5 row.number) never stands

-- ---- comparisons

-- equality and order come from the two strict orders
equal-is : (m n : ℕ) → nat_eq m n ≡ not (nat_lt m n || nat_lt n m)
equal-is m n = elim (cases_lt m n) as (λ _. nat_eq m n ≡ not (nat_lt m n || nat_lt n m)) [
  | inl less ↦ rw (lt-ltb m n less) (ne_eqb m n (λ e. omega (arith, less, e)))
  | inr more ↦ elim (cases_lt n m) as (λ _. nat_eq m n ≡ not (nat_lt m n || nat_lt n m)) [
    | inl less ↦ rw (le-ltb m n more) (rw (lt-ltb n m less) (ne_eqb m n (λ e. omega (arith, less, e))))
    | inr least ↦ rw (le-ltb m n more) (rw (le-ltb n m least) (eq-eqb m n (omega (arith, more, least))))
  ]
]

at_most-is : (m n : ℕ) → nat_le m n ≡ not (nat_lt n m)
at_most-is m n = elim (cases_lt n m) as (λ _. nat_le m n ≡ not (nat_lt n m)) [
  | inl less ↦ rw (lt-ltb n m less) (lt-leb m n less)
  | inr more ↦ rw (le-ltb n m more) (le-leb m n more)
]

pub equal-by-order : (x y a b : ℕ) → nat_lt x y ≡ nat_lt a b → nat_lt y x ≡ nat_lt b a → nat_eq x y ≡ nat_eq a b
equal-by-order x y a b e f = equal-is x y ∙ (two-turned e f ∙ sym (equal-is a b))
  where
    two-turned : {p p' q q' : Bool} → p ≡ p' → q ≡ q' → not (p || q) ≡ not (p' || q')
    two-turned e f = cc

pub at_most-by-order : (x y a b : ℕ) → nat_lt y x ≡ nat_lt b a → nat_le x y ≡ nat_le a b
at_most-by-order x y a b e = at_most-is x y ∙ (ap not e ∙ sym (at_most-is a b))

compare_is : (predicate : Predicate) (same_sign : Bool) (n : ℕ) (p q test : Bool) (x y : ℕ) → ((p || q) ≡ false → test ≡ holds_of predicate n (x % 2 ^ n) (y % 2 ^ n))
    → value_from ((p || q) || are_unlike same_sign n (x % 2 ^ n) (y % 2 ^ n)) (table.truth test) ≡ compared predicate same_sign n (value_from p x) (value_from q y)
compare_is predicate same_sign n true q test x y h = refl
compare_is predicate same_sign n false true test x y h = refl
compare_is predicate same_sign n false false test x y h =
    ap (λ t. value_from (are_unlike same_sign n (x % 2 ^ n) (y % 2 ^ n)) (table.truth t)) (h refl) ∙ from_is-if (are_unlike same_sign n (x % 2 ^ n) (y % 2 ^ n)) (table.truth (holds_of predicate n (x % 2 ^ n) (y % 2 ^ n)))

pub compare-stands : (old g1 g2 g3 g4 g5 g6 g7 : List Term) (predicate : Predicate) (same_sign : Bool) (n : ℕ) (left right : SymNumber) (a b : NarrowValue) (unlike operands test poison : TermId) (value : SymNumber) → IsSymNumber old left → IsSymNumber old right
    → Keeps old g1 → a.poison ≡ left.poison → Makes g1 a.number n (λ v. term_at v old left.number % 2 ^ n)
    → Keeps g1 g2 → b.poison ≡ right.poison → Makes g2 b.number n (λ v. term_at v g1 right.number % 2 ^ n)
    → Keeps g2 g3 → Tests g3 unlike (λ v. are_unlike same_sign n (term_at v g2 a.number) (term_at v g2 b.number))
    → Keeps g3 g4 → Tests g4 operands (λ v. bit_at v g3 a.poison || bit_at v g3 b.poison)
    → Keeps g4 g5 → IsTerm g5 1 test → ((v : ℕ → ℕ → ℕ) → bit_at v g4 operands ≡ false → bit_at v g5 test ≡ holds_of predicate n (term_at v g4 a.number) (term_at v g4 b.number))
    → Keeps g5 g6 → Tests g6 poison (λ v. bit_at v g5 operands || bit_at v g5 unlike)
    → ((v : ℕ → ℕ → ℕ) → number_at v g7 value ≡ value_from (bit_at v g6 poison) (table.truth (bit_at v g6 test)))
    → (v : ℕ → ℕ → ℕ) → number_at v g7 value ≡ compared predicate same_sign n (number_at v old left) (number_at v old right)
unfolding number_at
compare-stands old g1 g2 g3 g4 g5 g6 g7 predicate same_sign n left right a b unlike operands test poison value hl hr k1 ea ma k2 eb mb k3 tu k4 to k5 it tt k6 tp sv v =
    let o2 = operands-later old g1 g2 g2 n left right a b hl hr k1 ea ma k2 eb mb (keeps_self g2) in
    let o3 = operands-later old g1 g2 g3 n left right a b hl hr k1 ea ma k2 eb mb k3 in
    let o4 = operands-later old g1 g2 g4 n left right a b hl hr k1 ea ma k2 eb mb (keeps_trans g2 g3 g4 k3 k4) in
    let p = bit_at v old left.poison in
    let q = bit_at v old right.poison in
    let x = term_at v old left.number in
    let y = term_at v old right.number in
    let either : bit_at v g4 operands ≡ (p || q) = to.says v ∙ two (o3.first_poison v) (o3.second_poison v) in
    let holds : (p || q) ≡ false → bit_at v g6 test ≡ holds_of predicate n (x % 2 ^ n) (y % 2 ^ n) = λ e.
    bit-later g5 g6 k6 v test it.within ∙ (tt v (either ∙ e)
    ∙ (ap (λ k. holds_of predicate n k (term_at v g4 b.number)) (o4.first_number v) ∙ ap (holds_of predicate n (x % 2 ^ n)) (o4.second_number v))) in
    let own : bit_at v g5 unlike ≡ are_unlike same_sign n (x % 2 ^ n) (y % 2 ^ n) =
    bit-later g3 g5 (keeps_trans g3 g4 g5 k4 k5) v unlike tu.within ∙ (tu.says v ∙ (ap (λ k. are_unlike same_sign n k (term_at v g2 b.number)) (o2.first_number v) ∙ ap (are_unlike same_sign n (x % 2 ^ n)) (o2.second_number v))) in
    let any : bit_at v g6 poison ≡ ((p || q) || are_unlike same_sign n (x % 2 ^ n) (y % 2 ^ n)) = tp.says v ∙ two (bit-later g4 g5 k5 v operands to.within ∙ either) own in
    sv v ∙ (ap (λ t. value_from t (table.truth (bit_at v g6 test))) any ∙ compare_is predicate same_sign n p q (bit_at v g6 test) x y holds)

-- ---- casts

cast_is : (cast : Cast) (from to : ℕ) (p r : Bool) (x z : ℕ) → value_from r z ≡ cast_number cast from to (x % 2 ^ from) → value_from (p || r) z ≡ cast_value cast from to (value_from p x)
cast_is cast from to true r x z e = refl
cast_is cast from to false r x z e = e

pub cast-stands : (old g1 g2 g3 g4 : List Term) (cast : Cast) (from to : ℕ) (operand : SymNumber) (a row : NarrowValue) (poison : TermId) (value : SymNumber) → IsSymNumber old operand
    → Keeps old g1 → a.poison ≡ operand.poison → Makes g1 a.number from (λ v. term_at v old operand.number % 2 ^ from)
    → Keeps g1 g2 → IsNarrow g2 to row → ((v : ℕ → ℕ → ℕ) → narrow_at v g2 row ≡ cast_number cast from to (term_at v g1 a.number))
    → Keeps g2 g3 → Tests g3 poison (λ v. bit_at v g2 a.poison || bit_at v g2 row.poison)
    → ((v : ℕ → ℕ → ℕ) → number_at v g4 value ≡ narrow_at v g3 (record { poison = poison; number = row.number }))
    → (v : ℕ → ℕ → ℕ) → number_at v g4 value ≡ cast_value cast from to (number_at v old operand)
unfolding number_at
cast-stands old g1 g2 g3 g4 cast from to operand a row poison value ho k1 ea ma k2 hw is k3 tp sv v =
    let p = bit_at v old operand.poison in
    let x = term_at v old operand.number in
    let operand_poison : bit_at v g2 a.poison ≡ p = ap (bit_at v g2) ea ∙ bit-later old g2 (keeps_trans old g1 g2 k1 k2) v operand.poison ho.poison.within in
    let any : bit_at v g3 poison ≡ (p || bit_at v g2 row.poison) = tp.says v ∙ ap (λ t. t || bit_at v g2 row.poison) operand_poison in
    let whole : narrow_at v g3 (record { poison = poison; number = row.number }) ≡ value_from (p || bit_at v g2 row.poison) (term_at v g2 row.number) =
    ap (λ t. value_from t (term_at v g3 row.number)) any ∙ ap (value_from (p || bit_at v g2 row.poison)) (term-later g2 g3 k3 v row.number hw.number.within) in
    let stands : narrow_at v g2 row ≡ cast_number cast from to (x % 2 ^ from) = is v ∙ ap (cast_number cast from to) (ma.says v) in
    sv v ∙ (whole ∙ cast_is cast from to p (bit_at v g2 row.poison) x (term_at v g2 row.number) stands)

-- ---- selections

lowest-of : (r : ℕ) → r < 2 → truth r ≡ nat_eq r 1
lowest-of zero lt = refl
lowest-of (suc zero) lt = refl
lowest-of (suc (suc r)) lt = absurd (omega (arith, lt))

lowest : (x : ℕ) → truth (x / 2 ^ 0 % 2 ^ 1) ≡ nat_eq (x % 2) 1
lowest x = let e : x / 2 ^ 0 ≡ x = omega arith in let below : x % 2 < 2 = omega arith in ap (λ k. truth (k % 2 ^ 1)) e ∙ lowest-of (x % 2) below

select_is : (p q i : Bool) (block : BlockName) (x z : ℕ) (c : Bool) (t f : Value) → c ≡ nat_eq (x % 2) 1 → value_of q i block z ≡ cond c t f → value_of (p || q) i block z ≡ selected (value_from p x) t f
select_is true q i block x z c t f e h = refl
select_is false q i block x z c t f e h = h ∙ (ap (λ b. cond b t f) e ∙ choice (nat_eq (x % 2) 1) t f)
  where
    choice : (b : Bool) (t f : Value) → cond b t f ≡ (if b then t else f)
    choice true t f = refl
    choice false t f = refl

-- the chosen value, and poison where the condition is
guarded-is : (old g2 g3 : List Term) (condition : SymNumber) (chosen : SymValue) (poison : TermId) → IsSymNumber old condition → IsSymValue g2 chosen → Keeps old g2 → Keeps g2 g3
    → Tests g3 poison (λ v. bit_at v g2 condition.poison || bit_at v g2 chosen.poison)
    → (r : Reading) (c : Bool) (t f : Value) → c ≡ nat_eq (term_at r.v old condition.number % 2) 1 → value_at r g2 chosen ≡ cond c t f
    → value_at r g3 (record { poison = poison; is_pointer = chosen.is_pointer; block = chosen.block; number = chosen.number }) ≡ selected (number_at r.v old condition) t f
unfolding value_at number_at
guarded-is old g2 g3 condition chosen poison hc hh k02 k3 tp r c t f e h =
    rw (tp.says r.v, bit-later old g2 k02 r.v condition.poison hc.poison.within, bit-later g2 g3 k3 r.v chosen.is_pointer hh.is_pointer.within, term-later g2 g3 k3 r.v chosen.block hh.block.within, term-later g2 g3 k3 r.v chosen.number hh.number.within)
    (select_is (bit_at r.v old condition.poison) (bit_at r.v g2 chosen.poison) (bit_at r.v g2 chosen.is_pointer) (r.name (term_at r.v g2 chosen.block)) (term_at r.v old condition.number) (term_at r.v g2 chosen.number) c t f e h)

pub select-stands : (old g1 g2 g3 : List Term) (condition : SymNumber) (if_true if_false chosen : SymValue) (low poison : TermId) → IsSymNumber old condition → IsSymValue old if_true → IsSymValue old if_false
    → Keeps old g1 → Makes g1 low 1 (λ v. term_at v old condition.number / 2 ^ 0 % 2 ^ 1)
    → Keeps g1 g2 → IsSymValue g2 chosen → ((r : Reading) → value_at r g2 chosen ≡ cond (bit_at r.v g1 low) (value_at r g1 if_true) (value_at r g1 if_false))
    → Keeps g2 g3 → Tests g3 poison (λ v. bit_at v g2 condition.poison || bit_at v g2 chosen.poison)
    → (r : Reading) → value_at r g3 (record { poison = poison; is_pointer = chosen.is_pointer; block = chosen.block; number = chosen.number }) ≡ selected (number_at r.v old condition) (value_at r old if_true) (value_at r old if_false)
select-stands old g1 g2 g3 condition if_true if_false chosen low poison hc ht hf k1 ml k2 hh sv k3 tp r =
    let bit : bit_at r.v g1 low ≡ nat_eq (term_at r.v old condition.number % 2) 1 = ap truth (ml.says r.v) ∙ lowest (term_at r.v old condition.number) in
    let stands : value_at r g2 chosen ≡ cond (bit_at r.v g1 low) (value_at r old if_true) (value_at r old if_false) =
    sv r ∙ rw (value-later old g1 k1 r if_true ht, value-later old g1 k1 r if_false hf) refl in
    guarded-is old g2 g3 condition chosen poison hc hh (keeps_trans old g1 g2 k1 k2) k3 tp r (bit_at r.v g1 low) (value_at r old if_true) (value_at r old if_false) bit stands
