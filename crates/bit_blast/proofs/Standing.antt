-- Bits that denote what a term names make bits that denote the term.
use Rattle.std.proofs.Common.{ℕ, zero, suc, ◌≡◌, ◌<◌, ◌+◌, ◌-◌, ◌*◌, ◌/◌, ◌%◌, ◌^◌, Bool, true, false, cond, List, [], ◌∷◌, All, get_or, length, arith, sym, subst, ap, refl, ◌∙◌}
use Rattle.std.specs.Option.{unwrap_or}
use Rattle.std.specs.List.{AllZip}
use Rattle.bv_terms.specs.declared.term.TermId.{TermId}
use Rattle.bv_terms.specs.declared.term.Term.{Term}
use Rattle.bv_terms.specs.declared.term.Term.TheVariants as term
use Rattle.bv_terms.specs.Tree as tree
use Rattle.bv_terms.specs.Tree.{Tree, binary_value, binary_width, value_of, width_of, truth, digit, extended_signed}
use Rattle.bv_terms.specs.Trees.{IsFit, IsWithin, tree_at, tree_of}
use Rattle.bv_terms.proofs.Zips.{AllZip-at}
use Rattle.gates.specs.declared.circuit.GateId.{GateId}
use Rattle.gates.specs.declared.circuit.Gate.{Gate}
use Rattle.gates.specs.Values.{gate_at}
use Rattle.gate_arith.specs.Numbers.{Writes, number_at, number_of}
use Rattle.bv_terms.specs.declared.variable.Variable.{Variable}
use Rattle.bit_blast.specs.Following.{bits_kept}
use Rattle.bit_blast.specs.Table.{Agrees, Blasted, Follows, AreDigits, IsTable}
use Rattle.bit_blast.specs.Bits.{AreBits, AreStanding}
use Rattle.bit_blast.proofs.Tables.{found_digits}
use Rattle.bit_blast.specs.Written.{AreReady, HasVariable, digits_at, digits_or_none, operands, written, written_size}

none : (P : TermId → Type 0) → All P []
none P i d lt = absurd (omega arith)

with_one : (P : TermId → Type 0) (a : TermId) (gs : List TermId) → P a → All P gs → All P (a ∷ gs)
with_one P a gs h hs zero d lt = h
with_one P a gs h hs (suc i) d lt = hs i d (omega arith)

one_of : (P : TermId → Type 0) (a : TermId) → P a → All P (a ∷ [])
one_of P a h = with_one P a [] h (none P)

two_of : (P : TermId → Type 0) (a b : TermId) → P a → P b → All P (a ∷ b ∷ [])
two_of P a b h k = with_one P a (b ∷ []) h (one_of P b k)

-- what a term names is among the earlier ones
pub operands-within : (P : TermId → Type 0) (n : ℕ) → ((a : TermId) → a.index < n → P a) → (t : Term) → IsWithin n t → All P (operands t)
operands-within P n h (term.Constant value width) w = none P
operands-within P n h (term.Variable number width) w = none P
operands-within P n h (term.Not a width) w = one_of P a (h a w.1)
operands-within P n h (term.Binary op a b width) w = two_of P a b (h a w.1) (h b w.2)
operands-within P n h (term.Ite c a b width) w = with_one P c (a ∷ b ∷ []) (h c w.3) (two_of P a b (h a w.1) (h b w.2))
operands-within P n h (term.Extract a from width) w = one_of P a (h a w.1)
operands-within P n h (term.Concat high low below width) w = two_of P high low (h high w.1) (h low w.2)
operands-within P n h (term.Zext a width) w = one_of P a (h a w.1)
operands-within P n h (term.Sext a from width) w = one_of P a (h a w.1)

three : (f : ℕ → ℕ → ℕ → ℕ) {n n' x x' y y' : ℕ} → n ≡ n' → x ≡ x' → y ≡ y' → f n x y ≡ f n' x' y'
three f e g h = cc

module _ (gates : List Gate) (table : List (Variable × List GateId)) (trees : List Tree) (done : List (List GateId)) where
  pub standing-zip : AllZip (AreBits gates table) trees done → (t : Term) → IsFit trees t → AreStanding gates table trees done t
  standing-zip stood t fit =
      operands-within (λ a. AreBits gates table (tree_at trees a) (digits_at done a)) (length trees)
      (λ a lt. AllZip-at (AreBits gates table) trees done a.index (tree.Constant 0 1) [] stood lt) t fit.within

  any : TermId
  any = record { index = 0 }

  -- the bits of a variable that has some
  known : (number width : ℕ) → HasVariable table (term.Variable number width) → IsTable gates table → AreDigits gates width (digits_or_none table number width)
  known number width h is =
      subst (λ (o : List GateId). AreDigits gates width o) (sym (ap (λ o. unwrap_or o []) h.1)) (found_digits gates table (record { number = number; width = width }) h.0 is.digits h.1)

  module _ (inputs : ℕ → Bool) (v : ℕ → ℕ → ℕ) (agrees : Agrees table inputs v) where
    written_variable : (number width : ℕ) → HasVariable table (term.Variable number width) → IsTable gates table → number_at inputs gates (digits_or_none table number width) ≡ v number width % 2 ^ width
    written_variable number width h is =
        let own = found_digits gates table (record { number = number; width = width }) h.0 is.digits h.1 in
        ap (λ o. number_at inputs gates (unwrap_or o [])) h.1 ∙ (ap number_of (own.says inputs) ∙ agrees (record { number = number; width = width }) h.0 h.1)

    pub written-is : (t : Term) → IsTable gates table → HasVariable table t → AreStanding gates table trees done t → IsFit trees t → written inputs gates table done t ≡ value_of v (tree_of trees t)
    written-is (term.Constant value width) is h s fit = refl
    written-is (term.Variable number width) is h s fit = written_variable number width h is
    written-is (term.Not a width) is h s fit =
        let p = s 0 any (omega arith) in
        three (λ n x y. 2 ^ n - 1 - x) (p.long ∙ fit.matched) (p.says inputs v agrees) (p.says inputs v agrees)
    written-is (term.Binary op a b width) is h s fit =
        let p = s 0 any (omega arith) in
        let q = s 1 any (omega arith) in
        three (λ n x y. binary_value op n x y) (p.long ∙ fit.matched.0) (p.says inputs v agrees) (q.says inputs v agrees)
    written-is (term.Ite c a b width) is h s fit =
        let r = s 0 any (omega arith) in
        let p = s 1 any (omega arith) in
        let q = s 2 any (omega arith) in
        choice (first-truth (digits_at done c) (r.long ∙ fit.matched.2) ∙ ap truth (r.says inputs v agrees)) (p.says inputs v agrees) (q.says inputs v agrees)
      where
        first-truth : (digits : List GateId) → length digits ≡ 1 → gate_at inputs gates (get_or digits 0 (record { index = 0; negated = false })) ≡ truth (number_at inputs gates digits)
        first-truth [] e = absurd (omega arith)
        first-truth (x ∷ []) e = bit (gate_at inputs gates x)
          where
            bit : (b : Bool) → b ≡ truth (digit b * 2 ^ 0 + 0)
            bit true = refl
            bit false = refl
        first-truth (x ∷ y ∷ ys) e = absurd (omega arith)

        choice : {c c' : Bool} {x x' y y' : ℕ} → c ≡ c' → x ≡ x' → y ≡ y' → cond c x y ≡ cond c' x' y'
        choice e f g = cc
    written-is (term.Extract a from width) is h s fit =
        let p = s 0 any (omega arith) in
        ap (λ x. x / 2 ^ from % 2 ^ width) (p.says inputs v agrees)
    written-is (term.Concat high low below width) is h s fit =
        let p = s 0 any (omega arith) in
        let q = s 1 any (omega arith) in
        three (λ n x y. x * 2 ^ n + y) (q.long ∙ fit.matched.0) (p.says inputs v agrees) (q.says inputs v agrees)
    written-is (term.Zext a width) is h s fit = (s 0 any (omega arith)).says inputs v agrees
    written-is (term.Sext a from width) is h s fit =
        let p = s 0 any (omega arith) in
        three (λ n x y. extended_signed n width x) (p.long ∙ fit.matched.0) (p.says inputs v agrees) (p.says inputs v agrees)

  pub size-is : (t : Term) → IsTable gates table → HasVariable table t → AreStanding gates table trees done t → IsFit trees t → written_size table done t ≡ width_of (tree_of trees t)
  size-is (term.Constant value width) is h s fit = refl
  size-is (term.Variable number width) is h s fit = (known number width h is).long
  size-is (term.Not a width) is h s fit = (s 0 any (omega arith)).long ∙ fit.matched
  size-is (term.Binary op a b width) is h s fit = ap (binary_width op) ((s 0 any (omega arith)).long ∙ fit.matched.0)
  size-is (term.Ite c a b width) is h s fit = (s 1 any (omega arith)).long ∙ fit.matched.0
  size-is (term.Extract a from width) is h s fit = refl
  size-is (term.Concat high low below width) is h s fit =
      let p = s 0 any (omega arith) in
      let q = s 1 any (omega arith) in
      omega (arith, p.long, q.long, fit.matched.0, fit.matched.1)
  size-is (term.Zext a width) is h s fit = refl
  size-is (term.Sext a from width) is h s fit = refl

  pub are_ready : (t : Term) → IsTable gates table → HasVariable table t → AreStanding gates table trees done t → IsFit trees t → AreReady gates table done t
  are_ready (term.Constant value width) is h s fit = fit.within
  are_ready (term.Variable number width) is h s fit = (known number width h is).within
  are_ready (term.Not a width) is h s fit = (s 0 any (omega arith)).within
  are_ready (term.Binary op a b width) is h s fit =
      let p = s 0 any (omega arith) in
      let q = s 1 any (omega arith) in
      (record { left = p.within; right = q.within; alike = p.long ∙ (fit.matched.0 ∙ (sym fit.matched.1 ∙ sym q.long)) }, omega (arith, p.long, fit.matched.0, fit.within.0.0), omega (arith, p.long, fit.matched.0, fit.within.0.1))
  are_ready (term.Ite c a b width) is h s fit =
      let r = s 0 any (omega arith) in
      let p = s 1 any (omega arith) in
      let q = s 2 any (omega arith) in
      (record { left = p.within; right = q.within; alike = p.long ∙ (fit.matched.0 ∙ (sym fit.matched.1 ∙ sym q.long)) }, r.within, omega (arith, r.long, fit.matched.2))
  are_ready (term.Extract a from width) is h s fit =
      let p = s 0 any (omega arith) in
      (p.within, omega (arith, p.long, fit.matched))
  are_ready (term.Concat high low below width) is h s fit = ((s 0 any (omega arith)).within, (s 1 any (omega arith)).within)
  are_ready (term.Zext a width) is h s fit =
      let p = s 0 any (omega arith) in
      (p.within, omega (arith, p.long, fit.matched))
  are_ready (term.Sext a from width) is h s fit =
      let p = s 0 any (omega arith) in
      (p.within, omega (arith, p.long, fit.matched.0, fit.matched.2), omega (arith, p.long, fit.matched.0, fit.matched.1))

  -- what is written for a term are its bits
  pub bits-written : (new : List Gate) (t : Term) (digits : List GateId) → IsTable gates table → HasVariable table t → AreStanding gates table trees done t → IsFit trees t
      → Writes new digits (written_size table done t) (λ inputs. written inputs gates table done t) → AreBits new table (tree_of trees t) digits
  bits-written new t digits is h s fit w = record {
    within = w.within;
    long = w.long ∙ size-is t is h s fit;
    says = λ inputs v agrees. w.says inputs ∙ written-is inputs v agrees t is h s fit;
  }

-- bits that denote a term do so from then on
pub standing_later : (a b : Blasted) (trees : List Tree) (done : List (List GateId)) (t : Term) → Follows a b → AreStanding a.gates a.table trees done t → AreStanding b.gates b.table trees done t
standing_later a b trees done t f h i d lt = bits_kept a b (tree_at trees (get_or (operands t) i d)) (digits_at done (get_or (operands t) i d)) f (h i d lt)

-- what a term needs is there once its variable has bits
pub later-ready : (a b : Blasted) (trees : List Tree) (done : List (List GateId)) (t : Term) → Follows a b → IsTable b.gates b.table → HasVariable b.table t → AreStanding a.gates a.table trees done t → IsFit trees t
    → AreReady b.gates b.table done t
later-ready a b trees done t f is h s fit = are_ready b.gates b.table trees done t is h (standing_later a b trees done t f s) fit

pub later-written : (a b : Blasted) (trees : List Tree) (done : List (List GateId)) (new : List Gate) (t : Term) (digits : List GateId) → Follows a b → IsTable b.gates b.table → HasVariable b.table t
    → AreStanding a.gates a.table trees done t → IsFit trees t → Writes new digits (written_size b.table done t) (λ inputs. written inputs b.gates b.table done t) → AreBits new b.table (tree_of trees t) digits
later-written a b trees done new t digits f is h s fit w = bits-written b.gates b.table trees done new t digits is h (standing_later a b trees done t f s) fit w
