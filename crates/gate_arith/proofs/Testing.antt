-- Tests of numbers by gates.
use Rattle.gate_arith.proofs.Common.{ℕ, zero, suc, ◌≡◌, ◌<◌, ◌≤◌, ◌+◌, ◌*◌, inl, inr, Bool, true, false, not, ◌||◌, cond, List, get_or, take, map, length, arith, sym, ap, refl, ◌∙◌, nat_eq, nat_lt, bit_xor, and_le_l, and_le_r, cases_eq, eq-eqb, ne_eqb, map_push, take_more, take_all, digit, is_less_signed, is_negative, truth, GateId, Gate, gate_at, Keeps, Makes, AreGates, Writes, number_at, number_of}
use Rattle.std.specs.Int.Bits.{xor_self, xor_add_and}
use Rattle.gate_arith.proofs.Digits.{keeps_trans, number-push}
use Rattle.gate_arith.proofs.Pieces.{sign-at}

-- whether any of the first bits is 1
pub record IsPartAny (old new : List Gate) (a : List GateId) (found : GateId) (i : ℕ) : Type 0 where
  pub keeps : Keeps old new
  pub inside : found.index < length new
  pub says : (v : ℕ → Bool) → gate_at v new found ≡ truth (number_at v old (take i a))

pub none_any : (old new : List Gate) (a : List GateId) (found : GateId) → Keeps old new → Makes new found (λ _. false) → IsPartAny old new a found 0
none_any old new a found kept made = record { keeps = kept; inside = made.within; says = made.says }

pub truth-positive : (n : ℕ) → 0 < n → truth n ≡ true
truth-positive n h = ap not (ne_eqb n 0 (λ e. omega (arith, h, e)))

truth-more : (n : ℕ) (b : Bool) → (truth n || b) ≡ truth (n * 2 + digit b)
truth-more zero true = refl
truth-more zero false = refl
truth-more (suc n) b = ap (λ t. t || b) (truth-positive (suc n) (omega arith)) ∙ sym (truth-positive (suc n * 2 + digit b) (omega arith))

pub any-more : (old mid new : List Gate) (a : List GateId) (found next d : GateId) (i : ℕ) → IsPartAny old mid a found i → i < length a → (get_or a i d).index < length old → Keeps mid new
    → Makes new next (λ v. gate_at v mid found || gate_at v mid (get_or a i d)) → IsPartAny old new a next (i + 1)
any-more old mid new a found next d i part lt ina kept made = record {
  keeps = keeps_trans old mid new part.keeps kept;
  inside = made.within;
  says = λ v.
      let x = gate_at v old (get_or a i d) in
      let more : number_at v old (take (i + 1) a) ≡ number_at v old (take i a) * 2 + digit x =
      ap (number_at v old) (take_more a i d lt) ∙ (ap number_of (map_push (gate_at v old) (take i a) (get_or a i d)) ∙ number-push (map (gate_at v old) (take i a)) x) in
      made.says v ∙ (ap (λ b. b || gate_at v mid (get_or a i d)) (part.says v) ∙ (ap (λ b. truth (number_at v old (take i a)) || b) (part.keeps.kept v (get_or a i d) ina)
      ∙ (truth-more (number_at v old (take i a)) x ∙ ap truth (sym more))));
}

pub any-whole : (old new : List Gate) (a : List GateId) (found : GateId) (i : ℕ) → i ≡ length a → IsPartAny old new a found i → Makes new found (λ v. truth (number_at v old a))
any-whole old new a found i e part = record {
  within = part.inside;
  says = λ v. part.says v ∙ ap (λ (xs : List GateId). truth (number_at v old xs)) (take_all i a (omega (arith, e)));
}

xor-equal : (a b : ℕ) → not (truth (bit_xor a b)) ≡ nat_eq a b
xor-equal a b = elim (cases_eq a b) [
  | inl same ↦
      let none : bit_xor a b ≡ 0 = ap (λ k. bit_xor a k) (sym same) ∙ xor_self a in
      let left : not (truth (bit_xor a b)) ≡ true = ap (λ k. not (truth k)) none in
      left ∙ sym (eq-eqb a b same)
  | inr apart ↦
      let some : 0 < bit_xor a b = omega (arith, xor_add_and a b, and_le_l a b, and_le_r a b, apart) in
      let left : not (truth (bit_xor a b)) ≡ false = positive (bit_xor a b) some in
      left ∙ sym (ne_eqb a b apart)
]
  where
    positive : (n : ℕ) → 0 < n → not (truth n) ≡ false
    positive n h = ap not (truth-positive n h)

pub equal-tests : (old apart_in any_in new : List Gate) (a b apart : List GateId) (found id : GateId) (width : ℕ) → Writes apart_in apart width (λ v. bit_xor (number_at v old a) (number_at v old b))
    → Makes any_in found (λ v. truth (number_at v apart_in apart)) → Makes new id (λ v. not (gate_at v any_in found)) → Makes new id (λ v. nat_eq (number_at v old a) (number_at v old b))
equal-tests old mid late new a b apart found id width writes some made = record {
  within = made.within;
  says = λ v. made.says v ∙ (ap not (some.says v ∙ ap truth (writes.says v)) ∙ xor-equal (number_at v old a) (number_at v old b));
}

-- the three choices of a signed comparison
pub signed-tests : (g0 g1 g2 g3 g4 g5 g6 : List Gate) (a b : List GateId) (below one off negative positive id d : GateId) → AreGates g0 a → AreGates g0 b → 1 ≤ length a → length a ≡ length b
    → Keeps g0 g1 → Makes g1 below (λ v. nat_lt (number_at v g0 a) (number_at v g0 b))
    → Keeps g1 g2 → Makes g2 one (λ _. true)
    → Keeps g2 g3 → Makes g3 off (λ _. false)
    → Keeps g3 g4 → Makes g4 negative (λ v. cond (gate_at v g3 (get_or b 0 d)) (gate_at v g3 below) (gate_at v g3 one))
    → Keeps g4 g5 → Makes g5 positive (λ v. cond (gate_at v g4 (get_or b 0 d)) (gate_at v g4 off) (gate_at v g4 below))
    → Makes g6 id (λ v. cond (gate_at v g5 (get_or a 0 d)) (gate_at v g5 negative) (gate_at v g5 positive))
    → Makes g6 id (λ v. is_less_signed (length a) (number_at v g0 a) (number_at v g0 b))
signed-tests g0 g1 g2 g3 g4 g5 g6 a b below one off negative positive id d ina inb least same k1 m1 k2 m2 k3 m3 k4 m4 k5 m5 m6 =
    let k13 = keeps_trans g1 g2 g3 k2 k3 in
    let k03 = keeps_trans g0 g1 g3 k1 k13 in
    let k04 = keeps_trans g0 g3 g4 k03 k4 in
    let k05 = keeps_trans g0 g4 g5 k04 k5 in
    let k14 = keeps_trans g1 g3 g4 k13 k4 in
    record {
      within = m6.within;
      says = λ v.
          let x = gate_at v g0 (get_or a 0 d) in
          let y = gate_at v g0 (get_or b 0 d) in
          let l = nat_lt (number_at v g0 a) (number_at v g0 b) in
          let ia = ina 0 d least in
          let ib = inb 0 d (omega (arith, same)) in
          let b3 : gate_at v g3 below ≡ l = k13.kept v below m1.within ∙ m1.says v in
          let b4 : gate_at v g4 below ≡ l = k14.kept v below m1.within ∙ m1.says v in
          let o3 : gate_at v g3 one ≡ true = k3.kept v one m2.within ∙ m2.says v in
          let z4 : gate_at v g4 off ≡ false = k4.kept v off m3.within ∙ m3.says v in
          let y3 : gate_at v g3 (get_or b 0 d) ≡ y = k03.kept v (get_or b 0 d) ib in
          let y4 : gate_at v g4 (get_or b 0 d) ≡ y = k04.kept v (get_or b 0 d) ib in
          let x5 : gate_at v g5 (get_or a 0 d) ≡ x = k05.kept v (get_or a 0 d) ia in
          let n5 : gate_at v g5 negative ≡ cond y l true = k5.kept v negative m4.within ∙ (m4.says v ∙ (three y3 b3 o3)) in
          let p5 : gate_at v g5 positive ≡ cond y false l = m5.says v ∙ three y4 z4 b4 in
          let sx : is_negative (length a) (number_at v g0 a) ≡ x = sign-at v g0 a d least in
          let sy : is_negative (length a) (number_at v g0 b) ≡ y = ap (λ k. is_negative k (number_at v g0 b)) same ∙ sign-at v g0 b d (omega (arith, same)) in
          m6.says v ∙ (three x5 n5 p5 ∙ sym (signs l sx sy));
    }
  where
    three : {p p' q q' r r' : Bool} → p ≡ p' → q ≡ q' → r ≡ r' → cond p q r ≡ cond p' q' r'
    three e f g = cc

    signs : (l : Bool) {s t x y : Bool} → s ≡ x → t ≡ y → cond s (cond t l true) (cond t false l) ≡ cond x (cond y l true) (cond y false l)
    signs l e f = cc
