-- Divisions step by step.
use Rattle.gate_arith.proofs.Common.{ℕ, zero, suc, ◌≡◌, ◌<◌, ◌≤◌, ◌+◌, ◌-◌, ◌*◌, ◌/◌, ◌%◌, ◌^◌, ◌++◌, inl, inr, Bool, true, false, cond, List, [], ◌∷◌, get_or, take, drop, map, replicate, length, arith, sym, ap, subst, refl, ◌∙◌, length-append, nat_le, pow-suc, div-eq_of_lt, mod-eq_of_lt, mod-le, zero-mod, pow_mono, pow_pos, div-add-mod', div-mul-add, mod-mul-add, mod_below, cases_lt, le-leb, lt-leb, ne_eqb, length-drop, length-take-le, length-replicate, map_push, take_more, take_all, digit, quotient, remainder, GateId, Gate, gate_at, Keeps, Makes, IsDifference, AreGates, Writes, number_at, number_of}
use Rattle.gate_arith.specs.Division.{IsStep, brought_down}
use Rattle.gate_arith.proofs.Digits.{gates_later, gates_push, keeps_trans, number-at-below, number-kept, number-push}
use Rattle.gate_arith.proofs.Pieces.{gates_drop, gates_replicate, number-drop, number-replicate}

remainder_of : (x m : ℕ) → remainder x (suc m) ≡ x % suc m
remainder_of x m = ap (λ b. cond b x (x % suc m)) (ne_eqb (suc m) 0 (λ e. omega (arith, e)))

quotient_of : (i x m : ℕ) → quotient i x (suc m) ≡ x / suc m
quotient_of i x m = ap (λ b. cond b (2 ^ i - 1) (x / suc m)) (ne_eqb (suc m) 0 (λ e. omega (arith, e)))

goes-in : (c : Bool) (s x m p : ℕ) → s + digit c * p ≡ x + (p - m) → s < p → x < p → m < p → (c ≡ nat_le m x) × (c ≡ true → s ≡ x - m)
goes-in true s x m p h ls lx lm =
    let le : m ≤ x = omega (arith, h) in
    (sym (le-leb m x le), λ _. omega (arith, h))
goes-in false s x m p h ls lx lm =
    let lt : x < m = omega (arith, h) in
    (sym (lt-leb m x lt), λ e. absurd (let z : ⊥ = cc in z))

pub step-is : (old g1 g2 g3 : List Gate) (left divisor whole wide digits chosen further : List GateId) (next off carry : GateId)
    → length left ≡ length divisor → AreGates old left → next.index < length old → AreGates old divisor
    → Keeps old g1 → Makes g1 off (λ _. false)
    → Writes g1 whole (length left + 1) (λ v. number_at v g1 left * 2 ^ 1 + number_at v g1 (next ∷ []))
    → Writes g1 wide (1 + length divisor) (λ v. number_at v g1 (off ∷ []) * 2 ^ length divisor + number_at v g1 divisor)
    → Keeps g1 g2 → IsDifference g1 g2 whole wide digits carry
    → Keeps g2 g3 → Writes g3 chosen (length digits) (λ v. cond (gate_at v g2 carry) (number_at v g2 digits) (number_at v g2 whole))
    → further ≡ drop 1 chosen → IsStep old g3 left next divisor carry further
step-is old g1 g2 g3 left divisor whole wide digits chosen further next off carry same before_in next_in divisor_in k1 m1 ww dw k2 minus k3 cw is = rw is (record {
  inside = omega (arith, minus.out, k3.longer);
  within = gates_drop g3 1 chosen cw.within;
  long = length-drop 1 chosen ∙ (let e : length chosen - 1 ≡ length left = omega (arith, cw.long, minus.long, ww.long) in e);
  goes = λ v. c3 v ∙ (facts v).0;
  says = λ v.
      let at : 1 + length left ≡ length chosen = omega (arith, cw.long, minus.long, ww.long) in
      let x = brought_down v old left next in
      let m = number_at v old divisor in
      number-drop v g3 1 (length left) chosen at ∙ ap (λ k. k % 2 ^ length left)
      (cw.says v ∙ (pick (gate_at v g2 carry) (number_at v g2 digits) (number_at v g2 whole) x m ((facts v).1) (number-kept g1 g2 k2 whole ww.within v ∙ down v)
      ∙ ap (λ c. cond c (x - m) x) (sym (c3 v))));
})
  where
    down : (v : ℕ → Bool) → number_at v g1 whole ≡ brought_down v old left next
    down v =
        let l = number-kept old g1 k1 left before_in v in
        let n = k1.kept v next next_in in
        ww.says v ∙ (ap (λ k. k * 2 + (digit (gate_at v g1 next) * 1 + 0)) l ∙ (ap (λ b. number_at v old left * 2 + (digit b * 1 + 0)) n
        ∙ (let e : number_at v old left * 2 + (digit (gate_at v old next) * 1 + 0) ≡ number_at v old left * 2 + digit (gate_at v old next) = omega arith in e)))

    plain : (v : ℕ → Bool) → number_at v g1 wide ≡ number_at v old divisor
    plain v =
        let none : number_at v g1 (off ∷ []) ≡ 0 = ap (λ b. digit b * 1 + 0) (m1.says v) in
        dw.says v ∙ (ap (λ k. k * 2 ^ length divisor + number_at v g1 divisor) none
        ∙ ((let bare : 0 * 2 ^ length divisor + number_at v g1 divisor ≡ number_at v g1 divisor = omega arith in bare) ∙ number-kept old g1 k1 divisor divisor_in v))

    c3 : (v : ℕ → Bool) → gate_at v g3 carry ≡ gate_at v g2 carry
    c3 v = k3.kept v carry minus.out

    facts : (v : ℕ → Bool) → (gate_at v g2 carry ≡ nat_le (number_at v old divisor) (brought_down v old left next)) × (gate_at v g2 carry ≡ true → number_at v g2 digits ≡ brought_down v old left next - number_at v old divisor)
    facts v =
        let small = subst (λ k. number_at v g2 digits < 2 ^ k) minus.long (number-at-below v g2 digits) in
        let lx = number-at-below v g1 whole in
        let wide_long : length wide ≡ length whole = omega (arith, ww.long, dw.long, same) in
        let lm = subst (λ k. number_at v g1 wide < 2 ^ k) wide_long (number-at-below v g1 wide) in
        let h : number_at v g2 digits + digit (gate_at v g2 carry) * 2 ^ length whole ≡ brought_down v old left next + (2 ^ length whole - number_at v old divisor) =
        minus.says v ∙ (ap (λ k. k + (2 ^ length whole - number_at v g1 wide)) (down v) ∙ ap (λ k. brought_down v old left next + (2 ^ length whole - k)) (plain v)) in
        goes-in (gate_at v g2 carry) (number_at v g2 digits) (brought_down v old left next) (number_at v old divisor) (2 ^ length whole) h small
        (subst (λ k. k < 2 ^ length whole) (down v) lx) (subst (λ k. k < 2 ^ length whole) (plain v) lm)

    pick : (c : Bool) (s w x m : ℕ) → (c ≡ true → s ≡ x - m) → w ≡ x → cond c s w ≡ cond c (x - m) x
    pick true s w x m f e = f refl
    pick false s w x m f e = e

-- the quotient and what is left of the first bits
pub record IsPartDivision (old new : List Gate) (a b left digits : List GateId) (i : ℕ) : Type 0 where
  pub keeps : Keeps old new
  pub within : AreGates new left
  pub long : length left ≡ length b
  pub digits_within : AreGates new digits
  pub digits_long : length digits ≡ i
  pub says : (v : ℕ → Bool) → number_at v new left ≡ remainder (number_at v old (take i a)) (number_at v old b)
  pub digits_say : (v : ℕ → Bool) → number_at v new digits ≡ quotient i (number_at v old (take i a)) (number_at v old b)

pub no_steps : (old new : List Gate) (a b left digits : List GateId) (off : GateId) → Keeps old new → Makes new off (λ _. false) → left ≡ replicate (length b) off → digits ≡ []
    → IsPartDivision old new a b left digits 0
no_steps old new a b left digits off kept made is none = rw (is, none) (record {
  keeps = kept;
  within = gates_replicate new (length b) off made.within;
  long = length-replicate (length b) off;
  digits_within = λ i d lt. absurd (omega arith);
  digits_long = refl;
  says = λ v. number-replicate v new (length b) off ∙ (ap (λ x. cond x (2 ^ length b - 1) 0) (made.says v) ∙ first (number_at v old b));
  digits_say = λ v. second (number_at v old b);
})
  where
    first : (m : ℕ) → 0 ≡ remainder 0 m
    first zero = refl
    first (suc m) = sym (remainder_of 0 m ∙ zero-mod (suc m))

    second : (m : ℕ) → 0 ≡ quotient 0 0 m
    second zero = refl
    second (suc m) = sym (quotient_of 0 0 m ∙ div-eq_of_lt (omega arith))

twice : (x q m r d : ℕ) → q * m + r ≡ x → x * 2 + d ≡ q * 2 * m + (r * 2 + d)
twice x q m r d e = rw (sym e) (omega arith)

once : (x q m r d : ℕ) → q * m + r ≡ x → m ≤ r * 2 + d → x * 2 + d ≡ (q * 2 + 1) * m + (r * 2 + d - m)
once x q m r d e le =
    let double : x * 2 + d ≡ q * 2 * m + (r * 2 + d) = twice x q m r d e in
    let one : (q * 2 + 1) * m ≡ q * 2 * m + m = omega arith in
    omega (arith, double, one, le)

-- one more bit of the dividend
left-more : (x d m : ℕ) → d < 2 → cond (nat_le (suc m) (x % suc m * 2 + d)) (x % suc m * 2 + d - suc m) (x % suc m * 2 + d) ≡ (x * 2 + d) % suc m
left-more x d m lt =
    let below : x % suc m < suc m = mod_below x (suc m) (omega arith) in
    let split : x / suc m * suc m + x % suc m ≡ x = div-add-mod' x (suc m) in
    elim (cases_lt (x % suc m * 2 + d) (suc m)) [
      | inl less ↦
          let test : nat_le (suc m) (x % suc m * 2 + d) ≡ false = lt-leb (suc m) (x % suc m * 2 + d) less in
          let whole : x * 2 + d ≡ x / suc m * 2 * suc m + (x % suc m * 2 + d) = twice x (x / suc m) (suc m) (x % suc m) d split in
          ap (λ c. cond c (x % suc m * 2 + d - suc m) (x % suc m * 2 + d)) test ∙ sym (ap (λ k. k % suc m) whole ∙ mod-mul-add (x / suc m * 2) (suc m) (x % suc m * 2 + d) less)
      | inr ge ↦
          let test : nat_le (suc m) (x % suc m * 2 + d) ≡ true = le-leb (suc m) (x % suc m * 2 + d) ge in
          let whole : x * 2 + d ≡ (x / suc m * 2 + 1) * suc m + (x % suc m * 2 + d - suc m) = once x (x / suc m) (suc m) (x % suc m) d split ge in
          ap (λ c. cond c (x % suc m * 2 + d - suc m) (x % suc m * 2 + d)) test ∙ sym (ap (λ k. k % suc m) whole ∙ mod-mul-add (x / suc m * 2 + 1) (suc m) (x % suc m * 2 + d - suc m) (omega (arith, below, lt)))
    ]

digit-more : (x d m : ℕ) → d < 2 → x / suc m * 2 + digit (nat_le (suc m) (x % suc m * 2 + d)) ≡ (x * 2 + d) / suc m
digit-more x d m lt =
    let below : x % suc m < suc m = mod_below x (suc m) (omega arith) in
    let split : x / suc m * suc m + x % suc m ≡ x = div-add-mod' x (suc m) in
    elim (cases_lt (x % suc m * 2 + d) (suc m)) [
      | inl less ↦
          let test : nat_le (suc m) (x % suc m * 2 + d) ≡ false = lt-leb (suc m) (x % suc m * 2 + d) less in
          let whole : x * 2 + d ≡ x / suc m * 2 * suc m + (x % suc m * 2 + d) = twice x (x / suc m) (suc m) (x % suc m) d split in
          ap (λ c. x / suc m * 2 + digit c) test ∙ ((let e : x / suc m * 2 + 0 ≡ x / suc m * 2 = omega arith in e) ∙ sym (ap (λ k. k / suc m) whole ∙ div-mul-add (x / suc m * 2) (suc m) (x % suc m * 2 + d) less))
      | inr ge ↦
          let test : nat_le (suc m) (x % suc m * 2 + d) ≡ true = le-leb (suc m) (x % suc m * 2 + d) ge in
          let whole : x * 2 + d ≡ (x / suc m * 2 + 1) * suc m + (x % suc m * 2 + d - suc m) = once x (x / suc m) (suc m) (x % suc m) d split ge in
          ap (λ c. x / suc m * 2 + digit c) test ∙ sym (ap (λ k. k / suc m) whole ∙ div-mul-add (x / suc m * 2 + 1) (suc m) (x % suc m * 2 + d - suc m) (omega (arith, below, lt)))
    ]

divide-left : (x d m : ℕ) → d < 2 → cond (nat_le m (remainder x m * 2 + d)) (remainder x m * 2 + d - m) (remainder x m * 2 + d) ≡ remainder (x * 2 + d) m
divide-left x d zero lt =
    let test : nat_le 0 (x * 2 + d) ≡ true = le-leb 0 (x * 2 + d) (omega arith) in
    ap (λ c. cond c (x * 2 + d - 0) (x * 2 + d)) test ∙ (let e : x * 2 + d - 0 ≡ x * 2 + d = omega arith in e)
divide-left x d (suc m) lt =
    ap (λ r. cond (nat_le (suc m) (r * 2 + d)) (r * 2 + d - suc m) (r * 2 + d)) (remainder_of x m) ∙ (left-more x d m lt ∙ sym (remainder_of (x * 2 + d) m))

divide-digit : (i x d m : ℕ) → d < 2 → quotient i x m * 2 + digit (nat_le m (remainder x m * 2 + d)) ≡ quotient (i + 1) (x * 2 + d) m
divide-digit i x d zero lt =
    let wide : 2 ^ (i + 1) ≡ 2 ^ i * 2 = ap (λ k. 2 ^ k) (let e : i + 1 ≡ suc i = omega arith in e) ∙ pow-suc 2 i in
    let test : nat_le 0 (x * 2 + d) ≡ true = le-leb 0 (x * 2 + d) (omega arith) in
    ap (λ c. (2 ^ i - 1) * 2 + digit c) test ∙ (let e : (2 ^ i - 1) * 2 + 1 ≡ 2 ^ (i + 1) - 1 = omega (arith, wide, pow_pos i) in e)
divide-digit i x d (suc m) lt =
    ap (λ q. q * 2 + digit (nat_le (suc m) (remainder x (suc m) * 2 + d))) (quotient_of i x m)
    ∙ (ap (λ r. x / suc m * 2 + digit (nat_le (suc m) (r * 2 + d))) (remainder_of x m) ∙ (digit-more x d m lt ∙ sym (quotient_of (i + 1) (x * 2 + d) m)))

remainder-le : (x m : ℕ) → remainder x m ≤ x
remainder-le x zero = omega arith
remainder-le x (suc m) = subst (λ k. k ≤ x) (sym (remainder_of x m)) (mod-le x (suc m))

digit-small : (b : Bool) → digit b < 2
digit-small true = omega arith
digit-small false = omega arith

pub division-more : (old mid new : List Gate) (a b left digits further digits' : List GateId) (one d : GateId) (i : ℕ) → length a ≡ length b → i < length a
    → IsPartDivision old mid a b left digits i → AreGates old a → AreGates old b → Keeps mid new → IsStep mid new left (get_or a i d) b one further
    → digits' ≡ digits ++ one ∷ [] → IsPartDivision old new a b further digits' (i + 1)
division-more old mid new a b left digits further digits' one d i same lt part ina inb kept step is = rw is (record {
  keeps = keeps_trans old mid new part.keeps kept;
  within = step.within;
  long = step.long ∙ part.long;
  digits_within = gates_push new digits one (gates_later mid new digits kept.longer part.digits_within) step.inside;
  digits_long = omega (arith, part.digits_long, length-append digits (one ∷ []));
  says = λ v.
      let x = number_at v old (take i a) in
      let m = number_at v old b in
      let y = gate_at v old (get_or a i d) in
      let left_is : cond (gate_at v new one) (brought_down v mid left (get_or a i d) - number_at v mid b) (brought_down v mid left (get_or a i d)) ≡ remainder (x * 2 + digit y) m =
      ap (λ c. cond c (brought_down v mid left (get_or a i d) - number_at v mid b) (brought_down v mid left (get_or a i d))) (step.goes v)
      ∙ (ap (λ k. cond (nat_le k (brought_down v mid left (get_or a i d))) (brought_down v mid left (get_or a i d) - k) (brought_down v mid left (get_or a i d))) (divisor v)
      ∙ (ap (λ k. cond (nat_le m k) (k - m) k) (down v) ∙ divide-left x (digit y) m (digit-small y))) in
      let small : remainder (x * 2 + digit y) m < 2 ^ length left = omega (arith, remainder-le (x * 2 + digit y) m, next-below v) in
      step.says v ∙ (ap (λ k. k % 2 ^ length left) left_is ∙ (mod-eq_of_lt small ∙ ap (λ k. remainder k m) (sym (more v))));
  digits_say = λ v.
      let x = number_at v old (take i a) in
      let m = number_at v old b in
      let y = gate_at v old (get_or a i d) in
      let goes : gate_at v new one ≡ nat_le m (remainder x m * 2 + digit y) =
      step.goes v ∙ (ap (λ k. nat_le k (brought_down v mid left (get_or a i d))) (divisor v) ∙ ap (λ k. nat_le m k) (down v)) in
      ap number_of (map_push (gate_at v new) digits one) ∙ (number-push (map (gate_at v new) digits) (gate_at v new one)
      ∙ (ap (λ k. k * 2 + digit (gate_at v new one)) (number-kept mid new kept digits part.digits_within v ∙ part.digits_say v)
      ∙ (ap (λ c. quotient i x m * 2 + digit c) goes ∙ (divide-digit i x (digit y) m (digit-small y) ∙ ap (λ k. quotient (i + 1) k m) (sym (more v))))));
})
  where
    more : (v : ℕ → Bool) → number_at v old (take (i + 1) a) ≡ number_at v old (take i a) * 2 + digit (gate_at v old (get_or a i d))
    more v = ap (number_at v old) (take_more a i d lt) ∙ (ap number_of (map_push (gate_at v old) (take i a) (get_or a i d)) ∙ number-push (map (gate_at v old) (take i a)) (gate_at v old (get_or a i d)))

    divisor : (v : ℕ → Bool) → number_at v mid b ≡ number_at v old b
    divisor v = number-kept old mid part.keeps b inb v

    down : (v : ℕ → Bool) → brought_down v mid left (get_or a i d) ≡ remainder (number_at v old (take i a)) (number_at v old b) * 2 + digit (gate_at v old (get_or a i d))
    down v = ap (λ k. k * 2 + digit (gate_at v mid (get_or a i d))) (part.says v)
        ∙ ap (λ c. remainder (number_at v old (take i a)) (number_at v old b) * 2 + digit c) (part.keeps.kept v (get_or a i d) (ina i d lt))

    next-below : (v : ℕ → Bool) → number_at v old (take i a) * 2 + digit (gate_at v old (get_or a i d)) < 2 ^ length left
    next-below v =
        let small = subst (λ k. number_at v old (take (i + 1) a) < 2 ^ k) (length-take-le (i + 1) a (omega (arith, lt))) (number-at-below v old (take (i + 1) a)) in
        let wide : 2 ^ (i + 1) ≤ 2 ^ length left = pow_mono {i = i + 1} {j = length left} (omega (arith, lt, same, part.long)) in
        omega (arith, small, wide, more v)

pub division-quotient : (old new : List Gate) (a b left digits : List GateId) (i : ℕ) → i ≡ length a → IsPartDivision old new a b left digits i
    → Writes new digits (length a) (λ v. quotient (length a) (number_at v old a) (number_at v old b))
division-quotient old new a b left digits i e part = record {
  within = part.digits_within;
  long = part.digits_long ∙ e;
  says = λ v. part.digits_say v ∙ (ap (λ (xs : List GateId). quotient i (number_at v old xs) (number_at v old b)) (take_all i a (omega (arith, e)))
      ∙ ap (λ k. quotient k (number_at v old a) (number_at v old b)) e);
}

pub division-remainder : (old new : List Gate) (a b left digits : List GateId) (i : ℕ) → length a ≡ length b → i ≡ length a → IsPartDivision old new a b left digits i
    → Writes new left (length a) (λ v. remainder (number_at v old a) (number_at v old b))
division-remainder old new a b left digits i same e part = record {
  within = part.within;
  long = part.long ∙ sym same;
  says = λ v. part.says v ∙ ap (λ (xs : List GateId). remainder (number_at v old xs) (number_at v old b)) (take_all i a (omega (arith, e)));
}
