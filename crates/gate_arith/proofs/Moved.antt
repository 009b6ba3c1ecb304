-- Numbers moved up or down.
use Rattle.gate_arith.proofs.Common.{ℕ, zero, suc, ◌≡◌, ◌<◌, ◌≤◌, ◌+◌, ◌-◌, ◌*◌, ◌/◌, ◌%◌, ◌^◌, inl, inr, Bool, true, false, cond, List, [], get_or, take, drop, map, min, replicate, length, arith, sym, ap, subst, refl, ◌∙◌, nat_lt, pow-suc, div-eq_of_lt, mod-eq_of_lt, mul-mod_left, pow_mono, pow-add, shl-shr, shr-shr, mod-pow-add, mul-mod_first, cases_lt, le-ltb, lt-ltb, length-map, length-drop, length-take, length-replicate, drop_more, drop_all, take-append-drop, digit, shifted_right, shifted_signed, truth, GateId, Gate, gate_at, Keeps, Makes, AreGates, Writes, number_at}
use Rattle.gate_arith.specs.declared.shifts.Direction.{Direction}
use Rattle.gate_arith.specs.declared.shifts.Direction.TheVariants.{Up, Down}
use Rattle.gate_arith.specs.Moves.{moved_by, shifted_by}
use Rattle.gate_arith.proofs.Digits.{gates_later, keeps_self, keeps_trans, number-at-below, number-kept}
use Rattle.gate_arith.proofs.Testing.{truth-positive}
use Rattle.gate_arith.proofs.Pieces.{gates_drop, gates_replicate, gates_take, number-at-append, number-drop, number-replicate, number-take, sign-at}

-- a part of the number, moved up
up-cut : (n l c : ℕ) → (n % 2 ^ l) * 2 ^ c ≡ n * 2 ^ c % 2 ^ (l + c)
up-cut n l c = sym (mod-pow-add (n * 2 ^ c) l c ∙ (ap (λ k. (k % 2 ^ l) * 2 ^ c + n * 2 ^ c % 2 ^ c) (shl-shr n c)
    ∙ (ap (λ k. (n % 2 ^ l) * 2 ^ c + k) (mul-mod_left n (2 ^ c)) ∙ (let e : (n % 2 ^ l) * 2 ^ c + 0 ≡ (n % 2 ^ l) * 2 ^ c = omega arith in e))))

up_past : (a n count : ℕ) → n ≤ count → a * 2 ^ count % 2 ^ n ≡ 0
up_past a n count le =
    let whole : count ≡ (count - n) + n = omega arith in
    let e : 2 ^ count ≡ 2 ^ (count - n) * 2 ^ n = ap (λ k. 2 ^ k) whole ∙ pow-add 2 (count - n) n in
    ap (λ k. a * k % 2 ^ n) e ∙ (ap (λ k. k % 2 ^ n) (assoc a (2 ^ (count - n)) (2 ^ n)) ∙ mul-mod_left (a * 2 ^ (count - n)) (2 ^ n))
  where
    assoc : (x y z : ℕ) → x * (y * z) ≡ x * y * z
    assoc x y z = omega arith

down_past : (a n count : ℕ) → a < 2 ^ n → n ≤ count → a / 2 ^ count ≡ 0
down_past a n count lt le = div-eq_of_lt (omega (arith, lt, pow_mono {i = n} {j = count} le))

moved_past : (direction : Direction) (a n count : ℕ) → a < 2 ^ n → n ≤ count → moved_by direction n a count ≡ 0
moved_past Up a n count lt le = up_past a n count le
moved_past Down a n count lt le = down_past a n count lt le

moved_by-zero : (direction : Direction) (n a : ℕ) → a < 2 ^ n → moved_by direction n a 0 ≡ a
moved_by-zero Up n a lt = ap (λ k. k % 2 ^ n) (let e : a * 1 ≡ a = omega arith in e) ∙ mod-eq_of_lt lt
moved_by-zero Down n a lt = let e : a / 1 ≡ a = omega arith in e

moved_by-add : (direction : Direction) (n a m c : ℕ) → moved_by direction n (moved_by direction n a m) c ≡ moved_by direction n a (m + c)
moved_by-add Up n a m c = mul-mod_first (a * 2 ^ m) (2 ^ c) (2 ^ n) ∙ ap (λ k. k % 2 ^ n) (assoc a (2 ^ m) (2 ^ c) ∙ ap (λ k. a * k) (sym (pow-add 2 m c)))
  where
    assoc : (x y z : ℕ) → x * y * z ≡ x * (y * z)
    assoc x y z = omega arith
moved_by-add Down n a m c = shr-shr a m c

-- zeros that came in below
pub up-writes : (old new : List Gate) (a zeros both : List GateId) (off : GateId) (left count : ℕ) → Keeps old new → AreGates old a → Makes new off (λ _. false)
    → left ≡ length a - count → zeros ≡ replicate (length a - left) off → ((gates : List Gate) → AreGates gates (drop (length a - left) a) → AreGates gates zeros
    → Writes gates both (length (drop (length a - left) a) + length zeros) (λ v. number_at v gates (drop (length a - left) a) * 2 ^ length zeros + number_at v gates zeros))
    → Writes new both (length a) (λ v. moved_by Up (length a) (number_at v old a) count)
up-writes old new a zeros both off left count kept ina made is none joins =
    let n = length a in
    let front = drop (n - left) a in
    let ina2 = gates_later old new a kept.longer ina in
    let inside : AreGates new zeros = rw none (gates_replicate new (n - left) off made.within) in
    let whole = joins new (gates_drop new (n - left) a ina2) inside in
    let zeros_long : length zeros ≡ n - left = ap length none ∙ length-replicate (n - left) off in
    let front_long : length front ≡ left = length-drop (n - left) a ∙ (let e : n - (n - left) ≡ left = omega (arith, is) in e) in
    record {
      within = whole.within;
      long = whole.long ∙ (let e : length front + length zeros ≡ n = omega (arith, zeros_long, front_long, is) in e);
      says = λ v.
          let nothing : number_at v new zeros ≡ 0 = ap (number_at v new) none ∙ (number-replicate v new (n - left) off ∙ ap (λ b. cond b (2 ^ (n - left) - 1) 0) (made.says v)) in
          let low : number_at v new front ≡ number_at v old a % 2 ^ left =
          number-drop v new (n - left) left a (let e : (n - left) + left ≡ n = omega (arith, is) in e) ∙ ap (λ k. k % 2 ^ left) (number-kept old new kept a ina v) in
          whole.says v ∙ (ap (λ k. number_at v new front * 2 ^ length zeros + k) nothing
          ∙ (ap (λ k. k * 2 ^ length zeros + 0) low ∙ (ap (λ k. number_at v old a % 2 ^ left * 2 ^ k + 0) zeros_long ∙ up (number_at v old a) n left count is)));
    }
  where
    up : (x n left count : ℕ) → left ≡ n - count → (x % 2 ^ left) * 2 ^ (n - left) + 0 ≡ x * 2 ^ count % 2 ^ n
    up x n left count e = elim (cases_lt count n) [
      | inl lt ↦
          let moved : n - left ≡ count = omega (arith, e, lt) in
          let whole : left + count ≡ n = omega (arith, e, lt) in
          let plain : (x % 2 ^ left) * 2 ^ (n - left) + 0 ≡ (x % 2 ^ left) * 2 ^ (n - left) = omega arith in
          plain ∙ (ap (λ k. (x % 2 ^ left) * 2 ^ k) moved ∙ (up-cut x left count ∙ ap (λ k. x * 2 ^ count % 2 ^ k) whole))
      | inr ge ↦
          let empty : left ≡ 0 = omega (arith, e, ge) in
          let one : x % 2 ^ left ≡ 0 = ap (λ k. x % 2 ^ k) empty ∙ (let m : x % 1 ≡ 0 = omega arith in m) in
          ap (λ k. k * 2 ^ (n - left) + 0) one ∙ ((let nil : 0 * 2 ^ (n - left) + 0 ≡ 0 = omega arith in nil) ∙ sym (up_past x n count (omega (arith, ge))))
    ]

pub front-writes : (old new : List Gate) (a zeros both front : List GateId) (off : GateId) (left count : ℕ) → Keeps old new → AreGates old a → Makes new off (λ _. false)
    → left ≡ length a - count → zeros ≡ replicate (length a - left) off → front ≡ drop (length a - left) a → ((gates : List Gate) → AreGates gates front → AreGates gates zeros
    → Writes gates both (length front + length zeros) (λ v. number_at v gates front * 2 ^ length zeros + number_at v gates zeros))
    → Writes new both (length a) (λ v. moved_by Up (length a) (number_at v old a) count)
front-writes old new a zeros both front off left count kept ina made is none same joins =
    up-writes old new a zeros both off left count kept ina made is none
    (subst (λ (xs : List GateId). (gates : List Gate) → AreGates gates xs → AreGates gates zeros → Writes gates both (length xs + length zeros) (λ v. number_at v gates xs * 2 ^ length zeros + number_at v gates zeros)) same joins)

-- zeros that came in above
pub down-writes : (old new : List Gate) (a zeros both : List GateId) (off : GateId) (left count : ℕ) → Keeps old new → AreGates old a → Makes new off (λ _. false)
    → left ≡ length a - count → zeros ≡ replicate (length a - left) off → ((gates : List Gate) → AreGates gates zeros → AreGates gates (take left a)
    → Writes gates both (length zeros + length (take left a)) (λ v. number_at v gates zeros * 2 ^ length (take left a) + number_at v gates (take left a)))
    → Writes new both (length a) (λ v. moved_by Down (length a) (number_at v old a) count)
down-writes old new a zeros both off left count kept ina made is none joins =
    let n = length a in
    let ina2 = gates_later old new a kept.longer ina in
    let inside : AreGates new zeros = rw none (gates_replicate new (n - left) off made.within) in
    let whole = joins new inside (gates_take new left a ina2) in
    let zeros_long : length zeros ≡ n - left = ap length none ∙ length-replicate (n - left) off in
    let front_long : length (take left a) ≡ left = length-take left a ∙ (let e : min left n ≡ left = omega (arith, is) in e) in
    record {
      within = whole.within;
      long = whole.long ∙ (let e : length zeros + length (take left a) ≡ n = omega (arith, zeros_long, front_long, is) in e);
      says = λ v.
          let nothing : number_at v new zeros ≡ 0 = ap (number_at v new) none ∙ (number-replicate v new (n - left) off ∙ ap (λ b. cond b (2 ^ (n - left) - 1) 0) (made.says v)) in
          let high : number_at v new (take left a) ≡ number_at v old a / 2 ^ (n - left) =
          number-take v new left (n - left) a (let e : left + (n - left) ≡ n = omega (arith, is) in e) ∙ ap (λ k. k / 2 ^ (n - left)) (number-kept old new kept a ina v) in
          whole.says v ∙ (ap (λ k. k * 2 ^ length (take left a) + number_at v new (take left a)) nothing ∙ ((let plain : 0 * 2 ^ length (take left a) + number_at v new (take left a) ≡ number_at v new (take left a) = omega arith in plain)
          ∙ (high ∙ down (number_at v old a) n left count (number-at-below v old a) is)));
    }
  where
    down : (x n left count : ℕ) → x < 2 ^ n → left ≡ n - count → x / 2 ^ (n - left) ≡ x / 2 ^ count
    down x n left count lt e = elim (cases_lt count n) [
      | inl less ↦ ap (λ k. x / 2 ^ k) (let moved : n - left ≡ count = omega (arith, e, less) in moved)
      | inr ge ↦ down_past x n (n - left) lt (omega (arith, e, ge)) ∙ sym (down_past x n count lt (omega (arith, ge)))
    ]

-- the number shifted by the least significant bits of the amount, from `place` on
pub record IsPartMoved (old new : List Gate) (direction : Direction) (a amount value : List GateId) (count place : ℕ) : Type 0 where
  pub keeps : Keeps old new
  pub within : AreGates new value
  pub long : length value ≡ length a
  pub weight : count ≡ 2 ^ (length amount - place)
  pub says : (v : ℕ → Bool) → number_at v new value ≡ moved_by direction (length a) (number_at v old a) (number_at v old (drop place amount))

pub not_moved : (old : List Gate) (direction : Direction) (a amount value : List GateId) → AreGates old a → value ≡ a → IsPartMoved old old direction a amount value 1 (length amount)
not_moved old direction a amount value ina is = rw is (record {
  keeps = keeps_self old;
  within = ina;
  long = refl;
  weight = ap (λ k. 2 ^ k) (let e : 0 ≡ length amount - length amount = omega arith in e);
  says = λ v.
      let empty : drop (length amount) amount ≡ [] = drop_all (length amount) amount (omega arith) in
      sym (ap (λ (xs : List GateId). moved_by direction (length a) (number_at v old a) (number_at v old xs)) empty ∙ moved_by-zero direction (length a) (number_at v old a) (number-at-below v old a));
})

pub moved-more : (old mid late new : List Gate) (direction : Direction) (a amount value further value' : List GateId) (count i j : ℕ) (d : GateId) → i ≡ j + 1 → i ≤ length amount
    → IsPartMoved old mid direction a amount value count i → (get_or amount j d).index < length old
    → Keeps mid late → Writes late further (length value) (λ v. moved_by direction (length value) (number_at v mid value) count)
    → Keeps late new → Writes new value' (length further) (λ v. cond (gate_at v late (get_or amount j d)) (number_at v late further) (number_at v late value))
    → IsPartMoved old new direction a amount value' (count * 2) j
moved-more old mid late new direction a amount value further value' count i j d e le part inside k1 w1 k2 w2 =
    let one = get_or amount j d in
    record {
      keeps = keeps_trans old mid new part.keeps (keeps_trans mid late new k1 k2);
      within = w2.within;
      long = w2.long ∙ (w1.long ∙ part.long);
      weight = ap (λ k. k * 2) part.weight ∙ (sym (pow-suc 2 (length amount - i)) ∙ ap (λ k. 2 ^ k) (let m : suc (length amount - i) ≡ length amount - j = omega (arith, e, le) in m));
      says = λ v.
          let y = gate_at v old one in
          let n = length a in
          let x = number_at v old a in
          let m = number_at v old (drop i amount) in
          let before = part.says v in
          let y2 : gate_at v late one ≡ y = (keeps_trans old mid late part.keeps k1).kept v one inside in
          let still : number_at v late value ≡ moved_by direction n x m = number-kept mid late k1 value part.within v ∙ before in
          let gone : number_at v late further ≡ moved_by direction n x (m + count) =
          w1.says v ∙ (ap (λ k. moved_by direction k (number_at v mid value) count) part.long ∙ (ap (λ k. moved_by direction n k count) before ∙ moved_by-add direction n x m count)) in
          let tail : length (map (gate_at v old) (drop (j + 1) amount)) ≡ length amount - i =
          length-map (drop (j + 1) amount) (gate_at v old) ∙ (length-drop (j + 1) amount ∙ (let q : length amount - (j + 1) ≡ length amount - i = omega (arith, e) in q)) in
          let more : number_at v old (drop j amount) ≡ digit y * count + m =
          ap (number_at v old) (drop_more amount j d (omega (arith, e, le))) ∙ (ap (λ k. digit y * 2 ^ k + number_at v old (drop (j + 1) amount)) tail
          ∙ (ap (λ k. digit y * k + number_at v old (drop (j + 1) amount)) (sym part.weight) ∙ ap (λ k. digit y * count + number_at v old (drop k amount)) (sym e))) in
          w2.says v ∙ (three y2 gone still ∙ (choice y (λ k. moved_by direction n x k) m count ∙ ap (λ k. moved_by direction n x k) (sym more)));
    }
  where
    three : {p p' : Bool} {q q' r r' : ℕ} → p ≡ p' → q ≡ q' → r ≡ r' → cond p q r ≡ cond p' q' r'
    three e f g = cc

    choice : (y : Bool) (f : ℕ → ℕ) (m count : ℕ) → cond y (f (m + count)) (f m) ≡ f (digit y * count + m)
    choice true f m count = ap f (let k : m + count ≡ 1 * count + m = omega arith in k)
    choice false f m count = ap f (let k : m ≡ 0 * count + m = omega arith in k)

pub moved-whole : (old new : List Gate) (direction : Direction) (a amount value : List GateId) (count i : ℕ) → i ≡ 0 → IsPartMoved old new direction a amount value count i
    → Writes new value (length a) (λ v. moved_by direction (length a) (number_at v old a) (number_at v old amount))
moved-whole old new direction a amount value count i e part = record {
  within = part.within;
  long = part.long;
  says = λ v. part.says v ∙ ap (λ k. moved_by direction (length a) (number_at v old a) (number_at v old (drop k amount))) e;
}

pub count-below : (count long place : ℕ) → long ≤ 7 → count ≡ 2 ^ (long - place) → count ≤ 128
count-below count long place few is = rw is (pow_mono {i = long - place} {j = 7} (omega (arith, few)))

-- the bits of the amount beyond those of the stages say whether it is past the width
past-or-moved : (direction : Direction) (n a high low s : ℕ) → n ≤ 2 ^ s → a < 2 ^ n → cond (truth high) 0 (moved_by direction n a low) ≡ shifted_by direction n a (high * 2 ^ s + low)
past-or-moved direction n a zero low s enough lt =
    let plain : low ≡ 0 * 2 ^ s + low = omega arith in
    inside ∙ ap (shifted_by direction n a) plain
  where
    inside : moved_by direction n a low ≡ shifted_by direction n a low
    inside = elim (cases_lt low n) [
      | inl less ↦
          let test : nat_lt low n ≡ true = lt-ltb low n less in
          ap (λ b. cond b (moved_by direction n a low) 0) (sym test)
      | inr ge ↦
          let test : nat_lt low n ≡ false = le-ltb low n ge in
          moved_past direction a n low lt ge ∙ ap (λ b. cond b (moved_by direction n a low) 0) (sym test)
    ]
past-or-moved direction n a (suc high) low s enough lt =
    let far : n ≤ suc high * 2 ^ s + low = great (2 ^ s) enough in
    let test : nat_lt (suc high * 2 ^ s + low) n ≡ false = later (suc high * 2 ^ s + low) far in
    ap (λ t. cond t 0 (moved_by direction n a low)) (truth-positive (suc high) (omega arith)) ∙ ap (λ b. cond b (moved_by direction n a (suc high * 2 ^ s + low)) 0) (sym test)
  where
    great : (p : ℕ) → n ≤ p → n ≤ suc high * p + low
    great p h = let e : suc high * p + low ≡ p + (high * p + low) = omega arith in omega (arith, e, h)

    later : (m : ℕ) → n ≤ m → nat_lt m n ≡ false
    later m h = le-ltb m n h

pub shifted-writes : (old g1 g2 g3 new : List Gate) (direction : Direction) (a amount value zeros digits : List GateId) (s : ℕ) (past off : GateId) → AreGates old a → AreGates old amount
    → s ≤ length amount → length a ≤ 2 ^ s
    → Keeps old g1 → Writes g1 value (length a) (λ v. moved_by direction (length a) (number_at v old a) (number_at v old (drop (length amount - s) amount)))
    → Keeps g1 g2 → Makes g2 past (λ v. truth (number_at v g1 (take (length amount - s) amount)))
    → Keeps g2 g3 → Makes g3 off (λ _. false) → zeros ≡ replicate (length a) off
    → Writes new digits (length zeros) (λ v. cond (gate_at v g3 past) (number_at v g3 zeros) (number_at v g3 value))
    → Writes new digits (length a) (λ v. shifted_by direction (length a) (number_at v old a) (number_at v old amount))
shifted-writes old g1 g2 g3 new direction a amount value zeros digits s past off ina inb within enough k1 w1 k2 m2 k3 m3 none w = record {
  within = w.within;
  long = w.long ∙ (ap length none ∙ length-replicate (length a) off);
  says = λ v.
      let start = length amount - s in
      let high = number_at v old (take start amount) in
      let low = number_at v old (drop start amount) in
      let p3 : gate_at v g3 past ≡ truth high = k3.kept v past m2.within ∙ (m2.says v ∙ ap truth (number-kept old g1 k1 (take start amount) (gates_take old start amount inb) v)) in
      let z3 : number_at v g3 zeros ≡ 0 = ap (number_at v g3) none ∙ (number-replicate v g3 (length a) off ∙ ap (λ b. cond b (2 ^ length a - 1) 0) (m3.says v)) in
      let v3 : number_at v g3 value ≡ moved_by direction (length a) (number_at v old a) low = number-kept g1 g3 (keeps_trans g1 g2 g3 k2 k3) value w1.within v ∙ w1.says v in
      let long : length (drop start amount) ≡ s = length-drop start amount ∙ (let e : length amount - start ≡ s = omega (arith, within) in e) in
      let split : number_at v old amount ≡ high * 2 ^ s + low =
      ap (number_at v old) (sym (take-append-drop start amount)) ∙ (number-at-append v old (take start amount) (drop start amount) ∙ ap (λ k. high * 2 ^ k + low) long) in
      w.says v ∙ (three p3 z3 v3 ∙ (past-or-moved direction (length a) (number_at v old a) high low s enough (number-at-below v old a)
      ∙ ap (λ k. shifted_by direction (length a) (number_at v old a) k) (sym split)));
}
  where
    three : {p p' : Bool} {q q' r r' : ℕ} → p ≡ p' → q ≡ q' → r ≡ r' → cond p q r ≡ cond p' q' r'
    three e f g = cc

-- inverted, shifted and inverted again where the sign is 1, and else shifted
pub signed-writes : (g0 g1 g2 g3 g4 new : List Gate) (a b turned turned_down negative positive digits : List GateId) (d : GateId) → AreGates g0 a → AreGates g0 b → 1 ≤ length a
    → Keeps g0 g1 → Writes g1 turned (length a) (λ v. 2 ^ length a - 1 - number_at v g0 a)
    → Keeps g1 g2 → Writes g2 turned_down (length turned) (λ v. shifted_right (length turned) (number_at v g1 turned) (number_at v g1 b))
    → Keeps g2 g3 → Writes g3 negative (length turned_down) (λ v. 2 ^ length turned_down - 1 - number_at v g2 turned_down)
    → Keeps g3 g4 → Writes g4 positive (length a) (λ v. shifted_right (length a) (number_at v g3 a) (number_at v g3 b))
    → Writes new digits (length negative) (λ v. cond (gate_at v g4 (get_or a 0 d)) (number_at v g4 negative) (number_at v g4 positive))
    → Writes new digits (length a) (λ v. shifted_signed (length a) (number_at v g0 a) (number_at v g0 b))
signed-writes g0 g1 g2 g3 g4 new a b turned turned_down negative positive digits d ina inb least k1 w1 k2 w2 k3 w3 k4 w4 w5 =
    let k03 = keeps_trans g0 g2 g3 (keeps_trans g0 g1 g2 k1 k2) k3 in
    let k04 = keeps_trans g0 g3 g4 k03 k4 in
    let down_long : length turned_down ≡ length a = w2.long ∙ w1.long in
    record {
      within = w5.within;
      long = w5.long ∙ (w3.long ∙ down_long);
      says = λ v.
          let n = length a in
          let x = number_at v g0 a in
          let y = number_at v g0 b in
          let sign : gate_at v g4 (get_or a 0 d) ≡ gate_at v g0 (get_or a 0 d) = k04.kept v (get_or a 0 d) (ina 0 d least) in
          let fallen : number_at v g2 turned_down ≡ shifted_right n (2 ^ n - 1 - x) y =
          w2.says v ∙ (ap (λ k. shifted_right k (number_at v g1 turned) (number_at v g1 b)) w1.long
          ∙ (ap (λ k. shifted_right n k (number_at v g1 b)) (w1.says v) ∙ ap (λ k. shifted_right n (2 ^ n - 1 - x) k) (number-kept g0 g1 k1 b inb v))) in
          let raised : number_at v g4 negative ≡ 2 ^ n - 1 - shifted_right n (2 ^ n - 1 - x) y =
          number-kept g3 g4 k4 negative w3.within v ∙ (w3.says v ∙ (ap (λ k. 2 ^ k - 1 - number_at v g2 turned_down) down_long ∙ ap (λ k. 2 ^ n - 1 - k) fallen)) in
          let plain : number_at v g4 positive ≡ shifted_right n x y =
          w4.says v ∙ (ap (λ k. shifted_right n k (number_at v g3 b)) (number-kept g0 g3 k03 a ina v) ∙ ap (λ k. shifted_right n x k) (number-kept g0 g3 k03 b inb v)) in
          w5.says v ∙ (three sign raised plain ∙ ap (λ s. cond s (2 ^ n - 1 - shifted_right n (2 ^ n - 1 - x) y) (shifted_right n x y)) (sym (sign-at v g0 a d least)));
    }
  where
    three : {p p' : Bool} {q q' r r' : ℕ} → p ≡ p' → q ≡ q' → r ≡ r' → cond p q r ≡ cond p' q' r'
    three e f g = cc
