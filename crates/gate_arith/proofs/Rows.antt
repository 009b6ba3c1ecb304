-- Products row by row.
use Rattle.gate_arith.proofs.Common.{ℕ, suc, ◌≡◌, ◌<◌, ◌≤◌, ◌+◌, ◌-◌, ◌*◌, ◌%◌, ◌^◌, Bool, true, false, cond, List, [], get_or, drop, map, replicate, length, arith, sym, ap, refl, ◌∙◌, pow-suc, mod-eq_of_lt, mod-add-mod, add-mod-mod, zero-mod, mul-mod_first, length-map, length-drop, length-replicate, drop_more, drop_all, digit, GateId, Gate, gate_at, Keeps, Makes, AreGates, Writes, number_at}
use Rattle.gate_arith.proofs.Digits.{gates_later, keeps_trans, number-at-below, number-kept}
use Rattle.gate_arith.proofs.Pieces.{gates_replicate, number-replicate}

-- the product by the least significant bits of the second, from `place` on, and the first shifted up to that index
pub record IsPartProduct (old new : List Gate) (a b total row zeros : List GateId) (place : ℕ) : Type 0 where
  pub keeps : Keeps old new
  pub within : AreGates new total
  pub row_within : AreGates new row
  pub long : length total ≡ length a
  pub row_long : length row ≡ length a
  pub none_within : AreGates new zeros
  pub none : (v : ℕ → Bool) → number_at v new zeros ≡ 0
  pub says : (v : ℕ → Bool) → number_at v new total ≡ number_at v old a * number_at v old (drop place b) % 2 ^ length a
  pub row_says : (v : ℕ → Bool) → number_at v new row ≡ number_at v old a * 2 ^ (length b - place) % 2 ^ length a

pub no_rows : (old new : List Gate) (a b total row zeros : List GateId) (off : GateId) → Keeps old new → AreGates old a → Makes new off (λ _. false) → total ≡ replicate (length a) off → row ≡ a
    → zeros ≡ replicate (length a) off → IsPartProduct old new a b total row zeros (length b)
no_rows old new a b total row zeros off kept ina made is same none =
    let inside : AreGates new (replicate (length a) off) = gates_replicate new (length a) off made.within in
    let nothing : (v : ℕ → Bool) → number_at v new (replicate (length a) off) ≡ 0 = λ v. number-replicate v new (length a) off ∙ ap (λ x. cond x (2 ^ length a - 1) 0) (made.says v) in
    rw (is, same, none) (record {
      keeps = kept;
      within = inside;
      row_within = gates_later old new a kept.longer ina;
      long = length-replicate (length a) off;
      row_long = refl;
      none_within = inside;
      none = nothing;
      says = λ v.
          let empty : drop (length b) b ≡ [] = drop_all (length b) b (omega arith) in
          nothing v ∙ sym (ap (λ (xs : List GateId). number_at v old a * number_at v old xs % 2 ^ length a) empty
          ∙ (ap (λ k. k % 2 ^ length a) (let e : number_at v old a * 0 ≡ 0 = omega arith in e) ∙ zero-mod (2 ^ length a)));
      row_says = λ v.
          let e : length b - length b ≡ 0 = omega arith in
          number-kept old new kept a ina v ∙ sym (ap (λ k. number_at v old a * 2 ^ k % 2 ^ length a) e
          ∙ (ap (λ k. k % 2 ^ length a) (let m : number_at v old a * 1 ≡ number_at v old a = omega arith in m) ∙ mod-eq_of_lt (number-at-below v old a)));
    })

-- one more row
row-more : (y : Bool) (x m q p : ℕ) → (x * m % p + cond y (x * q % p) 0) % p ≡ x * (digit y * q + m) % p
row-more true x m q p = mod-add-mod (x * m) p (x * q % p) ∙ (add-mod-mod (x * m) (x * q) p ∙ ap (λ k. k % p) (let e : x * m + x * q ≡ x * (1 * q + m) = omega arith in e))
row-more false x m q p = mod-add-mod (x * m) p 0 ∙ ap (λ k. k % p) (let e : x * m + 0 ≡ x * (0 * q + m) = omega arith in e)

pub product-more : (old mid g1 g2 new : List Gate) (a b total row zeros chosen total' row' : List GateId) (d : GateId) (i j : ℕ) → i ≡ j + 1 → i ≤ length b
    → IsPartProduct old mid a b total row zeros i → (get_or b j d).index < length old
    → Keeps mid g1 → Writes g1 chosen (length row) (λ v. cond (gate_at v mid (get_or b j d)) (number_at v mid row) (number_at v mid zeros))
    → Keeps g1 g2 → Writes g2 total' (length total) (λ v. (number_at v g1 total + number_at v g1 chosen) % 2 ^ length total)
    → Keeps g2 new → Writes new row' (length row) (λ v. number_at v g2 row * 2 % 2 ^ length row)
    → IsPartProduct old new a b total' row' zeros j
product-more old mid g1 g2 new a b total row zeros chosen total' row' d i j e le part inside k1 w1 k2 w2 k3 w3 =
    let one = get_or b j d in
    let k12 = keeps_trans mid g1 g2 k1 k2 in
    let k13 = keeps_trans mid g2 new k12 k3 in
    record {
      keeps = keeps_trans old mid new part.keeps k13;
      within = gates_later g2 new total' k3.longer w2.within;
      row_within = w3.within;
      long = w2.long ∙ part.long;
      row_long = w3.long ∙ part.row_long;
      none_within = gates_later mid new zeros k13.longer part.none_within;
      none = λ v. number-kept mid new k13 zeros part.none_within v ∙ part.none v;
      says = λ v.
          let x = number_at v old a in
          let y = gate_at v old one in
          let m = number_at v old (drop i b) in
          let p = 2 ^ length a in
          let q = 2 ^ (length b - i) in
          let y2 : gate_at v mid one ≡ y = part.keeps.kept v one inside in
          let picked : number_at v g1 chosen ≡ cond y (x * q % p) 0 = w1.says v ∙ three y2 (part.row_says v) (part.none v) in
          let before : number_at v g1 total ≡ x * m % p = number-kept mid g1 k1 total part.within v ∙ part.says v in
          let tail : length (map (gate_at v old) (drop (j + 1) b)) ≡ length b - i =
          length-map (drop (j + 1) b) (gate_at v old) ∙ (length-drop (j + 1) b ∙ (let r : length b - (j + 1) ≡ length b - i = omega (arith, e) in r)) in
          let more : number_at v old (drop j b) ≡ digit y * q + m =
          ap (number_at v old) (drop_more b j d (omega (arith, e, le))) ∙ (ap (λ k. digit y * 2 ^ k + number_at v old (drop (j + 1) b)) tail
          ∙ ap (λ k. digit y * q + number_at v old (drop k b)) (sym e)) in
          number-kept g2 new k3 total' w2.within v ∙ (w2.says v ∙ (ap (λ k. (number_at v g1 total + number_at v g1 chosen) % 2 ^ k) part.long
          ∙ (ap (λ k. (k + number_at v g1 chosen) % p) before ∙ (ap (λ k. (x * m % p + k) % p) picked ∙ (row-more y x m q p ∙ ap (λ k. x * k % p) (sym more))))));
      row_says = λ v.
          let x = number_at v old a in
          let p = 2 ^ length a in
          let q = 2 ^ (length b - i) in
          let before : number_at v g2 row ≡ x * q % p = number-kept mid g2 k12 row part.row_within v ∙ part.row_says v in
          let next : 2 ^ (length b - j) ≡ q * 2 = ap (λ k. 2 ^ k) (let s : length b - j ≡ suc (length b - i) = omega (arith, e, le) in s) ∙ pow-suc 2 (length b - i) in
          w3.says v ∙ (ap (λ k. number_at v g2 row * 2 % 2 ^ k) part.row_long ∙ (ap (λ k. k * 2 % p) before ∙ (mul-mod_first (x * q) 2 p
          ∙ ap (λ k. k % p) (assoc x q 2 ∙ ap (λ k. x * k) (sym next)))));
    }
  where
    three : {s s' : Bool} {t t' u u' : ℕ} → s ≡ s' → t ≡ t' → u ≡ u' → cond s t u ≡ cond s' t' u'
    three f g h = cc

    assoc : (x y z : ℕ) → x * y * z ≡ x * (y * z)
    assoc x y z = omega arith

pub product-whole : (old new : List Gate) (a b total row zeros : List GateId) (i : ℕ) → i ≡ 0 → IsPartProduct old new a b total row zeros i
    → Writes new total (length a) (λ v. (number_at v old a * number_at v old b) % 2 ^ length a)
product-whole old new a b total row zeros i e part = record {
  within = part.within;
  long = part.long;
  says = λ v. part.says v ∙ ap (λ k. number_at v old a * number_at v old (drop k b) % 2 ^ length a) e;
}
