-- Sums bit by bit.
use Rattle.gate_arith.proofs.Common.{ℕ, suc, ◌≡◌, ◌<◌, ◌≤◌, ◌+◌, ◌-◌, ◌*◌, ◌%◌, ◌^◌, ◌++◌, Bool, true, false, not, cond, List, [], ◌∷◌, get_or, drop, map, reverse, length, arith, sym, ap, subst, refl, ◌∙◌, length-append, nat_lt, pow-suc, add-mul-mod_self_right, mod-eq_of_lt, length-map, length-reverse, length-drop, reverse-append, drop_more, drop_all, le-ltb, lt-ltb, digit, GateId, Gate, exclusive, gate_at, Keeps, Makes, IsDifference, IsFullSum, AreGates, IsSum, Writes, number_at}
use Rattle.gate_arith.proofs.Digits.{keeps_self, keeps_trans, gates_later, gates_push, number-kept, number-at-below}

full : (a b c : Bool) → digit (exclusive (exclusive a b) c) + 2 * digit (cond (exclusive a b) c a) ≡ digit a + digit b + digit c
full true true true = refl
full true true false = refl
full true false true = refl
full true false false = refl
full false true true = refl
full false true false = refl
full false false true = refl
full false false false = refl

-- the three gates of a full adder, one after the other
pub full-adds : (g0 g1 g2 g3 : List Gate) (a b c half sum carry : GateId)
    → a.index < length g0 → b.index < length g0 → c.index < length g0
    → Keeps g0 g1 → Makes g1 half (λ v. exclusive (gate_at v g0 a) (gate_at v g0 b))
    → Keeps g1 g2 → Makes g2 sum (λ v. exclusive (gate_at v g1 half) (gate_at v g1 c))
    → Keeps g2 g3 → Makes g3 carry (λ v. cond (gate_at v g2 half) (gate_at v g2 c) (gate_at v g2 a))
    → IsFullSum g0 g3 a b c sum carry
full-adds g0 g1 g2 g3 a b c half sum carry ia ib ic k1 m1 k2 m2 k3 m3 =
    let k02 = keeps_trans g0 g1 g2 k1 k2 in
    record {
      within = omega (arith, m2.within, k3.longer);
      out = m3.within;
      says = λ v.
          let x = gate_at v g0 a in
          let y = gate_at v g0 b in
          let z = gate_at v g0 c in
          let h1 : gate_at v g1 half ≡ exclusive x y = m1.says v in
          let s : gate_at v g3 sum ≡ exclusive (exclusive x y) z =
          k3.kept v sum m2.within ∙ (m2.says v ∙ (ap (λ p. exclusive p (gate_at v g1 c)) h1 ∙ ap (λ p. exclusive (exclusive x y) p) (k1.kept v c ic))) in
          let h2 : gate_at v g2 half ≡ exclusive x y = k2.kept v half m1.within ∙ h1 in
          let ca : gate_at v g3 carry ≡ cond (exclusive x y) z x =
          m3.says v ∙ (ap (λ p. cond p (gate_at v g2 c) (gate_at v g2 a)) h2
          ∙ (ap (λ p. cond (exclusive x y) p (gate_at v g2 a)) (k02.kept v c ic) ∙ ap (λ p. cond (exclusive x y) z p) (k02.kept v a ia))) in
          rw (s, ca) (full x y z);
    }

-- the least significant bits of a sum, from `i` on, least significant first
pub record IsPartSum (old new : List Gate) (a b : List GateId) (carry : GateId) (digits : List GateId) (passed : GateId) (i : ℕ) : Type 0 where
  pub keeps : Keeps old new
  pub within : AreGates new digits
  pub long : length digits + i ≡ length a
  pub out : passed.index < length new
  pub says : (v : ℕ → Bool) → number_at v new (reverse digits) + digit (gate_at v new passed) * 2 ^ length digits
      ≡ number_at v old (drop i a) + number_at v old (drop i b) + digit (gate_at v old carry)

pub no_sum : (old : List Gate) (a b : List GateId) (carry : GateId) (digits : List GateId) → digits ≡ [] → length a ≡ length b → carry.index < length old → IsPartSum old old a b carry digits carry (length a)
no_sum old a b carry digits e same inside = rw e (record {
  keeps = keeps_self old;
  within = λ i d lt. absurd (omega arith);
  long = omega arith;
  out = inside;
  says = λ v.
      let left : drop (length a) a ≡ [] = drop_all (length a) a (omega arith) in
      let right : drop (length a) b ≡ [] = drop_all (length a) b (omega arith) in
      rw (left, right) (omega arith);
})

one_more : (x y c s k p w nx ny n f : ℕ) → s + 2 * k ≡ x + y + c → w ≡ p * 2 → n + c * p ≡ nx + ny + f → (s * p + n) + k * w ≡ (x * p + nx) + (y * p + ny) + f
one_more x y c s k p w nx ny n f h e g =
    let scaled : (s + 2 * k) * p ≡ (x + y + c) * p = ap (λ z. z * p) h in
    rw e (omega (arith, scaled, g))

gates_reverse : (new : List Gate) (xs : List GateId) → AreGates new xs → AreGates new (reverse xs)
gates_reverse new [] h = λ i d lt. absurd (omega arith)
gates_reverse new (x ∷ xs) h =
    let rest = gates_reverse new xs (λ i d lt. h (suc i) d (omega arith)) in
    let e : reverse (x ∷ xs) ≡ reverse xs ++ x ∷ [] = reverse-append (x ∷ []) xs in
    rw e (gates_push new (reverse xs) x rest (h 0 x (omega arith)))

pub sum-more : (old mid new : List Gate) (a b : List GateId) (carry passed next digit : GateId) (digits digits' : List GateId) (i j : ℕ) (d : GateId)
    → length a ≡ length b → i ≡ j + 1 → IsPartSum old mid a b carry digits passed i → i ≤ length a
    → (get_or a j d).index < length old → (get_or b j d).index < length old
    → Keeps mid new → IsFullSum mid new (get_or a j d) (get_or b j d) passed digit next
    → digits' ≡ digits ++ digit ∷ [] → IsPartSum old new a b carry digits' next j
sum-more old mid new a b carry passed next one digits digits' i j d same e part le ina inb kept adds is = rw is (record {
  keeps = keeps_trans old mid new part.keeps kept;
  within = gates_push new digits one (gates_later mid new digits kept.longer part.within) adds.within;
  long = omega (arith, part.long, length-append digits (one ∷ []));
  out = adds.out;
  says = λ v.
      let x = gate_at v old (get_or a j d) in
      let y = gate_at v old (get_or b j d) in
      let ax : gate_at v mid (get_or a j d) ≡ x = part.keeps.kept v (get_or a j d) ina in
      let by : gate_at v mid (get_or b j d) ≡ y = part.keeps.kept v (get_or b j d) inb in
      let digits_sum : digit (gate_at v new one) + 2 * digit (gate_at v new next) ≡ digit x + digit y + digit (gate_at v mid passed) =
      adds.says v ∙ (ap (λ p. digit p + digit (gate_at v mid (get_or b j d)) + digit (gate_at v mid passed)) ax ∙ ap (λ p. digit x + digit p + digit (gate_at v mid passed)) by) in
      let left : number_at v old (drop j a) ≡ digit x * 2 ^ length digits + number_at v old (drop i a) =
      ap (number_at v old) (drop_more a j d (omega arith)) ∙ tail v a (omega arith) in
      let right : number_at v old (drop j b) ≡ digit y * 2 ^ length digits + number_at v old (drop i b) =
      ap (number_at v old) (drop_more b j d (omega arith)) ∙ tail v b (omega (arith, same)) in
      let turned : reverse (digits ++ one ∷ []) ≡ one ∷ reverse digits = reverse-append digits (one ∷ []) in
      let made : number_at v new (reverse (digits ++ one ∷ [])) ≡ digit (gate_at v new one) * 2 ^ length digits + number_at v mid (reverse digits) =
      ap (number_at v new) turned ∙ (ap (λ k. digit (gate_at v new one) * 2 ^ k + number_at v new (reverse digits)) (length-map (reverse digits) (gate_at v new) ∙ length-reverse digits)
      ∙ ap (λ k. digit (gate_at v new one) * 2 ^ length digits + k) (number-kept mid new kept (reverse digits) (gates_reverse mid digits part.within) v)) in
      let wide : 2 ^ length (digits ++ one ∷ []) ≡ 2 ^ length digits * 2 = ap (λ k. 2 ^ k) (length-append digits (one ∷ []) ∙ plus (length digits)) ∙ pow-suc 2 (length digits) in
      rw (made, left, right) (one_more (digit x) (digit y) (digit (gate_at v mid passed)) (digit (gate_at v new one)) (digit (gate_at v new next)) (2 ^ length digits)
      (2 ^ length (digits ++ one ∷ [])) (number_at v old (drop i a)) (number_at v old (drop i b)) (number_at v mid (reverse digits)) (digit (gate_at v old carry)) digits_sum wide (part.says v));
})
  where
    plus : (n : ℕ) → n + 1 ≡ suc n
    plus n = omega arith

    tail : (v : ℕ → Bool) (xs : List GateId) → length xs ≡ length a → number_at v old (get_or xs j d ∷ drop (j + 1) xs) ≡ digit (gate_at v old (get_or xs j d)) * 2 ^ length digits + number_at v old (drop i xs)
    tail v xs l =
        let n : length (map (gate_at v old) (drop (j + 1) xs)) ≡ length digits =
        length-map (drop (j + 1) xs) (gate_at v old) ∙ (length-drop (j + 1) xs ∙ (let k : length xs - (j + 1) ≡ length digits = omega (arith, l, e, part.long) in k)) in
        ap (λ k. digit (gate_at v old (get_or xs j d)) * 2 ^ k + number_at v old (drop (j + 1) xs)) n
        ∙ ap (λ k. digit (gate_at v old (get_or xs j d)) * 2 ^ length digits + number_at v old (drop k xs)) (sym e)

pub sum-whole : (old new : List Gate) (a b : List GateId) (carry passed : GateId) (digits turned : List GateId) (i : ℕ) → i ≡ 0 → turned ≡ reverse digits
    → IsPartSum old new a b carry digits passed i → IsSum old new a b carry turned passed
sum-whole old new a b carry passed digits turned i e t part =
    let whole : length digits ≡ length a = omega (arith, e, part.long) in
    rw t (record {
      within = gates_reverse new digits part.within;
      long = length-reverse digits ∙ whole;
      out = part.out;
      says = λ v.
          let from : number_at v new (reverse digits) + digit (gate_at v new passed) * 2 ^ length digits ≡ number_at v old a + number_at v old b + digit (gate_at v old carry) =
          subst (λ k. number_at v new (reverse digits) + digit (gate_at v new passed) * 2 ^ length digits ≡ number_at v old (drop k a) + number_at v old (drop k b) + digit (gate_at v old carry)) e (part.says v) in
          subst (λ k. number_at v new (reverse digits) + digit (gate_at v new passed) * 2 ^ k ≡ number_at v old a + number_at v old b + digit (gate_at v old carry)) whole from;
    })

cut : (n c p s : ℕ) → n + c * p ≡ s → n < p → n ≡ s % p
cut n c p s h lt = sym (ap (λ k. k % p) (sym h) ∙ (add-mul-mod_self_right n c p ∙ mod-eq_of_lt lt))

-- a sum whose carry in is 0, cut
pub sum-cut : (old mid new : List Gate) (a b : List GateId) (off : GateId) (digits : List GateId) (carried : GateId) → Keeps old mid → AreGates old a → AreGates old b
    → Makes mid off (λ _. false) → IsSum mid new a b off digits carried → Writes new digits (length a) (λ v. (number_at v old a + number_at v old b) % 2 ^ length a)
sum-cut old mid new a b off digits carried kept ina inb made sum = record {
  within = sum.within;
  long = sum.long;
  says = λ v.
      let left = number-kept old mid kept a ina v in
      let right = number-kept old mid kept b inb v in
      let none : digit (gate_at v mid off) ≡ 0 = ap digit (made.says v) in
      let whole : number_at v new digits + digit (gate_at v new carried) * 2 ^ length a ≡ number_at v old a + number_at v old b = omega (arith, sum.says v, left, right, none) in
      cut (number_at v new digits) (digit (gate_at v new carried)) (2 ^ length a) (number_at v old a + number_at v old b) whole
      (subst (λ k. number_at v new digits < 2 ^ k) sum.long (number-at-below v new digits));
}

-- a sum of the first, the second inverted, and 1
pub sum-minus : (old turned_in one_in new : List Gate) (a b turned : List GateId) (one : GateId) (digits : List GateId) (carried : GateId) → length a ≡ length b
    → Keeps old turned_in → Keeps turned_in one_in → AreGates old a → Writes turned_in turned (length b) (λ v. 2 ^ length b - 1 - number_at v old b)
    → Makes one_in one (λ _. true) → IsSum one_in new a turned one digits carried → IsDifference old new a b digits carried
sum-minus old mid late new a b turned one digits carried same k1 k2 ina writes made sum = record {
  within = sum.within;
  long = sum.long;
  out = sum.out;
  says = λ v.
      let left = number-kept old late (keeps_trans old mid late k1 k2) a ina v in
      let right : number_at v late turned ≡ 2 ^ length b - 1 - number_at v old b = number-kept mid late k2 turned writes.within v ∙ writes.says v in
      let unit : digit (gate_at v late one) ≡ 1 = ap digit (made.says v) in
      let widths : 2 ^ length b ≡ 2 ^ length a = ap (λ k. 2 ^ k) (sym same) in
      let below = number-at-below v old b in
      regroup (number_at v new digits + digit (gate_at v new carried) * 2 ^ length a) (number_at v late a) (number_at v old a) (number_at v late turned) (number_at v old b) (2 ^ length b) (2 ^ length a)
      (digit (gate_at v late one)) (sum.says v) left right unit widths below;
}
  where
    regroup : (s l n t m q p o : ℕ) → s ≡ l + t + o → l ≡ n → t ≡ q - 1 - m → o ≡ 1 → q ≡ p → m < q → s ≡ n + (p - m)
    regroup s l n t m q p o h1 h2 h3 h4 h5 lt = omega (arith, h1, h2, h3, h4, h5, lt)

pub difference-cut : (old new : List Gate) (a b digits : List GateId) (carried : GateId) → IsDifference old new a b digits carried
    → Writes new digits (length a) (λ v. (number_at v old a + (2 ^ length a - number_at v old b)) % 2 ^ length a)
difference-cut old new a b digits carried minus = record {
  within = minus.within;
  long = minus.long;
  says = λ v. cut (number_at v new digits) (digit (gate_at v new carried)) (2 ^ length a) (number_at v old a + (2 ^ length a - number_at v old b)) (minus.says v)
      (subst (λ k. number_at v new digits < 2 ^ k) minus.long (number-at-below v new digits));
}

-- where a difference carries, the first isn't less
carries : (c : Bool) (d n m p : ℕ) → d + digit c * p ≡ n + (p - m) → d < p → n < p → m < p → not c ≡ nat_lt n m
carries true d n m p h ld ln lm =
    let le : m ≤ n = omega (arith, h) in
    sym (le-ltb n m le)
carries false d n m p h ld ln lm =
    let lt : n < m = omega (arith, h) in
    sym (lt-ltb n m lt)

pub carry-less : (old mid new : List Gate) (a b digits : List GateId) (carried id : GateId) → length a ≡ length b → IsDifference old mid a b digits carried
    → Makes new id (λ v. not (gate_at v mid carried)) → Makes new id (λ v. nat_lt (number_at v old a) (number_at v old b))
carry-less old mid new a b digits carried id same minus made = record {
  within = made.within;
  says = λ v. made.says v ∙ carries (gate_at v mid carried) (number_at v mid digits) (number_at v old a) (number_at v old b) (2 ^ length a) (minus.says v)
      (subst (λ k. number_at v mid digits < 2 ^ k) minus.long (number-at-below v mid digits)) (number-at-below v old a) (subst (λ k. number_at v old b < 2 ^ k) (sym same) (number-at-below v old b));
}
