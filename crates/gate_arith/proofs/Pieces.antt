-- Parts of numbers, and numbers put together.
use Rattle.gate_arith.proofs.Common.{ℕ, zero, suc, ◌≡◌, ◌<◌, ◌≤◌, ◌+◌, ◌-◌, ◌*◌, ◌/◌, ◌%◌, ◌^◌, ◌++◌, Bool, true, false, cond, List, [], ◌∷◌, get_or, take, drop, map, min, replicate, length, arith, sym, ap, subst, refl, ◌∙◌, length-append, nat_le, pow-suc, pow-add, pow_pos, shr_high, mod_low, field_of, le-leb, lt-leb, length-map, length-take, length-drop, length-replicate, map-append, take-append-drop, digit, extended_signed, is_negative, GateId, Gate, gate_at, Keeps, Makes, AreGates, Writes, number_at, number_of}
use Rattle.gate_arith.proofs.Digits.{gates_later, number-append, number-at-below, number-below, number-kept}

pub gates_append : (gates : List Gate) (xs ys : List GateId) → AreGates gates xs → AreGates gates ys → AreGates gates (xs ++ ys)
gates_append gates [] ys hx hy i d lt = hy i d lt
gates_append gates (x ∷ xs) ys hx hy zero d lt = hx 0 x (omega arith)
gates_append gates (x ∷ xs) ys hx hy (suc k) d lt = gates_append gates xs ys (λ i e l. hx (suc i) e (omega arith)) hy k d (omega arith)

pub gates_take : (gates : List Gate) (n : ℕ) (xs : List GateId) → AreGates gates xs → AreGates gates (take n xs)
gates_take gates zero xs h i d lt = absurd (omega arith)
gates_take gates (suc n) [] h i d lt = absurd (omega arith)
gates_take gates (suc n) (x ∷ xs) h zero d lt = h 0 x (omega arith)
gates_take gates (suc n) (x ∷ xs) h (suc k) d lt = gates_take gates n xs (λ i e l. h (suc i) e (omega arith)) k d (omega arith)

pub gates_drop : (gates : List Gate) (n : ℕ) (xs : List GateId) → AreGates gates xs → AreGates gates (drop n xs)
gates_drop gates zero xs h i d lt = h i d lt
gates_drop gates (suc n) [] h i d lt = absurd (omega arith)
gates_drop gates (suc n) (x ∷ xs) h i d lt = gates_drop gates n xs (λ k e l. h (suc k) e (omega arith)) i d lt

pub gates_replicate : (gates : List Gate) (n : ℕ) (x : GateId) → x.index < length gates → AreGates gates (replicate n x)
gates_replicate gates zero x h i d lt = absurd (omega arith)
gates_replicate gates (suc n) x h zero d lt = h
gates_replicate gates (suc n) x h (suc k) d lt = gates_replicate gates n x h k d (omega arith)

-- the two parts of a list of bits
pub number-at-append : (v : ℕ → Bool) (gates : List Gate) (xs ys : List GateId) → number_at v gates (xs ++ ys) ≡ number_at v gates xs * 2 ^ length ys + number_at v gates ys
number-at-append v gates xs ys =
    ap number_of (map-append (gate_at v gates) xs ys)
    ∙ (number-append (map (gate_at v gates) xs) (map (gate_at v gates) ys)
    ∙ ap (λ k. number_at v gates xs * 2 ^ k + number_at v gates ys) (length-map ys (gate_at v gates)))

number-split : (v : ℕ → Bool) (gates : List Gate) (n : ℕ) (xs : List GateId) → number_at v gates xs ≡ number_at v gates (take n xs) * 2 ^ length (drop n xs) + number_at v gates (drop n xs)
number-split v gates n xs = ap (number_at v gates) (sym (take-append-drop n xs)) ∙ number-at-append v gates (take n xs) (drop n xs)

-- the bits before an index are those of the quotient, and the others those of the remainder
pub number-take : (v : ℕ → Bool) (gates : List Gate) (n k : ℕ) (xs : List GateId) → n + k ≡ length xs → number_at v gates (take n xs) ≡ number_at v gates xs / 2 ^ k
number-take v gates n k xs e =
    let long : length (drop n xs) ≡ k = length-drop n xs ∙ (let m : length xs - n ≡ k = omega (arith, e) in m) in
    let below : number_at v gates (drop n xs) < 2 ^ k = subst (λ m. number_at v gates (drop n xs) < 2 ^ m) long (number-at-below v gates (drop n xs)) in
    let split : number_at v gates xs ≡ number_at v gates (take n xs) * 2 ^ k + number_at v gates (drop n xs) =
    number-split v gates n xs ∙ ap (λ m. number_at v gates (take n xs) * 2 ^ m + number_at v gates (drop n xs)) long in
    sym (ap (λ m. m / 2 ^ k) split ∙ shr_high (number_at v gates (take n xs)) k (number_at v gates (drop n xs)) below)

pub number-drop : (v : ℕ → Bool) (gates : List Gate) (n k : ℕ) (xs : List GateId) → n + k ≡ length xs → number_at v gates (drop n xs) ≡ number_at v gates xs % 2 ^ k
number-drop v gates n k xs e =
    let long : length (drop n xs) ≡ k = length-drop n xs ∙ (let m : length xs - n ≡ k = omega (arith, e) in m) in
    let below : number_at v gates (drop n xs) < 2 ^ k = subst (λ m. number_at v gates (drop n xs) < 2 ^ m) long (number-at-below v gates (drop n xs)) in
    let split : number_at v gates xs ≡ number_at v gates (take n xs) * 2 ^ k + number_at v gates (drop n xs) =
    number-split v gates n xs ∙ ap (λ m. number_at v gates (take n xs) * 2 ^ m + number_at v gates (drop n xs)) long in
    sym (ap (λ m. m % 2 ^ k) split ∙ mod_low (number_at v gates (take n xs)) k (number_at v gates (drop n xs)) below)

pub part-writes : (gates : List Gate) (a part : List GateId) (from width start count : ℕ) → start + width + from ≡ length a → count ≡ width → part ≡ take count (drop start a) → AreGates gates a
    → Writes gates part width (λ v. number_at v gates a / 2 ^ from % 2 ^ width)
part-writes gates a part from width start count e many was ina = let is : part ≡ take width (drop start a) = was ∙ ap (λ k. take k (drop start a)) many in rw is (record {
  within = gates_take gates width (drop start a) (gates_drop gates start a ina);
  long = length-take width (drop start a) ∙ (let m : min width (length (drop start a)) ≡ width = omega (arith, length-drop start a, e) in m);
  says = λ v.
      let rest : width + from ≡ length (drop start a) = omega (arith, length-drop start a, e) in
      let low : number_at v gates (drop start a) ≡ number_at v gates a % 2 ^ (width + from) = number-drop v gates start (width + from) a (omega (arith, e)) in
      number-take v gates width from (drop start a) rest ∙ (ap (λ k. k / 2 ^ from) low ∙ field_of (number_at v gates a) width from);
})

pub joined-writes : (gates : List Gate) (high low both : List GateId) → both ≡ high ++ low → AreGates gates high → AreGates gates low
    → Writes gates both (length high + length low) (λ v. number_at v gates high * 2 ^ length low + number_at v gates low)
joined-writes gates high low both is inh inl = rw is (record {
  within = gates_append gates high low inh inl;
  long = length-append high low;
  says = λ v. number-at-append v gates high low;
})

pub number-replicate : (v : ℕ → Bool) (gates : List Gate) (n : ℕ) (x : GateId) → number_at v gates (replicate n x) ≡ cond (gate_at v gates x) (2 ^ n - 1) 0
number-replicate v gates n x = go n (gate_at v gates x) refl
  where
    last : (b : Bool) (p : ℕ) → 0 < p → digit b * p + cond b (p - 1) 0 ≡ cond b (p * 2 - 1) 0
    last true p h = omega (arith, h)
    last false p h = omega arith

    go : (n : ℕ) (b : Bool) → gate_at v gates x ≡ b → number_at v gates (replicate n x) ≡ cond b (2 ^ n - 1) 0
    go zero true e = refl
    go zero false e = refl
    go (suc n) b e =
        let long : length (map (gate_at v gates) (replicate n x)) ≡ n = length-map (replicate n x) (gate_at v gates) ∙ length-replicate n x in
        rw (long, e, go n b e, pow-suc 2 n) (last b (2 ^ n) (pow_pos n))

-- zeros before a number
pub extended-writes : (old new : List Gate) (a zeros both : List GateId) (off : GateId) (width count : ℕ) → Keeps old new → AreGates old a → Makes new off (λ _. false)
    → zeros ≡ replicate count off → count + length a ≡ width → ((gates : List Gate) → AreGates gates zeros → AreGates gates a
    → Writes gates both (length zeros + length a) (λ v. number_at v gates zeros * 2 ^ length a + number_at v gates a))
    → Writes new both width (λ v. number_at v old a)
extended-writes old new a zeros both off width count kept ina made is e joins =
    let inside : AreGates new zeros = rw is (gates_replicate new count off made.within) in
    let whole = joins new inside (gates_later old new a kept.longer ina) in
    record {
      within = whole.within;
      long = whole.long ∙ (let m : length zeros + length a ≡ width = omega (arith, ap length is, length-replicate count off, e) in m);
      says = λ v.
          let none : number_at v new zeros ≡ 0 = ap (number_at v new) is ∙ (number-replicate v new count off ∙ ap (λ b. cond b (2 ^ count - 1) 0) (made.says v)) in
          whole.says v ∙ (ap (λ k. k * 2 ^ length a + number_at v new a) none ∙ ((let plain : 0 * 2 ^ length a + number_at v new a ≡ number_at v new a = omega arith in plain) ∙ number-kept old new kept a ina v));
    }

-- the most significant bit is the sign
pub sign-number : (bs : List Bool) (d : Bool) → 1 ≤ length bs → is_negative (length bs) (number_of bs) ≡ get_or bs 0 d
sign-number [] d h = absurd (omega arith)
sign-number (b ∷ bs) d h =
    let e : suc (length bs) - 1 ≡ length bs = omega arith in
    ap (λ k. nat_le (2 ^ k) (number_of (b ∷ bs))) e ∙ go b (2 ^ length bs) (number_of bs) (number-below bs)
  where
    go : (b : Bool) (p n : ℕ) → n < p → nat_le p (digit b * p + n) ≡ b
    go true p n lt = le-leb p (1 * p + n) (omega arith)
    go false p n lt = lt-leb p (0 * p + n) (omega (arith, lt))

pub sign-at : (v : ℕ → Bool) (gates : List Gate) (xs : List GateId) (d : GateId) → 1 ≤ length xs → is_negative (length xs) (number_at v gates xs) ≡ gate_at v gates (get_or xs 0 d)
sign-at v gates [] d h = absurd (omega arith)
sign-at v gates (x ∷ xs) d h =
    let long : length (map (gate_at v gates) (x ∷ xs)) ≡ length (x ∷ xs) = length-map (x ∷ xs) (gate_at v gates) in
    subst (λ k. is_negative k (number_at v gates (x ∷ xs)) ≡ gate_at v gates x) long (sign-number (map (gate_at v gates) (x ∷ xs)) false (omega (arith, long)))

-- copies of the sign before a number
pub sign-extended-writes : (gates : List Gate) (a signs both : List GateId) (sign d : GateId) (width count : ℕ) → AreGates gates a → 1 ≤ length a → sign ≡ get_or a 0 d
    → signs ≡ replicate count sign → count + length a ≡ width → ((gates : List Gate) → AreGates gates signs → AreGates gates a
    → Writes gates both (length signs + length a) (λ v. number_at v gates signs * 2 ^ length a + number_at v gates a))
    → Writes gates both width (λ v. extended_signed (length a) width (number_at v gates a))
sign-extended-writes gates a signs both sign d width count ina least first is e joins =
    let signed : sign.index < length gates = subst (λ (g : GateId). g.index < length gates) (sym first) (ina 0 d least) in
    let inside : AreGates gates signs = rw is (gates_replicate gates count sign signed) in
    let whole = joins gates inside ina in
    record {
      within = whole.within;
      long = whole.long ∙ (let m : length signs + length a ≡ width = omega (arith, ap length is, length-replicate count sign, e) in m);
      says = λ v.
          let ones : number_at v gates signs ≡ cond (gate_at v gates sign) (2 ^ count - 1) 0 = ap (number_at v gates) is ∙ number-replicate v gates count sign in
          let is_sign : is_negative (length a) (number_at v gates a) ≡ gate_at v gates sign = sign-at v gates a d least ∙ ap (gate_at v gates) (sym first) in
          let wide : 2 ^ width ≡ 2 ^ count * 2 ^ length a = ap (λ k. 2 ^ k) (sym e) ∙ pow-add 2 count (length a) in
          whole.says v ∙ (ap (λ k. k * 2 ^ length a + number_at v gates a) ones
          ∙ (last (gate_at v gates sign) (2 ^ count) (2 ^ length a) (2 ^ width) (number_at v gates a) (pow_pos count) wide
          ∙ ap (λ b. cond b (2 ^ width - 2 ^ length a + number_at v gates a) (number_at v gates a)) (sym is_sign)));
    }
  where
    minus : (c p : ℕ) → 0 < c → (c - 1) * p + p ≡ c * p
    minus c p h =
        let one : (c - 1) + 1 ≡ c = omega arith in
        let whole : ((c - 1) + 1) * p ≡ c * p = ap (λ k. k * p) one in
        omega (arith, whole)

    last : (b : Bool) (c p w n : ℕ) → 0 < c → w ≡ c * p → cond b (c - 1) 0 * p + n ≡ cond b (w - p + n) n
    last true c p w n h e =
        let product : (c - 1) * p + p ≡ c * p = minus c p h in
        omega (arith, product, e)
    last false c p w n h e = omega arith
