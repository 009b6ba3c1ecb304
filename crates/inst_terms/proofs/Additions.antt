-- Sums and differences, and where they have no room.
use Rattle.inst_terms.proofs.Common.{ℕ, suc, ◌≡◌, ◌<◌, ◌≤◌, ◌+◌, ◌-◌, ◌*◌, ◌%◌, ◌^◌, Bool, true, false, not, ◌&&◌, ◌||◌, nat_le, nat_lt, pos, negsuc, inl, inr, refl, ap, sym, ◌∙◌, arith, ◌+ℤ◌, ◌-ℤ◌, cases_lt, lt-ltb, le-ltb, le-leb, lt-leb, ints, mod-eq_of_lt, add-mod_right, Num, Flags, Add, Sub, signed_of, wrapped, is_outside_signed, is_outside_unsigned, is_negative, is_flagged, poison_if, value_from, is_sign_alone, row_of}
use Rattle.inst_terms.proofs.Rows.{from_is-if}
use Rattle.inst_terms.proofs.Halves.{halves, signed_low, signed_high, outside-pos, outside-neg}

-- ---- the flags

-- a result with flags, from what each flag asks
pub flagged-is : (flags : Flags) (u s u' s' : Bool) (x x' : ℕ) → u ≡ u' → s ≡ s' → x ≡ x'
    → value_from ((flags.nuw && u) || (flags.nsw && s)) x ≡ poison_if (is_flagged flags u' s') (Num x')
flagged-is flags u s u' s' x x' e f g = rw (e, f, g) (from_is-if (is_flagged flags u' s') x')

-- ---- sums that wrap

-- two tests that are each other's opposite
not-least : (m x y : ℕ) → x + y + 1 ≡ 2 * m → not (nat_le m x) ≡ nat_le m y
not-least m x y e = elim (cases_lt x m) as (λ _. not (nat_le m x) ≡ nat_le m y) [
  | inl less ↦ rw (lt-leb m x less, le-leb m y (omega (arith, e, less))) refl
  | inr more ↦ rw (le-leb m x more, lt-leb m y (omega (arith, e, more))) refl
]

-- a number without another, where both are below the half
sub-inside : (n a k : ℕ) → a < 2 ^ (n - 1) → k < 2 ^ (n - 1) → is_outside_signed n (pos a +ℤ negsuc k) ≡ false
sub-inside n a k la lk = elim (cases_lt k a) as (λ _. is_outside_signed n (pos a +ℤ negsuc k) ≡ false) [
  | inl less ↦ let e : pos a +ℤ negsuc k ≡ pos (a - k - 1) = omega (arith, ints, less) in ap (is_outside_signed n) e ∙ (outside-pos n (a - k - 1) ∙ lt-leb (2 ^ (n - 1)) (a - k - 1) (omega (arith, la)))
  | inr more ↦ let e : pos a +ℤ negsuc k ≡ negsuc (k - a) = omega (arith, ints, more) in ap (is_outside_signed n) e ∙ (outside-neg n (k - a) ∙ lt-leb (2 ^ (n - 1)) (k - a) (omega (arith, lk)))
]

-- the difference of two numbers in one half
apart-inside : (n a b : ℕ) → a < 2 ^ (n - 1) → b < 2 ^ (n - 1) → is_outside_signed n (pos a -ℤ pos b) ≡ false
apart-inside n a b la lb = elim (cases_lt a b) as (λ _. is_outside_signed n (pos a -ℤ pos b) ≡ false) [
  | inl less ↦ let e : pos a -ℤ pos b ≡ negsuc (b - a - 1) = omega (arith, ints, less) in ap (is_outside_signed n) e ∙ (outside-neg n (b - a - 1) ∙ lt-leb (2 ^ (n - 1)) (b - a - 1) (omega (arith, lb)))
  | inr more ↦ let e : pos a -ℤ pos b ≡ pos (a - b) = omega (arith, ints, more) in ap (is_outside_signed n) e ∙ (outside-pos n (a - b) ∙ lt-leb (2 ^ (n - 1)) (a - b) (omega (arith, la)))
]

turned-inside : (n i j : ℕ) → i < 2 ^ (n - 1) → j < 2 ^ (n - 1) → is_outside_signed n (negsuc i -ℤ negsuc j) ≡ false
turned-inside n i j li lj = let e : negsuc i -ℤ negsuc j ≡ pos j -ℤ pos i = omega (arith, ints) in ap (is_outside_signed n) e ∙ apart-inside n j i lj li

or_false : (b : Bool) → (b || false) ≡ b
or_false true = refl
or_false false = refl

-- the difference, as it is wrapped
difference-number : (n a b : ℕ) → a < 2 ^ n → b < 2 ^ n → (a + (2 ^ n - b)) % 2 ^ n ≡ wrapped n (pos a -ℤ pos b)
unfolding wrapped
difference-number n a b la lb = elim (cases_lt a b) as (λ _. (a + (2 ^ n - b)) % 2 ^ n ≡ wrapped n (pos a -ℤ pos b)) [
  | inl less ↦
      let exact : pos a -ℤ pos b ≡ negsuc (b - a - 1) = omega (arith, ints, less) in
      let small : (b - a - 1) % 2 ^ n ≡ b - a - 1 = mod-eq_of_lt (omega (arith, lb)) in
      let here : (a + (2 ^ n - b)) % 2 ^ n ≡ a + (2 ^ n - b) = mod-eq_of_lt (omega (arith, less, lb)) in
      here ∙ (omega (arith, small, less, lb) ∙ sym (ap (wrapped n) exact))
  | inr more ↦
      let exact : pos a -ℤ pos b ≡ pos (a - b) = omega (arith, ints, more) in
      let sum : a + (2 ^ n - b) ≡ a - b + 2 ^ n = omega (arith, more, lb) in
      ap (λ k. k % 2 ^ n) sum ∙ (add-mod_right (a - b) (2 ^ n) ∙ sym (ap (wrapped n) exact))
]

wrap-low : (a b m : ℕ) → a + b < m → (a + b) % m ≡ a + b
wrap-low a b m h = mod-eq_of_lt h

wrap-high : (a b m : ℕ) → a < m → b < m → m ≤ a + b → (a + b) % m ≡ a + b - m
wrap-high a b m la lb h =
    let e : a + b ≡ (a + b - m) + m = omega (arith, h) in
    let small : a + b - m < m = omega (arith, la, lb) in
    ap (λ k. k % m) e ∙ (add-mod_right (a + b - m) m ∙ mod-eq_of_lt small)

pub outside-natural : (n k : ℕ) → is_outside_unsigned n (pos k) ≡ nat_le (2 ^ n) k
unfolding is_outside_unsigned
outside-natural n k = rw (le-ltb k 0 (omega arith)) refl

pub outside-negative : (n k : ℕ) → is_outside_unsigned n (negsuc k) ≡ true
unfolding is_outside_unsigned
outside-negative n k = refl

sum-unsigned : (n a b : ℕ) → a < 2 ^ n → b < 2 ^ n → nat_lt ((a + b) % 2 ^ n) a ≡ is_outside_unsigned n (pos a +ℤ pos b)
sum-unsigned n a b la lb = elim (cases_lt (a + b) (2 ^ n)) as (λ _. nat_lt ((a + b) % 2 ^ n) a ≡ is_outside_unsigned n (pos a +ℤ pos b)) [
  | inl less ↦ rw (wrap-low a b (2 ^ n) less, le-ltb (a + b) a (omega arith)) (sym (outside-natural n (a + b) ∙ lt-leb (2 ^ n) (a + b) less))
  | inr more ↦ rw (wrap-high a b (2 ^ n) la lb more, lt-ltb (a + b - 2 ^ n) a (omega (arith, lb, more))) (sym (outside-natural n (a + b) ∙ le-leb (2 ^ n) (a + b) more))
]

difference-unsigned : (n a b : ℕ) → a < 2 ^ n → b < 2 ^ n → nat_lt a b ≡ is_outside_unsigned n (pos a -ℤ pos b)
difference-unsigned n a b la lb = elim (cases_lt a b) as (λ _. nat_lt a b ≡ is_outside_unsigned n (pos a -ℤ pos b)) [
  | inl less ↦ let e : pos a -ℤ pos b ≡ negsuc (b - a - 1) = omega (arith, ints, less) in lt-ltb a b less ∙ sym (ap (is_outside_unsigned n) e ∙ outside-negative n (b - a - 1))
  | inr more ↦
      let e : pos a -ℤ pos b ≡ pos (a - b) = omega (arith, ints, more) in
      le-ltb a b more ∙ sym (ap (is_outside_unsigned n) e ∙ (outside-natural n (a - b) ∙ lt-leb (2 ^ n) (a - b) (omega (arith, la))))
]

-- ---- signed: a sign that is given as a truth

pub sign-low : (n a : ℕ) → a < 2 ^ (n - 1) → is_negative n a ≡ false
sign-low n a h = lt-leb (2 ^ (n - 1)) a h

pub sign-high : (n a : ℕ) → 2 ^ (n - 1) ≤ a → is_negative n a ≡ true
sign-high n a h = le-leb (2 ^ (n - 1)) a h

same-twice : (c : Bool) → (((c && true) || (not c && false)) && ((c && true) || (not c && false))) ≡ c
same-twice true = refl
same-twice false = refl

same-never : (c : Bool) → (((c && true) || (not c && false)) && ((c && false) || (not c && true))) ≡ false
same-never true = refl
same-never false = refl

never-same : (c : Bool) → (((c && false) || (not c && true)) && ((c && true) || (not c && false))) ≡ false
never-same true = refl
never-same false = refl

not-twice : (c : Bool) → (((c && false) || (not c && true)) && ((c && false) || (not c && true))) ≡ not c
not-twice true = refl
not-twice false = refl

-- two numbers of one width, by their halves
pub by-halves : (n a b : ℕ) (P : Type 0) → (a < 2 ^ (n - 1) → b < 2 ^ (n - 1) → P) → (a < 2 ^ (n - 1) → 2 ^ (n - 1) ≤ b → P) → (2 ^ (n - 1) ≤ a → b < 2 ^ (n - 1) → P) → (2 ^ (n - 1) ≤ a → 2 ^ (n - 1) ≤ b → P) → P
by-halves n a b P ll lh hl hh = elim (cases_lt a (2 ^ (n - 1))) as (λ _. P) [
  | inl la ↦ elim (cases_lt b (2 ^ (n - 1))) as (λ _. P) [ inl lb ↦ ll la lb | inr hb ↦ lh la hb ]
  | inr ha ↦ elim (cases_lt b (2 ^ (n - 1))) as (λ _. P) [ inl lb ↦ hl ha lb | inr hb ↦ hh ha hb ]
]

sum-signed : (n a b : ℕ) → 1 ≤ n → a < 2 ^ n → b < 2 ^ n → is_sign_alone n ((a + b) % 2 ^ n) a b ≡ is_outside_signed n (signed_of n a +ℤ signed_of n b)
sum-signed n a b low ba bb =
    let half = halves n low in
    by-halves n a b (is_sign_alone n ((a + b) % 2 ^ n) a b ≡ is_outside_signed n (signed_of n a +ℤ signed_of n b))
    (λ la lb.
    let whole : (a + b) % 2 ^ n ≡ a + b = wrap-low a b (2 ^ n) (omega (arith, half, la, lb)) in
    let right : is_outside_signed n (signed_of n a +ℤ signed_of n b) ≡ nat_le (2 ^ (n - 1)) (a + b) = rw (signed_low n a la, signed_low n b lb) (outside-pos n (a + b)) in
    rw (sign-low n a la, sign-low n b lb, whole) (same-twice (is_negative n (a + b)) ∙ sym right))
    (λ la hb.
    let inside : is_outside_signed n (signed_of n a +ℤ signed_of n b) ≡ false = rw (signed_low n a la, signed_high n b hb bb) (sub-inside n a (2 ^ n - b - 1) (omega (arith, half, la)) (omega (arith, half, hb))) in
    rw (sign-low n a la, sign-high n b hb) (same-never (is_negative n ((a + b) % 2 ^ n)) ∙ sym inside))
    (λ ha lb.
    let inside : is_outside_signed n (signed_of n a +ℤ signed_of n b) ≡ false = rw (signed_high n a ha ba, signed_low n b lb) (sub-inside n b (2 ^ n - a - 1) (omega (arith, half, lb)) (omega (arith, half, ha))) in
    rw (sign-high n a ha, sign-low n b lb) (never-same (is_negative n ((a + b) % 2 ^ n)) ∙ sym inside))
    (λ ha hb.
    let whole : (a + b) % 2 ^ n ≡ a + b - 2 ^ n = wrap-high a b (2 ^ n) ba bb (omega (arith, half, ha, hb)) in
    let right : is_outside_signed n (signed_of n a +ℤ signed_of n b) ≡ nat_le (2 ^ (n - 1)) (suc ((2 ^ n - a - 1) + (2 ^ n - b - 1))) = rw (signed_high n a ha ba, signed_high n b hb bb) (outside-neg n (suc ((2 ^ n - a - 1) + (2 ^ n - b - 1)))) in
    let turn : not (nat_le (2 ^ (n - 1)) (a + b - 2 ^ n)) ≡ nat_le (2 ^ (n - 1)) (suc ((2 ^ n - a - 1) + (2 ^ n - b - 1))) = not-least (2 ^ (n - 1)) (a + b - 2 ^ n) (suc ((2 ^ n - a - 1) + (2 ^ n - b - 1))) (omega (arith, half, ha, hb, ba, bb)) in
    rw (sign-high n a ha, sign-high n b hb, whole) (not-twice (is_negative n (a + b - 2 ^ n)) ∙ (turn ∙ sym right)))

difference-signed : (n a b : ℕ) → 1 ≤ n → a < 2 ^ n → b < 2 ^ n → is_sign_alone n a b ((a + (2 ^ n - b)) % 2 ^ n) ≡ is_outside_signed n (signed_of n a -ℤ signed_of n b)
difference-signed n a b low ba bb =
    let half = halves n low in
    let d = (a + (2 ^ n - b)) % 2 ^ n in
    by-halves n a b (is_sign_alone n a b d ≡ is_outside_signed n (signed_of n a -ℤ signed_of n b))
    (λ la lb.
    let inside : is_outside_signed n (signed_of n a -ℤ signed_of n b) ≡ false = rw (signed_low n a la, signed_low n b lb) (apart-inside n a b la lb) in
    rw (sign-low n a la, sign-low n b lb) (sym inside))
    (λ la hb.
    let whole : d ≡ a + (2 ^ n - b) = wrap-low a (2 ^ n - b) (2 ^ n) (omega (arith, half, la, hb, bb)) in
    let exact : pos a -ℤ negsuc (2 ^ n - b - 1) ≡ pos (a + (2 ^ n - b)) = omega (arith, ints, bb) in
    let right : is_outside_signed n (signed_of n a -ℤ signed_of n b) ≡ nat_le (2 ^ (n - 1)) (a + (2 ^ n - b)) = rw (signed_low n a la, signed_high n b hb bb) (ap (is_outside_signed n) exact ∙ outside-pos n (a + (2 ^ n - b))) in
    rw (sign-low n a la, sign-high n b hb, whole) (sym right))
    (λ ha lb.
    let sum : a + (2 ^ n - b) ≡ (a - b) + 2 ^ n = omega (arith, half, ha, lb) in
    let whole : d ≡ a - b = ap (λ k. k % 2 ^ n) sum ∙ (add-mod_right (a - b) (2 ^ n) ∙ mod-eq_of_lt (let small : a - b < 2 ^ n = omega (arith, ba) in small)) in
    let exact : negsuc (2 ^ n - a - 1) -ℤ pos b ≡ negsuc ((2 ^ n - a - 1) + b) = omega (arith, ints) in
    let right : is_outside_signed n (signed_of n a -ℤ signed_of n b) ≡ nat_le (2 ^ (n - 1)) ((2 ^ n - a - 1) + b) = rw (signed_high n a ha ba, signed_low n b lb) (ap (is_outside_signed n) exact ∙ outside-neg n ((2 ^ n - a - 1) + b)) in
    let turn : not (nat_le (2 ^ (n - 1)) (a - b)) ≡ nat_le (2 ^ (n - 1)) ((2 ^ n - a - 1) + b) = not-least (2 ^ (n - 1)) (a - b) ((2 ^ n - a - 1) + b) (omega (arith, half, ha, lb, ba)) in
    rw (sign-high n a ha, sign-low n b lb, whole) (or_false (not (is_negative n (a - b))) ∙ (turn ∙ sym right)))
    (λ ha hb.
    let inside : is_outside_signed n (signed_of n a -ℤ signed_of n b) ≡ false = rw (signed_high n a ha ba, signed_high n b hb bb) (turned-inside n (2 ^ n - a - 1) (2 ^ n - b - 1) (omega (arith, half, ha)) (omega (arith, half, hb))) in
    rw (sign-high n a ha, sign-high n b hb) (sym inside))

-- ---- the rows

pub sum_is : (flags : Flags) (n a b : ℕ) → 1 ≤ n → a < 2 ^ n → b < 2 ^ n
    → value_from ((flags.nuw && nat_lt ((a + b) % 2 ^ n) a) || (flags.nsw && is_sign_alone n ((a + b) % 2 ^ n) a b)) ((a + b) % 2 ^ n) ≡ row_of (Add flags) n a b
sum_is flags n a b low ba bb = flagged-is flags _ _ _ _ _ _ (sum-unsigned n a b ba bb) (sum-signed n a b low ba bb) refl

pub difference_is : (flags : Flags) (n a b : ℕ) → 1 ≤ n → a < 2 ^ n → b < 2 ^ n
    → value_from ((flags.nuw && nat_lt a b) || (flags.nsw && is_sign_alone n a b ((a + (2 ^ n - b)) % 2 ^ n))) ((a + (2 ^ n - b)) % 2 ^ n) ≡ row_of (Sub flags) n a b
difference_is flags n a b low ba bb = flagged-is flags _ _ _ _ _ _ (difference-unsigned n a b ba bb) (difference-signed n a b low ba bb) (difference-number n a b ba bb)
