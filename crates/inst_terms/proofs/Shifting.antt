-- Shifts, and whether they lose bits.
use Rattle.inst_terms.proofs.Common.{ℕ, zero, suc, ◌≡◌, ◌<◌, ◌≤◌, ◌+◌, ◌-◌, ◌*◌, ◌/◌, ◌%◌, ◌^◌, Bool, not, cond, ◌&&◌, ◌||◌, nat_eq, nat_le, pos, negsuc, neg_ℤ, inl, inr, refl, ap, sym, ◌∙◌, arith, pow-add, pow_pos, subst, ◌*ℤ◌, cases_lt, cases_eq, lt-ltb, le-leb, lt-leb, eq-eqb, ne_eqb, mod_below, mod-pow-add, shl-shr, shr_split, div-mul-add, mod-mul-add, mul-le, shr_below, mod-eq_of_lt, mul-mod_left, div-le_self, Flags, ShiftLeft, LogicalShiftRight, ArithmeticShiftRight, extended_signed, shifted_left, shifted_right, shifted_signed, signed_of, wrapped, is_outside_signed, is_outside_unsigned, is_negative, value_from, row_of}
use Rattle.std.specs.Int.{int_shr}
use Rattle.inst_terms.proofs.Rows.{from_is-if}
use Rattle.inst_terms.proofs.Halves.{signed_low, signed_high, outside-pos, outside-neg}
use Rattle.inst_terms.proofs.Additions.{flagged-is, outside-natural}
use Rattle.inst_terms.proofs.Cuts.{apart-is, outside-signed}

-- ---- orders of multiples

le-times : (a b p : ℕ) → 0 < p → nat_le a b ≡ nat_le (a * p) (b * p)
le-times a b p some = elim (cases_lt b a) as (λ _. nat_le a b ≡ nat_le (a * p) (b * p)) [
  | inl less ↦
      let more : suc b * p ≤ a * p = mul-le (suc b) p a p (omega (arith, less)) (omega arith) in
      let times : suc b * p ≡ b * p + p = omega arith in
      rw (lt-leb a b less, lt-leb (a * p) (b * p) (omega (arith, more, times, some))) refl
  | inr le ↦ rw (le-leb a b le, le-leb (a * p) (b * p) (mul-le a p b p le (omega arith))) refl
]

neg-times : (a k p : ℕ) → 0 < p → nat_le a k ≡ nat_le (a * p) (suc k * p - 1)
neg-times a k p some = elim (cases_lt k a) as (λ _. nat_le a k ≡ nat_le (a * p) (suc k * p - 1)) [
  | inl less ↦
      let more : suc k * p ≤ a * p = mul-le (suc k) p a p (omega (arith, less)) (omega arith) in
      let times : suc k * p ≡ k * p + p = omega arith in
      rw (lt-leb a k less, lt-leb (a * p) (suc k * p - 1) (omega (arith, more, times, some))) refl
  | inr le ↦
      let more : a * p ≤ k * p = mul-le a p k p le (omega arith) in
      let times : suc k * p ≡ k * p + p = omega arith in
      rw (le-leb a k le, le-leb (a * p) (suc k * p - 1) (omega (arith, more, times, some))) refl
]

-- ---- to the left, by y at the width m + y

moved : (m y x : ℕ) → (x * 2 ^ y) % 2 ^ (m + y) ≡ (x % 2 ^ m) * 2 ^ y
moved m y x =
    let none : (x * 2 ^ y) % 2 ^ y ≡ 0 = mul-mod_left x (2 ^ y) in
    mod-pow-add (x * 2 ^ y) m y ∙ (ap (λ k. (k % 2 ^ m) * 2 ^ y + (x * 2 ^ y) % 2 ^ y) (shl-shr x y) ∙ omega (arith, none))

left-unsigned : (m y x : ℕ) → not (nat_eq ((x * 2 ^ y) % 2 ^ (m + y) / 2 ^ y) x) ≡ is_outside_unsigned (m + y) (pos x *ℤ pos (2 ^ y))
left-unsigned m y x =
    let below : x % 2 ^ m < 2 ^ m = mod_below x (2 ^ m) (pow_pos m) in
    ap (λ k. not (nat_eq (k / 2 ^ y) x)) (moved m y x) ∙ (ap (λ k. not (nat_eq k x)) (shl-shr (x % 2 ^ m) y)
    ∙ (apart-is (x % 2 ^ m) x (2 ^ m) x (λ less. mod-eq_of_lt less) (λ more e. omega (arith, below, more, e))
    ∙ (le-times (2 ^ m) x (2 ^ y) (pow_pos y) ∙ (ap (λ k. nat_le k (x * 2 ^ y)) (sym (pow-add 2 m y)) ∙ sym (outside-natural (m + y) (x * 2 ^ y))))))

half-of : (m y : ℕ) → 1 ≤ m → 2 ^ (m + y - 1) ≡ 2 ^ (m - 1) * 2 ^ y
half-of m y low = let e : m + y - 1 ≡ (m - 1) + y = omega (arith, low) in ap (λ k. 2 ^ k) e ∙ pow-add 2 (m - 1) y

-- the number without its low bits, from the top
turned-digits : (m y r : ℕ) → r < 2 ^ m → (2 ^ (m + y) - 1 - r * 2 ^ y) / 2 ^ y ≡ 2 ^ m - 1 - r
turned-digits m y r lt =
    let e : 2 ^ (m + y) ≡ 2 ^ m * 2 ^ y = pow-add 2 m y in
    let sum : 2 ^ (m + y) - 1 - r * 2 ^ y ≡ (2 ^ m - 1 - r) * 2 ^ y + (2 ^ y - 1) = split (2 ^ m) r (2 ^ y) (2 ^ (m + y)) lt (pow_pos y) e in
    ap (λ k. k / 2 ^ y) sum ∙ div-mul-add (2 ^ m - 1 - r) (2 ^ y) (2 ^ y - 1) (omega (arith, pow_pos y))
  where
    split-of : (d r p t : ℕ) → 0 < p → t ≡ (d + r + 1) * p → t - 1 - r * p ≡ d * p + (p - 1)
    split-of d r p t some e =
        let times : (d + r + 1) * p ≡ d * p + r * p + p = omega arith in
        omega (arith, e, times, some)

    split : (m r p t : ℕ) → r < m → 0 < p → t ≡ m * p → t - 1 - r * p ≡ (m - 1 - r) * p + (p - 1)
    split m r p t lt some e =
        let parts : m ≡ (m - 1 - r) + r + 1 = omega (arith, lt) in
        split-of (m - 1 - r) r p t some (e ∙ ap (λ k. k * p) parts)

back-signed : (m y r : ℕ) → 1 ≤ m → r < 2 ^ m
    → cond (is_negative (m + y) (r * 2 ^ y)) (2 ^ (m + y) - 1 - (2 ^ (m + y) - 1 - r * 2 ^ y) / 2 ^ y) (r * 2 ^ y / 2 ^ y) ≡ extended_signed m (m + y) r
back-signed m y r low lt =
    let sign : is_negative (m + y) (r * 2 ^ y) ≡ is_negative m r = ap (λ k. nat_le k (r * 2 ^ y)) (half-of m y low) ∙ sym (le-times (2 ^ (m - 1)) r (2 ^ y) (pow_pos y)) in
    let wide : 2 ^ m ≤ 2 ^ (m + y) = omega (arith, pow-add 2 m y, mul-le (2 ^ m) 1 (2 ^ m) (2 ^ y) (omega arith) (omega (arith, pow_pos y))) in
    let turned : 2 ^ (m + y) - 1 - (2 ^ m - 1 - r) ≡ 2 ^ (m + y) - 2 ^ m + r = omega (arith, wide, lt) in
    rw (sign, turned-digits m y r lt, shl-shr r y, turned) refl

-- an exact number times a power of 2 has as much room as the number has at fewer bits
outside-times : (n m y x : ℕ) → 1 ≤ n → 1 ≤ m → x < 2 ^ n → is_outside_signed m (signed_of n x) ≡ is_outside_signed (m + y) (signed_of n x *ℤ pos (2 ^ y))
outside-times n m y x low low' lt = elim (cases_lt x (2 ^ (n - 1))) as (λ _. is_outside_signed m (signed_of n x) ≡ is_outside_signed (m + y) (signed_of n x *ℤ pos (2 ^ y))) [
  | inl less ↦
      rw (signed_low n x less)
      (outside-pos m x ∙ (le-times (2 ^ (m - 1)) x (2 ^ y) (pow_pos y) ∙ (ap (λ k. nat_le k (x * 2 ^ y)) (sym (half-of m y low')) ∙ sym (outside-pos (m + y) (x * 2 ^ y)))))
  | inr more ↦
      let k = 2 ^ n - x - 1 in
      let positive : 0 < suc k * 2 ^ y = omega (arith, mul-le 1 1 (suc k) (2 ^ y) (omega arith) (omega (arith, pow_pos y))) in
      let exact : negsuc k *ℤ pos (2 ^ y) ≡ negsuc (suc k * 2 ^ y - 1) = opposite (suc k * 2 ^ y) positive in
      rw (signed_high n x more lt)
      (outside-neg m k ∙ (neg-times (2 ^ (m - 1)) k (2 ^ y) (pow_pos y) ∙ (ap (λ j. nat_le j (suc k * 2 ^ y - 1)) (sym (half-of m y low'))
      ∙ sym (ap (is_outside_signed (m + y)) exact ∙ outside-neg (m + y) (suc k * 2 ^ y - 1)))))
]
  where
    opposite : (p : ℕ) → 0 < p → neg_ℤ (pos p) ≡ negsuc (p - 1)
    opposite zero some = absurd (omega (arith, some))
    opposite (suc p) some = let e : suc p - 1 ≡ p = omega arith in ap negsuc (sym e)

left-signed : (n m y x : ℕ) → n ≡ m + y → 1 ≤ m → x < 2 ^ n
    → not (nat_eq (cond (is_negative n ((x * 2 ^ y) % 2 ^ n)) (2 ^ n - 1 - (2 ^ n - 1 - (x * 2 ^ y) % 2 ^ n) / 2 ^ y) ((x * 2 ^ y) % 2 ^ n / 2 ^ y)) x) ≡ is_outside_signed n (signed_of n x *ℤ pos (2 ^ y))
left-signed n m y x is low lt =
    subst (λ w. x < 2 ^ w → not (nat_eq (cond (is_negative w ((x * 2 ^ y) % 2 ^ w)) (2 ^ w - 1 - (2 ^ w - 1 - (x * 2 ^ y) % 2 ^ w) / 2 ^ y) ((x * 2 ^ y) % 2 ^ w / 2 ^ y)) x) ≡ is_outside_signed w (signed_of w x *ℤ pos (2 ^ y)))
    (sym is)
    (λ small.
    rw (moved m y x, back-signed m y (x % 2 ^ m) low (mod_below x (2 ^ m) (pow_pos m)))
    (outside-signed m (m + y) x low (omega arith) small ∙ outside-times (m + y) m y x (omega (arith, low)) low small))
    lt

pub shift_left_is : (flags : Flags) (n x y : ℕ) → 1 ≤ n → x < 2 ^ n
    → value_from (nat_le n y || ((flags.nuw && not (nat_eq (shifted_right n (shifted_left n x y) y) x)) || (flags.nsw && not (nat_eq (shifted_signed n (shifted_left n x y) y) x)))) (shifted_left n x y)
    ≡ row_of (ShiftLeft flags) n x y
shift_left_is flags n x y low lt = elim (cases_lt y n) as (λ _. value_from (nat_le n y || ((flags.nuw && not (nat_eq (shifted_right n (shifted_left n x y) y) x)) || (flags.nsw && not (nat_eq (shifted_signed n (shifted_left n x y) y) x)))) (shifted_left n x y)
    ≡ row_of (ShiftLeft flags) n x y) [
      | inl less ↦
          let is : n ≡ (n - y) + y = omega (arith, less) in
          let unsigned : not (nat_eq ((x * 2 ^ y) % 2 ^ n / 2 ^ y) x) ≡ is_outside_unsigned n (pos x *ℤ pos (2 ^ y)) =
          subst (λ w. not (nat_eq ((x * 2 ^ y) % 2 ^ w / 2 ^ y) x) ≡ is_outside_unsigned w (pos x *ℤ pos (2 ^ y))) (sym is) (left-unsigned (n - y) y x) in
          rw (lt-leb n y less, lt-ltb y n less) (flagged-is flags _ _ _ _ _ _ unsigned (left-signed n (n - y) y x is (omega (arith, less)) lt) refl)
      | inr more ↦ rw (le-leb n y more) refl
    ]

-- ---- to the right

rest-test : (t r x : ℕ) → t + r ≡ x → nat_eq t x ≡ nat_eq r 0
rest-test t r x e = elim (cases_eq r 0) as (λ _. nat_eq t x ≡ nat_eq r 0) [
  | inl none ↦ rw (eq-eqb r 0 none, eq-eqb t x (omega (arith, e, none))) refl
  | inr some ↦ rw (ne_eqb r 0 some, ne_eqb t x (λ same. some (omega (arith, e, same)))) refl
]

-- the number without its low bits, shifted back up
back-up : (n y x : ℕ) → x < 2 ^ n → not (nat_eq ((x / 2 ^ y * 2 ^ y) % 2 ^ n) x) ≡ not (nat_eq (x % 2 ^ y) 0)
back-up n y x lt =
    let split = shr_split x y in
    let small : (x / 2 ^ y * 2 ^ y) % 2 ^ n ≡ x / 2 ^ y * 2 ^ y = mod-eq_of_lt (omega (arith, split, lt)) in
    ap (λ k. not (nat_eq k x)) small ∙ ap not (rest-test (x / 2 ^ y * 2 ^ y) (x % 2 ^ y) x split)

pub logical_is : (exact : Bool) (n x y : ℕ) → x < 2 ^ n
    → value_from (nat_le n y || (exact && not (nat_eq (shifted_left n (shifted_right n x y) y) x))) (shifted_right n x y) ≡ row_of (LogicalShiftRight exact) n x y
logical_is exact n x y lt = elim (cases_lt y n) as (λ _. value_from (nat_le n y || (exact && not (nat_eq (shifted_left n (shifted_right n x y) y) x))) (shifted_right n x y) ≡ row_of (LogicalShiftRight exact) n x y) [
  | inl less ↦ rw (lt-leb n y less, lt-ltb y n less, back-up n y x lt) (from_is-if (exact && not (nat_eq (x % 2 ^ y) 0)) (x / 2 ^ y))
  | inr more ↦ rw (le-leb n y more) refl
]

-- the opposite's quotient is the number's, from the top
opposite-digits : (m y x : ℕ) → x < 2 ^ (m + y) → (2 ^ (m + y) - 1 - x) / 2 ^ y ≡ 2 ^ m - 1 - x / 2 ^ y
opposite-digits m y x lt =
    let e : 2 ^ (m + y) ≡ 2 ^ m * 2 ^ y = pow-add 2 m y in
    let split = shr_split x y in
    let rest : x % 2 ^ y < 2 ^ y = mod_below x (2 ^ y) (pow_pos y) in
    let sum : 2 ^ (m + y) - 1 - x ≡ (2 ^ m - 1 - x / 2 ^ y) * 2 ^ y + (2 ^ y - 1 - x % 2 ^ y) = from-top (2 ^ m) (x / 2 ^ y) (2 ^ y) (x % 2 ^ y) (2 ^ (m + y)) x (shr_below x m y lt) e rest split in
    ap (λ k. k / 2 ^ y) sum ∙ div-mul-add (2 ^ m - 1 - x / 2 ^ y) (2 ^ y) (2 ^ y - 1 - x % 2 ^ y) (omega (arith, pow_pos y))
  where
    top-of : (d q p r t x : ℕ) → t ≡ (d + q + 1) * p → r < p → q * p + r ≡ x → t - 1 - x ≡ d * p + (p - 1 - r)
    top-of d q p r t x e rest split =
        let times : (d + q + 1) * p ≡ d * p + q * p + p = omega arith in
        omega (arith, e, times, rest, split)

    from-top : (m q p r t x : ℕ) → q < m → t ≡ m * p → r < p → q * p + r ≡ x → t - 1 - x ≡ (m - 1 - q) * p + (p - 1 - r)
    from-top m q p r t x less e rest split =
        let parts : m ≡ (m - 1 - q) + q + 1 = omega (arith, less) in
        top-of (m - 1 - q) q p r t x (e ∙ ap (λ k. k * p) parts) rest split

-- copies of the sign don't come back
signed-up : (m y x : ℕ) → x < 2 ^ (m + y) → ((2 ^ (m + y) - 1 - (2 ^ (m + y) - 1 - x) / 2 ^ y) * 2 ^ y) % 2 ^ (m + y) ≡ x / 2 ^ y * 2 ^ y
signed-up m y x lt =
    let q = x / 2 ^ y in
    let e : 2 ^ (m + y) ≡ 2 ^ m * 2 ^ y = pow-add 2 m y in
    let small : q < 2 ^ m = shr_below x m y lt in
    let split = shr_split x y in
    let wide : 2 ^ m ≤ 2 ^ (m + y) = omega (arith, e, mul-le (2 ^ m) 1 (2 ^ m) (2 ^ y) (omega arith) (omega (arith, pow_pos y))) in
    let turned : 2 ^ (m + y) - 1 - (2 ^ m - 1 - q) ≡ (2 ^ y - 1) * 2 ^ m + q = omega (arith, less-one (2 ^ m) (2 ^ y) (2 ^ (m + y)) (pow_pos y) e, wide, small) in
    let times : ((2 ^ y - 1) * 2 ^ m + q) * 2 ^ y ≡ (2 ^ y - 1) * 2 ^ (m + y) + q * 2 ^ y = spread (2 ^ y - 1) (2 ^ m) q (2 ^ y) (2 ^ (m + y)) e in
    rw (opposite-digits m y x lt, turned, times) (mod-mul-add (2 ^ y - 1) (2 ^ (m + y)) (q * 2 ^ y) (omega (arith, split, lt)))
  where
    less-one : (m p t : ℕ) → 0 < p → t ≡ m * p → t - m ≡ (p - 1) * m
    less-one m zero t some e = absurd (omega (arith, some))
    less-one m (suc p) t some e =
        let one : suc p - 1 ≡ p = omega arith in
        let times : m * suc p ≡ p * m + m = omega arith in
        rw one (omega (arith, e, times))

    spread : (a m q p t : ℕ) → t ≡ m * p → (a * m + q) * p ≡ a * t + q * p
    spread a m q p t e =
        let times : (a * m + q) * p ≡ a * (m * p) + q * p = omega arith in
        times ∙ ap (λ k. a * k + q * p) (sym e)

signed-number : (n x y : ℕ) → 1 ≤ n → x < 2 ^ n → cond (is_negative n x) (2 ^ n - 1 - (2 ^ n - 1 - x) / 2 ^ y) (x / 2 ^ y) ≡ wrapped n (int_shr (signed_of n x) y)
unfolding wrapped
signed-number n x y low lt = elim (cases_lt x (2 ^ (n - 1))) as (λ _. cond (is_negative n x) (2 ^ n - 1 - (2 ^ n - 1 - x) / 2 ^ y) (x / 2 ^ y) ≡ wrapped n (int_shr (signed_of n x) y)) [
  | inl less ↦
      let small : x / 2 ^ y % 2 ^ n ≡ x / 2 ^ y = mod-eq_of_lt (omega (arith, div-le_self x (2 ^ y), lt)) in
      rw (lt-leb (2 ^ (n - 1)) x less, signed_low n x less) (sym small)
  | inr more ↦
      let k : 2 ^ n - 1 - x ≡ 2 ^ n - x - 1 = omega arith in
      let small : (2 ^ n - x - 1) / 2 ^ y % 2 ^ n ≡ (2 ^ n - x - 1) / 2 ^ y = mod-eq_of_lt (omega (arith, div-le_self (2 ^ n - x - 1) (2 ^ y), lt)) in
      rw (le-leb (2 ^ (n - 1)) x more, signed_high n x more lt, k) (ap (λ j. 2 ^ n - 1 - j) (sym small))
]

signed-exact : (n x y : ℕ) → y < n → x < 2 ^ n → not (nat_eq ((cond (is_negative n x) (2 ^ n - 1 - (2 ^ n - 1 - x) / 2 ^ y) (x / 2 ^ y) * 2 ^ y) % 2 ^ n) x) ≡ not (nat_eq (x % 2 ^ y) 0)
signed-exact n x y less lt = elim (cases_lt x (2 ^ (n - 1))) as (λ _. not (nat_eq ((cond (is_negative n x) (2 ^ n - 1 - (2 ^ n - 1 - x) / 2 ^ y) (x / 2 ^ y) * 2 ^ y) % 2 ^ n) x) ≡ not (nat_eq (x % 2 ^ y) 0)) [
  | inl low ↦ rw (lt-leb (2 ^ (n - 1)) x low) (back-up n y x lt)
  | inr high ↦
      let is : n ≡ (n - y) + y = omega (arith, less) in
      let up : ((2 ^ n - 1 - (2 ^ n - 1 - x) / 2 ^ y) * 2 ^ y) % 2 ^ n ≡ x / 2 ^ y * 2 ^ y =
      subst (λ w. x < 2 ^ w → ((2 ^ w - 1 - (2 ^ w - 1 - x) / 2 ^ y) * 2 ^ y) % 2 ^ w ≡ x / 2 ^ y * 2 ^ y) (sym is) (signed-up (n - y) y x) lt in
      rw (le-leb (2 ^ (n - 1)) x high, up) (ap not (rest-test (x / 2 ^ y * 2 ^ y) (x % 2 ^ y) x (shr_split x y)))
]

pub arithmetic_is : (exact : Bool) (n x y : ℕ) → 1 ≤ n → x < 2 ^ n
    → value_from (nat_le n y || (exact && not (nat_eq (shifted_left n (shifted_signed n x y) y) x))) (shifted_signed n x y) ≡ row_of (ArithmeticShiftRight exact) n x y
arithmetic_is exact n x y low lt = elim (cases_lt y n) as (λ _. value_from (nat_le n y || (exact && not (nat_eq (shifted_left n (shifted_signed n x y) y) x))) (shifted_signed n x y) ≡ row_of (ArithmeticShiftRight exact) n x y) [
  | inl less ↦
      rw (lt-leb n y less, lt-ltb y n less, signed-exact n x y less lt, signed-number n x y low lt)
      (from_is-if (exact && not (nat_eq (x % 2 ^ y) 0)) (wrapped n (int_shr (signed_of n x) y)))
  | inr more ↦ rw (le-leb n y more) refl
]

-- a width has room for itself
pub width-below : (n : ℕ) → n < 2 ^ n
width-below zero = pow_pos 0
width-below (suc n) = let less = width-below n in let twice : 2 ^ suc n ≡ 2 * 2 ^ n = omega arith in omega (arith, less, twice)
