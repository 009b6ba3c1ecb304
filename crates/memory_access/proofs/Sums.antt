-- Sums of indices: walks over them, and what wrapping keeps.
use Rattle.memory_access.proofs.Common.{◌≡◌, ℕ, zero, suc, ◌+◌, ◌-◌, ◌*◌, ◌%◌, ◌^◌, ◌<◌, ◌≤◌, Bool, true, false, ◌||◌, ◌&&◌, List, [], ◌∷◌, length, get_or, drop, ℤ, pos, negsuc, ◌+ℤ◌, ◌≤ℤ◌, neg_ℤ, to_z, of_z, refl, sym, ap, ◌∙◌, arith, int_rem_euclid, w128, list_any, list_all, at_drop_more, at_drop_all, ints, int_rem_euclid_is, to_z_pos, nat_tests, pow_pos, mod_below, mod-add-mod, mod-eq_of_lt, wrapped, Index, scaled, partial_sums, last_sum, is_outside, leaves_block}
use lib.IntN.{nat_abs}

-- ---- walks

pub any-more : {X : Type 0} (p : X → Bool) (xs : List X) (i : ℕ) (d : X) → i < length xs → list_any p (drop i xs) ≡ (p (get_or xs i d) || list_any p (drop (i + 1) xs))
any-more p xs i d within = at_drop_more (list_any p) xs i d within

pub all-more : {X : Type 0} (p : X → Bool) (xs : List X) (i : ℕ) (d : X) → i < length xs → list_all p (drop i xs) ≡ (p (get_or xs i d) && list_all p (drop (i + 1) xs))
all-more p xs i d within = at_drop_more (list_all p) xs i d within

-- ---- partial sums

pub outside-here : (size : ℕ) (z : ℤ) (indices : List Index) → is_outside size z ≡ true → list_any (is_outside size) (partial_sums z indices) ≡ true
unfolding partial_sums
outside-here size z [] out = rw out refl
outside-here size z (i ∷ indices) out = rw out refl

pub outside-later : (size : ℕ) (z : ℤ) (i : Index) (indices : List Index) → is_outside size z ≡ false → list_any (is_outside size) (partial_sums z (i ∷ indices)) ≡ list_any (is_outside size) (partial_sums (z +ℤ scaled i) indices)
unfolding partial_sums
outside-later size z i indices in' = rw in' refl

pub outside-never : (size : ℕ) (z : ℤ) → is_outside size z ≡ false → list_any (is_outside size) (partial_sums z []) ≡ false
unfolding partial_sums
outside-never size z in' = rw in' refl

outside-is : (size n : ℕ) → size < n → is_outside size (pos n) ≡ true
outside-is size n past = grind (arith, nat_tests)

inside-is : (size n : ℕ) → n ≤ size → is_outside size (pos n) ≡ false
inside-is size n in' = grind (arith, nat_tests)

-- a sum that is inside is an offset
pub record Inside (size : ℕ) (z : ℤ) : Type 0 where
  pub offset : ℕ
  pub is : z ≡ pos offset
  pub most : offset ≤ size

pub inside : (size : ℕ) (z : ℤ) → is_outside size z ≡ false → Inside size z
inside size (pos n) in' = record { offset = n; is = refl; most = grind (arith, nat_tests) }
inside size (negsuc n) in' = absurd (cc)

pub leaves-at_base : (size n : ℕ) (indices : List Index) → size < n → leaves_block size n indices ≡ true
leaves-at_base size n indices past = outside-here size (pos n) indices (outside-is size n past)

pub leaves-here : (size n : ℕ) (indices : List Index) (k : ℕ) (i : Index) → k < length indices → i ≡ get_or indices k i → n ≤ size → is_outside size (pos n +ℤ scaled i) ≡ true → leaves_block size n (drop k indices) ≡ true
leaves-here size n indices k i within is in' out =
    at_drop_more (leaves_block size n) indices k i within
    ∙ outside-later size (pos n) (get_or indices k i) (drop (k + 1) indices) (inside-is size n in')
    ∙ rw (← is) (outside-here size (pos n +ℤ scaled i) (drop (k + 1) indices) out)

pub leaves-later : (size n m : ℕ) (indices : List Index) (k : ℕ) (i : Index) → k < length indices → i ≡ get_or indices k i → n ≤ size → pos m ≡ pos n +ℤ scaled i → leaves_block size n (drop k indices) ≡ leaves_block size m (drop (k + 1) indices)
leaves-later size n m indices k i within is in' sum =
    at_drop_more (leaves_block size n) indices k i within
    ∙ outside-later size (pos n) (get_or indices k i) (drop (k + 1) indices) (inside-is size n in')
    ∙ rw (← is, ← sum) refl

pub leaves-never : (size n : ℕ) (indices : List Index) (k : ℕ) → length indices ≤ k → n ≤ size → leaves_block size n (drop k indices) ≡ false
leaves-never size n indices k past in' = at_drop_all (leaves_block size n) indices k past ∙ outside-never size (pos n) (inside-is size n in')

-- ---- wrapping

pub wrapped-euclid : (n : ℕ) (z : ℤ) → int_rem_euclid z (pos (2 ^ n)) ≡ pos (wrapped n z)
unfolding wrapped
wrapped-euclid n (pos a) = refl
wrapped-euclid n (negsuc a) = refl

-- a number of wholes more, and the sum is this number
record Raised (m : ℕ) (z : ℤ) : Type 0 where
  wholes : ℕ
  number : ℕ
  is : z +ℤ pos (wholes * m) ≡ pos number

raised : (m : ℕ) (z : ℤ) → 0 < m → Raised m z
raised m (pos a) some = record { wholes = 0; number = a; is = omega (arith, ints) }
raised zero (negsuc a) some = absurd (omega arith)
raised (suc m) (negsuc a) some = record { wholes = suc a; number = suc a * suc m - suc a; is = let more : suc a * suc m ≡ suc a * m + suc a = omega arith in omega (arith, ints, more) }

wrapped-raised : (n : ℕ) (z : ℤ) (k m : ℕ) → z +ℤ pos (k * 2 ^ n) ≡ pos m → wrapped n z ≡ m % 2 ^ n
wrapped-raised n z k m e =
    let same : pos (wrapped n z) ≡ pos (m % 2 ^ n) = sym (wrapped-euclid n z) ∙ int_rem_euclid_is z (pos (2 ^ n)) (2 ^ n) k m (pow_pos n) refl e in
    omega (arith, ints, same)

-- what is added after wrapping is added before it
pub wrapped-sum : (n : ℕ) (z y : ℤ) → wrapped n (pos (wrapped n z) +ℤ y) ≡ wrapped n (z +ℤ y)
wrapped-sum n z y =
    let r = raised (2 ^ n) z (pow_pos n) in
    let s = raised (2 ^ n) y (pow_pos n) in
    let r-is : z +ℤ pos (r.wholes * 2 ^ n) ≡ pos r.number = r.is in
    let s-is : y +ℤ pos (s.wholes * 2 ^ n) ≡ pos s.number = s.is in
    let here : wrapped n z ≡ r.number % 2 ^ n = wrapped-raised n z r.wholes r.number r-is in
    let left : wrapped n (pos (wrapped n z) +ℤ y) ≡ (r.number % 2 ^ n + s.number) % 2 ^ n =
    wrapped-raised n (pos (wrapped n z) +ℤ y) s.wholes (r.number % 2 ^ n + s.number) (rw here (omega (arith, ints, s-is))) in
    let right : wrapped n (z +ℤ y) ≡ (r.number + s.number) % 2 ^ n =
    wrapped-raised n (z +ℤ y) (r.wholes + s.wholes) (r.number + s.number) (let d : (r.wholes + s.wholes) * 2 ^ n ≡ r.wholes * 2 ^ n + s.wholes * 2 ^ n = omega arith in omega (arith, ints, r-is, s-is, d)) in
    left ∙ mod-add-mod r.number (2 ^ n) s.number ∙ sym right

-- sums that are one when they are wrapped stay so
pub last_sum-wrapped : (n : ℕ) (y z : ℤ) (indices : List Index) → wrapped n y ≡ wrapped n z → wrapped n (last_sum y indices) ≡ wrapped n (last_sum z indices)
last_sum-wrapped n y z [] same = same
last_sum-wrapped n y z (i ∷ indices) same =
    last_sum-wrapped n (y +ℤ scaled i) (z +ℤ scaled i) indices (sym (wrapped-sum n y (scaled i)) ∙ ap (λ k. wrapped n (pos k +ℤ scaled i)) same ∙ wrapped-sum n z (scaled i))

pub wrapped-small : (n a : ℕ) → a < 2 ^ n → wrapped n (pos a) ≡ a
unfolding wrapped
wrapped-small n a small = mod-eq_of_lt small

pub wrapped-below : (n : ℕ) (z : ℤ) → wrapped n z < 2 ^ n
unfolding wrapped
wrapped-below n (pos a) = mod_below a (2 ^ n) (pow_pos n)
wrapped-below n (negsuc a) = let some = pow_pos n in omega (arith, some)

-- one index more, wrapped at once
pub last_sum-more : (n m : ℕ) (indices : List Index) (k : ℕ) (i : Index) → k < length indices → i ≡ get_or indices k i → m ≡ wrapped 64 (pos n +ℤ scaled i) → wrapped 64 (last_sum (pos n) (drop k indices)) ≡ wrapped 64 (last_sum (pos m) (drop (k + 1) indices))
last_sum-more n m indices k i within is sum =
    let same : wrapped 64 (pos n +ℤ scaled i) ≡ wrapped 64 (pos m) = sym (ap (λ j. wrapped 64 (pos j)) sum ∙ wrapped-small 64 (wrapped 64 (pos n +ℤ scaled i)) (wrapped-below 64 (pos n +ℤ scaled i))) in
    ap (wrapped 64) (at_drop_more (last_sum (pos n)) indices k i within)
    ∙ rw (← is) (last_sum-wrapped 64 (pos n +ℤ scaled i) (pos m) (drop (k + 1) indices) same)

pub last_sum-end : (n : ℕ) (indices : List Index) (k : ℕ) → length indices ≤ k → n < 2 ^ 64 → wrapped 64 (last_sum (pos n) (drop k indices)) ≡ n
last_sum-end n indices k past small = ap (wrapped 64) (at_drop_all (last_sum (pos n)) indices k past) ∙ wrapped-small 64 n small

-- ---- an offset and an index in 128 bits

pub sum-128 : (n : ℕ) (y : ℤ) → n < 2 ^ 64 → neg_ℤ (pos (2 ^ 127 - 2 ^ 63)) ≤ℤ y → y ≤ℤ pos (2 ^ 127 - 2 ^ 64) → to_z w128 (of_z w128 (to_z w128 n +ℤ to_z w128 (of_z w128 y))) ≡ pos n +ℤ y
sum-128 n y small low high = omega (arith, ints)

pub cast-offset : (n : ℕ) (z : ℤ) → z ≡ pos n → n < 2 ^ 64 → nat_abs (to_z w128 (of_z w128 z)) ≡ n
cast-offset n z is small = ap nat_abs (ap (λ y. to_z w128 (of_z w128 y)) is ∙ to_z_pos w128 n (omega (arith, small)))
