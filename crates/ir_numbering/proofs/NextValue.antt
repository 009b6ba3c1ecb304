-- The name of what is written without one: its digits are those of one more than the greatest number before it, or 0.
use Rattle.ir_numbering.proofs.Common.{◌≡◌, ℕ, zero, suc, ◌+◌, ◌-◌, ◌*◌, ◌^◌, ◌<◌, ◌≤◌, ◌⊎◌, inl, inr, Bool, true, false, cond, eqb, ltb, List, [], ◌∷◌, ◌++◌, length, refl, sym, ap, subst, ◌∙◌, arith, ◌||◌, ◌&&◌, reverse, reverse-append, reverse-reverse, length-reverse, Contains, Contains-append_left, Contains-append_right, Contains-push, Contains-push_cases, Contains-append_cases, Name, Number, Word, is_greater, is_above, greatest, carried, one_more, next_name, or_left}
use Rattle.std.proofs.Math.Nat.{pow-succ', pow-le-pow_right, mul-le-mul_right}
use Rattle.std.proofs.lemmas.Bool.{true≢false, ltb-true, ltb-false, lt-ltb, eqb-true, eqb-false}
use Rattle.ir_words.specs.Numbers.{value_after, value_of}
use Rattle.ir_numbering.specs.NextNumber.{AreDigits, IsDecimal, AreDecimal, IsNextName}

-- ---- values of digits

shifted : (v x n r w z : ℕ) → r ≡ (v * 10 + x) * 10 ^ n + w → z ≡ (0 * 10 + x) * 10 ^ n + w → r ≡ v * 10 ^ suc n + z
shifted v x n r w z e f = omega (arith, e, f, ap (λ (k : ℕ). v * k) (pow-succ' 10 n))

value-after : (v : ℕ) (ds : List ℕ) → value_after v ds ≡ v * 10 ^ length ds + value_of ds
value-after v [] = omega arith
value-after v (d ∷ ds) = shifted v (d - 48) (length ds) _ (value_of ds) _ (value-after (v * 10 + (d - 48)) ds) (value-after (0 * 10 + (d - 48)) ds)

first-value : (d : ℕ) (ds : List ℕ) → value_of (d ∷ ds) ≡ (d - 48) * 10 ^ length ds + value_of ds
first-value d ds = plain (d - 48) (10 ^ length ds) _ (value_of ds) (value-after (0 * 10 + (d - 48)) ds)
  where
    plain : (x p z w : ℕ) → z ≡ (0 * 10 + x) * p + w → z ≡ x * p + w
    plain x p z w e = omega (arith, e)

last-value : (v : ℕ) (ds : List ℕ) (d : ℕ) → value_after v (ds ++ d ∷ []) ≡ value_after v ds * 10 + (d - 48)
last-value v [] d = refl
last-value v (e ∷ ds) d = last-value (v * 10 + (e - 48)) ds d

below-power : (ds : List ℕ) → AreDigits ds → value_of ds < 10 ^ length ds
below-power [] D = omega arith
below-power (d ∷ ds) (l, h, D) = by (d - 48) (10 ^ length ds) _ (value_of ds) (10 ^ suc (length ds)) (omega (arith, l, h)) (below-power ds D) (first-value d ds) (pow-succ' 10 (length ds))
  where
    by : (x p z w q : ℕ) → x ≤ 9 → w < p → z ≡ x * p + w → q ≡ 10 * p → z < q
    by x p z w q a b e f = let m : x * p ≤ 9 * p = mul-le-mul_right p a in omega (arith, b, e, f, m)

at-least-power : (d : ℕ) (ds : List ℕ) → 48 < d → 10 ^ length ds ≤ value_of (d ∷ ds)
at-least-power d ds h = by (d - 48) (10 ^ length ds) _ (value_of ds) (omega (arith, h)) (first-value d ds)
  where
    by : (x p z w : ℕ) → 1 ≤ x → z ≡ x * p + w → p ≤ z
    by x p z w a e = let m : 1 * p ≤ x * p = mul-le-mul_right p a in omega (arith, e, m)

-- ---- which of two numbers is greater

strictly : (m n : ℕ) → m ≤ n → (m ≡ n → ⊥) → m < n
strictly m n h k = by (ltb m n) refl
  where
    by : (t : Bool) → ltb m n ≡ t → m < n
    by true i = ltb-true m n i
    by false i = absurd (k (omega (arith, h, ltb-false m n i)))

-- the test says whether the first is greater
record Compares (test : Bool) (a b : ℕ) : Type 0 where
  yes : test ≡ true → b < a
  no : test ≡ false → a ≤ b

first-differs : (x y p z w k u : ℕ) → y < x → w < p → z ≡ (x - 48) * p + k → u ≡ (y - 48) * p + w → 48 ≤ y → u < z
first-differs x y p z w k u h b e f l = by (x - 48) (y - 48) (omega (arith, h, l)) e f
  where
    by : (m n : ℕ) → suc n ≤ m → z ≡ m * p + k → u ≡ n * p + w → u < z
    by m n g e' f' = let q : suc n * p ≤ m * p = mul-le-mul_right p g in omega (arith, b, e', f', q)

same-first : (x p z w k u : ℕ) → z ≡ (x - 48) * p + k → u ≡ (x - 48) * p + w → w < k → u < z
same-first x p z w k u e f h = omega (arith, e, f, h)

same-first-least : (x p z w k u : ℕ) → z ≡ (x - 48) * p + k → u ≡ (x - 48) * p + w → k ≤ w → z ≤ u
same-first-least x p z w k u e f h = omega (arith, e, f, h)

greater : (xs ys : List ℕ) → length xs ≡ length ys → AreDigits xs → AreDigits ys → Compares (is_greater xs ys) (value_of xs) (value_of ys)
greater [] [] e X Y = record { yes = λ t. absurd (cc t); no = λ t. omega arith }
greater [] (y ∷ ys) e X Y = absurd (omega (arith, e))
greater (x ∷ xs) [] e X Y = absurd (omega (arith, e))
greater (x ∷ xs) (y ∷ ys) e (lx, hx, X) (ly, hy, Y) = go (ltb y x) refl (eqb x y) refl (greater xs ys (omega (arith, e)) X Y)
  where
    same-power : 10 ^ length xs ≡ 10 ^ length ys
    same-power = ap (λ (n : ℕ). 10 ^ n) (let s : length xs ≡ length ys = omega (arith, e) in s)

    of-y : value_of (y ∷ ys) ≡ (y - 48) * 10 ^ length xs + value_of ys
    of-y = first-value y ys ∙ ap (λ (p : ℕ). (y - 48) * p + value_of ys) (sym same-power)

    go : (a : Bool) → ltb y x ≡ a → (b : Bool) → eqb x y ≡ b → Compares (is_greater xs ys) (value_of xs) (value_of ys) → Compares (a || (b && is_greater xs ys)) (value_of (x ∷ xs)) (value_of (y ∷ ys))
    go true a b is-b C = record {
      yes = λ t. first-differs x y (10 ^ length xs) _ (value_of ys) (value_of xs) _ (ltb-true y x a) (subst (λ (p : ℕ). value_of ys < p) (sym same-power) (below-power ys Y)) (first-value x xs) of-y ly;
      no = λ t. absurd (cc t);
    }
    go false a true b C =
        let same : x ≡ y = eqb-true x y b in
        let of-x = subst (λ (d : ℕ). value_of (y ∷ ys) ≡ (d - 48) * 10 ^ length xs + value_of ys) (sym same) of-y in
        record {
          yes = λ t. same-first x (10 ^ length xs) _ (value_of ys) (value_of xs) _ (first-value x xs) of-x (C.yes t);
          no = λ t. same-first-least x (10 ^ length xs) _ (value_of ys) (value_of xs) _ (first-value x xs) of-x (C.no t);
        }
    go false a false b C =
        let below : value_of (x ∷ xs) < value_of (y ∷ ys) =
        first-differs y x (10 ^ length xs) _ (value_of xs) (value_of ys) _ (let other = eqb-false x y b in let most = ltb-false y x a in strictly x y most other) (below-power xs X) of-y (first-value x xs) lx in
        record { yes = λ t. absurd (cc t); no = λ t. omega (arith, below) }

digits-of : (xs : List ℕ) → IsDecimal xs → AreDigits xs
digits-of [] X = absurd X
digits-of (x ∷ xs) X = X.0

longer : (xs ys : List ℕ) → length ys < length xs → IsDecimal xs → IsDecimal ys → value_of ys < value_of xs
longer [] ys h X Y = absurd X
longer (x ∷ xs) [] h X Y = absurd Y
longer (x ∷ xs) (y ∷ ys) h (X, inl first) Y =
    let few : length (y ∷ ys) ≤ length xs = omega (arith, h) in
    omega (arith, below-power (y ∷ ys) Y.0, pow-le-pow_right {n = 10} (omega arith) few, at-least-power x xs first)
longer (x ∷ xs) (y ∷ ys) h (X, inr short) Y = absurd (omega (arith, h, ap length short))

above : (xs ys : List ℕ) → IsDecimal xs → IsDecimal ys → Compares (is_above xs ys) (value_of xs) (value_of ys)
above xs ys X Y = go (ltb (length ys) (length xs)) refl (eqb (length xs) (length ys)) refl
  where
    go : (a : Bool) → ltb (length ys) (length xs) ≡ a → (b : Bool) → eqb (length xs) (length ys) ≡ b → Compares (a || (b && is_greater xs ys)) (value_of xs) (value_of ys)
    go true a b is-b = record { yes = λ t. longer xs ys (ltb-true (length ys) (length xs) a) X Y; no = λ t. absurd (cc t) }
    go false a true b = greater xs ys (eqb-true (length xs) (length ys) b) (digits-of xs X) (digits-of ys Y)
    go false a false b =
        let less : value_of xs < value_of ys = longer ys xs (strictly (length xs) (length ys) (ltb-false (length ys) (length xs) a) (eqb-false (length xs) (length ys) b)) Y X in
        record { yes = λ t. absurd (cc t); no = λ t. omega (arith, less) }

-- ---- the greatest

-- one more than a number so far, of which no digits are none
abbrev next_of : List ℕ → ℕ
next_of [] = 0
next_of (d ∷ ds) = value_of (d ∷ ds) + 1

abbrev IsMost : List ℕ → Type 0
IsMost [] = Unit {0}
IsMost (d ∷ ds) = IsDecimal (d ∷ ds)

most-of : (ds : List ℕ) → IsDecimal ds → IsMost ds
most-of [] D = absurd D
most-of (d ∷ ds) D = D

next-of : (ds : List ℕ) → IsDecimal ds → next_of ds ≡ value_of ds + 1
next-of [] D = absurd D
next-of (d ∷ ds) D = refl

above-most : (ds most : List ℕ) → IsDecimal ds → IsMost most → Compares (is_above ds most) (next_of ds) (next_of most)
above-most [] most D M = absurd D
above-most (d ∷ ds) [] D M =
    let first : ltb 0 (length (d ∷ ds)) ≡ true = lt-ltb 0 (length (d ∷ ds)) (omega arith) in
    record { yes = λ t. omega arith; no = λ t. absurd (true≢false (sym (or_left (ltb 0 (length (d ∷ ds))) _ first) ∙ t)) }
above-most (d ∷ ds) (m ∷ ms) D M = let C = above (d ∷ ds) (m ∷ ms) D M in record { yes = λ t. omega (arith, C.yes t); no = λ t. omega (arith, C.no t) }

record IsGreatest (most : List ℕ) (names : List Name) (r : List ℕ) : Type 0 where
  decimal : IsMost r
  over : next_of most ≤ next_of r
  each : (ds : List ℕ) → Contains names (Number ds) → value_of ds < next_of r
  from : (r ≡ most) ⊎ Contains names (Number r)

contains-cases : (x : Name) (names : List Name) (y : Name) → Contains (x ∷ names) y → (x ≡ y) ⊎ Contains names y
contains-cases x names y c = by (Contains-append_cases (x ∷ []) names y c)
  where
    none : Contains [] y → (x ≡ y) ⊎ Contains names y
    none (k, h, e) = absurd (omega (arith, h))

    one : Contains [] y ⊎ (x ≡ y) → (x ≡ y) ⊎ Contains names y
    one (inl h) = none h
    one (inr e) = inl e

    by : Contains (x ∷ []) y ⊎ Contains names y → (x ≡ y) ⊎ Contains names y
    by (inl h) = one (Contains-push_cases [] x y h)
    by (inr h) = inr h

contains-first : (x : Name) (names : List Name) → Contains (x ∷ names) x
contains-first x names = Contains-append_left (x ∷ []) names x (Contains-push [] x)

contains-later : (x : Name) (names : List Name) (y : Name) → Contains names y → Contains (x ∷ names) y
contains-later x names y c = Contains-append_right (x ∷ []) names y c

same-digits : (xs ys : List ℕ) → Number xs ≡ Number ys → xs ≡ ys
same-digits xs ys e = cc e

is-greatest : (names : List Name) (most : List ℕ) → IsMost most → AreDecimal names → IsGreatest most names (greatest most names)
is-greatest [] most M A = record { decimal = M; over = omega arith; each = λ ds c. absurd (omega (arith, c.1)); from = inl refl }
is-greatest (Word t ∷ names) most M A =
    let G = is-greatest names most M (λ ds c. A ds (contains-later (Word t) names (Number ds) c)) in
    record { decimal = G.decimal; over = G.over; each = λ ds c. G.each ds (later ds (contains-cases (Word t) names (Number ds) c)); from = from (greatest most names) G.from }
  where
    later : (ds : List ℕ) → (Word t ≡ Number ds) ⊎ Contains names (Number ds) → Contains names (Number ds)
    later ds (inl e) = absurd (cc e)
    later ds (inr c) = c

    from : (r : List ℕ) → (r ≡ most) ⊎ Contains names (Number r) → (r ≡ most) ⊎ Contains (Word t ∷ names) (Number r)
    from r (inl e) = inl e
    from r (inr c) = inr (contains-later (Word t) names (Number r) c)
is-greatest (Number digits ∷ names) most M A = go (λ next N. is-greatest names next N (λ ds c. A ds (contains-later (Number digits) names (Number ds) c))) (is_above digits most) (above-most digits most D M)
  where
    D : IsDecimal digits
    D = A digits (contains-first (Number digits) names)

    each : (r ds : List ℕ) → value_of digits < next_of r → (Contains names (Number ds) → value_of ds < next_of r) → (Number digits ≡ Number ds) ⊎ Contains names (Number ds) → value_of ds < next_of r
    each r ds here there (inl e) = subst (λ (us : List ℕ). value_of us < next_of r) (same-digits digits ds e) here
    each r ds here there (inr c) = there c

    from_digits : (r : List ℕ) → (r ≡ digits) ⊎ Contains names (Number r) → (r ≡ most) ⊎ Contains (Number digits ∷ names) (Number r)
    from_digits r (inl e) = inr (subst (λ (us : List ℕ). Contains (Number digits ∷ names) (Number us)) (sym e) (contains-first (Number digits) names))
    from_digits r (inr c) = inr (contains-later (Number digits) names (Number r) c)

    from_most : (r : List ℕ) → (r ≡ most) ⊎ Contains names (Number r) → (r ≡ most) ⊎ Contains (Number digits ∷ names) (Number r)
    from_most r (inl e) = inl e
    from_most r (inr c) = inr (contains-later (Number digits) names (Number r) c)

    go : ((next : List ℕ) → IsMost next → IsGreatest next names (greatest next names)) → (b : Bool) → Compares b (next_of digits) (next_of most) → IsGreatest most (Number digits ∷ names) (greatest (cond b digits most) names)
    go rec true C =
        let G = rec digits (most-of digits D) in
        let here : value_of digits < next_of (greatest digits names) = omega (arith, next-of digits D, G.over) in
        record { decimal = G.decimal; over = omega (arith, C.yes refl, G.over); each = λ ds c. each (greatest digits names) ds here (G.each ds) (contains-cases (Number digits) names (Number ds) c); from = from_digits (greatest digits names) G.from }
    go rec false C =
        let G = rec most M in
        let here : value_of digits < next_of (greatest most names) = omega (arith, next-of digits D, C.no refl, G.over) in
        record { decimal = G.decimal; over = G.over; each = λ ds c. each (greatest most names) ds here (G.each ds) (contains-cases (Number digits) names (Number ds) c); from = from_most (greatest most names) G.from }

-- ---- one more

back-value : (d : ℕ) (ds : List ℕ) → value_of (reverse (d ∷ ds)) ≡ value_of (reverse ds) * 10 + (d - 48)
back-value d ds = ap value_of (reverse-append (d ∷ []) ds) ∙ last-value 0 (reverse ds) d

carried-value : (ds : List ℕ) → AreDigits ds → value_of (reverse (carried ds)) ≡ value_of (reverse ds) + 1
carried-value [] D = refl
carried-value (d ∷ ds) (l, h, D) = go (ltb d 57) refl (carried-value ds D)
  where
    go : (b : Bool) → ltb d 57 ≡ b → value_of (reverse (carried ds)) ≡ value_of (reverse ds) + 1 → value_of (reverse (cond b ((d + 1) ∷ ds) (48 ∷ carried ds))) ≡ value_of (reverse (d ∷ ds)) + 1
    go true a rec = omega (arith, l, back-value (d + 1) ds, back-value d ds)
    go false a rec = omega (arith, rec, h, ltb-false d 57 a, back-value 48 (carried ds), back-value d ds)

digits-append : (xs ys : List ℕ) → AreDigits xs → AreDigits ys → AreDigits (xs ++ ys)
digits-append [] ys X Y = Y
digits-append (x ∷ xs) ys (l, h, X) Y = (l, h, digits-append xs ys X Y)

digits-reverse : (xs : List ℕ) → AreDigits xs → AreDigits (reverse xs)
digits-reverse [] X = tt
digits-reverse (x ∷ xs) (l, h, X) = subst AreDigits (sym (reverse-append (x ∷ []) xs)) (digits-append (reverse xs) (x ∷ []) (digits-reverse xs X) (l, h, tt))

carried-digits : (ds : List ℕ) → AreDigits ds → AreDigits (carried ds)
carried-digits [] D = (omega arith, omega arith, tt)
carried-digits (d ∷ ds) (l, h, D) = go (ltb d 57) refl (carried-digits ds D)
  where
    go : (b : Bool) → ltb d 57 ≡ b → AreDigits (carried ds) → AreDigits (cond b ((d + 1) ∷ ds) (48 ∷ carried ds))
    go true a rec = (omega (arith, l), omega (arith, ltb-true d 57 a), D)
    go false a rec = (omega arith, omega arith, rec)

-- the last digit, which is the first of the number, is no zero
abbrev Tops : List ℕ → Type 0
Tops [] = ⊥
Tops (d ∷ []) = 48 < d
Tops (d ∷ e ∷ ds) = Tops (e ∷ ds)

tops-later : (d : ℕ) (ds : List ℕ) → Tops ds → Tops (d ∷ ds)
tops-later d [] T = absurd T
tops-later d (e ∷ ds) T = T

tops-append : (xs : List ℕ) (d : ℕ) → 48 < d → Tops (xs ++ d ∷ [])
tops-append [] d h = h
tops-append (x ∷ xs) d h = tops-later x (xs ++ d ∷ []) (tops-append xs d h)

-- a single digit may be a zero
carried-tops : (d : ℕ) (ds : List ℕ) → AreDigits (d ∷ ds) → (ds ≡ []) ⊎ Tops (d ∷ ds) → Tops (carried (d ∷ ds))
carried-tops d [] (l, h, D) T = go (ltb d 57)
  where
    go : (b : Bool) → Tops (cond b ((d + 1) ∷ []) (48 ∷ carried []))
    go true = omega (arith, l)
    go false = omega arith
carried-tops d (e ∷ ds) D (inl short) = absurd (omega (arith, ap length short))
carried-tops d (e ∷ ds) (l, h, D) (inr T) = go (ltb d 57) (carried-tops e ds D (inr T))
  where
    go : (b : Bool) → Tops (carried (e ∷ ds)) → Tops (cond b ((d + 1) ∷ e ∷ ds) (48 ∷ carried (e ∷ ds)))
    go true rec = T
    go false rec = tops-later 48 (carried (e ∷ ds)) rec

tops-decimal : (xs : List ℕ) → AreDigits xs → Tops xs → IsDecimal (reverse xs)
tops-decimal xs D T = let F = first xs T in subst IsDecimal (sym F.2) (subst AreDigits F.2 (digits-reverse xs D), inl F.3)
  where
    first : (xs : List ℕ) → Tops xs → (d : ℕ) × (more : List ℕ) × (reverse xs ≡ d ∷ more) × (48 < d)
    first [] T = absurd T
    first (d ∷ []) T = (d, [], refl, T)
    first (d ∷ e ∷ ds) T =
        let F = first (e ∷ ds) T in
        (F.0, F.1 ++ d ∷ [], reverse-append (d ∷ []) (e ∷ ds) ∙ ap (λ (us : List ℕ). us ++ d ∷ []) F.2, F.3)

carried-decimal : (xs : List ℕ) → AreDigits xs → (length xs ≡ 1) ⊎ Tops xs → IsDecimal (reverse (carried xs))
carried-decimal [] D (inl e) = absurd (omega (arith, e))
carried-decimal [] D (inr T) = absurd T
carried-decimal (d ∷ ds) D (inl e) = tops-decimal (carried (d ∷ ds)) (carried-digits (d ∷ ds) D) (carried-tops d ds D (inl (nil-of ds e)))
  where
    nil-of : (us : List ℕ) → suc (length us) ≡ 1 → us ≡ []
    nil-of [] e = refl
    nil-of (u ∷ us) e = absurd (omega (arith, e))
carried-decimal (d ∷ ds) D (inr T) = tops-decimal (carried (d ∷ ds)) (carried-digits (d ∷ ds) D) (carried-tops d ds D (inr T))

one-more-decimal : (ds : List ℕ) → IsMost ds → IsDecimal (one_more ds)
one-more-decimal [] M = ((omega arith, omega arith, tt), inr refl)
one-more-decimal (d ∷ ds) (D, first) = carried-decimal (reverse (d ∷ ds)) (digits-reverse (d ∷ ds) D) (by first)
  where
    by : (48 < d) ⊎ (ds ≡ []) → (length (reverse (d ∷ ds)) ≡ 1) ⊎ Tops (reverse (d ∷ ds))
    by (inl h) = inr (subst Tops (sym (reverse-append (d ∷ []) ds)) (tops-append (reverse ds) d h))
    by (inr short) = inl (length-reverse (d ∷ ds) ∙ ap (λ (us : List ℕ). suc (length us)) short)

one-more-value : (ds : List ℕ) → IsMost ds → value_of (one_more ds) ≡ next_of ds
one-more-value [] M = refl
one-more-value (d ∷ ds) M = carried-value (reverse (d ∷ ds)) (digits-reverse (d ∷ ds) M.0) ∙ ap (λ (us : List ℕ). value_of us + 1) (reverse-reverse (d ∷ ds))

pub next-name : (names : List Name) → AreDecimal names → IsNextName names (next_name names)
next-name names A =
    let G = is-greatest names [] tt A in
    let value = one-more-value (greatest [] names) G.decimal in
    record {
      digits = one_more (greatest [] names);
      is = refl;
      decimal = one-more-decimal (greatest [] names) G.decimal;
      next = record { above = λ ds c. subst (λ (n : ℕ). value_of ds < n) (sym value) (G.each ds c); least = least (greatest [] names) value G.from };
    }
  where
    least : (r : List ℕ) → value_of (one_more r) ≡ next_of r → (r ≡ []) ⊎ Contains names (Number r) → (value_of (one_more r) ≡ 0) ⊎ ((ds : List ℕ) × Contains names (Number ds) × (value_of (one_more r) ≡ value_of ds + 1))
    least r value (inl e) = inl (value ∙ ap next_of e)
    least r value (inr c) = inr (r, c, value ∙ next-of r (A r c))
