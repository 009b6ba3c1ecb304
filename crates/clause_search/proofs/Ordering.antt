-- The literals of a learned clause, once they are sorted, are the clause.
use Rattle.clause_search.proofs.Common.{ℕ, zero, suc, ◌≡◌, ◌<◌, ◌+◌, inl, inr, false, List, [], ◌∷◌, ◌++◌, length, map, take, drop, get_or, slice_get, slice_index, eqb, Some, refl, ap, sym, subst, ◌∙◌, arith, IsDistinct, AllByRecursion, Contains, refill, cases_Bool, eqb-true, eqb-false, get_or-map, take_more, get_or_from_slice_get, Contains-permutation, IsPermutation-map, IsPermutation-sym, Lit, RisesFrom, opposite_of, Has, rises-has, same_members, Entry, AreApart, IsSingle, IsSpread, opposites_at, ne_eqb}
use Rattle.std.specs.List.Sorted.{IsNonDecreasing, IsNonDecreasingBy, IsPermutation, IsStrictlyIncreasing}
use Rattle.std.proofs.lemmas.Map.Keys.{IsDistinct-IsPermutation, IsStrictlyIncreasing-from_distinct}
use Rattle.clause_search.proofs.Walking.{entry-inside}

-- ---- one more literal

map-append : (f : ℕ → Lit) (xs : List ℕ) (y : ℕ) → map f (xs ++ y ∷ []) ≡ map f xs ++ f y ∷ []
map-append f [] y = refl
map-append f (x ∷ xs) y = ap (λ (zs : List Lit). f x ∷ zs) (map-append f xs y)

pub opposites-push : (trail : List Entry) (k : Lit) (places : List ℕ) (i : ℕ) (e : Entry) (old new : List Lit) (v : Lit) → i < length places
    → slice_get trail (get_or places i 0) ≡ Some e → old ≡ opposites_at trail k (take i places) → v ≡ opposite_of e.literal → new ≡ old ++ v ∷ []
    → new ≡ opposites_at trail k (take (i + 1) places)
opposites-push trail k places i e old new v lt at is opposite pushed =
    pushed ∙ (ap (λ (zs : List Lit). zs ++ v ∷ []) is ∙ (ap (λ (x : Lit). opposites_at trail k (take i places) ++ x ∷ []) (opposite ∙ sym read) ∙ sym more))
  where
    none : Entry
    none = record { literal = k; reason = 0 }

    f : ℕ → Lit
    f p = opposite_of (get_or trail p none).literal

    read : f (get_or places i 0) ≡ opposite_of e.literal
    read = ap (λ (z : Entry). opposite_of z.literal) (get_or_from_slice_get trail (get_or places i 0) e none at)

    more : opposites_at trail k (take (i + 1) places) ≡ opposites_at trail k (take i places) ++ f (get_or places i 0) ∷ []
    more = ap (λ (zs : List Lit). k ∷ zs) (ap (map f) (take_more places i 0 lt) ∙ map-append f (take i places) (get_or places i 0))

-- ---- what is written over a whole list

take-front : (ws ys : List Lit) → take (length ws) (ws ++ ys) ≡ ws
take-front [] ys = refl
take-front (w ∷ ws) ys = ap (λ (zs : List Lit). w ∷ zs) (take-front ws ys)

refilled : (xs ws : List Lit) → length ws ≡ length xs → refill (length xs) xs ws ≡ ws
refilled xs ws e = ap (λ (n : ℕ). take n (ws ++ drop (length ws) xs)) (sym e) ∙ take-front ws (drop (length ws) xs)

-- ---- members

has-contains : (xs : List Lit) (x : Lit) → Has xs x → Contains xs x
has-contains [] x h = absurd h
has-contains (y ∷ ys) x (inl e) = (zero, omega arith, e)
has-contains (y ∷ ys) x (inr h) = let it = has-contains ys x h in (suc it.0, omega (arith, it.1), it.2)

contains-has : (xs : List Lit) (x : Lit) → Contains xs x → Has xs x
contains-has [] x c = absurd (omega (arith, c.1))
contains-has (y ∷ ys) x (zero, lt, e) = inl e
contains-has (y ∷ ys) x (suc k, lt, e) = inr (contains-has ys x (k, omega arith, e))

first-has : (ys : List Lit) (y : Lit) → slice_get ys 0 ≡ Some y → Has ys y
first-has [] y e = absurd (let x : ⊥ = cc in x)
first-has (z ∷ zs) y e = inl (let is : z ≡ y = cc in is)

-- ---- variables that rise

abbrev variables : List Lit → List ℕ
variables ls = map (λ (l : Lit). l.variable) ls

second : (y : Lit) (ys : List Lit) → IsStrictlyIncreasing (variables (y ∷ ys)) → (z : Lit) → slice_get ys 0 ≡ Some z → y.variable < z.variable
second y [] s z e = absurd (let x : ⊥ = cc in x)
second y (x ∷ xs) s z e =
    let is : x ≡ z = cc in
    let below : y.variable < x.variable = s 0 (omega arith) in
    subst (λ (w : Lit). y.variable < w.variable) is below

rises-from : (n : ℕ) (ys : List Lit) → ((y : Lit) → slice_get ys 0 ≡ Some y → n < y.variable) → IsStrictlyIncreasing (variables ys) → RisesFrom n ys
rises-from n [] f s = tt
rises-from n (y ∷ ys) f s = (
  f y refl,
  rises-from y.variable ys (second y ys s) (λ k lt.
      let e : suc k + 1 ≡ suc (k + 1) = omega arith in
      let more = s (suc k) (omega (arith, lt)) in
      subst (λ (m : ℕ). slice_index (variables (y ∷ ys)) (suc k) < slice_index (variables (y ∷ ys)) m) e more),
)

length-variables : (ys : List Lit) → length (variables ys) ≡ length ys
length-variables [] = refl
length-variables (y ∷ ys) = omega (arith, length-variables ys)

nondecreasing-map : (ys : List Lit) → IsNonDecreasingBy (λ (l : Lit). l.variable) ys → IsNonDecreasing (variables ys)
nondecreasing-map ys s = λ i j d le lt.
    let e : Lit = record { variable = 0; positive = false } in
    let later : j < length ys = omega (arith, length-variables ys, lt) in
    let early : i < length ys = omega (arith, le, later) in
    let a = get_or-map (λ (l : Lit). l.variable) ys i e d early in
    let b = get_or-map (λ (l : Lit). l.variable) ys j e d later in
    omega (arith, a, b, s i j e le later)

same-flipped : (x y : ℕ) → eqb x y ≡ eqb y x
same-flipped x y = elim (cases_Bool (eqb x y)) [
  | inl t ↦ let e = eqb-true x y t in subst (λ (z : ℕ). eqb x z ≡ eqb z x) e refl
  | inr f ↦ elim (cases_Bool (eqb y x)) [
    | inl t ↦ absurd (eqb-false x y f (sym (eqb-true y x t)))
    | inr g ↦ f ∙ sym g
  ]
]

-- ---- the clause

module _ (trail : List Entry) (k : Lit) where
  abbrev none : Entry
  none = record { literal = k; reason = 0 }

  abbrev at_place : ℕ → Lit
  at_place p = opposite_of (get_or trail p none).literal

  -- the variable at a position is another one than those at the others
  apart-places : IsSingle trail → (p : ℕ) → p < length trail → (ps : List ℕ) → (Has ps p → ⊥) → ((q : ℕ) → Has ps q → q < length trail)
      → AllByRecursion (λ (y : ℕ). eqb (at_place p).variable y ≡ false) (variables (map at_place ps))
  apart-places single p lt [] absent within = tt
  apart-places single p lt (q ∷ qs) absent within = (
    ne_eqb (at_place p).variable (at_place q).variable (λ e. differ e (entry-inside trail p lt) (entry-inside trail q (within q (inl refl)))),
    apart-places single p lt qs (λ h. absent (inr h)) (λ r h. within r (inr h)),
  )
    where
      differ : (at_place p).variable ≡ (at_place q).variable → ((e : Entry) × (slice_get trail p ≡ Some e)) → ((e : Entry) × (slice_get trail q ≡ Some e)) → ⊥
      differ v (e, at) (d, there) =
          let one = ap (λ (z : Entry). z.literal.variable) (get_or_from_slice_get trail p e none at) in
          let two = ap (λ (z : Entry). z.literal.variable) (get_or_from_slice_get trail q d none there) in
          absent (inl (sym (single p q e d at there (sym one ∙ (v ∙ two)))))

  distinct-places : IsSingle trail → (ps : List ℕ) → AreApart ps → ((q : ℕ) → Has ps q → q < length trail) → IsDistinct eqb (variables (map at_place ps))
  unfolding IsDistinct
  distinct-places single [] far within = tt
  distinct-places single (p ∷ ps) far within =
      (apart-places single p (within p (inl refl)) ps far.0 (λ q h. within q (inr h)), distinct-places single ps far.1 (λ q h. within q (inr h)))

  apart-first : (ps : List ℕ) → ((p : ℕ) (e : Entry) → Has ps p → slice_get trail p ≡ Some e → e.literal.variable ≡ k.variable → ⊥)
      → ((q : ℕ) → Has ps q → q < length trail) → AllByRecursion (λ (y : ℕ). eqb k.variable y ≡ false) (variables (map at_place ps))
  apart-first [] other within = tt
  apart-first (q ∷ qs) other within = (
    ne_eqb k.variable (at_place q).variable (λ e. differ e (entry-inside trail q (within q (inl refl)))),
    apart-first qs (λ p e h. other p e (inr h)) (λ r h. within r (inr h)),
  )
    where
      differ : k.variable ≡ (at_place q).variable → ((e : Entry) × (slice_get trail q ≡ Some e)) → ⊥
      differ v (e, at) =
          let one = ap (λ (z : Entry). z.literal.variable) (get_or_from_slice_get trail q e none at) in
          other q e (inl refl) at (sym one ∙ sym v)

  module _ (places : List ℕ) (c : List Lit) (spread : IsSpread trail k places c) where
    distinct-all : IsDistinct eqb (variables (opposites_at trail k places))
    unfolding IsDistinct
    distinct-all = (apart-first places spread.other spread.within, distinct-places spread.single places spread.apart spread.within)

    sorted-clause : (ys : List Lit) → IsPermutation (opposites_at trail k places) ys → IsNonDecreasingBy (λ (l : Lit). l.variable) ys → ys ≡ c
    sorted-clause ys moved sorted =
        let all = opposites_at trail k places in
        let to : (l : Lit) → Has ys l → Has c l =
        λ l has. (spread.literals l).1 (contains-has all l (Contains-permutation ys all l (IsPermutation-sym all ys moved) (has-contains ys l has))) in
        let from : (l : Lit) → Has c l → Has ys l =
        λ l has. contains-has ys l (Contains-permutation all ys l moved (has-contains all l ((spread.literals l).0 has))) in
        let far = IsDistinct-IsPermutation eqb same-flipped (variables all) (variables ys) (IsPermutation-map (λ (l : Lit). l.variable) all ys moved) distinct-all in
        let rises = rises-from 0 ys (λ y e. rises-has 0 c y spread.clause (to y (first-has ys y e)))
        (IsStrictlyIncreasing-from_distinct (variables ys) (nondecreasing-map ys sorted) far) in
        same_members 0 ys c rises spread.clause to from

    -- the literals, sorted where they are
    pub put-in-order : (whole before ys : List Lit) → whole ≡ opposites_at trail k places → before ≡ whole → length ys ≡ length before → IsPermutation before ys
        → IsNonDecreasingBy (λ (l : Lit). l.variable) ys → refill (length whole) whole ys ≡ c
    put-in-order whole before ys is same long moved sorted =
        refilled whole ys (long ∙ ap (λ (ls : List Lit). length ls) same)
        ∙ sorted-clause ys (subst (λ (xs : List Lit). IsPermutation xs ys) (same ∙ is) moved) sorted
