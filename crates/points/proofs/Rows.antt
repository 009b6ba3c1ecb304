-- Rows of things, each with a code of the same number of digits: what comes next in a row.
use Rattle.points.proofs.Common.{◌≡◌, inl, inr, ℕ, zero, suc, ◌+◌, ◌-◌, ◌*◌, ◌<◌, ◌≤◌, List, [], ◌∷◌, ◌++◌, length, refl, sym, ap, arith, slice_get, Some, add-one, set, flat_map, cases_eq, number_of, IsChain, from_place}
use Rattle.points.proofs.Order.{Digits, digits_as, IsNextIn, IsLastIn, HaveDigits, next_in_back, next_in_front, last_in_both, number_of-append}
use Rattle.points.proofs.Args.{Digits-append}

-- ---- changing the items from an index on

pub from_place-set : {A : Type 0} (f : A → A) (xs : List A) (i : ℕ) (x : A) → slice_get xs i ≡ Some x → from_place f (i + 1) (set xs i (f x)) ≡ from_place f i xs
from_place-set f [] i x e = absurd (cc)
from_place-set f (y ∷ xs) zero x e = let same : y ≡ x = cc in ap (λ z. f z ∷ from_place f zero xs) (sym same)
from_place-set f (y ∷ xs) (suc i) x e = rw add-one (ap (λ zs. y ∷ zs) (rw add-one at (from_place-set f xs i x e)))

pub from_place-past : {A : Type 0} (f : A → A) (xs : List A) (i : ℕ) → length xs ≤ i → from_place f i xs ≡ xs
from_place-past f [] i past = refl
from_place-past f (x ∷ xs) zero past = absurd (omega (arith, past))
from_place-past f (x ∷ xs) (suc i) past = ap (λ zs. x ∷ zs) (from_place-past f xs i (omega (arith, past)))

-- ---- rows

-- one thing for each key
abbrev pub RowFits : {K A : Type 0} → (K → A → Type 0) → List K → List A → Type 0
RowFits Fit [] [] = Unit {0}
RowFits Fit (k ∷ ks) (x ∷ xs) = Fit k x × RowFits Fit ks xs
RowFits Fit [] (x ∷ xs) = ⊥
RowFits Fit (k ∷ ks) [] = ⊥

-- things with codes of n digits, and what each is set back to
pub record AreThings {K A : Type 0} (Fit : K → A → Type 0) (code : A → List ℕ) (n : ℕ) (reset : A → A) : Type 0 where
  pub digits : (k : K) (x : A) → Fit k x → Digits n (code x)
  pub fits : (k : K) (x : A) → Fit k x → Fit k (reset x)
  pub least : (k : K) (x : A) → Fit k x → number_of (code (reset x)) ≡ 0

pub record IsNextThing {K A : Type 0} (Fit : K → A → Type 0) (code : A → List ℕ) (k : K) (x y : A) : Type 0 where
  pub fits : Fit k y
  pub later : number_of (code x) < number_of (code y)
  pub no_gap : (z : A) → Fit k z → number_of (code z) < number_of (code y) → number_of (code z) ≤ number_of (code x)

abbrev pub IsLastThing : {K A : Type 0} → (K → A → Type 0) → (A → List ℕ) → K → A → Type 0
IsLastThing Fit code k x = (z : _) → Fit k z → number_of (code z) ≤ number_of (code x)

pub record IsThing {K A : Type 0} (Fit : K → A → Type 0) (code : A → List ℕ) (k : K) (ds : List ℕ) : Type 0 where
  pub thing : A
  pub is : ds ≡ code thing
  pub fits : Fit k thing

pub record IsRow {K A : Type 0} (Fit : K → A → Type 0) (code : A → List ℕ) (ks : List K) (ds : List ℕ) : Type 0 where
  pub things : List A
  pub is : ds ≡ flat_map code things
  pub fits : RowFits Fit ks things

abbrev pub Behind : {K A : Type 0} → (K → A → Type 0) → (A → List ℕ) → List K → List ℕ → List ℕ → Type 0
Behind Fit code ks first ds = IsRow Fit code ks ds

-- the things from the index on are the last of their keys
abbrev pub AreLastFrom : {K A : Type 0} → (K → A → Type 0) → (A → List ℕ) → List K → List A → ℕ → Type 0
AreLastFrom Fit code ks xs i = (j : ℕ) (k : _) (x : _) → i ≤ j → slice_get ks j ≡ Some k → slice_get xs j ≡ Some x → IsLastThing Fit code k x

-- the thing at the index as it is to be, and those after it reset
abbrev pub raised : {A : Type 0} → (A → A) → List A → ℕ → A → List A
raised reset [] i y = []
raised reset (x ∷ xs) zero y = y ∷ from_place reset zero xs
raised reset (x ∷ xs) (suc i) y = x ∷ raised reset xs i y

pub raised_is : {A : Type 0} (reset : A → A) (xs : List A) (i : ℕ) (y : A) → from_place reset (i + 1) (set xs i y) ≡ raised reset xs i y
raised_is reset [] i y = refl
raised_is reset (x ∷ xs) zero y = refl
raised_is reset (x ∷ xs) (suc i) y = rw add-one (ap (λ zs. x ∷ zs) (rw add-one at (raised_is reset xs i y)))

pub row_digits : {K A : Type 0} (Fit : K → A → Type 0) (code : A → List ℕ) (n : ℕ) (reset : A → A) → AreThings Fit code n reset → (ks : List K) (xs : List A) → RowFits Fit ks xs → Digits (length ks * n) (flat_map code xs)
row_digits Fit code n reset t [] [] fits = digits_as (0 * n) 0 [] (omega arith) tt
row_digits Fit code n reset t (k ∷ ks) (x ∷ xs) fits = digits_as (suc (length ks) * n) (n + length ks * n) (flat_map code (x ∷ xs)) (omega arith) (Digits-append n (length ks * n) (code x) (flat_map code xs) (t.digits k x fits.0) (row_digits Fit code n reset t ks xs fits.1))
row_digits Fit code n reset t [] (x ∷ xs) fits = absurd fits
row_digits Fit code n reset t (k ∷ ks) [] fits = absurd fits

have_digits : {K A : Type 0} (Fit : K → A → Type 0) (code : A → List ℕ) (n : ℕ) (reset : A → A) → AreThings Fit code n reset → (k : K) (ks : List K) → HaveDigits (IsThing Fit code k) (Behind Fit code ks) n (length ks * n)
have_digits Fit code n reset t k ks = record {
  front = λ xs h. rw h.is (t.digits k h.thing h.fits);
  back = λ xs ys h. rw h.is (row_digits Fit code n reset t ks h.things h.fits);
}

chain_of_row : {K A : Type 0} (Fit : K → A → Type 0) (code : A → List ℕ) (k : K) (ks : List K) (ds : List ℕ) → IsRow Fit code (k ∷ ks) ds → IsChain (IsThing Fit code k) (Behind Fit code ks) ds
chain_of_row Fit code k ks ds h =
    elim h.things as (λ things. ds ≡ flat_map code things → RowFits Fit (k ∷ ks) things → IsChain (IsThing Fit code k) (Behind Fit code ks) ds) [
      | [] ↦ λ is fits. absurd fits
      | x ∷ xs ↦ λ is fits. record { front = code x; back = flat_map code xs; whole = is; in_front = record { thing = x; is = refl; fits = fits.0 }; in_back = record { things = xs; is = refl; fits = fits.1 } }
    ]
    h.is h.fits

pub resets_fit : {K A : Type 0} (Fit : K → A → Type 0) (code : A → List ℕ) (n : ℕ) (reset : A → A) → AreThings Fit code n reset → (ks : List K) (xs : List A) → RowFits Fit ks xs → RowFits Fit ks (from_place reset zero xs)
resets_fit Fit code n reset t [] [] fits = tt
resets_fit Fit code n reset t (k ∷ ks) (x ∷ xs) fits = (t.fits k x fits.0, resets_fit Fit code n reset t ks xs fits.1)
resets_fit Fit code n reset t [] (x ∷ xs) fits = absurd fits
resets_fit Fit code n reset t (k ∷ ks) [] fits = absurd fits

pub zero_number : (xs ys : List ℕ) → number_of xs ≡ 0 → number_of ys ≡ 0 → number_of (xs ++ ys) ≡ 0
zero_number xs ys e f = rw (number_of-append xs ys, e, f) (omega arith)

pub resets_number : {K A : Type 0} (Fit : K → A → Type 0) (code : A → List ℕ) (n : ℕ) (reset : A → A) → AreThings Fit code n reset → (ks : List K) (xs : List A) → RowFits Fit ks xs → number_of (flat_map code (from_place reset zero xs)) ≡ 0
unfolding number_of
resets_number Fit code n reset t [] [] fits = refl
resets_number Fit code n reset t (k ∷ ks) (x ∷ xs) fits = zero_number (code (reset x)) (flat_map code (from_place reset zero xs)) (t.least k x fits.0) (resets_number Fit code n reset t ks xs fits.1)
resets_number Fit code n reset t [] (x ∷ xs) fits = absurd fits
resets_number Fit code n reset t (k ∷ ks) [] fits = absurd fits

pub raised_fits : {K A : Type 0} (Fit : K → A → Type 0) (code : A → List ℕ) (n : ℕ) (reset : A → A) → AreThings Fit code n reset → (ks : List K) (xs : List A) (i : ℕ) (k : K) (y : A) → RowFits Fit ks xs → slice_get ks i ≡ Some k → Fit k y → RowFits Fit ks (raised reset xs i y)
raised_fits Fit code n reset t [] [] i k y fits e fit = tt
raised_fits Fit code n reset t (k' ∷ ks) (x ∷ xs) zero k y fits e fit =
    let same : k ≡ k' = cc in
    ((rw (← same) fit), resets_fit Fit code n reset t ks xs fits.1)
raised_fits Fit code n reset t (k' ∷ ks) (x ∷ xs) (suc i) k y fits e fit = (fits.0, raised_fits Fit code n reset t ks xs i k y fits.1 e fit)
raised_fits Fit code n reset t [] (x ∷ xs) i k y fits e fit = absurd fits
raised_fits Fit code n reset t (k' ∷ ks) [] i k y fits e fit = absurd fits

pub last_row : {K A : Type 0} (Fit : K → A → Type 0) (code : A → List ℕ) (n : ℕ) (reset : A → A) → AreThings Fit code n reset → (ks : List K) (xs : List A) → RowFits Fit ks xs → AreLastFrom Fit code ks xs 0 → IsLastIn (IsRow Fit code ks) (flat_map code xs)
last_row {K = K} {A = A} Fit code n reset t [] [] fits last = λ ds row. none row.things row.is row.fits
  where
    none : {ds : List ℕ} (things : List A) → ds ≡ flat_map code things → RowFits Fit [] things → number_of ds ≤ number_of []
    none [] is fits' = rw is (omega arith)
    none (x ∷ xs) is fits' = absurd fits'
last_row Fit code n reset t (k ∷ ks) (x ∷ xs) fits last = λ ds row.
    last_in_both (IsThing Fit code k) (Behind Fit code ks) n (length ks * n) (code x) (flat_map code xs) (have_digits Fit code n reset t k ks)
    (record { thing = x; is = refl; fits = fits.0 }) (record { things = xs; is = refl; fits = fits.1 })
    (λ zs one. rw one.is (last 0 k x (omega arith) refl refl one.thing one.fits))
    (last_row Fit code n reset t ks xs fits.1 (λ j k' x' from e e'. last (suc j) k' x' (omega arith) e e'))
    ds (chain_of_row Fit code k ks ds row)
last_row Fit code n reset t [] (x ∷ xs) fits last = absurd fits
last_row Fit code n reset t (k ∷ ks) [] fits last = absurd fits

next_thing : {K A : Type 0} (Fit : K → A → Type 0) (code : A → List ℕ) (k : K) (x y : A) → IsNextThing Fit code k x y → IsNextIn (IsThing Fit code k) (code x) (code y)
next_thing Fit code k x y next = record { later = next.later; no_gap = λ ds one less. let less' = rw one.is at less in rw one.is (next.no_gap one.thing one.fits less') }

pub next_row : {K A : Type 0} (Fit : K → A → Type 0) (code : A → List ℕ) (n : ℕ) (reset : A → A) → AreThings Fit code n reset → (ks : List K) (xs : List A) (i : ℕ) (k : K) (x y : A) → RowFits Fit ks xs → slice_get ks i ≡ Some k → slice_get xs i ≡ Some x → IsNextThing Fit code k x y → AreLastFrom Fit code ks xs (suc i) → IsNextIn (IsRow Fit code ks) (flat_map code xs) (flat_map code (raised reset xs i y))
next_row Fit code n reset t [] xs i k x y fits e e' next last = absurd (cc)
next_row Fit code n reset t (k' ∷ ks) (x' ∷ xs) zero k x y fits e e' next last =
    let same : k ≡ k' = cc in
    let same' : x ≡ x' = cc in
    let next' : IsNextThing Fit code k' x' y = rw (← same, ← same') next in
    let chain = next_in_front (IsThing Fit code k') (Behind Fit code ks) n (length ks * n) (code x') (code y) (flat_map code xs) (flat_map code (from_place reset zero xs)) (have_digits Fit code n reset t k' ks)
    (record { thing = x'; is = refl; fits = fits.0 }) (record { thing = y; is = refl; fits = next'.fits }) (record { things = xs; is = refl; fits = fits.1 })
    (record { things = from_place reset zero xs; is = refl; fits = resets_fit Fit code n reset t ks xs fits.1 })
    (next_thing Fit code k' x' y next')
    (last_row Fit code n reset t ks xs fits.1 (λ j k'' x'' from f f'. last (suc j) k'' x'' (omega arith) f f'))
    (λ zs _. rw (resets_number Fit code n reset t ks xs fits.1) (omega arith)) in
    record { later = chain.later; no_gap = λ ds row less. chain.no_gap ds (chain_of_row Fit code k' ks ds row) less }
next_row Fit code n reset t (k' ∷ ks) (x' ∷ xs) (suc i) k x y fits e e' next last =
    let chain = next_in_back (IsThing Fit code k') (Behind Fit code ks) n (length ks * n) (code x') (flat_map code xs) (flat_map code (raised reset xs i y)) (have_digits Fit code n reset t k' ks)
    (record { thing = x'; is = refl; fits = fits.0 }) (record { things = xs; is = refl; fits = fits.1 })
    (record { things = raised reset xs i y; is = refl; fits = raised_fits Fit code n reset t ks xs i k y fits.1 e next.fits })
    (next_row Fit code n reset t ks xs i k x y fits.1 e e' next (λ j k'' x'' from f f'. last (suc j) k'' x'' (omega arith) f f')) in
    record { later = chain.later; no_gap = λ ds row less. chain.no_gap ds (chain_of_row Fit code k' ks ds row) less }
next_row Fit code n reset t (k' ∷ ks) [] i k x y fits e e' next last = absurd fits

pub last_more : {K A : Type 0} (Fit : K → A → Type 0) (code : A → List ℕ) (ks : List K) (xs : List A) (i : ℕ) (k : K) (x : A) → 0 < i → AreLastFrom Fit code ks xs i → slice_get ks (i - 1) ≡ Some k → slice_get xs (i - 1) ≡ Some x → IsLastThing Fit code k x → AreLastFrom Fit code ks xs (i - 1)
last_more Fit code ks xs i k x positive last e e' here = λ j k' x' from f f'.
    elim (cases_eq j (i - 1)) as (λ _. IsLastThing Fit code k' x') [
      | inl same ↦
          let g = rw same at f in let g' = rw same at f' in
          let same_k : k ≡ k' = cc in let same_x : x ≡ x' = cc in
          rw (← same_k, ← same_x) here
      | inr apart ↦ last j k' x' (omega (arith, apart)) f f'
    ]

pub row_at : {K A : Type 0} (Fit : K → A → Type 0) (ks : List K) (xs : List A) (i : ℕ) (k : K) (x : A) → RowFits Fit ks xs → slice_get ks i ≡ Some k → slice_get xs i ≡ Some x → Fit k x
row_at Fit [] xs i k x fits e e' = absurd (cc)
row_at Fit (k' ∷ ks) (x' ∷ xs) zero k x fits e e' = let same : k' ≡ k = cc in let same' : x' ≡ x = cc in rw (← same, ← same') fits.0
row_at Fit (k' ∷ ks) (x' ∷ xs) (suc i) k x fits e e' = row_at Fit ks xs i k x fits.1 e e'
row_at Fit (k' ∷ ks) [] i k x fits e e' = absurd fits
