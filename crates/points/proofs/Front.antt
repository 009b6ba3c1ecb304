-- Lists of digits are ordered by their numbers as they are lexicographically.
use Rattle.points.proofs.Common.{◌≡◌, inl, inr, ℕ, zero, suc, ◌^◌, ◌<◌, List, [], ◌∷◌, length, get_or, arith, number_of, IsLessFromFront, AreDigits, NumbersCompareFromFront}
use Rattle.points.proofs.Order.{Digits, number_of-below, lead, split_lem}

digits_of_each : (xs : List ℕ) → AreDigits xs → Digits (length xs) xs
digits_of_each [] h = tt
digits_of_each (x ∷ xs) h = (h 0 (omega arith), digits_of_each xs (λ k below. h (suc k) (omega arith)))

less_there : (xs ys : List ℕ) → length xs ≡ length ys → Digits (length xs) xs → Digits (length ys) ys → number_of xs < number_of ys → IsLessFromFront xs ys
unfolding number_of
less_there [] [] long h h' less = absurd (omega arith)
less_there (x ∷ xs) (y ∷ ys) long h h' less =
    let same : length xs ≡ length ys = omega (arith, long) in
    let small = number_of-below (length xs) xs h.1 in
    let small' = number_of-below (length ys) ys h'.1 in
    let less' = rw same at less in
    let small'' = rw same at small in
    elim (split_lem ((2 ^ 64) ^ length ys) x y (number_of xs) (number_of ys) small'' small' less') as (λ _. IsLessFromFront (x ∷ xs) (y ∷ ys)) [
      | inl here ↦ record { place = 0; within = omega arith; same_before = λ k below. absurd (omega arith); less_there = here }
      | inr later ↦
          let rest = less_there xs ys same h.1 h'.1 later.1 in
          let first = later.0 in
          record {
            place = suc rest.place;
            within = (let within = rest.within in omega (arith, within));
            same_before = λ k below. before x y xs ys rest.place first rest.same_before k below;
            less_there = rest.less_there;
          }
    ]
  where
    before : (x y : ℕ) (xs ys : List ℕ) (place : ℕ) → x ≡ y → ((k : ℕ) → k < place → get_or xs k 0 ≡ get_or ys k 0) → (k : ℕ) → k < suc place → get_or (x ∷ xs) k 0 ≡ get_or (y ∷ ys) k 0
    before x y xs ys place first rest zero below = first
    before x y xs ys place first rest (suc k) below = rest k (omega (arith, below))
less_there [] (y ∷ ys) long h h' less = absurd (omega (arith, long))
less_there (x ∷ xs) [] long h h' less = absurd (omega (arith, long))

number_less : (xs ys : List ℕ) (place : ℕ) → length xs ≡ length ys → Digits (length xs) xs → Digits (length ys) ys → place < length xs → ((k : ℕ) → k < place → get_or xs k 0 ≡ get_or ys k 0) → get_or xs place 0 < get_or ys place 0 → number_of xs < number_of ys
unfolding number_of
number_less [] ys place long h h' within before less = absurd (omega (arith, within))
number_less (x ∷ xs) [] place long h h' within before less = absurd (omega (arith, long))
number_less (x ∷ xs) (y ∷ ys) zero long h h' within before less =
    let same : length xs ≡ length ys = omega (arith, long) in
    let small = number_of-below (length xs) xs h.1 in
    let small' = rw same at small in
    rw same (lead ((2 ^ 64) ^ length ys) x y (number_of xs) (number_of ys) small' less)
number_less (x ∷ xs) (y ∷ ys) (suc place) long h h' within before less =
    let same : length xs ≡ length ys = omega (arith, long) in
    let first : x ≡ y = before 0 (omega arith) in
    let rest = number_less xs ys place same h.1 h'.1 (omega (arith, within)) (λ k below. before (suc k) (omega (arith, below))) less in
    rw (same, first) (omega (arith, rest))

pub numbers_compare_from_front : NumbersCompareFromFront
numbers_compare_from_front = λ xs ys long digits digits'.
    let h = digits_of_each xs digits in
    let h' = digits_of_each ys digits' in
    (less_there xs ys long h h', (λ front. number_less xs ys front.place long h h' front.within front.same_before front.less_there))
