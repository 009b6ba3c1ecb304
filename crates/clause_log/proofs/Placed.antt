-- Where marks are, and what one change of them changes.
use Rattle.clause_log.proofs.Common.{ℕ, zero, suc, ◌≡◌, ◌<◌, ◌≤◌, ◌+◌, inl, inr, Bool, eqb, ltb, List, [], ◌∷◌, Option, Some, None, Result, Ok, Err, length, get_or, set, option_and_then, arith, sym, ap, subst, refl, ◌∙◌, All, count_by, IsStrictlyIncreasing, IsBinarySearchResult, nat_cmp, cases_Bool, cases_eq, eq-eqb, ne_eqb, eqb-true, ltb-true, ltb-false, get_or-set_same, get_or-set_other, sorted_from_strictly_increasing, below_from_sorted, Mark, Marks, Places, next_index, index_of, place_of, unmarked, sign_in, sign_at, sign_of}
use Rattle.std.specs.Result.{MatchResult, result_ok}
use Rattle.std.proofs.lemmas.List.Elements.{All-head, All-tail}
use Rattle.std.proofs.lemmas.List.Sorted.{searched}
use Rattle.clause_log.specs.declared.places.Places.TheVariants.{Direct, Listed}
use Rattle.clause_log.proofs.Walking.{changed, changed-same, changed-other}

-- ---- the index of a number

some-same : (i j : ℕ) → Some i ≡ Some j → i ≡ j
some-same i j e = cc

index_of-found : (xs : List ℕ) (n i : ℕ) → ((j k : ℕ) → j < k → k < length xs → get_or xs j 0 < get_or xs k 0) → i < length xs → get_or xs i 0 ≡ n
    → index_of xs n ≡ Some i
index_of-found [] n i rises lt is = absurd (omega (arith, lt))
index_of-found (x ∷ xs) n zero rises lt is = rw (eq-eqb x n is) refl
index_of-found (x ∷ xs) n (suc i) rises lt is =
    let below : x < n = omega (arith, rises 0 (suc i) (omega arith) lt, is) in
    rw (ne_eqb x n (λ e. omega (arith, e, below)))
    (ap next_index (index_of-found xs n i (λ j k a b. rises (suc j) (suc k) (omega (arith, a)) (omega (arith, b))) (omega (arith, lt)) is)
    ∙ ap Some (let e : i + 1 ≡ suc i = omega arith in e))

index_of-absent : (xs : List ℕ) (n : ℕ) → ((k : ℕ) → k < length xs → get_or xs k 0 ≡ n → ⊥) → index_of xs n ≡ None
index_of-absent [] n absent = refl
index_of-absent (x ∷ xs) n absent =
    rw (ne_eqb x n (absent 0 (omega arith))) (ap next_index (index_of-absent xs n (λ k lt. absent (suc k) (omega (arith, lt)))))

-- what a search in the list answers
pub index_of-searched : (xs : List ℕ) (n : ℕ) (r : Result ℕ ℕ) → IsStrictlyIncreasing xs → IsBinarySearchResult (λ y. nat_cmp y n) xs r → result_ok r ≡ index_of xs n
index_of-searched xs n r increasing found = go r (searched xs n r found level)
  where
    below : (j k : ℕ) → j < k → k < length xs → get_or xs j 0 < get_or xs k 0
    below j k lt within = below_from_sorted xs j k 0 (sorted_from_strictly_increasing xs increasing) lt within

    level : (i j : ℕ) → i ≤ j → j < length xs → get_or xs i 0 ≤ get_or xs j 0
    level i j le within = elim (cases_eq i j) [
      | inl e ↦ let same = ap (λ k. get_or xs k 0) e in omega (arith, same)
      | inr other ↦ let lt = below i j (omega (arith, le, other)) within in omega (arith, lt)
    ]

    go : (r : Result ℕ ℕ) → MatchResult r (λ i. (i < length xs) × (get_or xs i 0 ≡ n)) (λ i. (i ≤ length xs) × ((k : ℕ) → k < i → get_or xs k 0 < n) × ((k : ℕ) → i ≤ k → k < length xs → n < get_or xs k 0))
        → result_ok r ≡ index_of xs n
    go (Ok i) h = sym (index_of-found xs n i below h.0 h.1)
    go (Err i) h = sym (index_of-absent xs n (λ k lt e. elim (cases_Bool (ltb k i)) [
      | inl before ↦ let low = h.1 k (ltb-true _ _ before) in omega (arith, low, e)
      | inr not_before ↦ let high = h.2 k (ltb-false _ _ not_before) lt in omega (arith, high, e)
    ]))

index_of-holds : (xs : List ℕ) (n i : ℕ) → index_of xs n ≡ Some i → get_or xs i 0 ≡ n
index_of-holds [] n i e = cc
index_of-holds (x ∷ xs) n i e = elim (cases_Bool (eqb x n)) [
  | inl same ↦
      let first : Some 0 ≡ Some i = rw same at e in
      subst (λ (k : ℕ). get_or (x ∷ xs) k 0 ≡ n) (some-same 0 i first) (eqb-true _ _ same)
  | inr other ↦ go (λ j. index_of-holds xs n j) (index_of xs n) refl (rw other at e)
]
  where
    go : ((j : ℕ) → index_of xs n ≡ Some j → get_or xs j 0 ≡ n) → (o : Option ℕ) → index_of xs n ≡ o → next_index o ≡ Some i → get_or (x ∷ xs) i 0 ≡ n
    go more None is later = cc
    go more (Some j) is later =
        let e : suc j ≡ i = (let f : suc j ≡ j + 1 = omega arith in f) ∙ some-same (j + 1) i later in
        subst (λ (k : ℕ). get_or (x ∷ xs) k 0 ≡ n) e (more j is)

-- two variables share no place
pub place-apart : (places : Places) (v w i : ℕ) → place_of places v ≡ Some i → place_of places w ≡ Some i → v ≡ w
place-apart (Direct _) v w i p q = some-same v w (p ∙ sym q)
place-apart (Listed listed) v w i p q = sym (index_of-holds listed.numbers.items v i p) ∙ index_of-holds listed.numbers.items w i q

-- ---- one mark changes

pub sign_of-set : (places : Places) (old new : Marks) (variable place : ℕ) (m : Mark) → place_of places variable ≡ Some place
    → place < length old.by_place.items → new.by_place.items ≡ set old.by_place.items place m → new.stamp ≡ old.stamp
    → (v : ℕ) → sign_of places new v ≡ changed (sign_of places old) variable (sign_in old.stamp m) v
sign_of-set places old new variable place m at within is stamp v =
    let plain : sign_of places new v ≡ option_and_then (sign_at old.stamp (set old.by_place.items place m)) (place_of places v) =
    ap (λ (s : ℕ). option_and_then (sign_at s new.by_place.items) (place_of places v)) stamp
    ∙ ap (λ (ms : List Mark). option_and_then (sign_at old.stamp ms) (place_of places v)) is in
    plain ∙ elim (cases_eq v variable) [
      | inl e ↦
          ap (λ (w : ℕ). option_and_then (sign_at old.stamp (set old.by_place.items place m)) (place_of places w)) e
          ∙ ap (λ o. option_and_then (sign_at old.stamp (set old.by_place.items place m)) o) at
          ∙ ap (sign_in old.stamp) (get_or-set_same old.by_place.items place m unmarked within)
          ∙ sym (ap (changed (sign_of places old) variable (sign_in old.stamp m)) e ∙ changed-same (sign_of places old) variable (sign_in old.stamp m))
      | inr other ↦ go other (place_of places v) refl ∙ sym (changed-other (sign_of places old) variable v (sign_in old.stamp m) other)
    ]
  where
    go : (v ≡ variable → ⊥) → (o : Option ℕ) → place_of places v ≡ o
        → option_and_then (sign_at old.stamp (set old.by_place.items place m)) (place_of places v) ≡ option_and_then (sign_at old.stamp old.by_place.items) (place_of places v)
    go other None none = rw none refl
    go other (Some q) some = rw some (ap (sign_in old.stamp) (get_or-set_other old.by_place.items place q m unmarked
        (λ e. other (place-apart places v variable place (some ∙ ap Some e) at))))

pub sign_in-present : (stamp : ℕ) (s : Bool) → sign_in stamp (record { stamp = stamp; positive = s }) ≡ Some s
sign_in-present stamp s = rw (eq-eqb stamp stamp refl) refl

pub sign_in-none : (stamp : ℕ) → 0 < stamp → sign_in stamp unmarked ≡ None
sign_in-none stamp some = rw (ne_eqb 0 stamp (λ e. omega (arith, e, some))) refl

-- ---- the next stamp

pub none-at : (ms : List Mark) (stamp next i : ℕ) → All (λ m. m.stamp ≤ stamp) ms → stamp < next → sign_at next ms i ≡ None
none-at [] stamp next i all later = sign_in-none next (omega (arith, later))
none-at (m ∷ ms) stamp next zero all later =
    let low : m.stamp ≤ stamp = All-head (λ (k : Mark). k.stamp ≤ stamp) m ms all in
    rw (ne_eqb m.stamp next (λ e. omega (arith, e, low, later))) refl
none-at (m ∷ ms) stamp next (suc i) all later = none-at ms stamp next i (All-tail (λ (k : Mark). k.stamp ≤ stamp) m ms all) later

pub none-marked : (ms : List Mark) (stamp next : ℕ) → All (λ m. m.stamp ≤ stamp) ms → stamp < next → count_by (λ m. eqb m.stamp next) ms ≡ 0
none-marked [] stamp next all later = refl
none-marked (m ∷ ms) stamp next all later =
    let low : m.stamp ≤ stamp = All-head (λ (k : Mark). k.stamp ≤ stamp) m ms all in
    rw (ne_eqb m.stamp next (λ e. omega (arith, e, low, later))) (none-marked ms stamp next (All-tail (λ (k : Mark). k.stamp ≤ stamp) m ms all) later)
