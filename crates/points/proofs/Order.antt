-- Lists of digits in their order: what comes next where two lists are put one after the other.
use Rattle.points.proofs.Common.{◌≡◌, ◌⊎◌, inl, inr, ℕ, zero, suc, ◌+◌, ◌*◌, ◌^◌, ◌<◌, ◌≤◌, List, [], ◌∷◌, ◌++◌, length, refl, ap, arith, length-append, mul-le-mul_right, pow-succ', pow-add, cases_order, same_from_place, number_of, IsChain}

-- this number of digits
abbrev pub Digits : ℕ → List ℕ → Type 0
Digits zero [] = Unit {0}
Digits (suc n) (d ∷ ds) = (d < 2 ^ 64) × Digits n ds
Digits zero (d ∷ ds) = ⊥
Digits (suc n) [] = ⊥

pub digits_as : (n m : ℕ) (xs : List ℕ) → n ≡ m → Digits m xs → Digits n xs
digits_as n m xs e h = rw e h

pub length_of_Digits : (n : ℕ) (ds : List ℕ) → Digits n ds → length ds ≡ n
length_of_Digits zero [] h = refl
length_of_Digits (suc n) (d ∷ ds) h = ap suc (length_of_Digits n ds h.1)
length_of_Digits zero (d ∷ ds) h = absurd h
length_of_Digits (suc n) [] h = absurd h

-- a greater first digit decides
pub lead : (k x y a b : ℕ) → a < k → x < y → x * k + a < y * k + b
lead k x y a b p q = let m : suc x * k ≤ y * k = mul-le-mul_right k q in omega (arith, m)

pub split_lem : (k a b c d : ℕ) → c < k → d < k → a * k + c < b * k + d → (a < b) ⊎ ((a ≡ b) × (c < d))
split_lem k a b c d p q less =
    elim (cases_order a b) as (λ _. (a < b) ⊎ ((a ≡ b) × (c < d))) [
      | inl same ↦ inr (same, (let e : a * k ≡ b * k = ap (λ x. x * k) same in omega (arith, e)))
      | inr apart ↦ elim apart as (λ _. (a < b) ⊎ ((a ≡ b) × (c < d))) [
        | inl below ↦ inl below
        | inr above ↦ absurd (let f = lead k b a d c q above in omega (arith, f))
      ]
    ]

pub number_of-below : (n : ℕ) (ds : List ℕ) → Digits n ds → number_of ds < (2 ^ 64) ^ n
unfolding number_of
number_of-below zero [] h = omega arith
number_of-below (suc n) (d ∷ ds) h =
    rw (length_of_Digits n ds h.1, pow-succ' (2 ^ 64) n)
    (let rest = number_of-below n ds h.1 in
    let top : suc d * (2 ^ 64) ^ n ≤ 2 ^ 64 * (2 ^ 64) ^ n = mul-le-mul_right ((2 ^ 64) ^ n) h.0 in
    omega (arith, top, rest))
number_of-below zero (d ∷ ds) h = absurd h
number_of-below (suc n) [] h = absurd h

pub number_of-append : (xs ys : List ℕ) → number_of (xs ++ ys) ≡ number_of xs * (2 ^ 64) ^ length ys + number_of ys
unfolding number_of
number_of-append [] ys = omega arith
number_of-append (x ∷ xs) ys =
    rw (length-append xs ys, pow-add (2 ^ 64) (length xs) (length ys), number_of-append xs ys)
    (omega arith)

-- the heads decide, and where they are one the tails do
pub number_of-split : (m : ℕ) (xs xs' ys ys' : List ℕ) → Digits m ys → Digits m ys' → number_of (xs ++ ys) < number_of (xs' ++ ys') → (number_of xs < number_of xs') ⊎ ((number_of xs ≡ number_of xs') × (number_of ys < number_of ys'))
number_of-split m xs xs' ys ys' h h' less =
    let small = number_of-below m ys h in
    let small' = number_of-below m ys' h' in
    let less2 = rw (number_of-append xs ys, number_of-append xs' ys', length_of_Digits m ys h, length_of_Digits m ys' h') at less in
    split_lem ((2 ^ 64) ^ m) (number_of xs) (number_of xs') (number_of ys) (number_of ys') small small' less2

ap2 : {x y : ℕ} {xs ys : List ℕ} → x ≡ y → xs ≡ ys → x ∷ xs ≡ y ∷ ys
ap2 e f = cc

pub number_of-same : (n : ℕ) (xs ys : List ℕ) → Digits n xs → Digits n ys → number_of xs ≡ number_of ys → xs ≡ ys
unfolding number_of
number_of-same zero [] [] h h' e = refl
number_of-same (suc n) (x ∷ xs) (y ∷ ys) h h' e =
    let e' = rw (length_of_Digits n xs h.1, length_of_Digits n ys h'.1) at e in
    let both = same_from_place x (number_of xs) y (number_of ys) ((2 ^ 64) ^ n) (number_of-below n xs h.1) (number_of-below n ys h'.1) e' in
    let tails = number_of-same n xs ys h.1 h'.1 both.1 in
    ap2 both.0 tails
number_of-same zero (x ∷ xs) ys h h' e = absurd h
number_of-same zero [] (y ∷ ys) h h' e = absurd h'
number_of-same (suc n) [] ys h h' e = absurd h
number_of-same (suc n) (x ∷ xs) [] h h' e = absurd h'

pub less_by_front : (m : ℕ) (xs xs' ys ys' : List ℕ) → Digits m ys → Digits m ys' → number_of xs < number_of xs' → number_of (xs ++ ys) < number_of (xs' ++ ys')
less_by_front m xs xs' ys ys' h h' less =
    rw (number_of-append xs ys, number_of-append xs' ys', length_of_Digits m ys h, length_of_Digits m ys' h')
    (lead ((2 ^ 64) ^ m) (number_of xs) (number_of xs') (number_of ys) (number_of ys') (number_of-below m ys h) less)

pub less_by_back : (m : ℕ) (xs ys ys' : List ℕ) → Digits m ys → Digits m ys' → number_of ys < number_of ys' → number_of (xs ++ ys) < number_of (xs ++ ys')
less_by_back m xs ys ys' h h' less =
    rw (number_of-append xs ys, number_of-append xs ys', length_of_Digits m ys h, length_of_Digits m ys' h') (omega arith)

pub at_most_by_back : (m : ℕ) (xs ys ys' : List ℕ) → Digits m ys → Digits m ys' → number_of ys ≤ number_of ys' → number_of (xs ++ ys) ≤ number_of (xs ++ ys')
at_most_by_back m xs ys ys' h h' less =
    rw (number_of-append xs ys, number_of-append xs ys', length_of_Digits m ys h, length_of_Digits m ys' h') (omega arith)

-- zs comes after xs, and none of P between the two
pub record IsNextIn (P : List ℕ → Type 0) (xs zs : List ℕ) : Type 0 where
  pub later : number_of xs < number_of zs
  pub no_gap : (ys : List ℕ) → P ys → number_of ys < number_of zs → number_of ys ≤ number_of xs

abbrev pub IsLastIn : (List ℕ → Type 0) → List ℕ → Type 0
IsLastIn P xs = (ys : List ℕ) → P ys → number_of ys ≤ number_of xs

abbrev pub IsFirstIn : (List ℕ → Type 0) → List ℕ → Type 0
IsFirstIn P xs = (ys : List ℕ) → P ys → number_of xs ≤ number_of ys

-- all of P have n digits, and all that Q allows have m
pub record HaveDigits (P : List ℕ → Type 0) (Q : List ℕ → List ℕ → Type 0) (n m : ℕ) : Type 0 where
  pub front : (xs : List ℕ) → P xs → Digits n xs
  pub back : (xs ys : List ℕ) → Q xs ys → Digits m ys

pub next_in_back : (P : List ℕ → Type 0) (Q : List ℕ → List ℕ → Type 0) (n m : ℕ) (xs vs vs' : List ℕ) → HaveDigits P Q n m → P xs → Q xs vs → Q xs vs' → IsNextIn (Q xs) vs vs' → IsNextIn (IsChain P Q) (xs ++ vs) (xs ++ vs')
next_in_back P Q n m xs vs vs' d p q q' next = record {
  later = less_by_back m xs vs vs' (d.back xs vs q) (d.back xs vs' q') next.later;
  no_gap = λ ws chain less.
      let less' = rw chain.whole at less in
      rw (chain.whole)
      (elim (number_of-split m chain.front xs chain.back vs' (d.back _ _ chain.in_back) (d.back xs vs' q') less') as (λ _. number_of (chain.front ++ chain.back) ≤ number_of (xs ++ vs)) [
        | inl below ↦ let e = less_by_front m chain.front xs chain.back vs (d.back _ _ chain.in_back) (d.back xs vs q) below in omega (arith, e)
        | inr same ↦
            let e = number_of-same n chain.front xs (d.front _ chain.in_front) (d.front xs p) same.0 in
            let there = rw e at chain.in_back in
            rw e (at_most_by_back m xs chain.back vs (d.back xs chain.back there) (d.back xs vs q) (next.no_gap chain.back there same.1))
      ]);
}

pub last_in_both : (P : List ℕ → Type 0) (Q : List ℕ → List ℕ → Type 0) (n m : ℕ) (xs vs : List ℕ) → HaveDigits P Q n m → P xs → Q xs vs → IsLastIn P xs → IsLastIn (Q xs) vs → IsLastIn (IsChain P Q) (xs ++ vs)
last_in_both P Q n m xs vs d p q last last' = λ ws chain.
    rw chain.whole
    (elim (cases_order (number_of chain.front) (number_of xs)) as (λ _. number_of (chain.front ++ chain.back) ≤ number_of (xs ++ vs)) [
      | inl same ↦
          let e = number_of-same n chain.front xs (d.front _ chain.in_front) (d.front xs p) same in
          let there = rw e at chain.in_back in
          rw e (at_most_by_back m xs chain.back vs (d.back xs chain.back there) (d.back xs vs q) (last' chain.back there))
      | inr apart ↦ elim apart as (λ _. number_of (chain.front ++ chain.back) ≤ number_of (xs ++ vs)) [
        | inl below ↦ let e = less_by_front m chain.front xs chain.back vs (d.back _ _ chain.in_back) (d.back xs vs q) below in omega (arith, e)
        | inr above ↦ absurd (let f = last chain.front chain.in_front in omega (arith, f))
      ]
    ])

pub next_in_front : (P : List ℕ → Type 0) (Q : List ℕ → List ℕ → Type 0) (n m : ℕ) (xs xs' vs vs' : List ℕ) → HaveDigits P Q n m → P xs → P xs' → Q xs vs → Q xs' vs' → IsNextIn P xs xs' → IsLastIn (Q xs) vs → IsFirstIn (Q xs') vs' → IsNextIn (IsChain P Q) (xs ++ vs) (xs' ++ vs')
next_in_front P Q n m xs xs' vs vs' d p p' q q' next last first = record {
  later = less_by_front m xs xs' vs vs' (d.back xs vs q) (d.back xs' vs' q') next.later;
  no_gap = λ ws chain less.
      let less' = rw chain.whole at less in
      rw (chain.whole)
      (elim (number_of-split m chain.front xs' chain.back vs' (d.back _ _ chain.in_back) (d.back xs' vs' q') less') as (λ _. number_of (chain.front ++ chain.back) ≤ number_of (xs ++ vs)) [
        | inl below ↦
            let f = next.no_gap chain.front chain.in_front below in
            elim (cases_order (number_of chain.front) (number_of xs)) as (λ _. number_of (chain.front ++ chain.back) ≤ number_of (xs ++ vs)) [
              | inl same ↦
                  let e = number_of-same n chain.front xs (d.front _ chain.in_front) (d.front xs p) same in
                  let there = rw e at chain.in_back in
                  rw e (at_most_by_back m xs chain.back vs (d.back xs chain.back there) (d.back xs vs q) (last chain.back there))
              | inr apart ↦ elim apart as (λ _. number_of (chain.front ++ chain.back) ≤ number_of (xs ++ vs)) [
                | inl under ↦ let e = less_by_front m chain.front xs chain.back vs (d.back _ _ chain.in_back) (d.back xs vs q) under in omega (arith, e)
                | inr above ↦ absurd (omega (arith, f))
              ]
            ]
        | inr same ↦
            let e = number_of-same n chain.front xs' (d.front _ chain.in_front) (d.front xs' p') same.0 in
            let there = rw e at chain.in_back in
            absurd (let f = first chain.back there in omega (arith, f, same.1))
      ]);
}
