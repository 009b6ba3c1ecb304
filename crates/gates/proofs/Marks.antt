-- Which gates are marked, from the output down.
use Rattle.gates.proofs.Common.{ℕ, zero, suc, ◌≡◌, ◌≢◌, ◌<◌, ◌≤◌, ◌+◌, inl, inr, Bool, true, false, All, List, [], ◌∷◌, ◌++◌, ◌-◌, drop, take, get_or, slice_get, Some, length, arith, sym, ap, subst, refl, ◌∙◌, Contains, slice_set, replicate, cases_eq, cases_lt, get_or-set_same, get_or-set_other, get_or-replicate, get_or_past, length-replicate, length-set, slice_get-get_or, slice_get_within, Gate, Zero, Input, And, Xor, Choose, IsCone, IsMarked, IsNeeded, marked, operands, output, operand, AreFit, IsFit}
use Rattle.std.proofs.Math.Seq.{take-append_seam}
use Rattle.gates.proofs.FactLemmas.{fit_stored}

-- the operands of a gate come before it
pub operands-below : (n : ℕ) (g : Gate) → IsFit n g → All (λ j. j < n) (operands g)
operands-below n Zero fit i d lt = absurd (omega arith)
operands-below n (Input place) fit i d lt = absurd (omega arith)
operands-below n (And a b) fit zero d lt = omega (arith, fit.0, fit.1)
operands-below n (And a b) fit (suc zero) d lt = fit.1
operands-below n (And a b) fit (suc (suc i)) d lt = absurd (omega arith)
operands-below n (Xor a b) fit zero d lt = omega (arith, fit.0, fit.1)
operands-below n (Xor a b) fit (suc zero) d lt = fit.1
operands-below n (Xor a b) fit (suc (suc i)) d lt = absurd (omega arith)
operands-below n (Choose test first second) fit zero d lt = fit.0
operands-below n (Choose test first second) fit (suc zero) d lt = fit.1
operands-below n (Choose test first second) fit (suc (suc zero)) d lt = fit.2
operands-below n (Choose test first second) fit (suc (suc (suc i))) d lt = absurd (omega arith)

-- what holds of all holds of one among them
pub all-contains : (P : ℕ → Type 0) (xs : List ℕ) (x : ℕ) → All P xs → Contains xs x → P x
all-contains P xs x h c = subst P c.2 (h c.0 x c.1)

-- one at an index is among them
pub contains-at : (xs : List ℕ) (i d : ℕ) → i < length xs → Contains xs (get_or xs i d)
contains-at xs i d lt = (i, lt, same xs i d (get_or xs i d) lt)
  where
    same : (ys : List ℕ) (k c e : ℕ) → k < length ys → get_or ys k e ≡ get_or ys k c
    same [] k c e l = absurd (omega arith)
    same (y ∷ ys) zero c e l = refl
    same (y ∷ ys) (suc k) c e l = same ys k c e (omega arith)

pub length-marked : (needed : List Bool) (js : List ℕ) → length (marked needed js) ≡ length needed
length-marked needed [] = refl
length-marked needed (j ∷ js) = length-marked (slice_set needed j true) js ∙ length-set needed j true

set-marked : (needed : List Bool) (i j : ℕ) → IsMarked needed j → IsMarked (slice_set needed i true) j
set-marked needed i j h = elim (cases_eq j i) [
  | inl e ↦ set_at needed i j h e
  | inr ne ↦ get_or-set_other needed i j true false ne ∙ h
]
  where
    inside : (xs : List Bool) (k : ℕ) → get_or xs k false ≡ true → k < length xs
    inside [] k m = absurd (let z : ⊥ = cc in z)
    inside (x ∷ xs) zero m = omega arith
    inside (x ∷ xs) (suc k) m = omega (arith, inside xs k m)

    set_at : (xs : List Bool) (k l : ℕ) → get_or xs l false ≡ true → l ≡ k → get_or (slice_set xs k true) l false ≡ true
    set_at xs k l m e = ap (λ n. get_or (slice_set xs k true) n false) e ∙ get_or-set_same xs k true false (subst (λ n. n < length xs) e (inside xs l m))

-- what was marked stays marked
marked-stays : (needed : List Bool) (js : List ℕ) (j : ℕ) → IsMarked needed j → IsMarked (marked needed js) j
marked-stays needed [] j h = h
marked-stays needed (k ∷ js) j h = marked-stays (slice_set needed k true) js j (set-marked needed k j h)

-- and those of the list are marked
marked-own : (needed : List Bool) (js : List ℕ) → All (λ j. j < length needed) js → All (IsMarked (marked needed js)) js
marked-own needed [] h i d lt = absurd (omega arith)
marked-own needed (j ∷ js) h zero d lt = marked-stays (slice_set needed j true) js j (get_or-set_same needed j true false (h 0 j (omega arith)))
marked-own needed (j ∷ js) h (suc i) d lt =
    let len : length (slice_set needed j true) ≡ length needed = length-set needed j true in
    marked-own (slice_set needed j true) js (λ k e l. subst (λ n. get_or js k e < n) (sym len) (h (suc k) e (omega arith))) i d (omega arith)

-- what is marked was so, or is of the list
marked-from : (P : ℕ → Type 0) (needed : List Bool) (js : List ℕ) → ((j : ℕ) → IsMarked needed j → P j) → All P js → (j : ℕ) → IsMarked (marked needed js) j → P j
marked-from P needed [] was own j h = was j h
marked-from P needed (k ∷ js) was own j h =
    marked-from P (slice_set needed k true) js
    (λ i m. elim (cases_eq i k) [
      | inl e ↦ subst P (sym e) (own 0 k (omega arith))
      | inr ne ↦ was i (sym (get_or-set_other needed k i true false ne) ∙ m)
    ])
    (λ i d lt. own (suc i) d (omega arith)) j h

-- an index past those of the list is marked only if it was
marked-past : (needed : List Bool) (js : List ℕ) (n : ℕ) → All (λ j. j < n) js → (j : ℕ) → n ≤ j → IsMarked (marked needed js) j → IsMarked needed j
marked-past needed js n below j le h =
    marked-from (λ k. n ≤ k → IsMarked needed k) needed js (λ k m le'. m) (λ i d lt le'. absurd (omega (arith, below i d lt))) j h le

pub cone-skip : (gates : List Gate) (out j : ℕ) (needed : List Bool) → get_or needed j false ≡ false → IsCone gates out (j + 1) needed → IsCone gates out j needed
cone-skip gates out j needed off c = record {
  long = c.long;
  root = c.root;
  closed = λ i g le at m. elim (cases_eq i j) [
    | inl e ↦ absurd (let z : get_or needed j false ≡ true = ap (λ k. get_or needed k false) (sym e) ∙ m in let w : ⊥ = cc in w)
    | inr ne ↦ c.closed i g (omega arith) at m
  ];
  sound = c.sound;
}

some_same : {x y : Gate} → Some x ≡ Some y → x ≡ y
some_same e = cc

pub cone-mark : (gates : List Gate) (out j : ℕ) (needed : List Bool) (g : Gate) → AreFit 0 gates → slice_get gates j ≡ Some g → IsMarked needed j
    → IsCone gates out (j + 1) needed → IsCone gates out j (marked needed (operands g))
cone-mark gates out j needed g fit at own c =
    let room : j < length needed = omega (arith, c.long, slice_get_within gates j g at) in
    let zero_more : 0 + j ≡ j = omega arith in
    let below : All (λ k. k < j) (operands g) = operands-below j g (subst (λ n. IsFit n g) zero_more (fit_stored 0 gates j g fit at)) in
    record {
      long = length-marked needed (operands g) ∙ c.long;
      root = marked-stays needed (operands g) out c.root;
      closed = λ i h le here m. elim (cases_eq i j) [
        | inl e ↦
            let same : g ≡ h = some_same (sym at ∙ (ap (slice_get gates) (sym e) ∙ here)) in
            subst (λ (r : Gate). All (IsMarked (marked needed (operands g))) (operands r)) same (marked-own needed (operands g) (λ k d lt. omega (arith, below k d lt)))
        | inr ne ↦
            let before = c.closed i h (omega arith) here (marked-past needed (operands g) j below i le m) in
            λ k d lt. marked-stays needed (operands g) (get_or (operands h) k d) (before k d lt)
      ];
      sound = λ i m. marked-from (IsNeeded gates out) needed (operands g) c.sound (λ k d lt. operand (c.sound j own) at (contains-at (operands g) k d lt)) i m;
    }

-- a list that is resized from nothing
pub resized : (n l : ℕ) (new xs : List Bool) → new ≡ [] → l ≡ 0 → xs ≡ take n new ++ replicate (n - l) false → xs ≡ replicate n false
resized n l new xs none short is =
    let whole : n - 0 ≡ n = omega arith in
    is ∙ (ap (λ ys. take n ys ++ replicate (n - l) false) none ∙ (ap (λ k. take n [] ++ replicate (n - k) false) short
    ∙ (ap (λ k. take n [] ++ replicate k false) whole ∙ front n (replicate n false))))
  where
    front : (m : ℕ) (ys : List Bool) → take m [] ++ ys ≡ ys
    front zero ys = refl
    front (suc m) ys = refl

pub cone-start : (gates : List Gate) (out : ℕ) (needed : List Bool) → out < length gates → needed ≡ slice_set (replicate (length gates) false) out true → IsCone gates out (length gates) needed
cone-start gates out needed lt is = rw is (record {
  long = length-set (replicate (length gates) false) out true ∙ length-replicate (length gates) false;
  root = get_or-set_same (replicate (length gates) false) out true false (subst (λ n. out < n) (sym (length-replicate (length gates) false)) lt);
  closed = λ i g le at m. absurd (omega (arith, slice_get_within gates i g at));
  sound = λ i m. elim (cases_eq i out) [
    | inl e ↦ subst (λ k. IsNeeded gates out k) (sym e) output
    | inr ne ↦ absurd (off i ne m)
  ];
})
  where
    off : (i : ℕ) → i ≢ out → get_or (slice_set (replicate (length gates) false) out true) i false ≡ true → ⊥
    off i ne m = clear (length gates) i (sym (get_or-set_other (replicate (length gates) false) out i true false ne) ∙ m)
      where
        clear : (n k : ℕ) → get_or (replicate n false) k false ≡ true → ⊥
        clear n k e = elim (cases_lt k n) [
          | inl less ↦ (let z : true ≡ false = sym e ∙ get_or-replicate n k false false less in let w : ⊥ = cc in w)
          | inr more ↦ (let z : true ≡ false = sym e ∙ get_or_past (replicate n false) k false (omega (arith, more, length-replicate n false)) in let w : ⊥ = cc in w)
        ]

-- one step from the output down, where the marks are written back into their list
pub mark-step : (gates : List Gate) (out place : ℕ) (needed slice marks : List Bool) (d : Gate) → AreFit 0 gates → 0 < place → place ≤ length gates
    → slice ≡ needed → IsMarked needed (place - 1) → marks ≡ marked slice (operands (get_or gates (place - 1) d)) → IsCone gates out place needed → IsCone gates out (place - 1) marks
mark-step gates out place needed slice marks d fit pos most is own e c =
    let j = place - 1 in
    let step : place ≡ j + 1 = omega (arith, pos) in
    let lt : j < length gates = omega (arith, pos, most) in
    let g = get_or gates j d in
    let all : marks ≡ marked needed (operands g) = e ∙ ap (λ us. marked us (operands g)) is in
    subst (λ (us : List Bool). IsCone gates out j us) (sym all)
    (cone-mark gates out j needed g fit (slice_get-get_or gates j d lt) own (subst (λ n. IsCone gates out n needed) step c))

-- a slice that was written back is the list
pub written-back : (n : ℕ) (marks needed : List Bool) → n ≡ length marks → take n (marks ++ drop (length marks) needed) ≡ marks
written-back n marks needed e = ap (λ k. take k (marks ++ drop (length marks) needed)) e ∙ take-append_seam marks (drop (length marks) needed)

-- what an index reads
pub got-at : {A : Type 0} (xs : List A) (i : ℕ) (r d : A) → r ≡ get_or xs i r → i < length xs → get_or xs i d ≡ r
got-at [] i r d e lt = absurd (omega arith)
got-at (x ∷ xs) zero r d e lt = sym e
got-at (x ∷ xs) (suc i) r d e lt = got-at xs i r d e (omega arith)
