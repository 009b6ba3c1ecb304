-- The names of a made function: they differ, and each has its index in the table as its number.
use Rattle.read_back.proofs.Common.{◌≡◌, ℕ, zero, suc, ◌+◌, ◌<◌, ◌≤◌, ◌^◌, inl, inr, true, false, List, [], ◌∷◌, ◌++◌, codes, refl, ap, ◌∙◌, arith, fold, decimal, list_any, bytes_eq, false_from_ne_true, cases_lt, le-ltb, decimal_injective, bytes_eq-Decides, same_name, with_name, number_of, Name, value_name, result_names, made_names}
use Rattle.ir_tree.specs.declared.name.Name.TheVariants as name

abbrev pub result_name : ℕ → Name
result_name i = name.Word (codes "r" ++ decimal i)

-- the name of a value: two parameters, and results
abbrev pub value_word : ℕ → Name
value_word zero = name.Word (codes "a")
value_word (suc zero) = name.Word (codes "b")
value_word (suc (suc n)) = result_name n

-- after this number of results
abbrev pub names_behind : ℕ → List Name
names_behind n = name.Word (codes "a") ∷ name.Word (codes "b") ∷ name.Word
    (codes "entry") ∷ result_names n 0

-- ---- words that end with numbers

pub words-same : (b i : ℕ) → same_name (name.Word (b ∷ decimal i))
    (name.Word (b ∷ decimal i)) ≡ true
words-same b i = (bytes_eq-Decides (b ∷ decimal i) (b ∷ decimal i)).1 refl

pub words-differ : (b i j : ℕ) → i < 2 ^ 64 → j < 2 ^ 64 → (i ≡ j → ⊥)
    → same_name (name.Word (b ∷ decimal i)) (name.Word (b ∷ decimal j)) ≡ false
words-differ b i j low high other = false_from_ne_true (bytes_eq (b ∷ decimal i) (b ∷ decimal j))
    (λ e. other (decimal_injective i j low high
    (tail ((bytes_eq-Decides (b ∷ decimal i) (b ∷ decimal j)).0 e))))
  where
    tail : (b ∷ decimal i) ≡ (b ∷ decimal j) → decimal i ≡ decimal j
    tail e = cc e

-- ---- the names of results (114 is the letter r)

absent : (n k i : ℕ) → k + n ≤ i → i < 2 ^ 64
    → list_any (same_name (result_name i)) (result_names n k) ≡ false
absent zero k i low high = refl
absent (suc n) k i low high =
    rw (words-differ 114 i k high (omega (arith, low, high)) (λ e. omega (arith, low, e)))
    (absent n (k + 1) i (omega (arith, low)) high)

absent_number : (n k i : ℕ) → k + n ≤ i → i < 2 ^ 64
    → number_of (result_names n k) (result_name i) ≡ n
absent_number zero k i low high = refl
absent_number (suc n) k i low high =
    let others = absent_number n (k + 1) i (omega (arith, low)) high in
    rw (words-differ 114 i k high (omega (arith, low, high)) (λ e. omega (arith, low, e)), others)
    (omega arith)

present : (n k i : ℕ) → k ≤ i → i < k + n → i < 2 ^ 64
    → list_any (same_name (result_name i)) (result_names n k) ≡ true
present zero k i low high small = absurd (omega (arith, low, high))
present (suc n) k i low high small = elim (cases_lt k i) [
  | inl less ↦
      rw (words-differ 114 i k small (omega (arith, less, small)) (λ e. omega (arith, less, e)))
      (present n (k + 1) i (omega (arith, less)) (omega (arith, high)) small)
  | inr most ↦ let e : i ≡ k = omega (arith, low, most) in rw (e, words-same 114 k) refl
]

present_number : (n k i : ℕ) → k ≤ i → i < k + n → i < 2 ^ 64
    → k + number_of (result_names n k) (result_name i) ≡ i
present_number zero k i low high small = absurd (omega (arith, low, high))
present_number (suc n) k i low high small = elim (cases_lt k i) [
  | inl less ↦
      let others = present_number n (k + 1) i (omega (arith, less)) (omega (arith, high)) small in
      rw (words-differ 114 i k small (omega (arith, less, small)) (λ e. omega (arith, less, e)))
      (omega (arith, others))
  | inr most ↦ let e : i ≡ k = omega (arith, low, most) in rw (e, words-same 114 k) (omega arith)
]

grown : (n k : ℕ) → result_names n k ++ result_name (k + n) ∷ [] ≡ result_names (n + 1) k
grown n k = let e : suc n ≡ n + 1 = omega arith in more n k ∙ ap (λ (m : ℕ). result_names m k) e
  where
    more : (n k : ℕ) → result_names n k ++ result_name (k + n) ∷ [] ≡ result_names (suc n) k
    more zero k = let e : k + 0 ≡ k = omega arith in ap (λ (m : ℕ). result_name m ∷ []) e
    more (suc n) k =
        let e : k + suc n ≡ k + 1 + n = omega arith in
        ap (λ (ns : List Name). result_name k ∷ ns)
        (ap (λ (m : ℕ). result_names n (k + 1) ++ result_name m ∷ []) e ∙ more n (k + 1))

-- ---- all names

pub value-big : (l : ℕ) → 2 ≤ l → value_name l ≡ l + 1
value-big l big = rw (le-ltb l 2 big) refl

pub value-number : (n l : ℕ) → l < n + 2 → n < 2 ^ 64
    → number_of (names_behind n) (value_word l) ≡ value_name l
value-number n zero low small = refl
value-number n (suc zero) low small = refl
value-number n (suc (suc l)) low small =
    let e = present_number n 0 l (omega arith) (omega (arith, low)) (omega (arith, low, small)) in
    let is = value-big (suc (suc l)) (omega arith) in
    omega (arith, e, is)

pub value-known : (n l : ℕ) → l < n + 2 → n < 2 ^ 64
    → with_name (names_behind n) (value_word l) ≡ names_behind n
value-known n zero low small = refl
value-known n (suc zero) low small = refl
value-known n (suc (suc l)) low small =
    rw (present n 0 l (omega arith) (omega (arith, low)) (omega (arith, low, small))) refl

pub result-number : (n : ℕ) → n < 2 ^ 64
    → number_of (names_behind n) (result_name n) ≡ value_name (n + 2)
result-number n small =
    let e = absent_number n 0 n (omega arith) small in
    let is = value-big (n + 2) (omega arith) in
    omega (arith, e, is)

pub result-new : (n : ℕ) → n < 2 ^ 64
    → with_name (names_behind n) (result_name n) ≡ names_behind (n + 1)
result-new n small =
    let first : List Name =
    name.Word (codes "a") ∷ name.Word (codes "b") ∷ name.Word (codes "entry") ∷ [] in
    let e : n ≡ 0 + n = omega arith in
    let own : result_name n ≡ result_name (0 + n) = ap result_name e in
    rw (absent n 0 n (omega arith) small)
    (ap (λ (x : Name). first ++ (result_names n 0 ++ x ∷ [])) own
    ∙ ap (λ (ns : List Name). first ++ ns) (grown n 0))

-- ---- the table

names_on : (n i : ℕ) → i + n < 2 ^ 64
    → fold with_name (names_behind i) (result_names n i) ≡ names_behind (i + n)
names_on zero i small = let e : i ≡ i + 0 = omega arith in ap names_behind e
names_on (suc n) i small =
    let e : i + 1 + n ≡ i + suc n = omega arith in
    ap (λ (ns : List Name). fold with_name ns (result_names n (i + 1)))
    (result-new i (omega (arith, small))) ∙ names_on n (i + 1) (omega (arith, small))
    ∙ ap names_behind e

pub names-made : (n : ℕ) → n < 2 ^ 64 → made_names n ≡ names_behind n
names-made n small =
    let e : 0 + n ≡ n = omega arith in
    names_on n 0 (omega (arith, small)) ∙ ap names_behind e
