-- Walks over indices that are terms.
use Rattle.access_terms.proofs.Common.{cases_Bool, ℕ, zero, suc, ◌≡◌, ◌<◌, ◌≤◌, ◌+◌, ◌^◌, Bool, true, false, not, ◌||◌, nat_lt, List, [], ◌∷◌, length, drop, get_or, pos, ◌+ℤ◌, inl, inr, refl, ap, sym, ◌∙◌, arith, ◌*ℤ◌, list_all, list_any, le-ltb, lt-ltb, cases_lt, at_drop_more, at_drop_all, signed_of, wrapped, Index, is_index, is_number, is_outside, last_sum, leaves_block, scaled, inside, last_sum-end, last_sum-more, leaves-at_base, leaves-here, leaves-later, leaves-never, wrapped-small, Term, bit_at, term_at, value_from, map-at, map-length, SymIndex, AreNumbers, index_at, indices_at}
use Rattle.access_terms.proofs.Stored.{and-left, and-right}

-- ---- one index

number-of : (p : Bool) (n : ℕ) → is_number (value_from p n) ≡ true → p ≡ false
number-of true n e = sym e
number-of false n e = refl

pub index-number : (v : ℕ → ℕ → ℕ) (terms : List Term) (xs : List SymIndex) (i : ℕ) (x : SymIndex) → AreNumbers v terms xs → i < length xs → x ≡ get_or xs i x → bit_at v terms x.poison ≡ false
unfolding index_at
index-number v terms [] i x h lt is = absurd (omega arith)
index-number v terms (y ∷ ys) zero x h lt is = ap (λ (z : SymIndex). bit_at v terms z.poison) is ∙ number-of (bit_at v terms y.poison) (term_at v terms y.number) (and-left _ _ h)
index-number v terms (y ∷ ys) (suc i) x h lt is = index-number v terms ys i x (and-right _ _ h) (omega arith) is

pub scaled-is : (v : ℕ → ℕ → ℕ) (terms : List Term) (x : SymIndex) → bit_at v terms x.poison ≡ false → scaled (index_at v terms x) ≡ signed_of x.width.bits (term_at v terms x.number) *ℤ pos x.scale
unfolding index_at
scaled-is v terms x e = rw e refl

pub index-is : (v : ℕ → ℕ → ℕ) (terms : List Term) (x : SymIndex) → is_index (index_at v terms x) ≡ not (bit_at v terms x.poison)
unfolding index_at
index-is v terms x = by-cases (bit_at v terms x.poison) (term_at v terms x.number)
  where
    by-cases : (p : Bool) (n : ℕ) → is_number (value_from p n) ≡ not p
    by-cases true n = refl
    by-cases false n = refl

not-not : (b : Bool) → not (not b) ≡ b
not-not true = refl
not-not false = refl

pub poison-is : (v : ℕ → ℕ → ℕ) (terms : List Term) (x : SymIndex) → bit_at v terms x.poison ≡ not (is_index (index_at v terms x))
poison-is v terms x = sym (ap not (index-is v terms x) ∙ not-not (bit_at v terms x.poison))

pub index-in : (v : ℕ → ℕ → ℕ) (terms : List Term) (xs : List SymIndex) (i : ℕ) (x : SymIndex) → i < length xs → x ≡ get_or xs i x → index_at v terms x ≡ get_or (indices_at v terms xs) i (index_at v terms x)
index-in v terms xs i x lt is = sym (map-at (index_at v terms) xs i x (index_at v terms x) lt is)

pub indices-length : (v : ℕ → ℕ → ℕ) (terms : List Term) (xs : List SymIndex) → length (indices_at v terms xs) ≡ length xs
indices-length v terms xs = map-length (index_at v terms) xs

-- ---- whether one passes a test

or-assoc : (a b c : Bool) → ((a || b) || c) ≡ (a || (b || c))
or-assoc true b c = refl
or-assoc false b c = refl

pub any_more : (p : Index → Bool) (xs : List Index) (i : ℕ) (x : Index) (any any' one : Bool) → i < length xs → x ≡ get_or xs i x → one ≡ p x → any' ≡ (any || one)
    → list_any p xs ≡ (any || list_any p (drop i xs)) → list_any p xs ≡ (any' || list_any p (drop (i + 1) xs))
any_more p xs i x any any' one lt is one_is next before =
    let unrolled : list_any p (drop i xs) ≡ (p x || list_any p (drop (i + 1) xs)) = at_drop_more (list_any p) xs i x lt ∙ rw (← is) refl in
    before ∙ (ap (λ z. any || z) (unrolled ∙ ap (λ z. z || list_any p (drop (i + 1) xs)) (sym one_is)) ∙ (sym (or-assoc any one (list_any p (drop (i + 1) xs))) ∙ ap (λ z. z || list_any p (drop (i + 1) xs)) (sym next)))

or_false : (b : Bool) → (b || false) ≡ b
or_false true = refl
or_false false = refl

pub any_whole : (p : Index → Bool) (xs : List Index) (i : ℕ) (any : Bool) → length xs ≤ i → list_any p xs ≡ (any || list_any p (drop i xs)) → any ≡ list_any p xs
any_whole p xs i any past h = sym (h ∙ (ap (λ z. any || z) (at_drop_all (list_any p) xs i past) ∙ or_false any))

pub not-all : (p : Index → Bool) (xs : List Index) → list_any (λ x. not (p x)) xs ≡ not (list_all p xs)
not-all p [] = refl
not-all p (x ∷ xs) = elim (cases_Bool (p x)) [ inl t ↦ rw t (not-all p xs) | inr f ↦ rw f refl ]

-- ---- sums

pub record IsWalked (size start : ℕ) (indices : List Index) (k offset : ℕ) (leaves : Bool) : Type 0 where
  pub inside : leaves ≡ false → offset ≤ size
  pub leaves_is : leaves_block size start indices ≡ (leaves || leaves_block size offset (drop k indices))
  pub sum : wrapped 64 (last_sum (pos offset) (drop k indices)) ≡ wrapped 64 (last_sum (pos start) indices)

pub walked_none : (size start : ℕ) (indices : List Index) (leaves : Bool) → leaves ≡ nat_lt size start → IsWalked size start indices 0 start leaves
walked_none size start indices leaves e = elim (cases_lt size start) as (λ _. IsWalked size start indices 0 start leaves) [
  | inl less ↦ let is : leaves ≡ true = e ∙ lt-ltb size start less in record { inside = λ f. absurd (cc (is, f)); leaves_is = rw is (leaves-at_base size start indices less); sum = refl }
  | inr more ↦ let is : leaves ≡ false = e ∙ le-ltb size start more in record { inside = λ f. more; leaves_is = rw is refl; sum = refl }
]

leaves_more : (size start n m : ℕ) (leaves leaves' : Bool) (indices : List Index) (k : ℕ) (i : Index) → k < length indices → i ≡ get_or indices k i → size < 2 ^ 64
    → leaves' ≡ (leaves || is_outside size (pos n +ℤ scaled i)) → m ≡ wrapped 64 (pos n +ℤ scaled i) → (leaves ≡ false → n ≤ size)
    → leaves_block size start indices ≡ (leaves || leaves_block size n (drop k indices))
    → (leaves' ≡ false → m ≤ size) × (leaves_block size start indices ≡ (leaves' || leaves_block size m (drop (k + 1) indices)))
leaves_more size start n m true leaves' indices k i within is low next sum in' before = (λ f. absurd (cc (next, f)), before ∙ sym (ap (λ z. z || leaves_block size m (drop (k + 1) indices)) next))
leaves_more size start n m false leaves' indices k i within is low next sum in' before =
    elim (cases_Bool (is_outside size (pos n +ℤ scaled i))) as (λ _. (leaves' ≡ false → m ≤ size) × (leaves_block size start indices ≡ (leaves' || leaves_block size m (drop (k + 1) indices)))) [
      | inl out ↦
          let left : leaves' ≡ true = next ∙ out in
          (λ f. absurd (cc (left, f)), before ∙ (leaves-here size n indices k i within is (in' refl) out ∙ sym (ap (λ z. z || leaves_block size m (drop (k + 1) indices)) left)))
      | inr stays ↦
          let left : leaves' ≡ false = next ∙ stays in
          let o = inside size (pos n +ℤ scaled i) stays in
          let o-is : pos n +ℤ scaled i ≡ pos o.offset = o.is in
          let o-most : o.offset ≤ size = o.most in
          let m-is : m ≡ o.offset = sum ∙ (ap (wrapped 64) o-is ∙ wrapped-small 64 o.offset (omega (arith, o-most, low))) in
          (λ f. omega (arith, m-is, o-most), before ∙ (leaves-later size n m indices k i within is (in' refl) (ap pos m-is ∙ sym o-is) ∙ sym (ap (λ z. z || leaves_block size m (drop (k + 1) indices)) left)))
    ]

pub walked_more : (size start n m : ℕ) (leaves leaves' : Bool) (indices : List Index) (k : ℕ) (i : Index) → k < length indices → i ≡ get_or indices k i → size < 2 ^ 64
    → leaves' ≡ (leaves || is_outside size (pos n +ℤ scaled i)) → m ≡ wrapped 64 (pos n +ℤ scaled i)
    → IsWalked size start indices k n leaves → IsWalked size start indices (k + 1) m leaves'
walked_more size start n m leaves leaves' indices k i within is low next sum w =
    let more = leaves_more size start n m leaves leaves' indices k i within is low next sum w.inside w.leaves_is in
    record { inside = more.0; leaves_is = more.1; sum = sym (last_sum-more n m indices k i within is sum) ∙ w.sum }

pub walked_leaves : (size start offset : ℕ) (indices : List Index) (k : ℕ) (leaves : Bool) → length indices ≤ k → IsWalked size start indices k offset leaves → leaves ≡ leaves_block size start indices
walked_leaves size start offset indices k true past w = sym w.leaves_is
walked_leaves size start offset indices k false past w = sym (w.leaves_is ∙ leaves-never size offset indices k past (w.inside refl))

pub walked_sum_is : (size start offset : ℕ) (indices : List Index) (k : ℕ) (leaves : Bool) → length indices ≤ k → offset < 2 ^ 64 → IsWalked size start indices k offset leaves → offset ≡ wrapped 64 (last_sum (pos start) indices)
walked_sum_is size start offset indices k leaves past small w = sym (last_sum-end offset indices k past small) ∙ w.sum
