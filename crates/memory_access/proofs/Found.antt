-- The first item of a list that passes a test.
use Rattle.memory_access.proofs.Common.{◌≡◌, ℕ, suc, ◌+◌, ◌<◌, Bool, true, false, List, [], ◌∷◌, length, Some, None, refl, sym, ap, subst, ◌∙◌, arith, slice_get, slice_set, find, position_from, first_changed, same_Some}

-- ---- what is at its index

pub record FirstAt {X : Type 0} (t : X → Bool) (xs : List X) (j : ℕ) : Type 0 where
  pub within : j < length xs
  pub found : (x : X) → slice_get xs j ≡ Some x → find t xs ≡ Some x
  pub changed : (f : X → X) (x : X) → slice_get xs j ≡ Some x → first_changed t f xs ≡ slice_set xs j (f x)

record Behind {X : Type 0} (t : X → Bool) (xs : List X) (k i : ℕ) : Type 0 where
  pub place : ℕ
  pub is : i ≡ k + place
  pub first : FirstAt t xs place

none_isn't : {X : Type 0} (x : X) {P : Type 0} → None ≡ Some x → P
none_isn't x e = absurd (cc)

first-here : {X : Type 0} (t : X → Bool) (x : X) (xs : List X) → t x ≡ true → FirstAt t (x ∷ xs) 0
unfolding first_changed
first-here t x xs yes' = record {
  within = omega arith;
  found = λ y e. rw yes' e;
  changed = λ f y e. rw yes' (ap (λ z. f z ∷ xs) (same_Some x y e));
}

first-later : {X : Type 0} (t : X → Bool) (x : X) (xs : List X) (j : ℕ) → t x ≡ false → FirstAt t xs j → FirstAt t (x ∷ xs) (suc j)
unfolding first_changed
first-later t x xs j no' later = record {
  within = let within = later.within in omega arith;
  found = λ y e. rw no' (later.found y e);
  changed = λ f y e. rw no' (ap (λ zs. x ∷ zs) (later.changed f y e));
}

behind-by : {X : Type 0} (t : X → Bool) (x : X) (xs : List X) (k i : ℕ) → ((i : ℕ) → position_from t (k + 1) xs ≡ Some i → Behind t xs (k + 1) i) → (b : Bool) → t x ≡ b → position_from t k (x ∷ xs) ≡ Some i → Behind t (x ∷ xs) k i
behind-by t x xs k i rest true e is = let is' = rw e at is in record { place = 0; is = sym (same_Some k i is') ∙ omega arith; first = first-here t x xs e }
behind-by t x xs k i rest false e is =
    let later = rest i (rw e at is) in
    record { place = suc later.place; is = let at = later.is in omega (arith, at); first = first-later t x xs later.place e later.first }

behind : {X : Type 0} (t : X → Bool) (xs : List X) (k i : ℕ) → position_from t k xs ≡ Some i → Behind t xs k i
behind t [] k i e = none_isn't i e
behind t (x ∷ xs) k i e = behind-by t x xs k i (λ j. behind t xs (k + 1) j) (t x) refl e

pub first_at : {X : Type 0} (t : X → Bool) (xs : List X) (i : ℕ) → position_from t 0 xs ≡ Some i → FirstAt t xs i
first_at {X} t xs i e = let b = behind t xs 0 i e in let same : b.place ≡ i = omega (arith, b.is) in subst (FirstAt t xs) same b.first

find-none-by : {X : Type 0} (t : X → Bool) (x : X) (xs : List X) (k : ℕ) → (position_from t (k + 1) xs ≡ None → find t xs ≡ None) → (b : Bool) → t x ≡ b → position_from t k (x ∷ xs) ≡ None → find t (x ∷ xs) ≡ None
find-none-by t x xs k rest true e is = none_isn't k (sym (rw e at is))
find-none-by t x xs k rest false e is = rw e (rest (rw e at is))

pub find-none : {X : Type 0} (t : X → Bool) (xs : List X) (k : ℕ) → position_from t k xs ≡ None → find t xs ≡ None
find-none t [] k e = refl
find-none t (x ∷ xs) k e = find-none-by t x xs k (find-none t xs (k + 1)) (t x) refl e
