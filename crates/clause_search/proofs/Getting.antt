-- Which item is at an index.
use Rattle.clause_search.proofs.Common.{ℕ, zero, suc, ◌≡◌, ◌<◌, ◌+◌, ◌++◌, List, [], ◌∷◌, Some, take, slice_get, length, arith, refl}

module _ {X : Type 0} where
  -- in a list with one more item
  pub get-early : (xs : List X) (y x : X) (i : ℕ) → i < length xs → slice_get (xs ++ y ∷ []) i ≡ Some x → slice_get xs i ≡ Some x
  get-early [] y x i lt e = absurd (omega arith)
  get-early (z ∷ zs) y x zero lt e = e
  get-early (z ∷ zs) y x (suc i) lt e = get-early zs y x i (omega arith) e

  pub get-late : (xs : List X) (y x : X) (i : ℕ) → i ≡ length xs → slice_get (xs ++ y ∷ []) i ≡ Some x → y ≡ x
  get-late [] y x zero e h = cc
  get-late [] y x (suc i) e h = absurd (omega arith)
  get-late (z ∷ zs) y x zero e h = absurd (omega arith)
  get-late (z ∷ zs) y x (suc i) e h = get-late zs y x i (omega arith) h

  pub get-last : (xs : List X) (y : X) → slice_get (xs ++ y ∷ []) (length xs) ≡ Some y
  get-last [] y = refl
  get-last (z ∷ zs) y = get-last zs y

  pub get-kept : (xs : List X) (y x : X) (i : ℕ) → slice_get xs i ≡ Some x → slice_get (xs ++ y ∷ []) i ≡ Some x
  get-kept [] y x i e = cc
  get-kept (z ∷ zs) y x zero e = e
  get-kept (z ∷ zs) y x (suc i) e = get-kept zs y x i e

  -- in the first n items
  pub get-taken : (xs : List X) (n i : ℕ) (x : X) → slice_get (take n xs) i ≡ Some x → (i < n) × (slice_get xs i ≡ Some x)
  get-taken [] zero i x e = cc
  get-taken [] (suc n) i x e = cc
  get-taken (z ∷ zs) zero i x e = cc
  get-taken (z ∷ zs) (suc n) zero x e = (omega arith, e)
  get-taken (z ∷ zs) (suc n) (suc i) x e = let more = get-taken zs n i x e in (omega (arith, more.0), more.1)

  pub get-take : (xs : List X) (n i : ℕ) (x : X) → i < n → slice_get xs i ≡ Some x → slice_get (take n xs) i ≡ Some x
  get-take [] n i x lt e = cc
  get-take (z ∷ zs) zero i x lt e = absurd (omega arith)
  get-take (z ∷ zs) (suc n) zero x lt e = e
  get-take (z ∷ zs) (suc n) (suc i) x lt e = get-take zs n i x (omega arith) e

  pub length-push : (xs : List X) (y : X) → length (xs ++ y ∷ []) ≡ length xs + 1
  length-push [] y = refl
  length-push (z ∷ zs) y = omega (arith, length-push zs y)
