-- A clause that is looked through in two parts.
use Rattle.watch_solver.proofs.Common.{ℕ, ◌⊎◌, ◌++◌, inl, inr, List, [], ◌∷◌, Option, Some, None, drop, take, sym, subst, take-append-drop, Has, Lit, Entry, FalseBut, IsFree}

has-left : (xs ys : List Lit) (l : Lit) → Has xs l → Has (xs ++ ys) l
has-left [] ys l h = absurd h
has-left (x ∷ xs) ys l (inl e) = inl e
has-left (x ∷ xs) ys l (inr h) = inr (has-left xs ys l h)

has-right : (xs ys : List Lit) (l : Lit) → Has ys l → Has (xs ++ ys) l
has-right [] ys l h = h
has-right (x ∷ xs) ys l h = inr (has-right xs ys l h)

has-either : (xs ys : List Lit) (l : Lit) → Has (xs ++ ys) l → Has xs l ⊎ Has ys l
has-either [] ys l h = inr h
has-either (x ∷ xs) ys l (inl e) = inl (inl e)
has-either (x ∷ xs) ys l (inr h) = elim (has-either xs ys l h) [ inl g ↦ inl (inr g) | inr g ↦ inr g ]

module _ (trail : List Entry) (c : List Lit) (other : Lit) (n : ℕ) where
  -- one of the second part
  pub free-rest : (l : Lit) → IsFree trail (drop n c) other (Some l) → IsFree trail c other (Some l)
  free-rest l free = (subst (λ (ls : List Lit). Has ls l) (take-append-drop n c) (has-right (take n c) (drop n c) l free.0), free.1, free.2)

  -- and where there is none, what there is of the first
  pub free-front : (r : Option Lit) → FalseBut trail (drop n c) other → IsFree trail (take n c) other r → IsFree trail c other r
  free-front (Some l) rest free = (subst (λ (ls : List Lit). Has ls l) (take-append-drop n c) (has-left (take n c) (drop n c) l free.0), free.1, free.2)
  free-front None rest front = λ l h. elim (has-either (take n c) (drop n c) l (subst (λ (ls : List Lit). Has ls l) (sym (take-append-drop n c)) h)) [
    | inl g ↦ front l g
    | inr g ↦ rest l g
  ]
