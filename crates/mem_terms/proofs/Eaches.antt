-- What holds of each item of a list.
use Rattle.std.proofs.Common.{ℕ, zero, suc, ◌≡◌, ◌<◌, ◌+◌, List, [], ◌∷◌, ◌++◌, length, map, take, get_or, slice_set, refl, ap, sym, subst, ◌∙◌, arith, add-one}
use Rattle.mem_terms.specs.Values.{Each}

pub each-at : {A : Type 0} (P : A → Type 0) (xs : List A) (i : ℕ) (x : A) → Each P xs → i < length xs → x ≡ get_or xs i x → P x
each-at P [] i x h lt e = absurd (omega arith)
each-at P (y ∷ ys) zero x h lt e = subst P (sym e) h.0
each-at P (y ∷ ys) (suc i) x h lt e = each-at P ys i x h.1 (omega arith) e

pub each-weaker : {A : Type 0} (P Q : A → Type 0) (xs : List A) → ((x : A) → P x → Q x) → Each P xs → Each Q xs
each-weaker P Q [] w h = tt
each-weaker P Q (x ∷ xs) w h = (w x h.0, each-weaker P Q xs w h.1)

pub each-set : {A : Type 0} (P : A → Type 0) (xs : List A) (i : ℕ) (x : A) → Each P xs → P x → Each P (slice_set xs i x)
each-set P [] i x h p = tt
each-set P (y ∷ ys) zero x h p = (p, h.1)
each-set P (y ∷ ys) (suc i) x h p = (h.0, each-set P ys i x h.1 p)

pub each-push : {A : Type 0} (P : A → Type 0) (xs : List A) (x : A) → Each P xs → P x → Each P (xs ++ x ∷ [])
each-push P [] x h p = (p, tt)
each-push P (y ∷ ys) x h p = (h.0, each-push P ys x h.1 p)

pub map-same : {A B : Type 0} (P : A → Type 0) (f g : A → B) (xs : List A) → ((x : A) → P x → f x ≡ g x) → Each P xs → map f xs ≡ map g xs
map-same P f g [] e h = refl
map-same P f g (x ∷ xs) e h = rw (e x h.0, map-same P f g xs e h.1) refl

pub map-length : {A B : Type 0} (f : A → B) (xs : List A) → length (map f xs) ≡ length xs
map-length f [] = refl
map-length f (x ∷ xs) = ap suc (map-length f xs)

pub at-any : {A : Type 0} (xs : List A) (i : ℕ) (d e : A) → i < length xs → get_or xs i d ≡ get_or xs i e
at-any [] i d e lt = absurd (omega arith)
at-any (x ∷ xs) zero d e lt = refl
at-any (x ∷ xs) (suc i) d e lt = at-any xs i d e (omega arith)

pub map-set : {A B : Type 0} (f : A → B) (xs : List A) (i : ℕ) (x : A) → map f (slice_set xs i x) ≡ slice_set (map f xs) i (f x)
map-set f [] i x = refl
map-set f (y ∷ ys) zero x = refl
map-set f (y ∷ ys) (suc i) x = ap (λ zs. f y ∷ zs) (map-set f ys i x)

pub map-push : {A B : Type 0} (f : A → B) (xs : List A) (x : A) → map f (xs ++ x ∷ []) ≡ map f xs ++ f x ∷ []
map-push f [] x = refl
map-push f (y ∷ ys) x = ap (λ zs. f y ∷ zs) (map-push f ys x)

pub map-at : {A B : Type 0} (f : A → B) (xs : List A) (i : ℕ) (x : A) (d : B) → i < length xs → x ≡ get_or xs i x → get_or (map f xs) i d ≡ f x
map-at f [] i x d lt e = absurd (omega arith)
map-at f (y ∷ ys) zero x d lt e = ap f (sym e)
map-at f (y ∷ ys) (suc i) x d lt e = map-at f ys i x d (omega arith) e

-- one more of the first items
pub take-push : {A : Type 0} (xs : List A) (i : ℕ) (x : A) → i < length xs → x ≡ get_or xs i x → take (i + 1) xs ≡ take i xs ++ x ∷ []
take-push [] i x lt e = absurd (omega arith)
take-push (y ∷ ys) zero x lt e = ap (λ z. z ∷ []) (sym e)
take-push (y ∷ ys) (suc i) x lt e = rw add-one (ap (λ zs. y ∷ zs) (rw add-one at (take-push ys i x (omega arith) e)))

pub map-take : {A B : Type 0} (f : A → B) (xs : List A) (i : ℕ) (x : A) → i < length xs → x ≡ get_or xs i x → map f (take (i + 1) xs) ≡ map f (take i xs) ++ f x ∷ []
map-take f xs i x lt e = ap (map f) (take-push xs i x lt e) ∙ map-push f (take i xs) x
