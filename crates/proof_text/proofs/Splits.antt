-- Texts that are parted at the first byte of a kind.
use Rattle.proof_text.proofs.Common.{ℕ, zero, suc, ◌≡◌, ◌<◌, ◌⊎◌, List, [], ◌∷◌, ◌++◌, length, slice_index_or, length-append, Contains, subst, sym, ap, ◌∙◌, refl, inl, inr, arith, Contains-append_right, Parts}

-- a list contains its first item
pub here : {X : Type 0} (x : X) (xs : List X) → Contains (x ∷ xs) x
here x xs = (0, omega arith, refl)

further : {X : Type 0} (x y : X) (xs : List X) → Contains xs y → Contains (x ∷ xs) y
further x y xs h = Contains-append_right (x ∷ []) xs y h

by_place : {X : Type 0} (x y : X) (xs : List X) (k : ℕ) → k < length (x ∷ xs) → slice_index_or (x ∷ xs) k y ≡ y → (x ≡ y) ⊎ Contains xs y
by_place x y xs zero l e = inl e
by_place x y xs (suc k) l e = inr (k, omega arith, e)

pub first_or_later : {X : Type 0} (x y : X) (xs : List X) → Contains (x ∷ xs) y → (x ≡ y) ⊎ Contains xs y
first_or_later x y xs h = by_place x y xs h.0 h.1 h.2

-- what is before the first such byte is determined, and what is after it
pub parted : (c : ℕ) (a b x y : List ℕ) → (Contains a c → ⊥) → (Contains b c → ⊥) → a ++ c ∷ x ≡ b ++ c ∷ y → (a ≡ b) × (x ≡ y)
parted c [] [] x y fa fb e = (refl, cc)
parted c [] (q ∷ b) x y fa fb e = absurd (fb (let same : q ≡ c = cc in subst (λ z. Contains (q ∷ b) z) same (here q b)))
parted c (p ∷ a) [] x y fa fb e = absurd (fa (let same : p ≡ c = cc in subst (λ z. Contains (p ∷ a) z) same (here p a)))
parted c (p ∷ a) (q ∷ b) x y fa fb e =
    let tails : a ++ c ∷ x ≡ b ++ c ∷ y = cc in
    let rest = parted c a b x y (λ h. fa (further p c a h)) (λ h. fb (further q c b h)) tails in
    let heads : p ≡ q = cc in
    let same = rest.0 in
    (cc, rest.1)

-- a text that is parted so contains the byte
pub contains_it : (c : ℕ) (t a x : List ℕ) → t ≡ a ++ c ∷ x → Contains t c
contains_it c t a x e = subst (λ s. Contains s c) (sym e) (Contains-append_right a (c ∷ x) c (here c x))

-- of two ways to part a text the one is the other
pub same_parts : (c : ℕ) (t a x b y : List ℕ) → Parts c t a x → t ≡ b ++ c ∷ y → (Contains b c → ⊥) → (a ≡ b) × (x ≡ y)
same_parts c t a x b y p e f = parted c a b x y p.free f (sym p.is ∙ e)

pub shorter : (c : ℕ) (t a x : List ℕ) → Parts c t a x → length x < length t
shorter c t a x p = let e = ap length p.is in omega (arith, simp length-append at e)
