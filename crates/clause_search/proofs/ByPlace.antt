-- A trail by its positions.
use Rattle.clause_search.proofs.Common.{append_assoc, ℕ, zero, suc, ◌≡◌, ◌<◌, ◌≤◌, ◌+◌, ◌++◌, inl, inr, List, [], ◌∷◌, Option, Some, None, IfSome, ◌⊎◌, take, drop, get_or, slice_get, length, arith, sym, ap, subst, refl, ◌∙◌, take_more, take-append-drop, slice_get_within, get_or_from_slice_get, drop-cons, Lit, opposite_of, Entry, IsLastBelow, Stands, FalseBut, IsGrounded, IsTrail, IsUnready}
use Rattle.clause_search.proofs.Analysis.{trail-at, trail-front}

pub split-at : (trail : List Entry) (i : ℕ) (d : Entry) → i < length trail → take i trail ++ get_or trail i d ∷ drop (suc i) trail ≡ trail
split-at trail i d lt = sym (ap (λ zs. take i trail ++ zs) (drop-cons trail i d lt)) ∙ take-append-drop i trail

-- an entry is grounded in those before its position
pub grounded-at : (n : ℕ) (clauses : List (List Lit)) (trail : List Entry) (i : ℕ) (d : Entry) → i < length trail → IsTrail n clauses [] trail
    → IsGrounded n clauses (take i trail) (get_or trail i d)
grounded-at n clauses trail i d lt h =
    trail-at n clauses [] (take i trail) (get_or trail i d) (drop (suc i) trail)
    (subst (λ (x : List Entry). IsTrail n clauses [] x) (sym (split-at trail i d lt)) h)

pub trail-take : (n : ℕ) (clauses : List (List Lit)) (trail : List Entry) (i : ℕ) → IsTrail n clauses [] trail → IsTrail n clauses [] (take i trail)
trail-take n clauses trail i h =
    trail-front n clauses [] (take i trail) (drop i trail) (subst (λ (x : List Entry). IsTrail n clauses [] x) (sym (take-append-drop i trail)) h)

-- what is true early is true later
pub stands-take : (trail : List Entry) (i j : ℕ) (l : Lit) → i ≤ j → Stands (take i trail) l → Stands (take j trail) l
stands-take [] zero j l h s = absurd s
stands-take [] (suc i) j l h s = absurd s
stands-take (e ∷ es) zero j l h s = absurd s
stands-take (e ∷ es) (suc i) zero l h s = absurd (omega arith)
stands-take (e ∷ es) (suc i) (suc j) l h (inl a) = inl a
stands-take (e ∷ es) (suc i) (suc j) l h (inr a) = inr (stands-take es i j l (omega arith) a)

pub unready-push : (c : List Lit) (k : Lit) (before es : List Entry) (e : Entry) → IsUnready c k before es → (e.reason ≡ 0 → FalseBut (before ++ es) c k → ⊥)
    → IsUnready c k before (es ++ e ∷ [])
unready-push c k before [] e h g = ((λ r f. g r (subst (λ (x : List Entry). FalseBut x c k) (sym (nil before)) f)), tt)
  where
    nil : (xs : List Entry) → xs ++ [] ≡ xs
    nil [] = refl
    nil (x ∷ xs) = ap (λ zs. x ∷ zs) (nil xs)
unready-push c k before (d ∷ es) e h g =
    (h.0, unready-push c k (before ++ d ∷ []) es e h.1 (λ r f. g r (subst (λ (x : List Entry). FalseBut x c k) (append_assoc before (d ∷ []) es) f)))

pub unready-more : (c : List Lit) (k : Lit) (trail : List Entry) (i : ℕ) (d : Entry) → slice_get trail i ≡ Some d → IsUnready c k [] (take i trail)
    → (d.reason ≡ 0 → FalseBut (take i trail) c k → ⊥) → IsUnready c k [] (take (i + 1) trail)
unready-more c k trail i d it h g =
    let more = take_more trail i d (slice_get_within trail i d it) ∙ ap (λ (z : Entry). take i trail ++ z ∷ []) (get_or_from_slice_get trail i d d it) in
    subst (λ (x : List Entry). IsUnready c k [] x) (sym more) (unready-push c k [] (take i trail) d h g)

-- where the clause is unit at none of the first decisions
pub unready-below : (c : List Lit) (k : Lit) (trail : List Entry) (n : ℕ) → n ≤ length trail
    → ((i : ℕ) (e : Entry) → i < n → slice_get trail i ≡ Some e → e.reason ≡ 0 → FalseBut (take i trail) c k → ⊥) → IsUnready c k [] (take n trail)
unready-below c k trail zero h g = start trail
  where
    start : (es : List Entry) → IsUnready c k [] (take 0 es)
    start [] = tt
    start (e ∷ es) = tt
unready-below c k trail (suc n) h g =
    go (get_inside trail n (omega arith)) (unready-below c k trail n (omega arith) (λ i e lt at. g i e (omega arith) at))
  where
    get_inside : (xs : List Entry) (i : ℕ) → i < length xs → (x : Entry) × (slice_get xs i ≡ Some x)
    get_inside [] i lt = absurd (omega arith)
    get_inside (x ∷ xs) zero lt = (x, refl)
    get_inside (x ∷ xs) (suc i) lt = get_inside xs i (omega arith)

    go : ((x : Entry) × (slice_get trail n ≡ Some x)) → IsUnready c k [] (take n trail) → IsUnready c k [] (take (suc n) trail)
    go (x, at) before =
        let e : n + 1 ≡ suc n = omega arith in
        subst (λ (m : ℕ). IsUnready c k [] (take m trail)) e (unready-more c k trail n x at before (λ none but. g n x (omega arith) at none but))

-- what is false early is false later
pub but-later : (c : List Lit) (k : Lit) (trail : List Entry) (i j : ℕ) → i ≤ j → FalseBut (take i trail) c k → FalseBut (take j trail) c k
but-later c k trail i j h but l has = elim (but l has) [ inl e ↦ inl e | inr s ↦ inr (stands-take trail i j (opposite_of l) h s) ]

-- at no decision up to the last one before a position, if not at that
pub unready-at : (c : List Lit) (k : Lit) (trail : List Entry) (place : ℕ) (last : Option ℕ) → place ≤ length trail → IsLastBelow trail last place
    → IfSome last (λ p. FalseBut (take p trail) c k → ⊥) → IsUnready c k [] (take place trail)
unready-at c k trail place None within last other = unready-below c k trail place within (λ i e lt at none but. last i e (omega arith) lt at none)
unready-at c k trail place (Some p) within last other = unready-below c k trail place within (λ i e lt at none but. elim (cases_le i p) [
  | inl le ↦ other (but-later c k trail i p le but)
  | inr more ↦ last.2 i e (omega (arith, more)) lt at none
])
  where
    cases_le : (a b : ℕ) → (a ≤ b) ⊎ (b < a)
    cases_le zero b = inl (omega arith)
    cases_le (suc a) zero = inr (omega arith)
    cases_le (suc a) (suc b) = elim (cases_le a b) [ inl h ↦ inl (omega (arith, h)) | inr h ↦ inr (omega (arith, h)) ]
