-- A trail isn't longer than there are variables.
use Rattle.clause_search.proofs.Common.{ℕ, ◌≡◌, ◌<◌, ◌≤◌, ◌+◌, ◌++◌, inl, inr, true, false, List, [], ◌∷◌, eqb, length, map, arith, sym, ap, refl, ◌∙◌, list_any, IsDistinct, AllByRecursion, eqb-true, or_cases, false≢true, ne_eqb, length-map, Lit, Entry, Stands, IsUnassigned, IsAssigned, IsTrail}
use Rattle.std.proofs.lemmas.Map.Steps.{length-le_from_distinct_below}
use Rattle.clause_search.proofs.Leastness.{stands-left, stands-right}

abbrev pub variables_of : List Entry → List ℕ
variables_of trail = map (λ e. e.literal.variable) trail

assigned-from : (es : List Entry) (q : ℕ) → list_any (eqb q) (variables_of es) ≡ true → IsAssigned es q
assigned-from [] q h = absurd (false≢true h)
assigned-from (e ∷ es) q h = elim (or_cases (eqb q e.literal.variable) (list_any (eqb q) (variables_of es)) h) [
  | inl a ↦ (e.literal, inl refl, sym (eqb-true q e.literal.variable a))
  | inr a ↦ later (assigned-from es q a)
]
  where
    later : IsAssigned es q → IsAssigned (e ∷ es) q
    later (l, s, v) = (l, inr s, v)

-- what comes later has other variables, and these are in range
later-fresh : (n : ℕ) (clauses : List (List Lit)) (before es : List Entry) (l : Lit) → IsTrail n clauses before es → Stands es l
    → IsUnassigned before l.variable × (l.variable ≤ n)
later-fresh n clauses before [] l h s = absurd s
later-fresh n clauses before (e ∷ es) l h (inl k) =
    let v : e.literal.variable ≡ l.variable = ap (λ (x : Lit). x.variable) k in
    (λ m t w. h.0.fresh m t (w ∙ sym v), omega (arith, h.0.within, v))
later-fresh n clauses before (e ∷ es) l h (inr s) =
    let more = later-fresh n clauses (before ++ e ∷ []) es l h.1 s in
    (λ m t. more.0 m (stands-left before (e ∷ []) m t), more.1)

apart_from : (q : ℕ) (es : List Entry) → (IsAssigned es q → ⊥) → AllByRecursion (λ y. eqb q y ≡ false) (variables_of es)
apart_from q [] h = tt
apart_from q (e ∷ es) h =
    (ne_eqb q e.literal.variable (λ v. h (e.literal, inl refl, sym v)), apart_from q es (λ a. h (later a)))
  where
    later : IsAssigned es q → IsAssigned (e ∷ es) q
    later (l, s, v) = (l, inr s, v)

distinct-trail : (n : ℕ) (clauses : List (List Lit)) (before es : List Entry) → IsTrail n clauses before es → IsDistinct eqb (variables_of es)
unfolding IsDistinct
distinct-trail n clauses before [] h = tt
distinct-trail n clauses before (e ∷ es) h =
    (apart_from e.literal.variable es apart, distinct-trail n clauses (before ++ e ∷ []) es h.1)
  where
    apart : IsAssigned es e.literal.variable → ⊥
    apart (l, s, v) = (later-fresh n clauses (before ++ e ∷ []) es l h.1 s).0 e.literal (stands-right before (e ∷ []) e.literal (inl refl)) (sym v)

pub length-trail : (n : ℕ) (clauses : List (List Lit)) (trail : List Entry) → IsTrail n clauses [] trail → length trail < n + 2
length-trail n clauses trail h =
    let some = length-le_from_distinct_below (variables_of trail) (n + 1) (distinct-trail n clauses [] trail h) (λ q t. within q (assigned-from trail q t)) in
    omega (arith, some, length-map trail (λ (e : Entry). e.literal.variable))
  where
    within : (q : ℕ) → IsAssigned trail q → q < n + 1
    within q (l, s, v) = omega (arith, (later-fresh n clauses [] trail l h s).1, v)

-- a literal on the trail has a variable in range
pub in_range : (n : ℕ) (clauses : List (List Lit)) (before es : List Entry) (l : Lit) → IsTrail n clauses before es → Stands es l → (0 < l.variable) × (l.variable ≤ n)
in_range n clauses before [] l h s = absurd s
in_range n clauses before (e ∷ es) l h (inl k) =
    let v : e.literal.variable ≡ l.variable = ap (λ (x : Lit). x.variable) k in
    (omega (arith, h.0.positive, v), omega (arith, h.0.within, v))
in_range n clauses before (e ∷ es) l h (inr s) = in_range n clauses (before ++ e ∷ []) es l h.1 s
