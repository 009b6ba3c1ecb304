-- Where each clause is settled and each variable assigned, the values are the least model.
use Rattle.clause_search.proofs.Common.{ℕ, ◌≡◌, ◌<◌, ◌≤◌, ◌+◌, ◌-◌, ◌⊎◌, inl, inr, Bool, true, false, not, List, [], ◌∷◌, length, get_or, arith, sym, ap, subst, refl, ◌∙◌, and_from, and_parts, Has, Lit, opposite_of, clause_true, clauses_true, values_of, IsModel, Holds, from_holds, Entry, Stands, IsFalse, IsAssigned, AllFalse, IsSettled, IsConsistent, IsTrail, IsLess, IsLeast}
use Rattle.clause_search.proofs.Leastness.{AllTrue, unassigned}
use Rattle.clause_search.proofs.Analysis.{settled-above, consistent-trail}

among-true : (v : ℕ → Bool) (clauses : List (List Lit)) (c : List Lit) → clauses_true v clauses ≡ true → Has clauses c → clause_true v c ≡ true
among-true v [] c t h = absurd h
among-true v (d ∷ ds) c t (inl e) = subst (λ (x : List Lit). clause_true v x ≡ true) e ((and_parts (clause_true v d) (clauses_true v ds) t).0)
among-true v (d ∷ ds) c t (inr h) = among-true v ds c ((and_parts (clause_true v d) (clauses_true v ds) t).1) h

true-among : (v : ℕ → Bool) (clauses : List (List Lit)) → ((c : List Lit) → Has clauses c → clause_true v c ≡ true) → clauses_true v clauses ≡ true
true-among v [] h = refl
true-among v (c ∷ cs) h = and_from (clause_true v c) (clauses_true v cs) (h c (inl refl)) (true-among v cs (λ d g. h d (inr g)))

-- a literal of an assigned variable is on the trail if it is true, and its opposite if not
sides : (v : ℕ → Bool) (trail : List Entry) → AllTrue v trail → (l : Lit) → IsAssigned trail l.variable → Stands trail l ⊎ Stands trail (opposite_of l)
sides v trail all l (m, s, e) = go m.positive l.positive refl refl
  where
    same : (a b : Lit) → a.variable ≡ b.variable → a.positive ≡ b.positive → a ≡ b
    same a b p q =
        let F : ℕ → Lit = λ x. record { variable = x; positive = a.positive } in
        let G : Bool → Lit = λ x. record { variable = b.variable; positive = x } in
        ap F p ∙ ap G q

    alike : m.positive ≡ l.positive → Stands trail l ⊎ Stands trail (opposite_of l)
    alike p = inl (subst (λ (x : Lit). Stands trail x) (same m l e p) s)

    other : m.positive ≡ not l.positive → Stands trail l ⊎ Stands trail (opposite_of l)
    other p = inr (subst (λ (x : Lit). Stands trail x) (same m (opposite_of l) e p) s)

    go : (p q : Bool) → m.positive ≡ p → l.positive ≡ q → Stands trail l ⊎ Stands trail (opposite_of l)
    go true true a b = alike (a ∙ sym b)
    go false false a b = alike (a ∙ sym b)
    go true false a b = other (a ∙ sym (ap not b))
    go false true a b = other (a ∙ sym (ap not b))

-- a settled clause of assigned variables is true
settled-true : (v : ℕ → Bool) (clauses : List (List Lit)) (trail : List Entry) → IsConsistent trail → AllTrue v trail → IsSettled clauses trail
    → (c : List Lit) → Has clauses c → ((l : Lit) → Has c l → IsAssigned trail l.variable) → clause_true v c ≡ true
settled-true v clauses trail con all settled c among assigned = elim (some c (λ l h. h)) [
  | inl h ↦ from_holds v c h
  | inr h ↦ absurd (settled-above clauses trail c con settled among h)
]
  where
    some : (ls : List Lit) → ((l : Lit) → Has ls l → Has c l) → Holds v ls ⊎ AllFalse trail ls
    some [] part = inr (λ l h. absurd h)
    some (l ∷ ls) part = elim (sides v trail all l (assigned l (part l (inl refl)))) [
      | inl s ↦ inl (inl (all l s))
      | inr s ↦ elim (some ls (λ m h. part m (inr h))) [
        | inl h ↦ inl (inr h)
        | inr h ↦ inr (λ m g. elim g [ inl e ↦ subst (λ (x : Lit). IsFalse trail x) e s | inr k ↦ h m k ])
      ]
    ]

-- the end of a search that finds a model
pub least-model : (variables front : ℕ) (clauses : List (List Lit)) (standing : List (List Lit)) (trail : List Entry) (places : List Bool)
    → front ≤ variables
    → ((c : List Lit) → Has clauses c → Has standing c)
    → ((v : ℕ → Bool) → clauses_true v clauses ≡ true → clauses_true v standing ≡ true)
    → ((c : List Lit) → Has clauses c → (l : Lit) → Has c l → (0 < l.variable) × (l.variable ≤ variables))
    → IsTrail variables standing [] trail → IsSettled standing trail
    → ((variable : ℕ) → 0 < variable → variable ≤ variables → IsAssigned trail variable)
    → length places ≡ variables → AllTrue (values_of places) trail
    → IsLeast variables front clauses places
least-model variables front clauses standing trail places in_range part implied ranged h settled assigned len all = record {
  model = (
    len,
    true-among (values_of places) clauses (λ c among. settled-true (values_of places) standing trail con all settled c (part c among)
        (λ l has. assigned l.variable (ranged c among l has).0 (ranged c among l has).1)),
  );
  least = least;
}
  where
    con : IsConsistent trail
    con = consistent-trail variables standing [] trail h (λ l a b. absurd a)

    least : (others : List Bool) → IsModel variables clauses others → IsLess front others places → ⊥
    least others model less =
        unassigned variables standing (values_of others) (values_of places) (less.place + 1)
        (λ c among. among-true (values_of others) standing c (implied (values_of others) model.1) among)
        (at others false less.zero) (at places true less.one) before (omega arith) trail h all
        (assigned (less.place + 1) (omega arith) (omega (arith, less.within, in_range)))
      where
        back : (less.place + 1) - 1 ≡ less.place
        back = omega arith

        at : (xs : List Bool) (b : Bool) → get_or xs less.place false ≡ b → get_or xs ((less.place + 1) - 1) false ≡ b
        at xs b e = ap (λ k. get_or xs k false) back ∙ e

        before : (j : ℕ) → 0 < j → j < less.place + 1 → get_or others (j - 1) false ≡ get_or places (j - 1) false
        before j counts lt = less.before (j - 1) (omega arith)
