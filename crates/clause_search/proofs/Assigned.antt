-- Which variables are assigned, and which decision is the last.
use Rattle.clause_search.proofs.Common.{ℕ, ◌≡◌, ◌<◌, ◌≤◌, ◌+◌, ◌-◌, inl, inr, Bool, true, false, not, List, [], Option, Some, None, get_or, length, arith, sym, ap, subst, refl, ◌∙◌, cases_eq, cases_Bool, slice_get-get_or, get_or_from_slice_get, Lit, lit_true, opposite_of, values_of, Entry, Stands, IsAssigned, IsConsistent, IsTrail, AreAssigned, AreImplied, IsLastBelow, TellsAll}
use Rattle.clause_search.proofs.Leastness.{AllTrue}
use Rattle.clause_search.proofs.Counting.{in_range}

pub assigned-more : (trail : List Entry) (n : ℕ) → AreAssigned trail n → IsAssigned trail (n + 1) → AreAssigned trail (n + 1)
assigned-more trail n h here variable counts lt = elim (cases_eq variable (n + 1)) [
  | inl e ↦ subst (λ (k : ℕ). IsAssigned trail k) (sym e) here
  | inr e ↦ h variable counts (omega (arith, e))
]

implied-more : (trail : List Entry) (from to : ℕ) (d : Entry) → AreImplied trail from to → ((get_or trail to d).reason ≡ 0 → ⊥) → AreImplied trail from (to + 1)
implied-more trail from to d h other i e low high at none = elim (cases_eq i to) [
  | inr ne ↦ h i e low (omega (arith, ne)) at none
  | inl is ↦
      let same : get_or trail i d ≡ e = get_or_from_slice_get trail i e d at in
      let here : get_or trail to d ≡ e = subst (λ (k : ℕ). get_or trail k d ≡ e) is same in
      other (ap (λ (x : Entry). x.reason) here ∙ none)
]

pub last-decision : (trail : List Entry) (place : ℕ) (d : Entry) → place < length trail → (get_or trail place d).reason ≡ 0 → IsLastBelow trail (Some place) (place + 1)
last-decision trail place d lt none =
    (omega arith, (get_or trail place d, slice_get-get_or trail place d lt, none), λ i e low high at z. omega arith)

pub last-implied : (trail : List Entry) (last : Option ℕ) (place : ℕ) (d : Entry) → ((get_or trail place d).reason ≡ 0 → ⊥) → IsLastBelow trail last place
    → IsLastBelow trail last (place + 1)
last-implied trail None place d other h = implied-more trail 0 place d h other
last-implied trail (Some p) place d other h = (omega (arith, h.0), h.1, implied-more trail (p + 1) place d h.2 other)

-- the values make each literal on the trail true
pub tells-true : (n : ℕ) (clauses : List (List Lit)) (trail : List Entry) (all : List Bool) → IsTrail n clauses [] trail → IsConsistent trail
    → TellsAll n trail all → AllTrue (values_of all) trail
tells-true n clauses trail all h con tells l s = go l.positive refl
  where
    range : (0 < l.variable) × (l.variable ≤ n)
    range = in_range n clauses [] trail l h s

    back : (l.variable - 1) + 1 ≡ l.variable
    back = omega (arith, range.0)

    same : (a b : Lit) → a.variable ≡ b.variable → a.positive ≡ b.positive → a ≡ b
    same a b p q =
        let F : ℕ → Lit = λ x. record { variable = x; positive = a.positive } in
        let G : Bool → Lit = λ x. record { variable = b.variable; positive = x } in
        ap F p ∙ ap G q

    go : (p : Bool) → l.positive ≡ p → lit_true (values_of all) l ≡ true
    go true e =
        let at : Stands trail (record { variable = (l.variable - 1) + 1; positive = true }) =
        subst (λ (x : Lit). Stands trail x) (same l (record { variable = (l.variable - 1) + 1; positive = true }) (sym back) e) s in
        rw e ((tells.each (l.variable - 1) (omega (arith, range))).1 at)
    go false e = elim (cases_Bool (get_or all (l.variable - 1) false)) [
      | inr f ↦ rw (e, f) refl
      | inl f ↦
          let at = (tells.each (l.variable - 1) (omega (arith, range))).0 f in
          let other : Stands trail (opposite_of l) = subst (λ (x : Lit). Stands trail x)
          (same (record { variable = (l.variable - 1) + 1; positive = true }) (opposite_of l) back (sym (ap not e))) at in
          absurd (con l s other)
    ]
