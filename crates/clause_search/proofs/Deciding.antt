-- Where there is a decision, each variable up to its own is assigned.
use Rattle.clause_search.proofs.Common.{ℕ, ◌≡◌, ◌<◌, inl, inr, List, [], Some, None, take, slice_get, arith, sym, ap, subst, ◌∙◌, cases_eq, slice_get_within, get_or_from_slice_get, Lit, clause_numbered, Entry, Stands, IsAssigned, IsImplied, IsGrounded, IsTrail, IsDecisionAt, AreAssigned}
use Rattle.clause_search.proofs.ByPlace.{grounded-at}
use Rattle.clause_search.proofs.Placing.{stands-at, somewhere-stands}

taken-stands : (trail : List Entry) (n : ℕ) (l : Lit) → Stands (take n trail) l → Stands trail l
taken-stands trail n l s = go (stands-at trail n l s)
  where
    go : ((i : ℕ) × (e : Entry) × (i < n) × (slice_get trail i ≡ Some e) × (e.literal ≡ l)) → Stands trail l
    go (i, e, lt, at, is) = subst (λ (x : Lit). Stands trail x) is (somewhere-stands trail i e at)

pub assigned-none : (trail : List Entry) → AreAssigned trail 0
assigned-none trail variable counts lt = absurd (omega (arith, counts, lt))

pub assigned-decision : (n : ℕ) (clauses : List (List Lit)) (trail : List Entry) (place : ℕ) (e : Entry) → IsTrail n clauses [] trail
    → IsDecisionAt trail place → slice_get trail place ≡ Some e → AreAssigned trail e.literal.variable
assigned-decision n clauses trail place e h decision at variable counts lt = elim (cases_eq variable e.literal.variable) [
  | inl is ↦ (e.literal, somewhere-stands trail place e at, sym is)
  | inr ne ↦ elim grounded.why [
    | inl g ↦ later (g.least variable counts (omega (arith, lt, ne)))
    | inr g ↦ absurd (apart g decision)
  ]
]
  where
    grounded : IsGrounded n clauses (take place trail) e
    grounded = subst (λ (z : Entry). IsGrounded n clauses (take place trail) z) (get_or_from_slice_get trail place e e at)
        (grounded-at n clauses trail place e (slice_get_within trail place e at) h)

    later : IsAssigned (take place trail) variable → IsAssigned trail variable
    later (l, s, v) = (l, taken-stands trail place l s, v)

    apart : IsImplied clauses (take place trail) e → IsDecisionAt trail place → ⊥
    apart g (d, there, none) =
        let same : d ≡ e = cc in
        let zero' : e.reason ≡ 0 = sym (ap (λ (z : Entry). z.reason) same) ∙ none in
        let no : clause_numbered clauses 0 ≡ Some g.clause = subst (λ (k : ℕ). clause_numbered clauses k ≡ Some g.clause) zero' g.reason in
        nothing g.clause no
      where
        nothing : (c : List Lit) → None ≡ Some c → ⊥
        nothing c e = cc
