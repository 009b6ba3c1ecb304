-- Terms of which no two are found equal occur once each.
use Rattle.std.proofs.Common.{◌≡◌, ◌<◌, inl, inr, ℕ, zero, suc, List, [], ◌∷◌, Some, slice_get, get_or, length, sym, subst, ◌∙◌, arith, true}
use Rattle.std.specs.List.{IsDistinct}
use Rattle.std.proofs.lemmas.Bool.{cases_eq, cases_lt, true≢false}
use Rattle.std.proofs.lemmas.Map.Keys.{apart_from_distinct}
use Rattle.bv_terms.specs.declared.term.Term.{Term}
use Rattle.bv_terms.specs.declared.term.Term.TheVariants as term
use Rattle.bv_terms.specs.Trees.{AreDistinct}
use Rattle.bv_terms.specs.contracts.term.TermPartialEq.TheImpl.{eq-value}
use Rattle.bv_terms.specs.contracts.term.TermEq.TheImpl.Laws.{laws-law}

stored-at : (ts : List Term) (i : ℕ) (d t : Term) → slice_get ts i ≡ Some t → (i < length ts) × (get_or ts i d ≡ t)
stored-at [] i d t e = absurd (let x : ⊥ = cc in x)
stored-at (s ∷ ss) zero d t e = (omega arith, let x : s ≡ t = cc in x)
stored-at (s ∷ ss) (suc i) d t e = let r = stored-at ss i d t e in (omega (arith, r.0), r.1)

pub distinct_terms : (ts : List Term) → IsDistinct eq-value.it ts → AreDistinct ts
distinct_terms ts h i j t ei ej =
    let d = term.Constant 0 0 in
    let a = stored-at ts i d t ei in
    let b = stored-at ts j d t ej in
    let found : eq-value.it (get_or ts i d) (get_or ts j d) ≡ true = subst (λ (x : Term). eq-value.it x (get_or ts j d) ≡ true) (sym a.1) (subst (λ (y : Term). eq-value.it t y ≡ true) (sym b.1) (laws-law.refl t)) in
    let back : eq-value.it (get_or ts j d) (get_or ts i d) ≡ true = subst (λ (x : Term). eq-value.it x (get_or ts i d) ≡ true) (sym b.1) (subst (λ (y : Term). eq-value.it t y ≡ true) (sym a.1) (laws-law.refl t)) in
    elim (cases_eq i j) [
      | inl e ↦ e
      | inr ne ↦ elim (cases_lt i j) [
        | inl lt ↦ absurd (true≢false (sym found ∙ apart_from_distinct eq-value.it ts i j d h lt b.0))
        | inr ge ↦ absurd (true≢false (sym back ∙ apart_from_distinct eq-value.it ts j i d h (let lt : j < i = omega (arith, ge, ne) in lt) a.0))
      ]
    ]
