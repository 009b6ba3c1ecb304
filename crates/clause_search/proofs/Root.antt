-- The way back from a conflict with no decision, to the empty clause.
use Rattle.clause_search.proofs.Common.{ℕ, ◌≡◌, ◌<◌, ◌≤◌, ◌+◌, ◌-◌, ◌++◌, inl, inr, List, [], ◌∷◌, Some, None, take, slice_get, length, arith, sym, ap, subst, refl, ◌∙◌, take_more, get_or_from_slice_get, Has, Lit, IsClause, opposite_of, joined, resolvent, clause_numbered, chain_resolvent, resolvent-one, Entry, Stands, IsConsistent, AllFalse, IsImplied, IsGrounded, IsTrail, AreImplied}
use Rattle.clause_search.proofs.Analysis.{consistent-trail, skipped, resolves, resolvent-false}
use Rattle.clause_search.proofs.ByPlace.{grounded-at, trail-take}
use Rattle.clause_search.proofs.Back.{chain-push}

-- the chain's clause is false by the first entries
pub record IsDown (clauses : List (List Lit)) (trail : List Entry) (chain : List ℕ) (current : List Lit) (place : ℕ) : Type 0 where
  pub within : place ≤ length trail
  pub gives : chain_resolvent clauses chain ≡ Some current
  pub all : AllFalse (take place trail) current

pub down-last : (clauses : List (List Lit)) (trail : List Entry) (chain : List ℕ) (current : List Lit) (place : ℕ) → place ≡ 0 → IsDown clauses trail chain current place → current ≡ []
down-last clauses trail chain current place zero' down = go current (subst (λ (k : ℕ). AllFalse (take k trail) current) zero' down.all)
  where
    nothing : (es : List Entry) (l : Lit) → Stands (take 0 es) l → ⊥
    nothing [] l s = s
    nothing (e ∷ es) l s = s

    go : (c : List Lit) → AllFalse (take 0 trail) c → c ≡ []
    go [] h = refl
    go (x ∷ xs) h = absurd (nothing trail (opposite_of x) (h x (inl refl)))

module _ (variables : ℕ) (clauses : List (List Lit)) (trail : List Entry) (h : IsTrail variables clauses [] trail) (implied_all : AreImplied trail 0 (length trail))
    (chain : List ℕ) (current : List Lit) (place : ℕ) (d : Entry) (it : slice_get trail (place - 1) ≡ Some d) (positive : 0 < place) (down : IsDown clauses trail chain current place) where
  here : place - 1 < length trail
  here = omega (arith, down.within)

  false_here : AllFalse (take (place - 1) trail ++ d ∷ []) current
  false_here =
      let e : (place - 1) + 1 ≡ place = omega arith in
      subst (λ (x : List Entry). AllFalse x current) (sym (ap (λ k. take k trail) e) ∙ (take_more trail (place - 1) d here ∙ ap (λ (z : Entry). take (place - 1) trail ++ z ∷ []) (get_or_from_slice_get trail (place - 1) d d it))) down.all

  con : IsConsistent (take (place - 1) trail)
  con = consistent-trail variables clauses [] (take (place - 1) trail) (trail-take variables clauses trail (place - 1) h) (λ l a b. absurd a)

  grounded : IsGrounded variables clauses (take (place - 1) trail) d
  grounded = subst (λ (z : Entry). IsGrounded variables clauses (take (place - 1) trail) z) (get_or_from_slice_get trail (place - 1) d d it) (grounded-at variables clauses trail (place - 1) d here h)

  implied : IsImplied clauses (take (place - 1) trail) d
  implied = elim grounded.why [
    | inr g ↦ g
    | inl g ↦ absurd (implied_all (place - 1) d (omega arith) here it g.reason)
  ]

  pub down-skip : (Has current (opposite_of d.literal) → ⊥) → IsDown clauses trail chain current (place - 1)
  down-skip absent = record {
    within = omega (arith, down.within);
    gives = down.gives;
    all = skipped (take (place - 1) trail) d current false_here absent;
  }

  pub down-reason : None ≡ clause_numbered clauses d.reason → ⊥
  down-reason e = let f = implied.reason in cc

  module _ (has : Has current (opposite_of d.literal)) (r : List Lit)
      (at : Some r ≡ clause_numbered clauses d.reason) (p : IsClause current) (q : IsClause r) where
    same : r ≡ implied.clause
    same = let f = implied.reason in cc

    q' : IsClause implied.clause
    q' = subst (λ (x : List Lit). IsClause x) same q

    pub down-resolvent : resolvent current r ≡ Some (joined current r)
    down-resolvent = subst (λ (x : List Lit). resolvent current x ≡ Some (joined current x)) (sym same)
        (resolvent-one current implied.clause (resolves (take (place - 1) trail) d current implied.clause con grounded.fresh
        false_here has implied.has implied.others p q'))

    pub down-next : (chain' : List ℕ) (next : List Lit) → chain' ≡ chain ++ d.reason ∷ [] → Some next ≡ resolvent current r
        → IsDown clauses trail chain' next (place - 1)
    down-next chain' next is tells =
        let joins : next ≡ joined current r = let f = down-resolvent in cc in
        let all = joins ∙ ap (λ x. joined current x) same in
        record {
          within = omega (arith, down.within);
          gives = rw (is, joins) (chain-push clauses chain d.reason current r (joined current r) down.gives (sym at) down-resolvent);
          all = rw all (resolvent-false (take (place - 1) trail) d current implied.clause con grounded.fresh
              false_here has implied.has implied.others p q');
        }
