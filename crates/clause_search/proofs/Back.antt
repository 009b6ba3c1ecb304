-- One step back from a conflict.
use Rattle.clause_search.proofs.Common.{ℕ, ◌≡◌, ◌<◌, ◌+◌, ◌-◌, ◌++◌, inl, inr, List, [], ◌∷◌, Option, Some, None, take, get_or, slice_get, length, option_and_then, arith, sym, ap, subst, refl, ◌∙◌, take_more, take_all, get_or_from_slice_get, slice_get_within, cases_eq, Has, Lit, IsClause, opposite_of, joined, resolvent, clause_numbered, resolved_along, chain_resolvent, resolvent-one, Entry, Learned, IsConsistent, AllFalse, FalseBut, IsSettled, IsImplied, IsGrounded, IsTrail, IsFalseAt, IsDecisionAt, IsLastDecision, IsLearned, IsBack}
use Rattle.clause_search.proofs.Analysis.{consistent-trail, skipped, resolves, resolvent-false, resolvent-above, settled-above, ends}
use Rattle.clause_search.proofs.Findings.{among-numbered}
use Rattle.clause_search.proofs.ByPlace.{grounded-at, trail-take, stands-take}

-- a chain with one more clause
along-push : (clauses : List (List Lit)) (c : List Lit) (ns : List ℕ) (m : ℕ) (r d q : List Lit) → resolved_along clauses c ns ≡ Some r
    → clause_numbered clauses m ≡ Some d → resolvent r d ≡ Some q → resolved_along clauses c (ns ++ m ∷ []) ≡ Some q
along-push clauses c [] m r d q gives at is = let same : c ≡ r = cc in rw (at, same, is) refl
along-push clauses c (n ∷ ns) m r d q gives at is = go (clause_numbered clauses n) (λ c' g. along-push clauses c' ns m r d q g at is) gives
  where
    then : (o : Option (List Lit)) → ((c' : List Lit) → resolved_along clauses c' ns ≡ Some r → resolved_along clauses c' (ns ++ m ∷ []) ≡ Some q)
        → option_and_then (λ x. resolved_along clauses x ns) o ≡ Some r → option_and_then (λ x. resolved_along clauses x (ns ++ m ∷ [])) o ≡ Some q
    then None more g = cc
    then (Some x) more g = more x g

    go : (o : Option (List Lit)) → ((c' : List Lit) → resolved_along clauses c' ns ≡ Some r → resolved_along clauses c' (ns ++ m ∷ []) ≡ Some q)
        → option_and_then (λ y. option_and_then (λ x. resolved_along clauses x ns) (resolvent c y)) o ≡ Some r
        → option_and_then (λ y. option_and_then (λ x. resolved_along clauses x (ns ++ m ∷ [])) (resolvent c y)) o ≡ Some q
    go None more g = cc
    go (Some y) more g = then (resolvent c y) more g

pub chain-push : (clauses : List (List Lit)) (chain : List ℕ) (m : ℕ) (r d q : List Lit) → chain_resolvent clauses chain ≡ Some r
    → clause_numbered clauses m ≡ Some d → resolvent r d ≡ Some q → chain_resolvent clauses (chain ++ m ∷ []) ≡ Some q
chain-push clauses [] m r d q gives at is = cc
chain-push clauses (n ∷ ns) m r d q gives at is = go (clause_numbered clauses n) gives
  where
    go : (o : Option (List Lit)) → option_and_then (λ c. resolved_along clauses c ns) o ≡ Some r
        → option_and_then (λ c. resolved_along clauses c (ns ++ m ∷ [])) o ≡ Some q
    go None g = cc
    go (Some c) g = along-push clauses c ns m r d q g at is

module _ (variables : ℕ) (clauses : List (List Lit)) (trail : List Entry) (low : ℕ) (h : IsTrail variables clauses [] trail) (last : IsLastDecision trail low) where
  consistent-at : (i : ℕ) → IsConsistent (take i trail)
  consistent-at i = consistent-trail variables clauses [] (take i trail) (trail-take variables clauses trail i h) (λ l a b. absurd a)

  pub settled-low : (d : Entry) → IsSettled clauses (take low trail)
  settled-low d = go last.at
    where
      go : IsDecisionAt trail low → IsSettled clauses (take low trail)
      go (e, at, none) = elim (grounded-at variables clauses trail low e (slice_get_within trail low e at) h).why [
        | inl g ↦ g.settled
        | inr g ↦
            let same : get_or trail low e ≡ e = get_or_from_slice_get trail low e e at in
            let zero : (get_or trail low e).reason ≡ 0 = ap (λ (x : Entry). x.reason) same ∙ none in
            let no_clause : clause_numbered clauses 0 ≡ Some g.clause = subst (λ (n : ℕ). clause_numbered clauses n ≡ Some g.clause) zero g.reason in
            let no_more : None ≡ Some g.clause = no_clause in
            absurd (apart g.clause no_more)
      ]
        where
          apart : (c : List Lit) → None ≡ Some c → ⊥
          apart c e = cc

  -- the conflict itself
  pub back-start : (number : ℕ) (c : List Lit) (d : Entry) → clause_numbered clauses number ≡ Some c → AllFalse trail c
      → low < length trail → take (length trail) trail ≡ trail → IsBack clauses trail low (number ∷ []) c (length trail)
  back-start number c d at all lt whole = record {
    above = lt;
    within = omega arith;
    gives = rw at refl;
    all = rw whole all;
    some = settled-above clauses (take low trail) c (consistent-at low) (settled-low d) (among-numbered clauses number c at);
  }

  module _ (chain : List ℕ) (current : List Lit) (place : ℕ) (d : Entry) (it : slice_get trail (place - 1) ≡ Some d) (back : IsBack clauses trail low chain current place) where
    here : place - 1 < length trail
    here = omega (arith, back.above, back.within)

    more : take place trail ≡ take (place - 1) trail ++ d ∷ []
    more =
        let e : (place - 1) + 1 ≡ place = omega (arith, back.above) in
        sym (ap (λ k. take k trail) e) ∙ (take_more trail (place - 1) d here ∙ ap (λ (z : Entry). take (place - 1) trail ++ z ∷ []) (get_or_from_slice_get trail (place - 1) d d it))

    false_here : AllFalse (take (place - 1) trail ++ d ∷ []) current
    false_here = subst (λ (x : List Entry). AllFalse x current) more back.all

    -- an entry whose opposite the clause does not have
    pub back-skip : (Has current (opposite_of d.literal) → ⊥) → IsBack clauses trail low chain current (place - 1)
    back-skip absent =
        let less = skipped (take (place - 1) trail) d current false_here absent in
        record {
          above = elim (cases_eq low (place - 1)) [
            | inl e ↦ absurd (back.some (rw e less))
            | inr e ↦ omega (arith, e, back.above)
          ];
          within = omega (arith, back.within);
          gives = back.gives;
          all = less;
          some = back.some;
        }

    grounded : IsGrounded variables clauses (take (place - 1) trail) d
    grounded = subst (λ (z : Entry). IsGrounded variables clauses (take (place - 1) trail) z) (get_or_from_slice_get trail (place - 1) d d it) (grounded-at variables clauses trail (place - 1) d here h)

    -- where all others are false before the decision
    pub back-learned : (chain' : List ℕ) (learned : Learned) → learned.chain ≡ chain → learned.clause ≡ current
        → learned.literal ≡ opposite_of d.literal
        → Has current (opposite_of d.literal)
        → FalseBut (take low trail) current (opposite_of d.literal)
        → IsLearned variables clauses trail low learned
    back-learned chain' learned c1 c2 c3 has but = record {
      chain = rw (c1, c2) back.gives;
      has = rw (c2, c3) has;
      unit = rw (c2, c3) but;
      free = λ l s v. grounded.fresh l (stands-take trail low (place - 1) l (omega (arith, back.above)) s) (v ∙ ap (λ (x : Lit). x.variable) c3);
      counted = rw c3 grounded.positive;
      within = rw c3 grounded.within;
    }

    -- else the entry isn't the decision, so it is implied
    pub back-implied : (FalseBut (take low trail) current (opposite_of d.literal) → ⊥)
        → IsImplied clauses (take (place - 1) trail) d
    back-implied other = elim (cases_eq low (place - 1)) [
      | inl e ↦ absurd (other (rw e (ends (take (place - 1) trail) d current false_here)))
      | inr e ↦ elim grounded.why [
        | inr g ↦ g
        | inl g ↦ absurd (last.later (place - 1) d (omega (arith, e, back.above)) it g.reason)
      ]
    ]

    module _ (has : Has current (opposite_of d.literal)) (implied : IsImplied clauses (take (place - 1) trail) d)
        (p : IsClause current) (q : IsClause implied.clause) where
      -- the two resolve
      pub back-resolvent : resolvent current implied.clause ≡ Some (joined current implied.clause)
      back-resolvent = resolvent-one current implied.clause
          (resolves (take (place - 1) trail) d current implied.clause (consistent-at (place - 1)) grounded.fresh
          false_here has implied.has implied.others p q)

      pub back-resolve : low < place - 1 → IsBack clauses trail low (chain ++ d.reason ∷ []) (joined current implied.clause) (place - 1)
      back-resolve lt = record {
        above = lt;
        within = omega (arith, back.within);
        gives = chain-push clauses chain d.reason current implied.clause (joined current implied.clause) back.gives implied.reason back-resolvent;
        all = resolvent-false (take (place - 1) trail) d current implied.clause (consistent-at (place - 1)) grounded.fresh
            false_here has implied.has implied.others p q;
        some = resolvent-above (take (place - 1) trail) d current implied.clause (consistent-at (place - 1)) grounded.fresh
            false_here has implied.has implied.others p q clauses (take low trail)
            (λ l s. stands-take trail low (place - 1) l (omega (arith, back.above)) s) (settled-low d) implied.among;
      }

-- the start, from what the calls say
pub back-first : (variables : ℕ) (clauses : List (List Lit)) (trail : List Entry) (low : ℕ) → IsTrail variables clauses [] trail → IsLastDecision trail low
    → (number : ℕ) (start current : List Lit) (chain : List ℕ) → IsFalseAt clauses trail number → Some start ≡ clause_numbered clauses number
    → chain ≡ number ∷ [] → current ≡ start → IsBack clauses trail low chain current (length trail)
back-first variables clauses trail low h last number start current chain conflict at is same = go last.at
  where
    go : IsDecisionAt trail low → IsBack clauses trail low chain current (length trail)
    go (e, there, none) =
        let one : start ≡ conflict.clause = let f = conflict.at in cc in
        rw (is, same) (back-start variables clauses trail low h last number start e (sym at)
        (subst (λ (x : List Lit). AllFalse trail x) (sym one) conflict.all) (slice_get_within trail low e there) (take_all (length trail) trail (omega arith)))

module _ (variables : ℕ) (clauses : List (List Lit)) (trail : List Entry) (low : ℕ) (h : IsTrail variables clauses [] trail) (last : IsLastDecision trail low)
    (chain : List ℕ) (current : List Lit) (place : ℕ) (d : Entry) (it : slice_get trail (place - 1) ≡ Some d) (back : IsBack clauses trail low chain current place)
    (has : Has current (opposite_of d.literal))
    (other : FalseBut (take low trail) current (opposite_of d.literal) → ⊥) where
  implied : IsImplied clauses (take (place - 1) trail) d
  implied = back-implied variables clauses trail low h last chain current place d it back other

  -- there is a reason
  pub next-reason : None ≡ clause_numbered clauses d.reason → ⊥
  next-reason e = let f = implied.reason in cc

  module _ (r : List Lit) (at : Some r ≡ clause_numbered clauses d.reason) (p : IsClause current) (q : IsClause r) where
    same : r ≡ implied.clause
    same = let f = implied.reason in cc

    clause : IsClause implied.clause
    clause = subst (λ (x : List Lit). IsClause x) same q

    -- it resolves
    pub next-resolvent : resolvent current r ≡ Some (joined current r)
    next-resolvent =
        subst (λ (x : List Lit). resolvent current x ≡ Some (joined current x)) (sym same)
        (back-resolvent variables clauses trail low h last chain current place d it back has implied p clause)

    pub next-back : (chain' : List ℕ) (next : List Lit) → chain' ≡ chain ++ d.reason ∷ [] → Some next ≡ resolvent current r
        → IsBack clauses trail low chain' next (place - 1)
    next-back chain' next is tells =
        let joins : next ≡ joined current r = let f = next-resolvent in cc in
        let all = joins ∙ ap (λ x. joined current x) same in
        rw (is, all) (back-resolve variables clauses trail low h last chain current place d it back has implied p clause (elim (cases_eq low (place - 1)) [
          | inl e ↦ absurd (other (rw e (ends (take (place - 1) trail) d current
              (false_here variables clauses trail low h last chain current place d it back))))
          | inr e ↦ omega (arith, e, back.above)
        ]))
