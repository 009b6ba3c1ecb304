-- A learned clause keeps what holds all through a search, and makes its measure fall.
use Rattle.clause_search.proofs.Common.{append_assoc, ℕ, suc, ◌≡◌, ◌<◌, ◌≤◌, ◌+◌, ◌-◌, ◌++◌, ◌⊎◌, inl, inr, false, List, [], ◌∷◌, Some, take, drop, get_or, slice_get, map, length, nat_eq, arith, sym, ap, subst, refl, ◌∙◌, length-append, length-take, get_or_from_slice_get, slice_get_within, cases_eq, ne_eqb, eq-eqb, Has, Lit, opposite_of, Step, clause_numbered, standing_before, Entry, Learned, IsUnassigned, FalseBut, IsGrounded, IsTrail, IsUnready, IsDecisionAt, IsLastDecision, IsLearned, standing, AreInRange, IsNew, IsSearch, digit_of, code_of, left_of}
use Rattle.clause_search.proofs.Analysis.{trail-push, trail-more, new_clause}
use Rattle.clause_search.proofs.Findings.{length-standing}
use Rattle.clause_search.proofs.ByPlace.{trail-take, stands-take, split-at}
use Rattle.clause_search.proofs.Back.{settled-low}
use Rattle.clause_search.proofs.Falls.{code-below, code-jump}
use Rattle.clause_search.proofs.Counting.{length-trail, in_range}
use Rattle.clause_search.proofs.Searches.{before-same, before-all}
use Rattle.clause_search.proofs.Getting.{get-early, get-late}

map-push : (log : List Step) (y : Step) → map (λ s. s.clause) (log ++ y ∷ []) ≡ map (λ s. s.clause) log ++ y.clause ∷ []
map-push [] y = refl
map-push (x ∷ xs) y = ap (λ zs. x.clause ∷ zs) (map-push xs y)

standing-push : (clauses : List (List Lit)) (log : List Step) (y : Step) → standing clauses (log ++ y ∷ []) ≡ standing clauses log ++ y.clause ∷ []
standing-push clauses log y = ap (λ zs. clauses ++ zs) (map-push log y) ∙ sym (append_assoc clauses (map (λ s. s.clause) log) (y.clause ∷ []))

last-numbered : (cs : List (List Lit)) (c : List Lit) → clause_numbered (cs ++ c ∷ []) (length cs + 1) ≡ Some c
last-numbered cs c =
    let back : length cs + 1 - 1 ≡ length cs = omega arith in
    let some : nat_eq (length cs + 1) 0 ≡ false = ne_eqb (length cs + 1) 0 (λ z. omega (arith, z)) in
    rw (some, back) (get-end cs c)
  where
    get-end : (xs : List (List Lit)) (y : List Lit) → slice_get (xs ++ y ∷ []) (length xs) ≡ Some y
    get-end [] y = refl
    get-end (z ∷ zs) y = get-end zs y

last-among : (cs : List (List Lit)) (c : List Lit) → Has (cs ++ c ∷ []) c
last-among [] c = inl refl
last-among (d ∷ ds) c = inr (last-among ds c)

among-push : (cs : List (List Lit)) (c d : List Lit) → Has (cs ++ c ∷ []) d → Has cs d ⊎ (c ≡ d)
among-push [] c d (inl e) = inr e
among-push [] c d (inr h) = absurd h
among-push (x ∷ xs) c d (inl e) = inl (inl e)
among-push (x ∷ xs) c d (inr h) = elim (among-push xs c d h) [ inl g ↦ inl (inr g) | inr g ↦ inr g ]

module _ (n : ℕ) (clauses : List (List Lit)) (log : List Step) (trail : List Entry) (s : IsSearch n clauses log trail)
    (low : ℕ) (last : IsLastDecision trail low) (learned : Learned) (is : IsLearned n (standing clauses log) trail low learned)
    (place : ℕ) (within : place ≤ low) (decision : IsDecisionAt trail place) (unit : FalseBut (take place trail) learned.clause learned.literal)
    (unready : IsUnready learned.clause learned.literal [] (take place trail))
    (y : Step) (chain_is : y.chain ≡ learned.chain) (clause_is : y.clause ≡ learned.clause)
    (e : Entry) (literal_is : e.literal ≡ learned.literal) (reason_is : e.reason ≡ (length clauses + length log) + 1) where
  all : List (List Lit)
  all = standing clauses log

  fresh : IsUnassigned (take place trail) learned.literal.variable
  fresh l at v = is.free l (stands-take trail place low l within at) v

  number : e.reason ≡ length (standing clauses log) + 1
  number = reason_is ∙ ap (λ k. k + 1) (sym (length-standing clauses log))

  grounded : IsGrounded n (standing clauses log ++ learned.clause ∷ []) (take place trail) e
  grounded = record {
    positive = rw literal_is is.counted;
    within = rw literal_is is.within;
    fresh = λ l at v. fresh l at (v ∙ ap (λ (x : Lit). x.variable) literal_is);
    why = inr (record {
      clause = learned.clause;
      reason = rw number (last-numbered (standing clauses log) learned.clause);
      among = last-among (standing clauses log) learned.clause;
      has = rw literal_is is.has;
      others = rw literal_is unit;
    });
  }

  trail_kept : IsTrail n (standing clauses log ++ learned.clause ∷ []) [] (take place trail)
  trail_kept =
      trail-more n (standing clauses log) learned.clause learned.literal is.has [] (take place trail)
      (trail-take n (standing clauses log) trail place s.trail_is) fresh unready

  trail_is : IsTrail n (standing clauses log ++ learned.clause ∷ []) [] (take place trail ++ e ∷ [])
  trail_is = trail-push n (standing clauses log ++ learned.clause ∷ []) [] (take place trail) e trail_kept grounded

  range_learned : (l : Lit) → Has learned.clause l → (0 < l.variable) × (l.variable ≤ n)
  range_learned l h = elim (is.unit l h) [
    | inl g ↦ rw g (is.counted, is.within)
    | inr g ↦ in_range n (standing clauses log) [] (take low trail) (opposite_of l) (trail-take n (standing clauses log) trail low s.trail_is) g
  ]

  range_is : AreInRange n (standing clauses log ++ learned.clause ∷ [])
  range_is c among l h = elim (among-push (standing clauses log) learned.clause c among) [
    | inl g ↦ s.in_range c g l h
    | inr g ↦ range_learned l (subst (λ (x : List Lit). Has x l) (sym g) h)
  ]

  at_end : standing_before clauses (log ++ y ∷ []) (length log) ≡ standing clauses log
  at_end = before-same n clauses log trail s y (length log) (omega arith) ∙ before-all n clauses log trail s

  new_step : IsNew clauses (log ++ y ∷ []) (length log) y
  new_step = record {
    chain = rw (at_end, chain_is, clause_is) is.chain;
    some = (learned.literal, rw clause_is is.has);
    new = λ d among contains.
        go last.at d (subst (λ (cs : List (List Lit)). Has cs d) at_end among) (λ l h. subst (λ (c : List Lit). Has c l) clause_is (contains l h));
  }
    where
      go : IsDecisionAt trail low → (d : List Lit) → Has (standing clauses log) d → ((l : Lit) → Has d l → Has learned.clause l) → ⊥
      go (x, at, zero') d among part =
          new_clause (standing clauses log) (take low trail) learned.clause d learned.literal
          (settled-low n (standing clauses log) trail low s.trail_is last x) is.free is.unit among part

  steps_are : (index : ℕ) (x : Step) → slice_get (log ++ y ∷ []) index ≡ Some x → IsNew clauses (log ++ y ∷ []) index x
  steps_are index x at = elim (cases_eq index (length log)) [
    | inl g ↦
        let same = get-late log y x index g at in
        let here : IsNew clauses (log ++ y ∷ []) index y = subst (λ (k : ℕ). IsNew clauses (log ++ y ∷ []) k y) (sym g) new_step in
        subst (λ (z : Step). IsNew clauses (log ++ y ∷ []) index z) same here
    | inr g ↦
        let lt : index < length log = omega (arith, g, slice_get_within (log ++ y ∷ []) index x at, length-append log (y ∷ [])) in
        let old = s.steps index x (get-early log y x index lt at) in
        let same = before-same n clauses log trail s y index (omega arith) in
        record { chain = rw same old.chain; some = old.some; new = λ d among contains. old.new d (subst (λ (cs : List (List Lit)). Has cs d) same among) contains }
  ]

  going_on : (trail' : List Entry) → IsTrail n (standing clauses log ++ learned.clause ∷ []) [] trail' → IsSearch n clauses (log ++ y ∷ []) trail'
  going_on trail' h =
      let whole = standing-push clauses log y ∙ ap (λ c. standing clauses log ++ c ∷ []) clause_is in
      record {
        trail_is = subst (λ (cs : List (List Lit)). IsTrail n cs [] trail') (sym whole) h;
        in_range = subst (λ (cs : List (List Lit)). AreInRange n cs) (sym whole) range_is;
        steps = steps_are;
      }

  -- the learned clause is added
  pub search-learned : (log' : List Step) (trail' : List Entry) → log' ≡ log ++ y ∷ [] → trail' ≡ take place trail → IsSearch n clauses log' trail'
  search-learned log' trail' l t = rw (l, t) (going_on (take place trail) trail_kept)

  -- and so is its literal
  pub search-learn : (log' : List Step) (trail' : List Entry) → log' ≡ log ++ y ∷ [] → trail' ≡ take place trail ++ e ∷ [] → IsSearch n clauses log' trail'
  search-learn log' trail' l t = rw (l, t) (going_on (take place trail ++ e ∷ []) trail_is)

  -- which is nearer to the end of the search
  pub search-learn-falls : (trail' : List Entry) → trail' ≡ take place trail ++ e ∷ []
      → left_of n trail' < left_of n trail
  search-learn-falls trail' t = go decision
    where
      go : IsDecisionAt trail place → left_of n trail' < left_of n trail
      go (x, at, none) =
          let lt = slice_get_within trail place x at in
          let same = get_or_from_slice_get trail place x x at in
          let here : (get_or trail place x).reason ≡ 0 = ap (λ (z : Entry). z.reason) same ∙ none in
          let one : digit_of (get_or trail place x) ≡ 1 = rw (eq-eqb (get_or trail place x).reason 0 here) refl in
          let two : digit_of e ≡ 2 = rw (ne_eqb e.reason 0 (λ z. omega (arith, z, reason_is))) refl in
          let short : length (take place trail) < n + 2 = omega (arith, length-take place trail, length-trail n (standing clauses log) trail s.trail_is) in
          let less = code-jump (n + 2) (take place trail) (get_or trail place x) (drop (suc place) trail) e short one two in
          let less' : code_of (n + 2) trail < code_of (n + 2) (take place trail ++ e ∷ []) =
          subst (λ (z : List Entry). code_of (n + 2) z < code_of (n + 2) (take place trail ++ e ∷ [])) (split-at trail place x lt) less in
          rw t (omega (arith, less', code-below (n + 2) trail, code-below (n + 2) (take place trail ++ e ∷ [])))
