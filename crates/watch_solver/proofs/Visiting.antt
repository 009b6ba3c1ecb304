-- The walk along the clauses that watch a literal which became false.
use Rattle.watch_solver.proofs.Common.{ℕ, ◌≡◌, ◌≤◌, ◌+◌, ◌++◌, ◌⊎◌, inl, inr, List, [], ◌∷◌, Some, None, slice_get, take, length, arith, sym, ap, subst, refl, ◌∙◌, set, swap_remove, cases_eq, take-append-le, take_more, slice_get_within, get_or_from_slice_get, Has, opposite-opposite, Lit, opposite_of, Entry, IsFalse, Stands, IsUnitAt, stands-left, stands-right, Watch, Pair, lit_of, AreFree, AreKept, AreLinked, IsKept, HasFrom, list_of, IsMove, IsOneOf, IsTrueBy, AreVisited}
use Rattle.clause_search.proofs.Analysis.{stands-push}
use Rattle.watch_solver.proofs.Codes.{lit_cases}
use Rattle.watch_solver.proofs.Lists.{get-set, has-none, has-removed, has-rest, has-set}
use Rattle.watch_solver.proofs.Keeping.{free-moved, get-numbered, kept-later, stands-whole}

module _ (clauses : List (List Lit)) (pairs : List Pair) (trail : List Entry) (done : ℕ) (e : Entry) (at : slice_get trail done ≡ Some e) (f : Lit) (is : f ≡ opposite_of e.literal) where
  -- what the entry makes false
  pub false-next : (l : Lit) → IsFalse (take (done + 1) trail) l → IsFalse (take done trail) l ⊎ (l ≡ f)
  false-next l h =
      let more : take (done + 1) trail ≡ take done trail ++ e ∷ [] =
      take_more trail done e (slice_get_within trail done e at) ∙ ap (λ (z : Entry). take done trail ++ z ∷ []) (get_or_from_slice_get trail done e e at) in
      elim (stands-push (take done trail) e (opposite_of l) (subst (λ (es : List Entry). Stands es (opposite_of l)) more h)) [
        | inl g ↦ inl g
        | inr g ↦ inr (sym (opposite-opposite l) ∙ (ap opposite_of (sym g) ∙ sym is))
      ]

  -- a pair without the literal
  pub free-next : (c : List Lit) (p : Pair) → (IsOneOf p f → ⊥) → AreFree (take done trail) c p → AreFree (take (done + 1) trail) c p
  free-next c p none free = record {
    pair = free.pair;
    first = λ h. elim (false-next (lit_of p.first) h) [ inl g ↦ free.first g | inr g ↦ none (inl g) ];
    second = λ h. elim (false-next (lit_of p.second) h) [ inl g ↦ free.second g | inr g ↦ none (inr g) ];
  }

  pub kept-next : (c : List Lit) (p : Pair) → (IsOneOf p f → ⊥) → IsKept (take done trail) trail c p → IsKept (take (done + 1) trail) trail c p
  kept-next c p none (inl t) = inl t
  kept-next c p none (inr free) = inr (free-next c p none free)

  -- the start: whoever watches the literal is in its list
  pub visited-start : (n : ℕ) (lists : List (List Watch)) → AreLinked n clauses pairs lists → AreKept clauses pairs (take done trail) trail
      → AreVisited clauses pairs trail done (list_of lists f) 0
  visited-start n lists linked kept q c p here there = go (kept q c p here there)
    where
      go : IsKept (take done trail) trail c p → IsKept (take (done + 1) trail) trail c p ⊎ (IsKept (take done trail) trail c p × HasFrom (list_of lists f) 0 q)
      go (inl t) = inl (inl t)
      go (inr free) = elim (lit_cases (lit_of p.first) f) [
        | inl same ↦ inr (inr free, subst (λ (l : Lit). HasFrom (list_of lists l) 0 q) same (linked.first q p there free.pair.apart))
        | inr ne ↦ elim (lit_cases (lit_of p.second) f) [
          | inl same ↦ inr (inr free, subst (λ (l : Lit). HasFrom (list_of lists l) 0 q) same (linked.second q p there free.pair.apart))
          | inr ne' ↦ inl (inr (free-next c p (λ o. elim o [ inl g ↦ ne g | inr g ↦ ne' g ]) free))
        ]
      ]

  -- the end
  pub visited-end : (watches : List Watch) (place : ℕ) → slice_get watches place ≡ None → AreVisited clauses pairs trail done watches place
      → AreKept clauses pairs (take (done + 1) trail) trail
  visited-end watches place none visited q c p here there = elim (visited q c p here there) [
    | inl g ↦ g
    | inr g ↦ absurd (has-none watches place q none g.1)
  ]

  module _ (watches : List Watch) (place : ℕ) (w : Watch) (w_at : slice_get watches place ≡ Some w) (visited : AreVisited clauses pairs trail done watches place) where
    -- a true clause
    pub visited-true : (w' : Watch) (l : Lit) → w'.clause ≡ w.clause → IsTrueBy clauses trail w.clause l → AreVisited clauses pairs trail done (set watches place w') (place + 1)
    visited-true w' l same true_by q c p here there = elim (visited q c p here there) [
      | inl g ↦ inl g
      | inr g ↦ elim (has-rest watches place q w w_at g.1) [
        | inl e' ↦ inl (inl (l, subst (λ (d : List Lit). Has d l) (alike e') true_by.has, true_by.stands))
        | inr later ↦ inr (g.0, has-set watches (place + 1) q place w w' w_at same later)
      ]
    ]
      where
        alike : w.clause ≡ q → true_by.clause ≡ c
        alike e' = let f' : slice_get clauses q ≡ Some true_by.clause = subst (λ (k : ℕ). slice_get clauses k ≡ Some true_by.clause) e' true_by.at in cc

    -- a unit clause, whose literal comes onto the trail
    pub visited-unit : (k : Lit) (trail' : List Entry) → trail' ≡ trail ++ record { literal = k; reason = w.clause + 1 } ∷ [] → IsUnitAt clauses trail (w.clause + 1) k
        → AreVisited clauses pairs trail' done watches (place + 1)
    visited-unit k trail' more unit q c p here there = elim (visited q c p here there) [
      | inl g ↦ inl (moved (done + 1) (omega (arith, slice_get_within trail done e at)) g)
      | inr g ↦ elim (has-rest watches place q w w_at g.1) [
        | inl e' ↦ inl (inl (k, subst (λ (d : List Lit). Has d k) (alike e') unit.unit.has, newest))
        | inr later ↦ inr (moved done (omega (arith, slice_get_within trail done e at)) g.0, later)
      ]
    ]
      where
        alike : w.clause ≡ q → unit.clause ≡ c
        alike e' = let f' : slice_get clauses q ≡ Some unit.clause = subst (λ (k' : ℕ). slice_get clauses k' ≡ Some unit.clause) e' (get-numbered clauses w.clause unit.clause unit.at) in cc

        newest : Stands trail' k
        newest = subst (λ (es : List Entry). Stands es k) (sym more) (stands-right trail (record { literal = k; reason = w.clause + 1 } ∷ []) k (inl refl))

        later-stands : (l : Lit) → Stands trail l → Stands trail' l
        later-stands l s = subst (λ (es : List Entry). Stands es l) (sym more) (stands-left trail (record { literal = k; reason = w.clause + 1 } ∷ []) l s)

        moved : (i : ℕ) → i ≤ length trail → IsKept (take i trail) trail c p → IsKept (take i trail') trail' c p
        moved i le g =
            let same : take i trail' ≡ take i trail = ap (λ es. take i es) more ∙ take-append-le i trail (record { literal = k; reason = w.clause + 1 } ∷ []) le in
            subst (λ (es : List Entry). IsKept es trail' c p) (sym same) (kept-later (take i trail) trail trail' later-stands c p g)

    -- a clause that doesn't watch the literal
    pub visited-elsewhere : (d : Watch) → ((p : Pair) → slice_get pairs w.clause ≡ Some p → IsOneOf p f → ⊥) → AreVisited clauses pairs trail done (swap_remove watches place d) place
    visited-elsewhere d none q c p here there = elim (visited q c p here there) [
      | inl g ↦ inl g
      | inr g ↦ elim (cases_eq w.clause q) [
        | inl same ↦ inl (kept-next c p (none p (subst (λ (k : ℕ). slice_get pairs k ≡ Some p) (sym same) there)) g.0)
        | inr ne ↦ inr (g.0, has-removed watches place w d w_at place q (omega arith) ne g.1)
      ]
    ]

    -- a clause that watches another literal now
    pub visited-moved : (d : Watch) (new : Pair) → IsMove clauses pairs trail f w.clause new → AreVisited clauses (set pairs w.clause new) trail done (swap_remove watches place d) place
    visited-moved d new move q c p here there = elim (get-set pairs w.clause q new p (slice_get_within pairs w.clause move.old move.old_at) there) [
      | inr g ↦ elim (visited q c p here g.1) [
        | inl k ↦ inl k
        | inr k ↦ inr (k.0, has-removed watches place w d w_at place q (omega arith) (λ same. g.0 (sym same)) k.1)
      ]
      | inl g ↦
          let there' : slice_get clauses w.clause ≡ Some c = subst (λ (k : ℕ). slice_get clauses k ≡ Some c) g.0 here in
          let move_at = move.at in
          let same : move.clause ≡ c = cc in
          inl (subst (λ (x : Pair). IsKept (take (done + 1) trail) trail c x) g.1
          (subst (λ (x : List Lit). IsKept (take (done + 1) trail) trail x new) same moved))
    ]
      where
        whole : (l : Lit) → IsFalse (take (done + 1) trail) l → IsFalse trail l
        whole l h = stands-whole trail (done + 1) (opposite_of l) h

        earlier : IsFalse (take (done + 1) trail) (lit_of new.second) → IsFalse (take done trail) (lit_of new.second)
        earlier h = elim (false-next (lit_of new.second) h) [ inl g ↦ g | inr g ↦ absurd (move.apart g) ]

        again : IsKept (take done trail) trail move.clause move.old → IsKept (take (done + 1) trail) trail move.clause new
        again (inl t) = inl t
        again (inr free) = inr (free-moved clauses pairs trail f w.clause new move (take done trail) (take (done + 1) trail) whole earlier free)

        still : IsKept (take (done + 1) trail) trail move.clause move.old → IsKept (take (done + 1) trail) trail move.clause new
        still (inl t) = inl t
        still (inr free) = inr (free-moved clauses pairs trail f w.clause new move (take (done + 1) trail) (take (done + 1) trail) whole (λ h. h) free)

        moved : IsKept (take (done + 1) trail) trail move.clause new
        moved = elim (visited w.clause move.clause move.old move.at move.old_at) [ inl g ↦ still g | inr g ↦ again g.0 ]
