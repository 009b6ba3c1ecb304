-- The steps of the search keep what holds all through it, and its measure falls.
use Rattle.clause_search.proofs.Common.{ℕ, zero, suc, ◌≡◌, ◌<◌, ◌≤◌, ◌+◌, ◌-◌, ◌++◌, inl, inr, Bool, false, List, [], ◌∷◌, Option, Some, None, slice_get, take, map, length, arith, sym, ap, subst, refl, ◌∙◌, length-append, take-length, take-append-le, slice_get_within, cases_eq, Has, Lit, Step, chain_resolvent, standing_before, IsSoundAt, Refutes, standing-true, Entry, IsConsistent, IsSettled, IsUnitAt, IsNextVariable, TellsAll, IsLeast, IsCareful, IsSpent, standing, AreInRange, IsSearch, IsEmptyStep, left_of}
use Rattle.clause_search.proofs.ByPlace.{trail-take}
use Rattle.clause_search.proofs.Analysis.{consistent-trail, trail-push}
use Rattle.clause_search.proofs.Findings.{among-numbered}
use Rattle.clause_search.proofs.Getting.{get-early, get-late, get-last, get-kept}
use Rattle.clause_search.proofs.Falls.{code-below, code-push}
use Rattle.clause_search.proofs.Counting.{length-trail}
use Rattle.clause_search.proofs.Assigned.{tells-true}
use Rattle.clause_search.proofs.Outcomes.{least-model}

slice_get_inside : (xs : List Step) (i : ℕ) → i < length xs → (x : Step) × (slice_get xs i ≡ Some x)
slice_get_inside [] i lt = absurd (omega arith)
slice_get_inside (x ∷ xs) zero lt = (x, refl)
slice_get_inside (x ∷ xs) (suc i) lt = slice_get_inside xs i (omega arith)

module _ (n : ℕ) (clauses : List (List Lit)) (log : List Step) (trail : List Entry) (s : IsSearch n clauses log trail) where
  pub search-consistent : IsConsistent trail
  search-consistent = consistent-trail n (standing clauses log) [] trail s.trail_is (λ l a b. absurd a)

  -- a literal that a clause implies
  pub search-unit : (number : ℕ) (k : Lit) (trail' : List Entry) → IsUnitAt (standing clauses log) trail number k
      → trail' ≡ trail ++ record { literal = k; reason = number } ∷ [] → IsSearch n clauses log trail'
  search-unit number k trail' unit is =
      let among = among-numbered (standing clauses log) number unit.clause unit.at in
      let range = s.in_range unit.clause among k unit.unit.has in
      record {
        trail_is = rw is (trail-push n (standing clauses log) [] trail (record { literal = k; reason = number }) s.trail_is (record {
          positive = range.0;
          within = range.1;
          fresh = unit.unit.free;
          why = inr (record { clause = unit.clause; reason = unit.at; among = among; has = unit.unit.has; others = unit.unit.others });
        }));
        in_range = s.in_range;
        steps = s.steps;
      }

  -- a trail that is cut off
  pub search-cut : (place : ℕ) (trail' : List Entry) → trail' ≡ take place trail → IsSearch n clauses log trail'
  search-cut place trail' is = record {
    trail_is = rw is (trail-take n (standing clauses log) trail place s.trail_is);
    in_range = s.in_range;
    steps = s.steps;
  }

  -- a decision
  pub search-decide : (variable : ℕ) (trail' : List Entry) → IsSettled (standing clauses log) trail → IsNextVariable n trail (Some variable)
      → trail' ≡ trail ++ record { literal = record { variable = variable; positive = false }; reason = 0 } ∷ [] → IsSearch n clauses log trail'
  search-decide variable trail' settled next is = record {
    trail_is = rw is (trail-push n (standing clauses log) [] trail (record { literal = record { variable = variable; positive = false }; reason = 0 }) s.trail_is (record {
      positive = next.0;
      within = next.1;
      fresh = λ l at e. next.2 (l, at, e);
      why = inl (record { reason = refl; zero = refl; least = next.3; settled = settled });
    }));
    in_range = s.in_range;
    steps = s.steps;
  }

  -- either makes the measure fall
  pub search-falls : (e : Entry) (trail' : List Entry) → trail' ≡ trail ++ e ∷ [] → left_of n trail' < left_of n trail
  search-falls e trail' is =
      let more = code-push (n + 2) trail e (length-trail n (standing clauses log) trail s.trail_is) in
      rw is (omega (arith, more, code-below (n + 2) trail, code-below (n + 2) (trail ++ e ∷ [])))

  sound : (index : ℕ) → index < length log → IsSoundAt clauses log index
  sound index lt = go (slice_get log index) refl
    where
      go : (o : Option Step) → slice_get log index ≡ o → IsSoundAt clauses log index
      go None e = absurd (apart (slice_get_inside log index lt) e)
        where
          apart : ((x : Step) × (slice_get log index ≡ Some x)) → slice_get log index ≡ None → ⊥
          apart (x, at) e = cc
      go (Some x) e = (x, e, (s.steps index x e).chain)

  -- the end with a model
  pub search-sat : (front : ℕ) (places : List Bool) → front ≤ n → AreInRange n clauses → IsSettled (standing clauses log) trail → IsNextVariable n trail None
      → TellsAll n trail places → IsLeast n front clauses places
  search-sat front places fits range settled next tells =
      least-model n front clauses (standing clauses log) trail places fits (λ c h. among-left clauses (map (λ s. s.clause) log) c h)
      (λ v t. standing-true v clauses log sound t) range s.trail_is settled (λ variable counts within. next variable counts (omega arith)) tells.len
      (tells-true n (standing clauses log) trail places s.trail_is search-consistent tells)
    where
      among-left : (cs ds : List (List Lit)) (c : List Lit) → Has cs c → Has (cs ++ ds) c
      among-left [] ds c h = absurd h
      among-left (d ∷ cs) ds c (inl h) = inl h
      among-left (d ∷ cs) ds c (inr h) = inr (among-left cs ds c h)

  pub search-careful : IsCareful clauses log
  search-careful = record {
    sound = sound;
    new = λ index x d at among contains. absurd ((s.steps index x at).new d among contains);
  }

  -- the end where the steps are spent
  pub search-spent : (limit : ℕ) → length log ≡ limit → IsSpent clauses log limit
  search-spent limit e = record {
    steps = e;
    careful = search-careful;
    nonempty = λ index x at none. go x none (s.steps index x at).some;
  }
    where
      go : (x : Step) → x.clause ≡ [] → ((l : Lit) × Has x.clause l) → ⊥
      go x none (l, h) = subst (λ (c : List Lit). Has c l) none h

  -- the log with one more step
  pub before-same : (y : Step) (i : ℕ) → i ≤ length log → standing_before clauses (log ++ y ∷ []) i ≡ standing_before clauses log i
  before-same y i h = ap (λ zs. clauses ++ map (λ s. s.clause) zs) (take-append-le i log (y ∷ []) h)

  pub before-all : standing_before clauses log (length log) ≡ standing clauses log
  before-all = ap (λ zs. clauses ++ map (λ s. s.clause) zs) (take-length log)

  -- the end with a refutation
  module _ (y : Step) (h : IsEmptyStep (standing clauses log) y) where
    at-end : chain_resolvent (standing_before clauses (log ++ y ∷ []) (length log)) y.chain ≡ Some y.clause
    at-end = subst (λ (cs : List (List Lit)). chain_resolvent cs y.chain ≡ Some y.clause) (sym (before-same y (length log) (omega arith) ∙ before-all)) h.chain

    sound-more : (index : ℕ) → index < length (log ++ y ∷ []) → IsSoundAt clauses (log ++ y ∷ []) index
    sound-more index lt = elim (cases_eq index (length log)) [
      | inl e ↦ subst (λ (k : ℕ). IsSoundAt clauses (log ++ y ∷ []) k) (sym e) (y, get-last log y, at-end)
      | inr e ↦ go (sound index (omega (arith, e, length-append log (y ∷ []))))
    ]
      where
        go : IsSoundAt clauses log index → IsSoundAt clauses (log ++ y ∷ []) index
        go (x, at, chain) =
            let lt' = slice_get_within log index x at in
            (x, get-kept log y x index at, subst (λ (cs : List (List Lit)). chain_resolvent cs x.chain ≡ Some x.clause) (sym (before-same y index (omega arith))) chain)

    pub search-refutes : Refutes clauses (log ++ y ∷ [])
    search-refutes = record {
      sound = sound-more;
      empty =
          let e : length (log ++ y ∷ []) - 1 ≡ length log = omega (arith, length-append log (y ∷ [])) in
          (y, rw e (get-last log y), h.empty);
    }

    pub search-careful-more : IsCareful clauses (log ++ y ∷ [])
    search-careful-more = record {
      sound = sound-more;
      new = λ index x d at among contains. elim (cases_eq index (length log)) [
        | inl e ↦ let same = get-late log y x index e at in ap (λ (z : Step). z.clause) (sym same) ∙ h.empty
        | inr e ↦
            let lt : index < length log = omega (arith, e, slice_get_within (log ++ y ∷ []) index x at, length-append log (y ∷ [])) in
            absurd ((s.steps index x (get-early log y x index lt at)).new d
            (subst (λ (cs : List (List Lit)). Has cs d) (before-same y index (omega arith)) among) contains)
      ];
    }
