-- A learned clause is watched by its asserting literal and another one, which is false at no decision gone back to.
use Rattle.watch_solver.proofs.Common.{append_assoc, ℕ, zero, suc, ◌≡◌, ◌<◌, ◌≤◌, ◌+◌, ◌*◌, ◌++◌, inl, inr, List, [], ◌∷◌, Option, Some, None, Result, Ok, Err, OnOk, slice_get, unwrap_or, take, length, map, arith, sym, ap, subst, refl, ◌∙◌, take-append-le, slice_get_within, Has, Step, Lit, opposite_of, Entry, Learned, standing, FalseBut, IsFalse, IsTrail, IsUnassigned, IsUnready, Stands, stands-take, trail-take, in_range, get-take, get-taken, stands-left, stands-right, Code, Watch, Pair, lit_of, IsFree, AreKept, AreKeptBack, AreLinked, IsKept, IsPair, with_watch, IsAdded, IsRoomy, IsWatched}
use Rattle.clause_search.specs.Assigning.{IsLastBelow}
use Rattle.clause_search.specs.Learning.{IsDecisionAt, IsLearned}
use Rattle.watch_solver.proofs.Codes.{index-below}
use Rattle.watch_solver.proofs.Linking.{linked-added, linked-none}
use Rattle.watch_solver.proofs.Keeping.{back-implied, kept-added, kept-later}

map-push : (log : List Step) (y : Step) → map (λ s. s.clause) (log ++ y ∷ []) ≡ map (λ s. s.clause) log ++ y.clause ∷ []
map-push [] y = refl
map-push (x ∷ xs) y = ap (λ zs. x.clause ∷ zs) (map-push xs y)

pub standing-push : (clauses : List (List Lit)) (log : List Step) (y : Step) → standing clauses (log ++ y ∷ []) ≡ standing clauses log ++ y.clause ∷ []
standing-push clauses log y = ap (λ zs. clauses ++ zs) (map-push log y) ∙ sym (append_assoc clauses (map (λ s. s.clause) log) (y.clause ∷ []))

-- at a decision a clause that is unready isn't unit
unready-get : (c : List Lit) (k : Lit) (before es : List Entry) (i : ℕ) (e : Entry) → IsUnready c k before es → slice_get es i ≡ Some e → e.reason ≡ 0 → FalseBut (before ++ take i es) c k → ⊥
unready-get c k before [] i e h at none but = absurd (nothing at)
  where
    nothing : slice_get [] i ≡ Some e → ⊥
    nothing f = cc
unready-get c k before (d ∷ es) zero e h at none but =
    let same : d ≡ e = cc in
    h.0 (ap (λ (x : Entry). x.reason) same ∙ none) (subst (λ (x : List Entry). FalseBut x c k) (nil before) but)
  where
    nil : (xs : List Entry) → xs ++ [] ≡ xs
    nil [] = refl
    nil (x ∷ xs) = ap (λ zs. x ∷ zs) (nil xs)
unready-get c k before (d ∷ es) (suc i) e h at none but =
    unready-get c k (before ++ d ∷ []) es i e h.1 at none (subst (λ (x : List Entry). FalseBut x c k) (sym (append_assoc before (d ∷ []) (take i es))) but)

take-take : (es : List Entry) (i n : ℕ) → i ≤ n → take i (take n es) ≡ take i es
take-take es zero n h = start es n
  where
    start : (xs : List Entry) (m : ℕ) → take 0 (take m xs) ≡ take 0 xs
    start [] zero = refl
    start [] (suc m) = refl
    start (x ∷ xs) zero = refl
    start (x ∷ xs) (suc m) = refl
take-take [] (suc i) zero h = absurd (omega arith)
take-take [] (suc i) (suc n) h = refl
take-take (x ∷ xs) (suc i) zero h = absurd (omega arith)
take-take (x ∷ xs) (suc i) (suc n) h = ap (λ zs. x ∷ zs) (take-take xs i n (omega arith))

module _ (trail : List Entry) (c : List Lit) (k : Lit) (place : ℕ) (has : Has c k) (fresh : IsUnassigned (take place trail) k.variable) where
  module _ (last : Option ℕ) (below : IsLastBelow trail last place) where
    -- each decision before the position is no later than the last of them
    before-last : (d : ℕ) → d < place → IsDecisionAt trail d → d ≤ unwrap_or last 0
    before-last d lt (x, at, none) = go last below
      where
        go : (o : Option ℕ) → IsLastBelow trail o place → d ≤ unwrap_or o 0
        go None h = absurd (h d x (omega arith) lt at none)
        go (Some p) h = order d p (λ less. h.2 d x (omega (arith, less)) lt at none)
          where
            order : (a b : ℕ) → (b < a → ⊥) → a ≤ b
            order zero b f = omega arith
            order (suc a) zero f = absurd (f (omega arith))
            order (suc a) (suc b) f = omega (arith, order a b (λ g. f (omega (arith, g))))

    pub learned-pair : (b : Lit) (new : Pair) → lit_of new.first ≡ k → lit_of new.second ≡ b → IsFree (take (unwrap_or last 0) trail) c k (Some b) → IsPair c new
    learned-pair b new e1 e2 h = record {
      first = subst (λ (l : Lit). Has c l) (sym e1) has;
      second = subst (λ (l : Lit). Has c l) (sym e2) h.0;
      apart = λ g. h.1 (sym e2 ∙ (sym g ∙ e1));
    }

    pub learned-free : (b : Lit) (new : Pair) → lit_of new.first ≡ k → lit_of new.second ≡ b → IsFree (take (unwrap_or last 0) trail) c k (Some b)
        → (d : ℕ) → d < place → IsDecisionAt trail d → IsKept (take d trail) (take d trail) c new
    learned-free b new e1 e2 h d lt there = inr (record {
      pair = learned-pair b new e1 e2 h;
      first = λ f. fresh (opposite_of (lit_of new.first)) (stands-take trail d place (opposite_of (lit_of new.first)) (omega arith) f) (ap (λ (l : Lit). l.variable) e1);
      second = λ f. h.2 (stands-take trail d (unwrap_or last 0) (opposite_of b) (before-last d lt there) (subst (λ (l : Lit). IsFalse (take d trail) l) e2 f));
    })

    -- where each other literal is false at the last decision there is none
    pub learned-none : IsUnready c k [] (take place trail) → FalseBut (take (unwrap_or last 0) trail) c k → (d : ℕ) → d < place → IsDecisionAt trail d → ⊥
    learned-none unready but d lt (x, at, none) = go last below but
      where
        go : (o : Option ℕ) → IsLastBelow trail o place → FalseBut (take (unwrap_or o 0) trail) c k → ⊥
        go None h f = h d x (omega arith) lt at none
        go (Some p) h f = there h.1
          where
            there : IsDecisionAt trail p → ⊥
            there (y, y_at, y_none) =
                unready-get c k [] (take place trail) p y unready (get-take trail place p y h.0 y_at) y_none
                (subst (λ (es : List Entry). FalseBut es c k) (sym (take-take trail p place (omega (arith, h.0)))) f)

module _ (all : List (List Lit)) (pairs : List Pair) (trail : List Entry) (c : List Lit) (k : Lit) (place : ℕ) (decision : IsDecisionAt trail place)
    (count : length pairs ≡ length all) (back : AreKeptBack all pairs trail) (has : Has c k) (fresh : IsUnassigned (take place trail) k.variable)
    (e : Entry) (literal_is : e.literal ≡ k) (implied : e.reason ≡ 0 → ⊥) (trail' : List Entry) (is : trail' ≡ take place trail ++ e ∷ []) where
  here : Stands trail' k
  here = subst (λ (es : List Entry). Stands es k) (sym is) (stands-right (take place trail) (e ∷ []) k (inl literal_is))

  within : place ≤ length (take place trail)
  within = go decision
    where
      long : (es : List Entry) (n : ℕ) → n ≤ length es → n ≤ length (take n es)
      long es zero h = omega arith
      long [] (suc n) h = absurd (omega arith)
      long (x ∷ xs) (suc n) h = omega (arith, long xs n (omega arith))

      go : IsDecisionAt trail place → place ≤ length (take place trail)
      go (x, at, none) = long trail place (omega (arith, slice_get_within trail place x at))

  -- where the clause is kept by its pair at each decision that stays
  module _ (new : Pair) (free : (d : ℕ) → d < place → IsDecisionAt trail d → IsKept (take d trail) (take d trail) c new) where
    back-kept : AreKeptBack (all ++ c ∷ []) (pairs ++ new ∷ []) (take place trail)
    back-kept d (x, at, none) =
        let early = get-taken trail place d x at in
        let same : take d (take place trail) ≡ take d trail = take-take trail d place (omega (arith, early.0)) in
        subst (λ (es : List Entry). AreKept (all ++ c ∷ []) (pairs ++ new ∷ []) es es) (sym same)
        (kept-added all pairs c new (take d trail) (take d trail) count (back d (x, early.1, none)) (free d early.0 (x, early.1, none)))

    pub learned-back : AreKeptBack (all ++ c ∷ []) (pairs ++ new ∷ []) trail'
    learned-back = rw is (back-implied (all ++ c ∷ []) (pairs ++ new ∷ []) (take place trail) e implied back-kept)

    pub learned-kept : AreKept (all ++ c ∷ []) (pairs ++ new ∷ []) (take place trail') trail'
    learned-kept =
        let front : take place trail' ≡ take place trail =
        ap (λ es. take place es) is ∙ (take-append-le place (take place trail) (e ∷ []) within ∙ take-take trail place place (omega arith)) in
        rw front (kept-added all pairs c new (take place trail) trail' count
        (λ n d p at there. kept-later (take place trail) (take place trail) trail' (λ l s. subst (λ (es : List Entry). Stands es l) (sym is) (stands-left (take place trail) (e ∷ []) l s)) d p (back place decision n d p at there))
        (inl (k, has, here)))

-- what two clauses of one call show
pub on-both : {X E : Type 0} (r : Result X E) (A B C : Type 0) → (A → B → C) → OnOk r A → OnOk r B → OnOk r C
on-both (Ok x) A B C f a b = f a b
on-both (Err e) A B C f a b = tt

-- what the calls that add a pair, or none, show
module _ (trail : List Entry) (c : List Lit) (k : Lit) (place : ℕ) (has : Has c k) (fresh : IsUnassigned (take place trail) k.variable)
    (last : Option ℕ) (below : IsLastBelow trail last place) (m : ℕ) (m_is : m ≡ unwrap_or last 0) (pairs pairs' : List Pair) (lists lists' : List (List Watch)) where
  module _ (b : Lit) (first second : Code) (first_is : lit_of first ≡ k) (second_is : lit_of second ≡ b) (free : IsFree (take m trail) c k (Some b)) where
    free' : IsFree (take (unwrap_or last 0) trail) c k (Some b)
    free' = subst (λ (i : ℕ). IsFree (take i trail) c k (Some b)) m_is free

    pub pair-linked : IsRoomy lists c
        → lists' ≡ with_watch (with_watch lists (lit_of first) (record { clause = length pairs; blocker = second })) (lit_of second) (record { clause = length pairs; blocker = first })
        → pairs' ≡ pairs ++ record { first = first; second = second } ∷ []
        → (n : ℕ) (all : List (List Lit)) → AreLinked n all pairs lists → AreLinked n (all ++ c ∷ []) pairs' lists'
    pair-linked roomy is_lists is_pairs n all linked =
        let is = learned-pair trail c k place has fresh last below b (record { first = first; second = second }) first_is second_is free' in
        rw (is_lists, is_pairs) (linked-added n all pairs lists linked c (record { first = first; second = second }) is (roomy.listed (lit_of first) is.first) (roomy.listed (lit_of second) is.second)
        (record { clause = length pairs; blocker = second }) (record { clause = length pairs; blocker = first }) refl refl refl refl)

    pub pair-added : pairs' ≡ pairs ++ record { first = first; second = second } ∷ [] → IsAdded trail place c pairs pairs'
    pair-added is_pairs = record {
      pair = record { first = first; second = second };
      pairs = is_pairs;
      kept = learned-free trail c k place has fresh last below b (record { first = first; second = second }) first_is second_is free';
    }

  pub none-linked : (code : Code) → lists' ≡ lists → pairs' ≡ pairs ++ record { first = code; second = code } ∷ []
      → (n : ℕ) (all : List (List Lit)) → AreLinked n all pairs lists → AreLinked n (all ++ c ∷ []) pairs' lists'
  none-linked code is_lists is_pairs n all linked = rw (is_lists, is_pairs) (linked-none n all pairs lists linked c (record { first = code; second = code }) refl)

  pub none-added : (code : Code) → IsUnready c k [] (take place trail) → FalseBut (take m trail) c k → pairs' ≡ pairs ++ record { first = code; second = code } ∷ [] → IsAdded trail place c pairs pairs'
  none-added code unready but is_pairs = record {
    pair = record { first = code; second = code };
    pairs = is_pairs;
    kept = λ d lt there. absurd (learned-none trail c k place has fresh last below unready (subst (λ (i : ℕ). FalseBut (take i trail) c k) m_is but) d lt there);
  }

-- the learned clause has variables in range
pub learned-range : (n : ℕ) (clauses : List (List Lit)) (trail : List Entry) (low : ℕ) (learned : Learned) → IsTrail n clauses [] trail → IsLearned n clauses trail low learned
    → (l : Lit) → Has learned.clause l → l.variable ≤ n
learned-range n clauses trail low learned h is l has = elim (is.unit l has) [
  | inl e ↦ omega (arith, is.within, ap (λ (x : Lit). x.variable) e)
  | inr f ↦ (in_range n clauses [] (take low trail) (opposite_of l) (trail-take n clauses trail low h) f).1
]

pub learned-roomy : (n : ℕ) (lists : List (List Watch)) (c : List Lit) → n < 2147483648 → 2 * n + 2 ≤ length lists → ((l : Lit) → Has c l → l.variable ≤ n) → IsRoomy lists c
learned-roomy n lists c few room range = record {
  coded = λ l has. omega (arith, range l has);
  listed = λ l has. omega (arith, index-below l n (range l has), room);
}

-- all that holds after the clause was added
module _ (n : ℕ) (clauses : List (List Lit)) (log log' : List Step) (y : Step) (log_is : log' ≡ log ++ y ∷ []) (trail trail' : List Entry) (k : Lit) (place : ℕ)
    (decision : IsDecisionAt trail place) (has : Has y.clause k) (fresh : IsUnassigned (take place trail) k.variable) (e : Entry) (literal_is : e.literal ≡ k) (implied : e.reason ≡ 0 → ⊥)
    (is : trail' ≡ take place trail ++ e ∷ []) (pairs pairs' : List Pair) (lists lists' : List (List Watch)) (watched : IsWatched n (standing clauses log) pairs lists trail)
    (added : IsAdded trail place y.clause pairs pairs') where
  whole : standing clauses log' ≡ standing clauses log ++ y.clause ∷ []
  whole = ap (λ zs. standing clauses zs) log_is ∙ standing-push clauses log y

  pub learned-watched : AreLinked n (standing clauses log ++ y.clause ∷ []) pairs' lists' → IsWatched n (standing clauses log') pairs' lists' trail'
  learned-watched linked = record {
    linked = rw whole linked;
    back = rw (whole, added.pairs) (learned-back (standing clauses log) pairs trail y.clause k place decision watched.linked.count watched.back has fresh e literal_is implied trail' is added.pair added.kept);
  }

  pub learned-done : AreKept (standing clauses log') pairs' (take place trail') trail'
  learned-done = rw (whole, added.pairs) (learned-kept (standing clauses log) pairs trail y.clause k place decision watched.linked.count watched.back has fresh e literal_is implied trail' is added.pair added.kept)
