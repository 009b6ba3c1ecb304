-- Where all is propagated the search decides, or ends with a model.
use Rattle.watch_solver.proofs.Common.{ℕ, ◌≡◌, ◌++◌, List, [], ◌∷◌, None, take, length, arith, sym, ap, subst, refl, ◌∙◌, take-append-le, take_all, slice_get_within, Step, Lit, Entry, IsSettled, Stands, IsSearch, standing, stands-left, search-consistent, Watch, Pair, AreKept, AreLinked, IsStart, IsWatched}
use Rattle.watch_solver.specs.declared.start.Start.{Start}
use Rattle.watch_solver.proofs.Keeping.{back-decided, kept-later, kept-settled}

-- the start with no conflict
module _ (n : ℕ) (clauses : List (List Lit)) (s : Start) (start : IsStart n clauses s) (none : s.conflict ≡ None) where
  looked : AreLinked n (standing clauses []) s.watches.pairs.items s.watches.lists.items × AreKept (standing clauses []) s.watches.pairs.items [] s.trail
  looked = rw none at start.found

  pub start-watched : IsWatched n (standing clauses []) s.watches.pairs.items s.watches.lists.items s.trail
  start-watched = record {
    linked = looked.0;
    back = λ place (e, at, is) q c p here there. absurd (start.undecided.implied place e (omega arith) (slice_get_within s.trail place e at) at is);
  }

  pub start-kept : AreKept (standing clauses []) s.watches.pairs.items (take 0 s.trail) s.trail
  start-kept = subst (λ (es : List Entry). AreKept (standing clauses []) s.watches.pairs.items es s.trail) (sym (take-none s.trail)) looked.1
    where
      take-none : (es : List Entry) → take 0 es ≡ []
      take-none [] = refl
      take-none (e ∷ es) = refl

module _ (n : ℕ) (clauses : List (List Lit)) (log : List Step) (trail : List Entry) (pairs : List Pair) (lists : List (List Watch)) (watched : IsWatched n (standing clauses log) pairs lists trail)
    (kept : AreKept (standing clauses log) pairs (take (length trail) trail) trail) where
  whole : AreKept (standing clauses log) pairs trail trail
  whole = subst (λ (es : List Entry). AreKept (standing clauses log) pairs es trail) (take_all (length trail) trail (omega arith)) kept

  pub propagated-settled : IsSearch n clauses log trail → IsSettled (standing clauses log) trail
  propagated-settled s = kept-settled (standing clauses log) pairs trail (search-consistent n clauses log trail s) watched.linked.count whole

  module _ (e : Entry) (trail' : List Entry) (is : trail' ≡ trail ++ e ∷ []) where
    pub decided-watched : IsWatched n (standing clauses log) pairs lists trail'
    decided-watched = record { linked = watched.linked; back = rw is (back-decided (standing clauses log) pairs trail e whole watched.back) }

    pub decided-kept : (m : ℕ) → m ≡ length trail → AreKept (standing clauses log) pairs (take m trail') trail'
    decided-kept m m_is =
        let front : take m trail' ≡ trail = ap (λ es. take m es) is ∙ (take-append-le m trail (e ∷ []) (omega (arith, m_is)) ∙ take_all m trail (omega (arith, m_is))) in
        rw front (λ q c p here there. kept-later trail trail trail' (λ l s. subst (λ (es : List Entry). Stands es l) (sym is) (stands-left trail (e ∷ []) l s)) c p (whole q c p here there))
