-- The first look keeps what holds before any decision.
use Rattle.watch_solver.proofs.Common.{ℕ, ◌≡◌, ◌<◌, ◌≤◌, ◌+◌, ◌*◌, ◌++◌, inl, inr, List, [], ◌∷◌, Some, slice_get, get_or, take, length, arith, sym, ap, subst, refl, ◌∙◌, cases_eq, take_more, slice_get_within, get_or_from_slice_get, Has, clause_numbered, Lit, IsClause, opposite_of, Entry, AllFalse, IsFalse, Stands, IsFalseAt, IsUnitAt, AreInRange, standing, among-numbered, get-early, get-late, length-push, stands-left, stands-right, search-unit, unassigned-from, Code, Watch, Pair, index_of, lit_of, AreLinked, IsPair, with_watch, IsStarted, IsUndecided}
use Rattle.watch_solver.proofs.Codes.{index-below}
use Rattle.watch_solver.proofs.Linking.{linked-added, linked-empty, linked-none}
use Rattle.watch_solver.proofs.Keeping.{kept-added, kept-later, numbered-get}

append-nil : (cs : List (List Lit)) → cs ++ [] ≡ cs
append-nil [] = refl
append-nil (c ∷ cs) = ap (λ ds. c ∷ ds) (append-nil cs)

pub standing-none : (clauses : List (List Lit)) → standing clauses [] ≡ clauses
standing-none clauses = append-nil clauses

pub started-none : (n : ℕ) (clauses : List (List Lit)) (pairs : List Pair) (lists : List (List Watch)) (trail : List Entry) → AreInRange n clauses → trail ≡ [] → pairs ≡ []
    → length lists ≡ 2 * n + 2 → ((k : ℕ) (ws : List Watch) → slice_get lists k ≡ Some ws → ws ≡ []) → IsStarted n clauses 0 pairs lists trail
started-none n clauses pairs lists trail range none empty count all = record {
  undecided = record {
    search = record {
      trail_is = rw none tt;
      in_range = subst (λ (cs : List (List Lit)). AreInRange n cs) (sym (standing-none clauses)) range;
      steps = λ index s at. cc;
    };
    implied = λ i e low high at none'. let f : slice_get [] i ≡ Some e = subst (λ (es : List Entry). slice_get es i ≡ Some e) none at in cc;
  };
  linked = subst (λ (cs : List (List Lit)). AreLinked n cs pairs lists) (sym (take-none clauses)) (linked-empty n pairs lists empty count all);
  kept = λ i c p at there. let f : slice_get [] i ≡ Some p = subst (λ (ps : List Pair). slice_get ps i ≡ Some p) empty there in cc;
}
  where
    take-none : (cs : List (List Lit)) → take 0 cs ≡ []
    take-none [] = refl
    take-none (c ∷ cs) = refl

module _ (n : ℕ) (clauses : List (List Lit)) (index : ℕ) (pairs : List Pair) (lists : List (List Watch)) (trail : List Entry) (started : IsStarted n clauses index pairs lists trail)
    (c : List Lit) (at : slice_get clauses index ≡ Some c) where
  more : take (index + 1) clauses ≡ take index clauses ++ c ∷ []
  more = take_more clauses index c (slice_get_within clauses index c at) ∙ ap (λ (d : List Lit). take index clauses ++ d ∷ []) (get_or_from_slice_get clauses index c c at)

  at_number : clause_numbered (standing clauses []) (index + 1) ≡ Some c
  at_number = numbered-get (standing clauses []) index c (subst (λ (cs : List (List Lit)). slice_get cs index ≡ Some c) (sym (standing-none clauses)) at)

  pub started-range : (l : Lit) → Has c l → l.variable ≤ n
  started-range l has = (started.undecided.search.in_range c (among-numbered (standing clauses []) (index + 1) c at_number) l has).1

  pub started-room : (l : Lit) → Has c l → index_of l < length lists
  started-room l has = omega (arith, index-below l n (started-range l has), started.linked.room)

  pub started-false : AllFalse trail c → IsUndecided n clauses trail × IsFalseAt (standing clauses []) trail (index + 1)
  started-false all = (started.undecided, record { clause = c; at = at_number; all = all })

  -- a true unit clause
  module _ (only : Lit) (is : c ≡ only ∷ []) (code : Code) (pairs' : List Pair) (lists' : List (List Watch)) (is_pairs : pairs' ≡ pairs ++ record { first = code; second = code } ∷ []) (is_lists : lists' ≡ lists) where
    has_only : Has c only
    has_only = subst (λ (d : List Lit). Has d only) (sym is) (inl refl)

    true-kept : (trail' : List Entry) → IsUndecided n clauses trail' → ((l : Lit) → Stands trail l → Stands trail' l) → Stands trail' only → IsStarted n clauses (index + 1) pairs' lists' trail'
    true-kept trail' undecided grows here = record {
      undecided = undecided;
      linked = rw (is_pairs, is_lists, more) (linked-none n (take index clauses) pairs lists started.linked c (record { first = code; second = code }) refl);
      kept = rw (is_pairs, more) (kept-added (take index clauses) pairs c (record { first = code; second = code }) [] trail' started.linked.count
          (λ i d p there pair_at. kept-later [] trail trail' grows d p (started.kept i d p there pair_at)) (inl (only, has_only, here)));
    }

    pub started-true : Stands trail only → IsStarted n clauses (index + 1) pairs' lists' trail
    started-true here = true-kept trail started.undecided (λ l s. s) here

    -- one that isn't assigned
    pub started-unit : (trail' : List Entry) → (Stands trail only → ⊥) → (Stands trail (opposite_of only) → ⊥) → trail' ≡ trail ++ record { literal = only; reason = index + 1 } ∷ []
        → IsStarted n clauses (index + 1) pairs' lists' trail'
    started-unit trail' a b grown = true-kept trail'
        (record {
          search = search-unit n clauses [] trail started.undecided.search (index + 1) only trail' unit grown;
          implied = λ i e low high there none. implied i e (rw grown at there) none;
        })
        (λ l s. subst (λ (es : List Entry). Stands es l) (sym grown) (stands-left trail (record { literal = only; reason = index + 1 } ∷ []) l s))
        (subst (λ (es : List Entry). Stands es only) (sym grown) (stands-right trail (record { literal = only; reason = index + 1 } ∷ []) only (inl refl)))
      where
        only-has : (l : Lit) → Has c l → l ≡ only
        only-has l has = elim (subst (λ (d : List Lit). Has d l) is has) [ inl e ↦ sym e | inr h ↦ absurd h ]

        unit : IsUnitAt (standing clauses []) trail (index + 1) only
        unit = record { clause = c; at = at_number; unit = record { has = has_only; others = λ l has. inl (only-has l has); free = unassigned-from trail only a b } }

        implied : (i : ℕ) (e : Entry) → slice_get (trail ++ record { literal = only; reason = index + 1 } ∷ []) i ≡ Some e → e.reason ≡ 0 → ⊥
        implied i e there none = elim (cases_eq i (length trail)) [
          | inl g ↦ omega (arith, ap (λ (x : Entry). x.reason) (get-late trail (record { literal = only; reason = index + 1 }) e i g there) ∙ none)
          | inr ne ↦
              let lt : i < length trail = omega (arith, ne, length-push trail (record { literal = only; reason = index + 1 }), slice_get_within (trail ++ record { literal = only; reason = index + 1 } ∷ []) i e there) in
              started.undecided.implied i e (omega arith) lt (get-early trail (record { literal = only; reason = index + 1 }) e i lt there) none
        ]

  -- two literals are watched
  pub started-pair : (p : Pair) (pairs' : List Pair) (lists' : List (List Watch)) → IsPair c p → pairs' ≡ pairs ++ p ∷ []
      → lists' ≡ with_watch (with_watch lists (lit_of p.first) (record { clause = length pairs; blocker = p.second })) (lit_of p.second) (record { clause = length pairs; blocker = p.first })
      → IsStarted n clauses (index + 1) pairs' lists' trail
  started-pair p pairs' lists' is is_pairs is_lists = record {
    undecided = started.undecided;
    linked = rw (is_pairs, is_lists, more) (linked-added n (take index clauses) pairs lists started.linked c p is (started-room (lit_of p.first) is.first) (started-room (lit_of p.second) is.second)
        (record { clause = length pairs; blocker = p.second }) (record { clause = length pairs; blocker = p.first }) refl refl refl refl);
    kept = rw (is_pairs, more) (kept-added (take index clauses) pairs c p [] trail started.linked.count started.kept (inr (record { pair = is; first = λ h. h; second = λ h. h })));
  }

-- the first two literals of a clause differ
pub first-two : (a b : Lit) (rest : List Lit) (c : List Lit) (p : Pair) → IsClause c → c ≡ a ∷ b ∷ rest → lit_of p.first ≡ a → lit_of p.second ≡ b → IsPair c p
first-two a b rest c p clause is ea eb = record {
  first = rw (ea, is) (inl refl);
  second = rw (eb, is) (inr (inl refl));
  apart = λ e. let rises = subst (λ (d : List Lit). IsClause d) is clause in omega (arith, rises.1.0, ap (λ (l : Lit). l.variable) (sym ea ∙ (e ∙ eb)));
}

-- the literals of a clause of one, and the first ones of a longer one
pub only-of : (c ls : List Lit) (d : Lit) → ls ≡ c → 0 < length ls → length ls < 2 → c ≡ get_or ls 0 d ∷ []
only-of c [] d e least most = absurd (omega arith)
only-of c (a ∷ []) d e least most = sym e
only-of c (a ∷ b ∷ ls) d e least most = absurd (omega arith)

pub two-of : (c ls : List Lit) (d : Lit) → ls ≡ c → 1 < length ls → (rest : List Lit) × (c ≡ get_or ls 0 d ∷ get_or ls 1 d ∷ rest)
two-of c [] d e least = absurd (omega arith)
two-of c (a ∷ []) d e least = absurd (omega arith)
two-of c (a ∷ b ∷ ls) d e least = (ls, sym e)

pub false-only : (trail : List Entry) (c : List Lit) (only : Lit) → c ≡ only ∷ [] → Stands trail (opposite_of only) → AllFalse trail c
false-only trail c only is here l has = elim (subst (λ (d : List Lit). Has d l) is has) [
  | inl e ↦ subst (λ (x : Lit). IsFalse trail x) e here
  | inr h ↦ absurd h
]
