-- Each look keeps what holds all along the walk.
use Rattle.watch_solver.proofs.Common.{ℕ, zero, suc, ◌≡◌, ◌<◌, ◌≤◌, ◌+◌, ◌++◌, inl, inr, List, [], ◌∷◌, Some, None, slice_get, take, length, arith, sym, ap, subst, refl, ◌∙◌, set, length-set, swap_remove, slice_get_within, Has, Step, opposite-opposite, Lit, opposite_of, Entry, IsFalse, Stands, IsUnitAt, IsSearch, standing, get-kept, in_range, search-unit, Code, Watch, Pair, index_of, lit_of, AreKept, IsWatch, list_of, with_list, with_watch, IsMove, IsOneOf, IsTrueBy, IsWalk, IsWatched}
use Rattle.clause_search.proofs.Placing.{somewhere-stands}
use Rattle.watch_solver.proofs.Codes.{index-below}
use Rattle.watch_solver.proofs.Lists.{get-set_same, length-removed, list-other, list-room, list-same}
use Rattle.watch_solver.proofs.Linking.{linked-moved, linked-removed, linked-set}
use Rattle.watch_solver.proofs.Keeping.{back-implied, back-moved}
use Rattle.watch_solver.proofs.Visiting.{visited-elsewhere, visited-end, visited-moved, visited-start, visited-true, visited-unit}

-- the literal that the entry made false
pub falsified-range : (n : ℕ) (clauses : List (List Lit)) (log : List Step) (trail : List Entry) (done : ℕ) (e : Entry) → IsSearch n clauses log trail → slice_get trail done ≡ Some e → e.literal.variable ≤ n
falsified-range n clauses log trail done e s at = (in_range n (standing clauses log) [] trail e.literal s.trail_is (somewhere-stands trail done e at)).1

pub walk-start : (n : ℕ) (clauses : List (List Lit)) (log : List Step) (pairs : List Pair) (lists : List (List Watch)) (trail : List Entry) (done : ℕ) (f : Lit) (e : Entry)
    → IsSearch n clauses log trail → IsWatched n (standing clauses log) pairs lists trail → AreKept (standing clauses log) pairs (take done trail) trail
    → slice_get trail done ≡ Some e → f ≡ opposite_of e.literal → IsWalk n clauses log pairs lists trail done f 0
walk-start n clauses log pairs lists trail done f e s watched kept at is = record {
  search = s;
  watched = watched;
  visited = visited-start (standing clauses log) pairs trail done e at f is n lists watched.linked kept;
  falsified_is = record { entry = e; at = at; is = is };
}

module _ (n : ℕ) (clauses : List (List Lit)) (log : List Step) (pairs : List Pair) (lists : List (List Watch)) (trail : List Entry) (done : ℕ) (f : Lit) (place : ℕ)
    (walk : IsWalk n clauses log pairs lists trail done f place) where
  abbrev all : List (List Lit)
  all = standing clauses log

  pub walk-within : done < length trail
  walk-within = slice_get_within trail done walk.falsified_is.entry walk.falsified_is.at

  pub walk-false : IsFalse trail f
  walk-false =
      let here = somewhere-stands trail done walk.falsified_is.entry walk.falsified_is.at in
      subst (λ (l : Lit). Stands trail l) (sym (ap opposite_of walk.falsified_is.is ∙ opposite-opposite walk.falsified_is.entry.literal)) here

  pub walk-end : slice_get (list_of lists f) place ≡ None → AreKept all pairs (take (done + 1) trail) trail
  walk-end none = visited-end all pairs trail done walk.falsified_is.entry walk.falsified_is.at f walk.falsified_is.is (list_of lists f) place none walk.visited

  module _ (w : Watch) (at : slice_get (list_of lists f) place ≡ Some w) where
    pub walk-watch : IsWatch all pairs w
    walk-watch = walk.watched.linked.watches f place w at

    pub walk-clause : w.clause < length pairs
    walk-clause = slice_get_within pairs w.clause walk-watch.pair walk-watch.pair_at

    pub walk-place : place < length (list_of lists f)
    walk-place = slice_get_within (list_of lists f) place w at

    room : index_of f < length lists
    room = list-room lists f place w at

    -- a true clause
    module _ (code : Code) (lists' : List (List Watch)) (pairs' : List Pair) (is : lists' ≡ with_list lists f (set (list_of lists f) place (record { clause = w.clause; blocker = code })))
        (same : pairs' ≡ pairs) where
      list_true : list_of lists' f ≡ set (list_of lists f) place (record { clause = w.clause; blocker = code })
      list_true = ap (λ ls. list_of ls f) is ∙ list-same lists f (set (list_of lists f) place (record { clause = w.clause; blocker = code })) room

      pub length-true : length (list_of lists' f) ≡ length (list_of lists f)
      length-true = ap length list_true ∙ length-set (list_of lists f) place (record { clause = w.clause; blocker = code })

      pub walk-true : IsTrueBy all trail w.clause (lit_of code) → IsWalk n clauses log pairs' lists' trail done f (place + 1)
      walk-true true_by = record {
        search = walk.search;
        watched = record {
          linked = rw (same, is) (linked-set n all pairs lists walk.watched.linked f place w (record { clause = w.clause; blocker = code }) at refl blocked);
          back = rw same walk.watched.back;
        };
        visited = rw (same, list_true) (visited-true all pairs trail done walk.falsified_is.entry walk.falsified_is.at f walk.falsified_is.is (list_of lists f) place w at walk.visited
            (record { clause = w.clause; blocker = code }) (lit_of code) refl true_by);
        falsified_is = walk.falsified_is;
      }
        where
          blocked : IsWatch all pairs (record { clause = w.clause; blocker = code })
          blocked =
              let here = walk-watch.at in
              let there = true_by.at in
              let alike : true_by.clause ≡ walk-watch.clause = cc in
              record {
                clause = walk-watch.clause;
                pair = walk-watch.pair;
                at = walk-watch.at;
                pair_at = walk-watch.pair_at;
                is = walk-watch.is;
                blocker = subst (λ (c : List Lit). Has c (lit_of code)) alike true_by.has;
              }

    -- a clause that doesn't watch the literal
    module _ (d : Watch) (lists' : List (List Watch)) (pairs' : List Pair) (is : lists' ≡ with_list lists f (swap_remove (list_of lists f) place d)) (same : pairs' ≡ pairs) where
      list_elsewhere : list_of lists' f ≡ swap_remove (list_of lists f) place d
      list_elsewhere = ap (λ ls. list_of ls f) is ∙ list-same lists f (swap_remove (list_of lists f) place d) room

      pub length-elsewhere : length (list_of lists' f) + 1 ≡ length (list_of lists f)
      length-elsewhere = ap (λ ws. length ws + 1) list_elsewhere ∙ length-removed (list_of lists f) place d walk-place

      pub walk-elsewhere : ((p : Pair) → slice_get pairs w.clause ≡ Some p → IsOneOf p f → ⊥) → IsWalk n clauses log pairs' lists' trail done f place
      walk-elsewhere none = record {
        search = walk.search;
        watched = record { linked = rw (same, is) (linked-removed n all pairs lists walk.watched.linked f place w d at none); back = rw same walk.watched.back };
        visited = rw (same, list_elsewhere) (visited-elsewhere all pairs trail done walk.falsified_is.entry walk.falsified_is.at f walk.falsified_is.is (list_of lists f) place w at walk.visited d none);
        falsified_is = walk.falsified_is;
      }

    -- a unit clause
    pub walk-unit : (k : Lit) (trail' : List Entry) → IsUnitAt all trail (w.clause + 1) k → trail' ≡ trail ++ record { literal = k; reason = w.clause + 1 } ∷ []
        → IsWalk n clauses log pairs lists trail' done f (place + 1)
    walk-unit k trail' unit is = record {
      search = search-unit n clauses log trail walk.search (w.clause + 1) k trail' unit is;
      watched = record {
        linked = walk.watched.linked;
        back = rw is (back-implied all pairs trail (record { literal = k; reason = w.clause + 1 }) (λ z. omega (arith, z)) walk.watched.back);
      };
      visited = visited-unit all pairs trail done walk.falsified_is.entry walk.falsified_is.at f walk.falsified_is.is (list_of lists f) place w at walk.visited k trail' is unit;
      falsified_is = record {
        entry = walk.falsified_is.entry;
        at = rw is (get-kept trail (record { literal = k; reason = w.clause + 1 }) walk.falsified_is.entry done walk.falsified_is.at);
        is = walk.falsified_is.is;
      };
    }

    -- a clause that watches another literal now
    module _ (new : Pair) (move : IsMove all pairs trail f w.clause new) where
      pub walk-room : index_of (lit_of new.first) < length lists
      walk-room =
          let range = walk.search.in_range move.clause (among all w.clause move.clause move.at) (lit_of new.first) move.is.first in
          omega (arith, index-below (lit_of new.first) n range.1, walk.watched.linked.room)
        where
          among : (cs : List (List Lit)) (i : ℕ) (c : List Lit) → slice_get cs i ≡ Some c → Has cs c
          among [] i c e = cc
          among (x ∷ xs) zero c e = inl (let alike : x ≡ c = cc in alike)
          among (x ∷ xs) (suc i) c e = inr (among xs i c e)

      apart : f ≡ lit_of new.first → ⊥
      apart e = move.free (subst (λ (l : Lit). IsFalse trail l) e walk-false)

      module _ (d : Watch) (lists1 lists2 : List (List Watch)) (pairs1 pairs2 : List Pair) (is1 : lists1 ≡ with_watch lists (lit_of new.first) (record { clause = w.clause; blocker = new.second }))
          (same1 : pairs1 ≡ set pairs w.clause new) where
        list_kept : list_of lists1 f ≡ list_of lists f
        list_kept =
            ap (λ ls. list_of ls f) is1
            ∙ list-other lists (lit_of new.first) f (list_of lists (lit_of new.first) ++ record { clause = w.clause; blocker = new.second } ∷ []) apart

        pub walk-place_kept : place < length (list_of lists1 f)
        walk-place_kept = omega (arith, walk-place, ap length list_kept)

        module _ (is2 : lists2 ≡ with_list lists1 f (swap_remove (list_of lists1 f) place d)) (same2 : pairs2 ≡ pairs1) where
          at1 : slice_get (list_of lists1 f) place ≡ Some w
          at1 = ap (λ ws. slice_get ws place) list_kept ∙ at

          list_moved : list_of lists2 f ≡ swap_remove (list_of lists f) place d
          list_moved =
              ap (λ ls. list_of ls f) is2
              ∙ (list-same lists1 f (swap_remove (list_of lists1 f) place d) (list-room lists1 f place w at1) ∙ ap (λ ws. swap_remove ws place d) list_kept)

          pub length-moved : length (list_of lists2 f) + 1 ≡ length (list_of lists f)
          length-moved = ap (λ ws. length ws + 1) list_moved ∙ length-removed (list_of lists f) place d walk-place

          none : (p : Pair) → slice_get (set pairs w.clause new) w.clause ≡ Some p → IsOneOf p f → ⊥
          none p there one =
              let here = get-set_same pairs w.clause new walk-clause in
              let alike : new ≡ p = cc in
              elim (subst (λ (x : Pair). IsOneOf x f) (sym alike) one) [ inl e ↦ apart (sym e) | inr e ↦ move.apart e ]

          pub walk-moved : IsWalk n clauses log pairs2 lists2 trail done f place
          walk-moved = record {
            search = walk.search;
            watched = record {
              linked =
                  let once = linked-moved n all pairs lists walk.watched.linked w.clause move.clause move.old new move.at move.old_at move.is old_apart move.other
                  (record { clause = w.clause; blocker = new.second }) refl refl walk-room in
                  rw (same2, same1, is2) (linked-removed n all (set pairs w.clause new) lists1 (rw is1 once) f place w d at1 none);
              back = rw (same2, same1) (back-moved all pairs trail f w.clause new move walk.watched.back);
            };
            visited = rw (same2, same1, list_moved) (visited-moved all pairs trail done walk.falsified_is.entry walk.falsified_is.at f walk.falsified_is.is (list_of lists f) place w at walk.visited d new move);
            falsified_is = walk.falsified_is;
          }
            where
              old_apart : lit_of move.old.first ≡ lit_of move.old.second → ⊥
              old_apart =
                  let here = walk-watch.pair_at in
                  let there = move.old_at in
                  let alike : walk-watch.pair ≡ move.old = cc in
                  subst (λ (x : Pair). lit_of x.first ≡ lit_of x.second → ⊥) alike walk-watch.is.apart
