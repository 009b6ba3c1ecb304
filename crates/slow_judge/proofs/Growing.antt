-- The trail as the judge grows it.
use Rattle.slow_judge.proofs.Common.{◌≡◌, ℕ, ◌+◌, ◌≤◌, ◌<◌, List, [], ◌∷◌, ◌++◌, length, length-append, append-nil, Option, Some, None, slice_get, refl, sym, ap, ◌∙◌, arith, Bounds, Point, Functions, RunPair, IsLeastCover, HasNoCover, TrailFrom, IsLeastUncovered, AreAllCovered, Ends, IsVerdict, cons_after, subst, HasTrail}
use Rattle.points.specs.declared.point.Budget.{Budget}
use Rattle.verdicts.specs.declared.verdict.Verdict.{Verdict}
use Rattle.verdicts.specs.declared.verdict.Verdict.TheVariants.{Correct, Incorrect, Unknown}
use Rattle.verdicts.specs.declared.verdict.Cause.TheVariants.{Weight, Rounds, Conflicts}
use Rattle.verdicts.specs.Pair.{run_pair}
use Rattle.verdicts.specs.Trail.{open_point}
use Rattle.verdicts.specs.Weight.{IsHeavy}
use Rattle.slow_judge.specs.Search.{IsFound, IsEnd, HasAdded}
use Rattle.slow_judge.specs.declared.round.Round.{Round}
use Rattle.slow_judge.specs.declared.round.Round.TheVariants as round

pub record IsGrown (pair : RunPair) (bounds : Bounds) (budget : Budget) (tapes : List (List ℕ)) : Type 0 where
  pub points : List Point
  pub count : length points ≡ length tapes
  pub trail : TrailFrom pair bounds [] tapes points
  pub within : length tapes ≤ budget.rounds

-- a trail goes on by one point and its tape
trail_more : (pair : RunPair) (bounds : Bounds) (before tapes : List (List ℕ)) (points : List Point) (p : Point) (tape : List ℕ) → length points ≡ length tapes → TrailFrom pair bounds before tapes points → IsLeastUncovered pair bounds (before ++ tapes) p → IsLeastCover pair bounds p tape → TrailFrom pair bounds before (tapes ++ tape ∷ []) (points ++ p ∷ [])
trail_more pair bounds before [] [] p tape count trail least cover = ((rw append-nil at least), cover, tt)
trail_more pair bounds before (t ∷ ts) (q ∷ qs) p tape count trail least cover =
    let least' = rw (cons_after before t ts) at least in
    (trail.0, trail.1, trail_more pair bounds (before ++ t ∷ []) ts qs p tape (omega (arith, count)) trail.2 least' cover)
trail_more pair bounds before [] (q ∷ qs) p tape count trail least cover = absurd (omega (arith, count))
trail_more pair bounds before (t ∷ ts) [] p tape count trail least cover = absurd (omega (arith, count))

-- or by only one point
trail_open : (pair : RunPair) (bounds : Bounds) (before tapes : List (List ℕ)) (points : List Point) (p : Point) → length points ≡ length tapes → TrailFrom pair bounds before tapes points → IsLeastUncovered pair bounds (before ++ tapes) p → TrailFrom pair bounds before tapes (points ++ p ∷ [])
trail_open pair bounds before [] [] p count trail least = rw append-nil at least
trail_open pair bounds before (t ∷ ts) (q ∷ qs) p count trail least =
    let least' = rw (cons_after before t ts) at least in
    (trail.0, trail.1, trail_open pair bounds (before ++ t ∷ []) ts qs p (omega (arith, count)) trail.2 least')
trail_open pair bounds before [] (q ∷ qs) p count trail least = absurd (omega (arith, count))
trail_open pair bounds before (t ∷ ts) [] p count trail least = absurd (omega (arith, count))

none_behind : (points : List Point) (tapes : List (List ℕ)) → length points ≡ length tapes → slice_get points (length tapes) ≡ None
none_behind [] [] e = refl
none_behind (p ∷ ps) (t ∷ ts) e = none_behind ps ts (omega (arith, e))
none_behind [] (t ∷ ts) e = absurd (omega (arith, e))
none_behind (p ∷ ps) [] e = absurd (omega (arith, e))

one_behind : (points : List Point) (tapes : List (List ℕ)) (p : Point) → length points ≡ length tapes → slice_get (points ++ p ∷ []) (length tapes) ≡ Some p
one_behind [] [] p e = refl
one_behind (q ∷ ps) (t ∷ ts) p e = one_behind ps ts p (omega (arith, e))
one_behind [] (t ∷ ts) p e = absurd (omega (arith, e))
one_behind (q ∷ ps) [] p e = absurd (omega (arith, e))

ends_at : (pair : RunPair) (bounds : Bounds) (budget : Budget) (tapes : List (List ℕ)) (o o' : Option Point) (v : Verdict) → o ≡ o' → Ends pair bounds budget tapes o' v → Ends pair bounds budget tapes o v
ends_at pair bounds budget tapes o o' v e h = subst (λ x. Ends pair bounds budget tapes x v) (sym e) h

pub grown_more : (pair : RunPair) (bounds : Bounds) (budget : Budget) (tapes more : List (List ℕ)) (p : Point) (tape : List ℕ) → IsGrown pair bounds budget tapes → IsLeastUncovered pair bounds tapes p → IsLeastCover pair bounds p tape → length tapes < budget.rounds → more ≡ tapes ++ tape ∷ [] → IsGrown pair bounds budget more
grown_more pair bounds budget tapes more p tape grown least cover room e =
    let count = grown.count in
    rw e (record {
      points = grown.points ++ p ∷ [];
      count = length-append grown.points (p ∷ []) ∙ ap (λ n. n + 1) count ∙ sym (length-append tapes (tape ∷ []));
      trail = trail_more pair bounds [] tapes grown.points p tape count grown.trail least cover;
      within = (let len = length-append tapes (tape ∷ []) in omega (arith, len, room));
    })

pub grown_correct : (pair : RunPair) (bounds : Bounds) (budget : Budget) (tapes : List (List ℕ)) → IsGrown pair bounds budget tapes → AreAllCovered pair bounds tapes → HasTrail pair bounds budget Correct
grown_correct pair bounds budget tapes grown all = record {
  kept = record { tapes = tapes; points = grown.points };
  trail = grown.trail;
  within = grown.within;
  ends = ends_at pair bounds budget tapes (slice_get grown.points (length tapes)) None Correct (none_behind grown.points tapes grown.count) all;
}

pub grown_incorrect : (pair : RunPair) (bounds : Bounds) (budget : Budget) (tapes : List (List ℕ)) (p : Point) → IsGrown pair bounds budget tapes → IsLeastUncovered pair bounds tapes p → HasNoCover pair bounds p → HasTrail pair bounds budget (Incorrect p)
grown_incorrect pair bounds budget tapes p grown least none = record {
  kept = record { tapes = tapes; points = grown.points ++ p ∷ [] };
  trail = trail_open pair bounds [] tapes grown.points p grown.count grown.trail least;
  within = grown.within;
  ends = ends_at pair bounds budget tapes (slice_get (grown.points ++ p ∷ []) (length tapes)) (Some p) (Incorrect p) (one_behind grown.points tapes p grown.count) (refl, none);
}

pub grown_full : (pair : RunPair) (bounds : Bounds) (budget : Budget) (tapes : List (List ℕ)) (p : Point) (tape : List ℕ) → IsGrown pair bounds budget tapes → IsLeastUncovered pair bounds tapes p → IsLeastCover pair bounds p tape → length tapes ≡ budget.rounds → HasTrail pair bounds budget (Unknown Rounds)
grown_full pair bounds budget tapes p tape grown least cover full = record {
  kept = record { tapes = tapes; points = grown.points ++ p ∷ [] };
  trail = trail_open pair bounds [] tapes grown.points p grown.count grown.trail least;
  within = grown.within;
  ends = ends_at pair bounds budget tapes (slice_get (grown.points ++ p ∷ []) (length tapes)) (Some p) (Unknown Rounds) (one_behind grown.points tapes p grown.count) (full, record { tape = tape; fits = cover.fits; cover = cover.cover });
}

-- ---- a round

-- the last round gives the verdict
pub grown_end : (pair : RunPair) (bounds : Bounds) (budget : Budget) (tapes : List (List ℕ)) (found : Round) (v : Verdict) → IsGrown pair bounds budget tapes → IsFound pair bounds tapes found → IsEnd budget tapes found v → HasTrail pair bounds budget v
grown_end pair bounds budget tapes round.Correct v grown is end = rw end (grown_correct pair bounds budget tapes grown is)
grown_end pair bounds budget tapes (round.Incorrect p) v grown is end = rw end (grown_incorrect pair bounds budget tapes p grown is.0 is.1)
grown_end pair bounds budget tapes (round.Covered tape) v grown is end = rw end.1 (grown_full pair bounds budget tapes is.point tape grown is.least is.cover end.0)

-- and each other one a longer trail
pub grown_on : (pair : RunPair) (bounds : Bounds) (budget : Budget) (tapes more : List (List ℕ)) (found : Round) → IsGrown pair bounds budget tapes → IsFound pair bounds tapes found → HasAdded budget tapes found more → IsGrown pair bounds budget more
grown_on pair bounds budget tapes more round.Correct grown is added = absurd added
grown_on pair bounds budget tapes more (round.Incorrect p) grown is added = absurd added
grown_on pair bounds budget tapes more (round.Covered tape) grown is added =
    let (room, e) = added in
    let within = grown.within in
    grown_more pair bounds budget tapes more is.point tape grown is.least is.cover (omega (arith, within, room)) e

-- ---- the verdict

pub heavy_is : (pair : Functions) (bounds : Bounds) (budget : Budget) → IsHeavy pair bounds budget → IsVerdict pair bounds budget (Unknown Weight)
heavy_is pair bounds budget h = record { kept = record { tapes = []; points = [] }; judges = record { heavy = h; tapes = refl; points = refl } }

-- ---- a pair that is not too heavy

never : (pair : RunPair) (bounds : Bounds) (budget : Budget) (tapes : List (List ℕ)) (o : Option Point) → Ends pair bounds budget tapes o (Unknown Weight) → ⊥
never pair bounds budget tapes None e = e
never pair bounds budget tapes (Some p) e = e

pub light_is : (pair : Functions) (bounds : Bounds) (budget : Budget) (v : Verdict) → ¬ IsHeavy pair bounds budget → HasTrail (run_pair pair) bounds budget v → IsVerdict pair bounds budget v
light_is pair bounds budget Correct light h = record { kept = h.kept; judges = record { not_heavy = light; trail = h.trail; within = h.within; ends = h.ends } }
light_is pair bounds budget (Incorrect p) light h = record { kept = h.kept; judges = record { not_heavy = light; trail = h.trail; within = h.within; ends = h.ends } }
light_is pair bounds budget (Unknown Rounds) light h = record { kept = h.kept; judges = record { not_heavy = light; trail = h.trail; within = h.within; ends = h.ends } }
light_is pair bounds budget (Unknown Conflicts) light h = record { kept = h.kept; judges = record { not_heavy = light; trail = h.trail; within = h.within; ends = h.ends } }
light_is pair bounds budget (Unknown Weight) light h = absurd (never (run_pair pair) bounds budget h.kept.tapes (open_point h.kept) h.ends)
