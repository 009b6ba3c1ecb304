-- The trail as it grows, and what it comes with where it ends.
use Rattle.std.proofs.Common.{◌≡◌, ℕ, zero, suc, ◌+◌, ◌≤◌, ◌<◌, List, [], ◌∷◌, ◌++◌, length, length-append, append-nil, Option, Some, None, slice_get, refl, sym, ap, subst, ◌∙◌, arith}
use Rattle.points.specs.declared.point.Bounds.{Bounds}
use Rattle.points.specs.declared.point.Budget.{Budget}
use Rattle.points.specs.declared.point.Point.{Point}
use Rattle.verdicts.specs.declared.verdict.Verdict.{Verdict}
use Rattle.verdicts.specs.declared.verdict.Verdict.TheVariants.{Correct, Incorrect, Unknown}
use Rattle.verdicts.specs.declared.verdict.Cause.TheVariants.{Weight, Rounds, Conflicts}
use Rattle.verdicts.specs.Pair.{Functions, RunPair, run_pair}
use Rattle.verdicts.specs.Covers.{IsLeastCover, HasNoCover}
use Rattle.verdicts.specs.Trail.{TrailFrom, IsLeastUncovered, AreAllCovered, Ends}
use Rattle.verdicts.proofs.Meaning.{cons_after}
use Rattle.clause_log.specs.declared.step.Cert.{Cert}
use Rattle.verdicts.specs.declared.verdict.Kept.{Kept}
use Rattle.pair_questions.specs.Questions.{IsUncovered, IsCovering, IsRefuted, IsSpentOn, point_widths, tape_widths}
use Rattle.verdicts.specs.Weight.{IsHeavy}
use Rattle.instantiate.specs.declared.rounds.Trail.{Trail}
use Rattle.instantiate.specs.declared.rounds.End.{End}
use Rattle.instantiate.specs.Rounds.{IsRound, IsTrail}
use Rattle.instantiate.specs.Settling.{ComesWith, IsJudged, IsSpentNext, IsTrailSoFar, limit_of}
use Rattle.pair_questions.specs.PointQuestions.{IsPointQuestion}
use Rattle.pair_questions.specs.declared.subject.Subject.{Subject}

module _ (pair : RunPair) (bounds : Bounds) (budget : Budget) where
  -- each point has its tape
  pub record IsGrown (tapes : List (List ℕ)) (points : List Point) : Type 0 where
    pub count : length points ≡ length tapes
    pub trail : TrailFrom pair bounds [] tapes points
    pub within : length tapes ≤ budget.rounds

  -- a trail goes on by one point and its tape
  trail_more : (before tapes : List (List ℕ)) (points : List Point) (p : Point) (tape : List ℕ) → length points ≡ length tapes → TrailFrom pair bounds before tapes points
      → IsLeastUncovered pair bounds (before ++ tapes) p → IsLeastCover pair bounds p tape → TrailFrom pair bounds before (tapes ++ tape ∷ []) (points ++ p ∷ [])
  trail_more before [] [] p tape count trail least cover = ((rw append-nil at least), cover, tt)
  trail_more before (t ∷ ts) (q ∷ qs) p tape count trail least cover =
      let least' = rw (cons_after before t ts) at least in
      (trail.0, trail.1, trail_more (before ++ t ∷ []) ts qs p tape (omega (arith, count)) trail.2 least' cover)
  trail_more before [] (q ∷ qs) p tape count trail least cover = absurd (omega (arith, count))
  trail_more before (t ∷ ts) [] p tape count trail least cover = absurd (omega (arith, count))

  -- or by only one point
  trail_open : (before tapes : List (List ℕ)) (points : List Point) (p : Point) → length points ≡ length tapes → TrailFrom pair bounds before tapes points
      → IsLeastUncovered pair bounds (before ++ tapes) p → TrailFrom pair bounds before tapes (points ++ p ∷ [])
  trail_open before [] [] p count trail least = rw append-nil at least
  trail_open before (t ∷ ts) (q ∷ qs) p count trail least =
      let least' = rw (cons_after before t ts) at least in
      (trail.0, trail.1, trail_open (before ++ t ∷ []) ts qs p (omega (arith, count)) trail.2 least')
  trail_open before [] (q ∷ qs) p count trail least = absurd (omega (arith, count))
  trail_open before (t ∷ ts) [] p count trail least = absurd (omega (arith, count))

  none_behind : (points : List Point) (tapes : List (List ℕ)) → length points ≡ length tapes → slice_get points (length tapes) ≡ None
  none_behind [] [] e = refl
  none_behind (p ∷ ps) (t ∷ ts) e = none_behind ps ts (omega (arith, e))
  none_behind [] (t ∷ ts) e = absurd (omega (arith, e))
  none_behind (p ∷ ps) [] e = absurd (omega (arith, e))

  one_behind : (points : List Point) (tapes : List (List ℕ)) (p : Point) → length points ≡ length tapes → slice_get (points ++ p ∷ []) (length tapes) ≡ Some p
  one_behind [] [] p e = refl
  one_behind (q ∷ ps) (t ∷ ts) p e = one_behind ps ts p (omega (arith, e))
  one_behind [] (t ∷ ts) p e = absurd (omega (arith, e))
  one_behind (q ∷ ps) [] p e = absurd (omega (arith, e))

  pub grown_more : (tapes tapes' : List (List ℕ)) (points points' : List Point) (p : Point) (tape : List ℕ) → IsGrown tapes points → IsLeastUncovered pair bounds tapes p → IsLeastCover pair bounds p tape
      → length tapes < budget.rounds → tapes' ≡ tapes ++ tape ∷ [] → points' ≡ points ++ p ∷ [] → IsGrown tapes' points'
  grown_more tapes tapes' points points' p tape grown least cover room e f =
      let count = grown.count in
      rw (e, f) (record {
        count = length-append points (p ∷ []) ∙ ap (λ n. n + 1) count ∙ sym (length-append tapes (tape ∷ []));
        trail = trail_more [] tapes points p tape count grown.trail least cover;
        within = (let len = length-append tapes (tape ∷ []) in omega (arith, len, room));
      })

  -- ---- the ends

  ends_at : (tapes : List (List ℕ)) (o o' : Option Point) (v : Verdict) → o ≡ o' → Ends pair bounds budget tapes o' v → Ends pair bounds budget tapes o v
  ends_at tapes o o' v e h = subst (λ x. Ends pair bounds budget tapes x v) (sym e) h

  pub told_correct : (tapes : List (List ℕ)) (points : List Point) (cert : Cert) → IsGrown tapes points → AreAllCovered pair bounds tapes → IsRefuted (IsUncovered pair bounds tapes) (point_widths pair bounds) cert
      → ComesWith pair bounds budget (record { tapes = tapes; points = points }) (Some cert) Correct
  told_correct tapes points cert grown all refuted = (
    record {
      trail = record { trail = grown.trail; within = grown.within };
      ends = ends_at tapes (slice_get points (length tapes)) None Correct (none_behind points tapes grown.count) all;
    },
    refuted,
  )

  open_trail : (tapes : List (List ℕ)) (points points' : List Point) (p : Point) → IsGrown tapes points → IsLeastUncovered pair bounds tapes p → points' ≡ points ++ p ∷ []
      → IsTrailSoFar pair bounds budget (record { tapes = tapes; points = points' })
  open_trail tapes points points' p grown least e = rw e (record { trail = trail_open [] tapes points p grown.count grown.trail least; within = grown.within })

  open_at : (tapes : List (List ℕ)) (points points' : List Point) (p : Point) → IsGrown tapes points → points' ≡ points ++ p ∷ [] → slice_get points' (length tapes) ≡ Some p
  open_at tapes points points' p grown e = ap (λ (ps : List Point). slice_get ps (length tapes)) e ∙ one_behind points tapes p grown.count

  pub told_incorrect : (tapes : List (List ℕ)) (points points' : List Point) (p q : Point) (cert : Cert) → IsGrown tapes points → IsLeastUncovered pair bounds tapes p → HasNoCover pair bounds p
      → IsRefuted (IsCovering pair bounds p) (tape_widths pair bounds) cert → points' ≡ points ++ p ∷ [] → q ≡ p
      → ComesWith pair bounds budget (record { tapes = tapes; points = points' }) (Some cert) (Incorrect q)
  told_incorrect tapes points points' p q cert grown least none refuted e same = rw same (
    record {
      trail = open_trail tapes points points' p grown least e;
      ends = ends_at tapes (slice_get points' (length tapes)) (Some p) (Incorrect p) (open_at tapes points points' p grown e) (refl, none);
    },
    refuted,
  )

  pub told_rounds : (tapes : List (List ℕ)) (points points' : List Point) (p : Point) (tape : List ℕ) → IsGrown tapes points → IsLeastUncovered pair bounds tapes p → IsLeastCover pair bounds p tape
      → length tapes ≡ budget.rounds → points' ≡ points ++ p ∷ [] → ComesWith pair bounds budget (record { tapes = tapes; points = points' }) None (Unknown Rounds)
  told_rounds tapes points points' p tape grown least cover full e = (
    record {
      trail = open_trail tapes points points' p grown least e;
      ends = ends_at tapes (slice_get points' (length tapes)) (Some p) (Unknown Rounds) (open_at tapes points points' p grown e) (full, record { tape = tape; fits = cover.fits; cover = cover.cover });
    },
    refl,
  )

  -- a limit is the budget's, and isn't 0
  limited : (conflicts n : ℕ) → limit_of conflicts ≡ Some n → (0 < conflicts) × (n ≡ conflicts)
  limited zero n e = absurd (let z : ⊥ = cc in z)
  limited (suc c) n e = (omega arith, let same : suc c ≡ n = cc in sym same)

  pub told_spent_point : (tapes : List (List ℕ)) (points : List Point) (n : ℕ) (cert : Cert) → IsGrown tapes points → limit_of budget.conflicts ≡ Some n
      → IsSpentOn (IsUncovered pair bounds tapes) (point_widths pair bounds) n cert → ComesWith pair bounds budget (record { tapes = tapes; points = points }) (Some cert) (Unknown Conflicts)
  told_spent_point tapes points n cert grown limit spent =
      let l = limited budget.conflicts n limit in
      record {
        trail = record { trail = grown.trail; within = grown.within };
        limited = l.0;
        spent = subst (λ (o : Option Point). IsSpentNext pair bounds (record { tapes = tapes; points = points }) o budget.conflicts cert) (sym (none_behind points tapes grown.count))
            (subst (λ k. IsSpentOn (IsUncovered pair bounds tapes) (point_widths pair bounds) k cert) l.1 spent);
      }

  pub told_spent_tape : (tapes : List (List ℕ)) (points points' : List Point) (p : Point) (n : ℕ) (cert : Cert) → IsGrown tapes points → IsLeastUncovered pair bounds tapes p → limit_of budget.conflicts ≡ Some n
      → IsSpentOn (IsCovering pair bounds p) (tape_widths pair bounds) n cert → points' ≡ points ++ p ∷ [] → ComesWith pair bounds budget (record { tapes = tapes; points = points' }) (Some cert) (Unknown Conflicts)
  told_spent_tape tapes points points' p n cert grown least limit spent e =
      let l = limited budget.conflicts n limit in
      record {
        trail = open_trail tapes points points' p grown least e;
        limited = l.0;
        spent = subst (λ (o : Option Point). IsSpentNext pair bounds (record { tapes = tapes; points = points' }) o budget.conflicts cert) (sym (open_at tapes points points' p grown e))
            (subst (λ k. IsSpentOn (IsCovering pair bounds p) (tape_widths pair bounds) k cert) l.1 spent);
      }

-- ---- a pair that is not too heavy

pub judged : (pair : Functions) (bounds : Bounds) (budget : Budget) (kept : Kept) (cert : Option Cert) (v : Verdict) → ¬ IsHeavy pair bounds budget → ComesWith (run_pair pair) bounds budget kept cert v → IsJudged pair bounds budget kept cert v
judged pair bounds budget kept cert Correct light h = (light, h)
judged pair bounds budget kept cert (Incorrect p) light h = (light, h)
judged pair bounds budget kept cert (Unknown Rounds) light h = (light, h)
judged pair bounds budget kept cert (Unknown Conflicts) light h = (light, h)
judged pair bounds budget kept cert (Unknown Weight) light h = absurd h

pub grown_of : (s : Subject) (budget : Budget) (t : Trail) → IsTrail s budget t → IsGrown s.pair.now s.bounds.now budget t.question.tapes t.points.items
grown_of s budget t h = record { count = h.count; trail = h.trail; within = h.within }

-- ---- a trail whose question was answered

pub trail_asked : (s : Subject) (budget : Budget) (t t' : Trail) → IsTrail s budget t → t'.points.items ≡ t.points.items → t'.question.tapes ≡ t.question.tapes → t'.question.limit ≡ t.question.limit → IsPointQuestion s t'.question → IsTrail s budget t'
trail_asked s budget t t' h points tapes limit question = record {
  count = rw (points, tapes) h.count;
  trail = rw (points, tapes) h.trail;
  within = rw tapes h.within;
  question = question;
  limit = limit ∙ h.limit;
}

pub round_asked : (s : Subject) (budget : Budget) (t t' after : Trail) (o : Option End) → t'.question.tapes ≡ t.question.tapes → IsRound s budget t' after o → IsRound s budget t after o
round_asked s budget t t' after None tapes h = (h.0, h.1 ∙ ap (λ (ts : List (List ℕ)). length ts + 1) tapes)
round_asked s budget t t' after (Some e) tapes h = h
