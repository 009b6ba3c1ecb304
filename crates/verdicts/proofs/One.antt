-- A pair has one verdict: its trail is grown in one way.
use Rattle.std.proofs.Common.{◌≡◌, ℕ, ◌^◌, ◌<◌, ◌≤◌, ◌⊎◌, inl, inr, List, [], ◌∷◌, ◌++◌, length, Bool, true, false, Option, Some, None, slice_get, refl, sym, ap, subst, ◌∙◌, arith, append-nil, length-append}
use Rattle.std.proofs.lemmas.Bool.{cases_order}
use Rattle.points.specs.declared.point.Bounds.{Bounds}
use Rattle.points.specs.declared.point.Budget.{Budget}
use Rattle.points.specs.declared.point.Point.{Point}
use Rattle.verdicts.specs.declared.verdict.Kept.{Kept}
use Rattle.verdicts.specs.declared.verdict.Verdict.{Verdict}
use Rattle.verdicts.specs.declared.verdict.Verdict.TheVariants.{Correct, Incorrect, Unknown}
use Rattle.verdicts.specs.declared.verdict.Cause.TheVariants.{Weight, Rounds, Conflicts}
use Rattle.verdicts.specs.Pair.{Functions, RunPair, layout_of, run_pair}
use Rattle.points.specs.Code.{number_of}
use Rattle.points.specs.Range.{AreInRange}
use Rattle.verdicts.specs.Weight.{IsHeavy}
use Rattle.points.specs.Tapes.{need_of, widest_choice}
use Rattle.verdicts.specs.Covers.{IsLeastCover, HasNoCover}
use Rattle.verdicts.specs.Trail.{IsPoint, place_in, IsLeastUncovered, AreAllCovered, TrailFrom, HasCover, Ends, Judges, IsTrail}
use Rattle.verdicts.specs.Laws.{VerdictsAreOne}
use Rattle.points.proofs.Order.{number_of-same}
use Rattle.points.proofs.Words.{WordsFit-digits}
use Rattle.points.proofs.Same.{Fits, same_point}
use Rattle.verdicts.proofs.Meaning.{cons_after}
use Rattle.points.proofs.Widest.{widest_small}

true_not_false : {A : Type 0} → ◌≡◌ {A = Bool} true false → A
true_not_false e = absurd (cc)

-- ---- leasts are one

fits_of : (pair : RunPair) (bounds : Bounds) (p : Point) → IsPoint pair bounds p → Fits (layout_of pair bounds) (need_of bounds.turns pair.target) (widest_choice pair.target) pair.target.parameters p
fits_of pair bounds p point = record { args = point.args; given = point.given; tape = point.tape }

one_point : (pair : RunPair) (bounds : Bounds) (p q : Point) → bounds.blocks < 2 ^ 64 → bounds.bytes < 2 ^ 64 → IsPoint pair bounds p → IsPoint pair bounds q → place_in pair bounds p ≡ place_in pair bounds q → p ≡ q
one_point pair bounds p q few short point point' e = same_point (layout_of pair bounds) (need_of bounds.turns pair.target) (widest_choice pair.target) pair.target.parameters p q few short (widest_small pair.target) (fits_of pair bounds p point) (fits_of pair bounds q point') e

not_less : (pair : RunPair) (bounds : Bounds) (tapes : List (List ℕ)) (p q : Point) → IsLeastUncovered pair bounds tapes p → IsLeastUncovered pair bounds tapes q → place_in pair bounds p < place_in pair bounds q → ⊥
not_less pair bounds tapes p q h h' less = let covered = h'.least p h.point less in true_not_false (sym covered ∙ h.uncovered)

pub least_point : (pair : RunPair) (bounds : Bounds) (budget : Budget) (tapes : List (List ℕ)) (p q : Point) → AreInRange bounds budget → IsLeastUncovered pair bounds tapes p → IsLeastUncovered pair bounds tapes q → p ≡ q
least_point pair bounds budget tapes p q range h h' =
    elim (cases_order (place_in pair bounds p) (place_in pair bounds q)) as (λ _. p ≡ q) [
      | inl same ↦ one_point pair bounds p q (let few = range.blocks in omega (arith, few)) (let short = range.bytes in omega (arith, short)) h.point h'.point same
      | inr apart ↦ elim apart as (λ _. p ≡ q) [
        | inl below ↦ absurd (not_less pair bounds tapes p q h h' below)
        | inr above ↦ absurd (not_less pair bounds tapes q p h' h above)
      ]
    ]

pub least_tape : (pair : RunPair) (bounds : Bounds) (p : Point) (t u : List ℕ) → IsLeastCover pair bounds p t → IsLeastCover pair bounds p u → t ≡ u
least_tape pair bounds p t u h h' =
    let need = need_of bounds.turns pair.source in
    elim (cases_order (number_of t) (number_of u)) as (λ _. t ≡ u) [
      | inl same ↦ number_of-same need t u (WordsFit-digits 64 need t (omega arith) h.fits) (WordsFit-digits 64 need u (omega arith) h'.fits) same
      | inr apart ↦ elim apart as (λ _. t ≡ u) [
        | inl below ↦ absurd (true_not_false (sym h.cover ∙ h'.least t h.fits below))
        | inr above ↦ absurd (true_not_false (sym h'.cover ∙ h.least u h'.fits above))
      ]
    ]

-- ---- ends

record IsAllEnd (pair : RunPair) (bounds : Bounds) (tapes : List (List ℕ)) (v : Verdict) : Type 0 where
  is : v ≡ Correct
  all : AreAllCovered pair bounds tapes

all_end : (pair : RunPair) (bounds : Bounds) (budget : Budget) (tapes : List (List ℕ)) (v : Verdict) → Ends pair bounds budget tapes None v → IsAllEnd pair bounds tapes v
all_end pair bounds budget tapes Correct h = record { is = refl; all = h }
all_end pair bounds budget tapes (Incorrect p) h = absurd h
all_end pair bounds budget tapes (Unknown cause) h = absurd h

record IsNoCoverEnd (pair : RunPair) (bounds : Bounds) (p : Point) (v : Verdict) : Type 0 where
  is : v ≡ Incorrect p
  none : HasNoCover pair bounds p

record IsRoundsEnd (pair : RunPair) (bounds : Bounds) (budget : Budget) (tapes : List (List ℕ)) (p : Point) (v : Verdict) : Type 0 where
  is : v ≡ Unknown Rounds
  full : length tapes ≡ budget.rounds
  cover : HasCover pair bounds p

open_end : (pair : RunPair) (bounds : Bounds) (budget : Budget) (tapes : List (List ℕ)) (p : Point) (v : Verdict) → Ends pair bounds budget tapes (Some p) v → IsNoCoverEnd pair bounds p v ⊎ IsRoundsEnd pair bounds budget tapes p v
open_end pair bounds budget tapes p Correct h = absurd h
open_end pair bounds budget tapes p (Incorrect q) h = inl (record { is = ap Incorrect h.0; none = h.1 })
open_end pair bounds budget tapes p (Unknown Rounds) h = inr (record { is = refl; full = h.0; cover = h.1 })
open_end pair bounds budget tapes p (Unknown Weight) h = absurd h
open_end pair bounds budget tapes p (Unknown Conflicts) h = absurd h

cover_and_none : (pair : RunPair) (bounds : Bounds) (p : Point) → HasNoCover pair bounds p → HasCover pair bounds p → ⊥
cover_and_none pair bounds p none cover = true_not_false (sym cover.cover ∙ none cover.tape cover.fits)

-- two ends at one open point
same_open_end : (pair : RunPair) (bounds : Bounds) (budget : Budget) (tapes : List (List ℕ)) (p : Point) (v w : Verdict) → Ends pair bounds budget tapes (Some p) v → Ends pair bounds budget tapes (Some p) w → v ≡ w
same_open_end pair bounds budget tapes p v w h h' =
    elim (open_end pair bounds budget tapes p v h) as (λ _. v ≡ w) [
      | inl a ↦ elim (open_end pair bounds budget tapes p w h') as (λ _. v ≡ w) [
        | inl b ↦ a.is ∙ sym b.is
        | inr b ↦ absurd (cover_and_none pair bounds p a.none b.cover)
      ]
      | inr a ↦ elim (open_end pair bounds budget tapes p w h') as (λ _. v ≡ w) [
        | inl b ↦ absurd (cover_and_none pair bounds p b.none a.cover)
        | inr b ↦ a.is ∙ sym b.is
      ]
    ]

end_at : (pair : RunPair) (bounds : Bounds) (budget : Budget) (tapes tapes' : List (List ℕ)) (o o' : Option Point) (v : Verdict) → tapes ≡ tapes' → o ≡ o' → Ends pair bounds budget tapes o v → Ends pair bounds budget tapes' o' v
end_at pair bounds budget tapes tapes' o o' v e f h = subst (λ x. Ends pair bounds budget x o' v) e (subst (λ x. Ends pair bounds budget tapes x v) f h)

all_and_open : (pair : RunPair) (bounds : Bounds) (before : List (List ℕ)) (p : Point) → AreAllCovered pair bounds (before ++ []) → IsLeastUncovered pair bounds before p → ⊥
all_and_open pair bounds before p all least = let all' = rw append-nil at all in true_not_false (sym (all' p least.point) ∙ least.uncovered)

cover_of_least : (pair : RunPair) (bounds : Bounds) (p : Point) (t : List ℕ) → IsLeastCover pair bounds p t → HasCover pair bounds p
cover_of_least pair bounds p t least = record { tape = t; fits = least.fits; cover = least.cover }

-- where one trail stops, no other one goes on
stops : (pair : RunPair) (bounds : Bounds) (budget : Budget) (before : List (List ℕ)) (ps : List Point) (v : Verdict) (t : List ℕ) (ts : List (List ℕ)) (q : Point) → AreInRange bounds budget → TrailFrom pair bounds before [] ps → Ends pair bounds budget (before ++ []) (slice_get ps 0) v → IsLeastUncovered pair bounds before q → IsLeastCover pair bounds q t → length (before ++ t ∷ ts) ≤ budget.rounds → ⊥
stops pair bounds budget before [] v t ts q range trail end least cover within = all_and_open pair bounds before q (all_end pair bounds budget (before ++ []) v end).all least
stops pair bounds budget before (p ∷ []) v t ts q range trail end least cover within =
    let same : p ≡ q = least_point pair bounds budget before p q range trail least in
    elim (open_end pair bounds budget (before ++ []) p v end) as (λ _. ⊥) [
      | inl a ↦ (let none = rw same at a.none in cover_and_none pair bounds q none (cover_of_least pair bounds q t cover))
      | inr a ↦ (let full = a.full in let len = length-append before [] in let len' = length-append before (t ∷ ts) in omega (arith, full, len, len', within))
    ]
stops pair bounds budget before (p ∷ (p' ∷ ps)) v t ts q range trail end least cover within = absurd trail

one_end : (pair : RunPair) (bounds : Bounds) (budget : Budget) (before ts us : List (List ℕ)) (ps qs : List Point) (v w : Verdict) → AreInRange bounds budget
    → TrailFrom pair bounds before ts ps → TrailFrom pair bounds before us qs
    → Ends pair bounds budget (before ++ ts) (slice_get ps (length ts)) v → Ends pair bounds budget (before ++ us) (slice_get qs (length us)) w
    → length (before ++ ts) ≤ budget.rounds → length (before ++ us) ≤ budget.rounds → v ≡ w
one_end pair bounds budget before [] [] [] [] v w range a b end end' within within' =
    (all_end pair bounds budget (before ++ []) v end).is ∙ sym (all_end pair bounds budget (before ++ []) w end').is
one_end pair bounds budget before [] [] [] (q ∷ []) v w range a b end end' within within' = absurd (all_and_open pair bounds before q (all_end pair bounds budget (before ++ []) v end).all b)
one_end pair bounds budget before [] [] (p ∷ []) [] v w range a b end end' within within' = absurd (all_and_open pair bounds before p (all_end pair bounds budget (before ++ []) w end').all a)
one_end pair bounds budget before [] [] (p ∷ []) (q ∷ []) v w range a b end end' within within' =
    let same : p ≡ q = least_point pair bounds budget before p q range a b in
    same_open_end pair bounds budget (before ++ []) q v w (end_at pair bounds budget (before ++ []) (before ++ []) (Some p) (Some q) v refl (ap Some same) end) end'
one_end pair bounds budget before [] [] (p ∷ (p' ∷ ps)) qs v w range a b end end' within within' = absurd a
one_end pair bounds budget before [] [] ps (q ∷ (q' ∷ qs)) v w range a b end end' within within' = absurd b
one_end pair bounds budget before [] (u ∷ us) ps (q ∷ qs) v w range a b end end' within within' = absurd (stops pair bounds budget before ps v u us q range a end b.0 b.1 within')
one_end pair bounds budget before [] (u ∷ us) ps [] v w range a b end end' within within' = absurd b
one_end pair bounds budget before (t ∷ ts) [] (p ∷ ps) qs v w range a b end end' within within' = absurd (stops pair bounds budget before qs w t ts p range b end' a.0 a.1 within)
one_end pair bounds budget before (t ∷ ts) [] [] qs v w range a b end end' within within' = absurd a
one_end pair bounds budget before (t ∷ ts) (u ∷ us) (p ∷ ps) (q ∷ qs) v w range a b end end' within within' =
    let same : p ≡ q = least_point pair bounds budget before p q range a.0 b.0 in
    let cover = rw same at a.1 in
    let same_tape : t ≡ u = least_tape pair bounds q t u cover b.1 in
    let rest = rw same_tape at a.2 in
    let e : before ++ t ∷ ts ≡ (before ++ u ∷ []) ++ ts = cons_after before t ts ∙ ap (λ (x : List ℕ). (before ++ x ∷ []) ++ ts) same_tape in
    let e' : before ++ u ∷ us ≡ (before ++ u ∷ []) ++ us = cons_after before u us in
    let end1 = end_at pair bounds budget (before ++ t ∷ ts) ((before ++ u ∷ []) ++ ts) (slice_get ps (length ts)) (slice_get ps (length ts)) v e refl end in
    let end2 = end_at pair bounds budget (before ++ u ∷ us) ((before ++ u ∷ []) ++ us) (slice_get qs (length us)) (slice_get qs (length us)) w e' refl end' in
    let within1 : length ((before ++ u ∷ []) ++ ts) ≤ budget.rounds = (let n = ap length e in omega (arith, n, within)) in
    let within2 : length ((before ++ u ∷ []) ++ us) ≤ budget.rounds = (let n = ap length e' in omega (arith, n, within')) in
    one_end pair bounds budget (before ++ u ∷ []) ts us ps qs v w range rest b.2 end1 end2 within1 within2
one_end pair bounds budget before (t ∷ ts) (u ∷ us) [] qs v w range a b end end' within within' = absurd a
one_end pair bounds budget before (t ∷ ts) (u ∷ us) (p ∷ ps) [] v w range a b end end' within within' = absurd b

-- ---- the verdict

record IsHeavyEnd (pair : Functions) (bounds : Bounds) (budget : Budget) (v : Verdict) : Type 0 where
  is : v ≡ Unknown Weight
  heavy : IsHeavy pair bounds budget

judged_as : (pair : Functions) (bounds : Bounds) (budget : Budget) (kept : Kept) (v : Verdict) → Judges pair bounds budget kept v → IsTrail pair bounds budget kept v ⊎ IsHeavyEnd pair bounds budget v
judged_as pair bounds budget kept Correct h = inl h
judged_as pair bounds budget kept (Incorrect p) h = inl h
judged_as pair bounds budget kept (Unknown Weight) h = inr (record { is = refl; heavy = h.heavy })
judged_as pair bounds budget kept (Unknown Rounds) h = inl h
judged_as pair bounds budget kept (Unknown Conflicts) h = inl h

pub verdicts_are_one : VerdictsAreOne
verdicts_are_one = λ pair bounds budget v w range a b.
    elim (judged_as pair bounds budget a.kept v a.judges) as (λ _. v ≡ w) [
      | inl x ↦ elim (judged_as pair bounds budget b.kept w b.judges) as (λ _. v ≡ w) [
        | inl y ↦ one_end (run_pair pair) bounds budget [] a.kept.tapes b.kept.tapes a.kept.points b.kept.points v w range x.trail y.trail x.ends y.ends x.within y.within
        | inr y ↦ absurd (x.not_heavy y.heavy)
      ]
      | inr x ↦ elim (judged_as pair bounds budget b.kept w b.judges) as (λ _. v ≡ w) [
        | inl y ↦ absurd (y.not_heavy x.heavy)
        | inr y ↦ x.is ∙ sym y.is
      ]
    ]
