-- Correct gives that each run of the lowered target is covered; incorrect gives a point that no tape covers.
use Rattle.std.proofs.Common.{◌≡◌, ℕ, inl, inr, List, [], ◌∷◌, ◌++◌, length, true, false, Option, Some, None, slice_get, sym, ap, ◌∙◌, arith, append_assoc, append-nil}
use Rattle.std.specs.Prelude.{slice_index}
use Rattle.std.proofs.lemmas.Bool.{or_cases, cases_order}
use Rattle.lowering.specs.Lowered.{lowered}
use Rattle.points.specs.declared.point.Bounds.{Bounds}
use Rattle.points.specs.declared.point.Budget.{Budget}
use Rattle.points.specs.declared.point.Input.{Input}
use Rattle.points.specs.declared.point.Point.{Point}
use Rattle.verdicts.specs.declared.verdict.Verdict.TheVariants.{Correct, Incorrect}
use Rattle.verdicts.specs.Pair.{Functions, RunPair, run_pair}
use Rattle.points.specs.Refines.{is_refined}
use Rattle.points.specs.Code.{WordsFit, number_of}
use Rattle.points.specs.Run.{Run, run_of}
use Rattle.points.specs.Tapes.{need_of, widest_choice, plain_form, HasPlainForm}
use Rattle.verdicts.specs.Covers.{covers, some_covers, is_covered, tried, HasNoCover}
use Rattle.verdicts.specs.Trail.{IsPoint, IsLeastUncovered, AreAllCovered, TrailFrom, Ends}
use Rattle.verdicts.specs.Laws.{IsWithin, LeastCoversArePlain}
use Rattle.points.proofs.Order.{number_of-same}
use Rattle.points.proofs.Words.{WordsFit-digits, WordsFit-length}
use Rattle.points.proofs.Plain.{tapes_have_plain_forms}
use Rattle.points.proofs.Widest.{widest_small, widen}

-- ---- covers and plain forms

-- some run of the lowered source allows the lowered target's run
pub record IsCovered (pair : RunPair) (bounds : Bounds) (input : Input) (tape : List ℕ) : Type 0 where
  pub source_tape : List ℕ
  pub refined : is_refined (run_of pair.source bounds input source_tape).outcome (run_of pair.target bounds input tape).outcome ≡ true

covers_by_run : (pair : RunPair) (bounds : Bounds) (p : Point) (tape other : List ℕ) → run_of pair.source bounds p.input other ≡ run_of pair.source bounds p.input tape → covers pair bounds p other ≡ covers pair bounds p tape
unfolding covers
covers_by_run pair bounds p tape other e = ap (λ (run : Run). is_refined run.outcome (run_of pair.target bounds p.input p.tape).outcome) e

-- the plain form covers where the tape does
pub plain_covers : (pair : RunPair) (bounds : Bounds) (p : Point) (tape : List ℕ) → covers pair bounds p (plain_form (need_of bounds.turns pair.source) (run_of pair.source bounds p.input tape).taken) ≡ covers pair bounds p tape
plain_covers pair bounds p tape = covers_by_run pair bounds p tape (plain_form (need_of bounds.turns pair.source) (run_of pair.source bounds p.input tape).taken) (tapes_have_plain_forms pair.source bounds p.input tape).same

-- where some tape of a list covers, there is one
covering_tape : (pair : RunPair) (bounds : Bounds) (p : Point) (tapes : List (List ℕ)) → some_covers pair bounds p tapes ≡ true → IsCovered pair bounds p.input p.tape
unfolding some_covers covers
covering_tape pair bounds p [] h = absurd (cc)
covering_tape pair bounds p (tape ∷ tapes) h =
    elim (or_cases (is_refined (run_of pair.source bounds p.input tape).outcome (run_of pair.target bounds p.input p.tape).outcome) (some_covers pair bounds p tapes) h) as (λ _. IsCovered pair bounds p.input p.tape) [
      | inl here ↦ record { source_tape = tape; refined = here }
      | inr later ↦ covering_tape pair bounds p tapes later
    ]

pub covered_is_allowed : (pair : RunPair) (bounds : Bounds) (tapes : List (List ℕ)) (p : Point) → is_covered pair bounds tapes p ≡ true → IsCovered pair bounds p.input p.tape
covered_is_allowed pair bounds tapes p h = covering_tape pair bounds p (tried pair bounds p ++ tapes) h

-- the plain form of the target's tape is a point
pub plain_point : (pair : Functions) (bounds : Bounds) (input : Input) (tape : List ℕ) → IsWithin pair bounds input → HasPlainForm (lowered pair.target) bounds input tape
    → IsPoint (run_pair pair) bounds (record { input = input; tape = plain_form (need_of bounds.turns (lowered pair.target)) (run_of (lowered pair.target) bounds input tape).taken })
plain_point pair bounds input tape fits form = record {
  args = fits.args;
  given = fits.given;
  tape = form.fits;
  plain = rw form.same form.plain;
}

pub allowed_same : (pair : RunPair) (bounds : Bounds) (input : Input) (tape other : List ℕ) → run_of pair.target bounds input other ≡ run_of pair.target bounds input tape → IsCovered pair bounds input other → IsCovered pair bounds input tape
allowed_same pair bounds input tape other e a = record { source_tape = a.source_tape; refined = (let r = a.refined in rw e at r) }

-- ---- the least cover

pub least_covers_are_plain : LeastCoversArePlain
least_covers_are_plain = λ pair bounds p tape least.
    let need = need_of bounds.turns pair.source in
    let run = run_of pair.source bounds p.input tape in
    let form = tapes_have_plain_forms pair.source bounds p.input tape in
    let plain = plain_form need run.taken in
    let fits : WordsFit 64 need plain = widen (widest_choice pair.source) need plain (widest_small pair.source) form.fits in
    let at_most = form.no_greater (WordsFit-length 64 need tape least.fits) in
    let is : plain ≡ tape =
    elim (cases_order (number_of plain) (number_of tape)) as (λ _. plain ≡ tape) [
      | inl same ↦ number_of-same need plain tape (WordsFit-digits 64 need plain (omega arith) fits) (WordsFit-digits 64 need tape (omega arith) least.fits) same
      | inr apart ↦ elim apart as (λ _. plain ≡ tape) [
        | inl below ↦ absurd (let fails = least.least plain fits below in let holds = plain_covers pair bounds p tape ∙ least.cover in let f : true ≡ false = sym holds ∙ fails in cc)
        | inr above ↦ absurd (omega (arith, above, at_most))
      ]
    ] in
    λ k. ap (λ (t : List ℕ). slice_index t k) (sym is) ∙ form.plain k

-- ---- what a trail ends in

pub ends_correct : (pair : RunPair) (bounds : Bounds) (budget : Budget) (tapes : List (List ℕ)) (o : Option Point) → Ends pair bounds budget tapes o Correct → AreAllCovered pair bounds tapes
ends_correct pair bounds budget tapes None h = h
ends_correct pair bounds budget tapes (Some p) h = absurd h

pub record IsOpen (pair : RunPair) (bounds : Bounds) (o : Option Point) (q : Point) : Type 0 where
  pub is : o ≡ Some q
  pub none : HasNoCover pair bounds q

pub ends_incorrect : (pair : RunPair) (bounds : Bounds) (budget : Budget) (tapes : List (List ℕ)) (o : Option Point) (q : Point) → Ends pair bounds budget tapes o (Incorrect q) → IsOpen pair bounds o q
ends_incorrect pair bounds budget tapes None q h = absurd h
ends_incorrect pair bounds budget tapes (Some p) q h = record { is = ap Some (sym h.0); none = rw h.0 h.1 }

pub cons_after : (before : List (List ℕ)) (t : List ℕ) (ts : List (List ℕ)) → before ++ t ∷ ts ≡ (before ++ t ∷ []) ++ ts
cons_after before t ts = sym (append_assoc before (t ∷ []) ts)

-- the open point is the least that the tapes leave
pub open_is_least : (pair : RunPair) (bounds : Bounds) (before tapes : List (List ℕ)) (points : List Point) (p : Point) → TrailFrom pair bounds before tapes points → slice_get points (length tapes) ≡ Some p → IsLeastUncovered pair bounds (before ++ tapes) p
open_is_least pair bounds before [] [] p trail e = absurd (cc)
open_is_least pair bounds before [] (q ∷ []) p trail e = let same : q ≡ p = cc in rw append-nil (rw (← same) trail)
open_is_least pair bounds before [] (q ∷ (r ∷ rs)) p trail e = absurd trail
open_is_least pair bounds before (t ∷ ts) (q ∷ qs) p trail e = rw (cons_after before t ts) (open_is_least pair bounds (before ++ t ∷ []) ts qs p trail.2 e)
open_is_least pair bounds before (t ∷ ts) [] p trail e = absurd trail
