use Rattle.slow_judge.proofs.Common.{ℕ, sym, ap, ◌∙◌, List, slice_index, run_of, IsPlain}
use Rattle.slow_judge.proofs.Covering.{covered_by_candidate, not_uncovered, uncovered_when}
use Rattle.slow_judge.proofs.cover.is_uncovered.Goals as goal

pub returns-then-branch-clause-value : goal.returns-then-branch-clause-value
returns-then-branch-clause-value c =
    not_uncovered c.args.pair.now c.args.bounds.now c.args.tapes.now c.args.point.now
    (covered_by_candidate c.args.pair.now c.args.bounds.now c.args.tapes.now c.args.point.now (sym c.in_ok-some_candidate_allows.ensures.value ∙ c.if-branch.true))

pub returns-clause-value : goal.returns-clause-value
returns-clause-value c =
    let same = c.is_plain.ensures.0 c.if-not-is_plain.false in
    let plain : IsPlain c.args.point.now.tape (run_of c.args.pair.now.target c.args.bounds.now c.args.point.now.input c.args.point.now.tape) =
    λ k. ap (λ (tape : List ℕ). slice_index tape k) (sym c.as_slice.ensures) ∙ same k ∙ ap (λ (tape : List ℕ). slice_index tape k) (c.as_slice-2.ensures ∙ sym c.in_ok-target.ensures.taken) in
    uncovered_when c.args.pair.now c.args.bounds.now c.args.tapes.now c.args.point.now c.in_ok-some_allows.field-0 plain (sym c.in_ok-some_candidate_allows.ensures.value ∙ c.if-branch.false) c.in_ok-some_allows.ensures.value
