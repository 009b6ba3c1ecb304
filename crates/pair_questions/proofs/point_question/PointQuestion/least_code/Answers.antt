-- What is found of numbers is found of points.
use Rattle.pair_questions.proofs.Common.{ℕ, List, sym, subst, ◌∙◌, AreWidths, IsFoundNumbers, number_test, IsMissed}
use Rattle.std.proofs.lemmas.Result.{IfOk-weaker}
use Rattle.pair_questions.proofs.Findings.{Passes, found_code, point_passes}
use Rattle.pair_questions.proofs.Fitting.{point_narrow}
use Rattle.pair_questions.proofs.point_question.PointQuestion.least_code.Goals as goal

pub least_numbers-requires-clause-widths : goal.least_numbers-requires-clause-widths
least_numbers-requires-clause-widths c =
    let s = c.args.subject.now in
    subst (λ (ws : List ℕ). AreWidths ws) (sym (c.as_slice-3.ensures ∙ c.requires.question.question.widths)) (point_narrow s.pair.now s.bounds.now)

pub returns : goal.returns
returns c = λ h.
    let s = c.args.subject.now in
    let q = c.args.self.now in
    let is = h.question in
    let test = number_test q.terms q.goal in
    let widths = c.as_slice-3.ensures in
    let passes = point_passes q.terms q.terms q.goal q.order q.widths c.as_slice.ensures.fit is.order.numbered q.of.input q.of.tape (IsMissed s.pair.now s.bounds.now h.front q.tapes) is.ids is.goal in
    IfOk-weaker c.least_numbers.result _ _
    (λ found numbers. found_code s.pair.now s.bounds.now s.shape c.requires.subject.shape c.requires.subject.ready.small h.front q.left.items q.tapes h.all test
    (subst (λ (ws : List ℕ). Passes test ws (IsMissed s.pair.now s.bounds.now h.front q.tapes)) is.widths passes) q.limit h.whole found
    (subst (λ (ws : List ℕ). IsFoundNumbers test ws q.limit found) (widths ∙ is.widths) numbers))
    c.least_numbers.ensures
