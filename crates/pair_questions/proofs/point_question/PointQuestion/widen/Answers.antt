use Rattle.std.proofs.lemmas.Bool.{eqb-true}
use Rattle.std.proofs.Common.{vec_len}
use Rattle.pair_questions.proofs.Common.{ℕ, ◌≡◌, [], ◌∷◌, List, length, refl, sym, ◌∙◌, arith, Candidate, IsPointQuestion}
use Rattle.pair_questions.proofs.Joining.{found_within, none_left, where_joined, widened}
use Rattle.pair_questions.proofs.point_question.PointQuestion.widen.Goals as goal

no_items : (xs : List Candidate) → length xs ≡ 0 → xs ≡ []
no_items [] e = refl
no_items (x ∷ xs) e = absurd (omega (arith, e))

pub returns-then-is_empty-clause-none : goal.returns-then-is_empty-clause-none
returns-then-is_empty-clause-none c _ =
    let s = c.args.subject.now in
    let left = c.args.self.now.left in
    let none : length left.items ≡ 0 = omega (arith, eqb-true (vec_len left) 0 (sym c.is_empty.ensures ∙ c.if-is_empty.true)) in
    ((none_left s.pair.now s.bounds.now c.args.point.now left.items (no_items left.items none)), refl)

pub remove-candidate-requires : goal.remove-candidate-requires
remove-candidate-requires c =
    let s = c.args.subject.now in
    omega (arith, found_within s.pair.now s.bounds.now c.args.point.now c.as_slice-left.result.now c.args.self.now.left.items c.in_ok-i.field-0 c.in-Some.i c.as_slice-left.ensures.value c.in-Some.is c.in_ok-i.ensures)

pub returns-in-Some-clause-widened : goal.returns-in-Some-clause-widened
returns-in-Some-clause-widened c =
    let s = c.args.subject.now in
    let q = c.args.self.now in
    let i = c.in-Some.i in
    let within = found_within s.pair.now s.bounds.now c.args.point.now c.as_slice-left.result.now q.left.items c.in_ok-i.field-0 i c.as_slice-left.ensures.value c.in-Some.is c.in_ok-i.ensures in
    where_joined c.join.result c.and.result _ _ c.and.ensures c.join.ensures.question
    (widened s q c.join.new.self c.remove-candidate.new.self i c.remove-candidate.result c.requires.question within c.remove-candidate.ensures.value c.remove-candidate.ensures.items (omega (arith, c.remove-candidate.ensures.len))
    c.join.ensures.left c.join.ensures.limit)
