-- The goal has the shifts, or all candidates.
use Rattle.pair_questions.proofs.Common.{ℕ, ◌≡◌, ◌<◌, Option, [], ◌++◌, refl, ap, sym, subst, ◌∙◌, IfSome, SHIFTS, AreTemplates, integer_count, IsQuestionOf}
use Rattle.pair_questions.proofs.Joining.{all_at_first, all_joined, not_some, question_left, whole_none, whole_of}
use Rattle.pair_questions.proofs.point_question.PointQuestion.new.Goals as goal

pub join-requires-clause-question : goal.join-requires-clause-question
join-requires-clause-question c = ([], c.in_ok-question.ensures.question)

pub join-requires-then-is_some-clause-question : goal.join-requires-then-is_some-clause-question
join-requires-then-is_some-clause-question c = (SHIFTS, c.in_ok-join.ensures.question [] c.in_ok-question.ensures.question)

pub returns-then-is_some-clause-question : goal.returns-then-is_some-clause-question
returns-then-is_some-clause-question c =
    let s = c.args.subject.now in
    let cs = c.in_ok-templates.templates.items in
    let none = ap (λ l. l.items) (c.join-then-is_some.ensures.left ∙ c.join.ensures.left) ∙ c.in_ok-question.ensures.left in
    let same = c.join-then-is_some.ensures.limit ∙ (c.join.ensures.limit ∙ c.in_ok-question.ensures.limit) in
    record {
      front = SHIFTS ++ cs;
      question = rw c.as_slice-then-is_some.ensures.value at (c.in_ok-join-2.ensures.question SHIFTS (c.in_ok-join.ensures.question [] c.in_ok-question.ensures.question));
      all = all_joined s.pair.now s.bounds.now SHIFTS cs _ none (all_at_first s.pair.now s.bounds.now cs (rw (c.as_slice.ensures, c.requires.subject.shape.parameters) at c.in_ok-templates.ensures));
      whole = whole_of _ _ (subst (λ (l : Option ℕ). IfSome l (λ n. 0 < n)) (sym same) c.requires.limit) none;
    }

pub returns-clause-question : goal.returns-clause-question
returns-clause-question c =
    let s = c.args.subject.now in
    let cs = c.in_ok-templates.templates.items in
    record {
      front = SHIFTS;
      question = question_left s SHIFTS c.join.new.self _ refl (c.in_ok-join.ensures.question [] c.in_ok-question.ensures.question);
      all = all_at_first s.pair.now s.bounds.now cs (rw (c.as_slice.ensures, c.requires.subject.shape.parameters) at c.in_ok-templates.ensures);
      whole = whole_none _ _ (c.join.ensures.limit ∙ (c.in_ok-question.ensures.limit ∙ not_some c.args.limit (sym c.is_some.ensures ∙ c.if-is_some.false)));
    }
