-- The variables are the numbers of a code, and the goal decides which of them are one.
use Rattle.pair_questions.proofs.Common.{ℕ, List, [], sym, subst, ◌∙◌, Decides, numbers_at, IsMissed, point_widths}
use Rattle.pair_questions.proofs.Excluding.{decides-later, point_terms-later}
use Rattle.pair_questions.proofs.Ordered.{counted, order_asked, order_within}
use Rattle.pair_questions.proofs.point_question.PointQuestion.for_any.Goals as goal

pub widths_of-requires : goal.widths_of-requires
widths_of-requires c =
    let s = c.args.subject.now in
    order_within c.point_terms.new.terms c.point_terms.new.order.items c.as_slice.result.now (point_widths s.pair.now s.bounds.now) c.in_ok-of.ensures.order c.as_slice.ensures.value

pub returns-clause-question : goal.returns-clause-question
returns-clause-question c =
    let s = c.args.subject.now in
    let pair = s.pair.now in
    let bounds = s.bounds.now in
    let one = c.point_terms.new.terms in
    let two = c.is_point.new.terms in
    let k = c.is_point.ensures.kept in
    let of = c.in_ok-of.of in
    let order = c.point_terms.new.order.items in
    let are = c.in_ok-of.ensures.terms in
    let widths = c.from_vec-3.ensures ∙ counted one order c.as_slice.result.now (point_widths pair bounds) c.in_ok-widths.widths.items c.in_ok-widths.ensures.fit c.in_ok-of.ensures.order c.as_slice.ensures.value c.in_ok-widths.ensures.widths in
    let none = c.from_vec.ensures ∙ c.new.ensures.items in
    record {
      of = point_terms-later s one two of k are;
      ids = c.from_vec-2.ensures ∙ c.in_ok-of.ensures.ids;
      order = order_asked one two order c.from_vec-2.result (point_widths pair bounds) c.from_vec-3.result k c.in_ok-of.ensures.order c.from_vec-2.ensures widths;
      widths = widths;
      goal = decides-later one two k pair bounds s.shape of.input of.tape are.input are.tape.words are.tape c.in_ok-goal.goal two (IsMissed pair bounds [] c.from_vec.result)
          (subst (λ (ts : List (List ℕ)). Decides two c.in_ok-goal.goal (λ v. IsMissed pair bounds [] ts (numbers_at v one of.input of.tape))) (sym none) c.in_ok-goal.ensures.made);
    }
