-- The variables are the numbers of a code, and the other terms are made of them.
use Rattle.pair_questions.proofs.Common.{ℕ, sym, ◌∙◌, keeps_trans, is_input-later, words-later, words_at-later, input_ids}
use Rattle.pair_questions.proofs.Excluding.{integers-later, of_target-later}
use Rattle.pair_questions.proofs.Extending.{input_extended}
use Rattle.pair_questions.proofs.Findings.{ids_are}
use Rattle.pair_questions.proofs.Numbered.{order_kept}
use Rattle.pair_questions.proofs.Ordered.{point_order}
use Rattle.pair_questions.proofs.point_question.point_terms.Goals as goal

pub target_run-requires-clause-input : goal.target_run-requires-clause-input
target_run-requires-clause-input c = input_extended c.input_variables.new.terms c.tape_variables.new.terms c.tape_variables.ensures.kept c.args.subject.now.shape c.in_ok-input.input c.in_ok-input.ensures.input

pub integer_words-requires : goal.integer_words-requires
integer_words-requires c =
    let s = c.args.subject.now.shape in
    let there = input_extended c.input_variables.new.terms c.tape_variables.new.terms c.tape_variables.ensures.kept s c.in_ok-input.input c.in_ok-input.ensures.input in
    (s.parameters, rw c.as_slice.ensures (is_input-later c.tape_variables.new.terms c.target_run.new.terms c.target_run.ensures.kept s.parameters s.layout c.in_ok-input.input there).args)

pub returns-clause-terms : goal.returns-clause-terms
returns-clause-terms c =
    let s = c.args.subject.now in
    let pair = s.pair.now in
    let bounds = s.bounds.now in
    let one = c.tape_variables.new.terms in
    let two = c.target_run.new.terms in
    let three = c.integer_words.new.terms in
    let k2 = c.target_run.ensures.kept in
    let k3 = c.integer_words.ensures.kept in
    let input = c.in_ok-input.input in
    let tape = c.in_ok-tape.tape in
    let start = input_extended c.input_variables.new.terms one c.tape_variables.ensures.kept s.shape input c.in_ok-input.ensures.input in
    let there = is_input-later one two k2 s.shape.parameters s.shape.layout input start in
    let words = words-later one two k2 tape.words c.in_ok-tape.ensures.are in
    record {
      input = is_input-later two three k3 s.shape.parameters s.shape.layout input there;
      tape = record { count = c.in_ok-tape.ensures.count; words = words-later two three k3 tape.words words };
      numbers = c.in_ok-numbers.ensures.are;
      integers = λ v. rw c.as_slice.ensures at (c.in_ok-numbers.ensures.stands v) ∙ sym (integers-later two three k3 pair bounds s.shape input tape there words s.shape.parameters input.args there.args v);
      target = of_target-later two three k3 pair bounds s.shape input tape there words c.in_ok-target.target c.in_ok-target.ensures.made;
    }

pub returns-clause-order : goal.returns-clause-order
returns-clause-order c =
    let s = c.args.subject.now in
    let one = c.tape_variables.new.terms in
    let is = point_order s.pair.now s.bounds.now s.shape c.args.terms.now c.input_variables.new.terms one c.args.order.now.items c.input_variables.new.order.items c.tape_variables.new.order.items
    c.requires.subject.shape c.requires.no_terms c.requires.no_order c.in_ok-input.ensures.order c.in_ok-tape.ensures.order in
    order_kept one c.integer_words.new.terms c.tape_variables.new.order.items _ (keeps_trans one c.target_run.new.terms c.integer_words.new.terms c.target_run.ensures.kept c.integer_words.ensures.kept) is

pub returns-clause-ids : goal.returns-clause-ids
returns-clause-ids c =
    ids_are c.args.order.now.items c.input_variables.new.order.items c.tape_variables.new.order.items (input_ids c.in_ok-input.input) c.in_ok-tape.tape.words c.requires.no_order c.in_ok-input.ensures.ids c.in_ok-tape.ensures.ids
