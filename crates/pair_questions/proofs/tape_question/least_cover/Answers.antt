-- The variables are the words of a tape, and what is found of numbers is found of tapes.
use Rattle.pair_questions.proofs.Common.{ℕ, List, sym, subst, ◌∙◌, AreWidths, IsFoundNumbers, number_test, IsCovering, tape_widths}
use Rattle.pair_questions.proofs.Findings.{found_tape, tape_passes, words_are}
use Rattle.pair_questions.proofs.Fitting.{tape_narrow}
use Rattle.pair_questions.proofs.Ordered.{counted, order_asked, order_within, tape_order}
use Rattle.pair_questions.proofs.tape_question.least_cover.Goals as goal

pub widths_of-requires : goal.widths_of-requires
widths_of-requires c =
    let s = c.args.subject.now in
    let is = tape_order s.pair.now s.bounds.now s.need c.new-terms.result c.tape_variables.new.terms c.new-order.result.items c.tape_variables.new.order.items
    c.requires.subject.need c.new-terms.ensures c.new-order.ensures.items c.in_ok-tape.ensures.order in
    order_within c.tape_variables.new.terms c.tape_variables.new.order.items c.as_slice.result.now (tape_widths s.pair.now s.bounds.now) is c.as_slice.ensures.value

pub least_numbers-requires-clause-goal : goal.least_numbers-requires-clause-goal
least_numbers-requires-clause-goal c = c.in_ok-goal.ensures.made.0

pub least_numbers-requires-clause-order : goal.least_numbers-requires-clause-order
least_numbers-requires-clause-order c =
    let s = c.args.subject.now in
    let asked = tape_widths s.pair.now s.bounds.now in
    let is = tape_order s.pair.now s.bounds.now s.need c.new-terms.result c.tape_variables.new.terms c.new-order.result.items c.tape_variables.new.order.items
    c.requires.subject.need c.new-terms.ensures c.new-order.ensures.items c.in_ok-tape.ensures.order in
    let widths = counted c.tape_variables.new.terms c.tape_variables.new.order.items c.as_slice.result.now asked c.in_ok-widths.widths.items c.in_ok-widths.ensures.fit is c.as_slice.ensures.value c.in_ok-widths.ensures.widths in
    order_asked c.tape_variables.new.terms c.covering.new.terms c.tape_variables.new.order.items c.as_slice-2.result.now asked c.as_slice-3.result.now
    c.covering.ensures.kept is c.as_slice-2.ensures.value (c.as_slice-3.ensures.value ∙ widths)

pub least_numbers-requires-clause-widths : goal.least_numbers-requires-clause-widths
least_numbers-requires-clause-widths c =
    let s = c.args.subject.now in
    let is = tape_order s.pair.now s.bounds.now s.need c.new-terms.result c.tape_variables.new.terms c.new-order.result.items c.tape_variables.new.order.items
    c.requires.subject.need c.new-terms.ensures c.new-order.ensures.items c.in_ok-tape.ensures.order in
    let widths = counted c.tape_variables.new.terms c.tape_variables.new.order.items c.as_slice.result.now (tape_widths s.pair.now s.bounds.now) c.in_ok-widths.widths.items c.in_ok-widths.ensures.fit is c.as_slice.ensures.value c.in_ok-widths.ensures.widths in
    subst (λ (ws : List ℕ). AreWidths ws) (sym (c.as_slice-3.ensures.value ∙ widths)) (tape_narrow s.pair.now s.bounds.now)

pub returns : goal.returns
returns c =
    let s = c.args.subject.now in
    let asked = tape_widths s.pair.now s.bounds.now in
    let is = tape_order s.pair.now s.bounds.now s.need c.new-terms.result c.tape_variables.new.terms c.new-order.result.items c.tape_variables.new.order.items
    c.requires.subject.need c.new-terms.ensures c.new-order.ensures.items c.in_ok-tape.ensures.order in
    let widths = counted c.tape_variables.new.terms c.tape_variables.new.order.items c.as_slice.result.now asked c.in_ok-widths.widths.items c.in_ok-widths.ensures.fit is c.as_slice.ensures.value c.in_ok-widths.ensures.widths in
    let ids = words_are c.new-order.result.items c.tape_variables.new.order.items c.in_ok-tape.tape.words c.new-order.ensures.items c.in_ok-tape.ensures.ids in
    let test = number_test c.covering.new.terms c.in_ok-goal.goal in
    let passes = tape_passes c.tape_variables.new.terms c.covering.new.terms c.in_ok-goal.goal c.tape_variables.new.order.items asked c.in_ok-widths.ensures.fit is.numbered
    c.in_ok-tape.tape (IsCovering s.pair.now s.bounds.now c.args.point.now) ids c.in_ok-goal.ensures.made in
    found_tape s.pair.now s.bounds.now c.args.point.now test passes c.args.limit c.in_ok-found.found
    (subst (λ (ws : List ℕ). IsFoundNumbers test ws c.args.limit c.in_ok-found.found) (c.as_slice-3.ensures.value ∙ widths) c.in_ok-found.ensures)
