use Rattle.run_terms.proofs.Common.{◌≡◌, ◌∙◌, ap, List, keeps_trans, number-later, sym_values-later, value-later, values-later, Value, operand_value, typed_operand_value, as_integer, value_at, values_at}
use Rattle.run_terms.specs.Common.{number_at}
use Rattle.run_terms.proofs.Reading.{selected_integer}
use Rattle.run_terms.proofs.instructions.selection.Goals as goal

pub typed_operand_of-requires : goal.typed_operand_of-requires
typed_operand_of-requires c = sym_values-later c.args.terms.now c.number_of.new.terms c.number_of.ensures.kept c.args.registers.now c.requires

pub typed_operand_of-requires-2 : goal.typed_operand_of-requires-2
typed_operand_of-requires-2 c =
    sym_values-later c.args.terms.now c.typed_operand_of.new.terms (keeps_trans c.args.terms.now c.number_of.new.terms c.typed_operand_of.new.terms c.number_of.ensures.kept c.typed_operand_of.ensures.kept) c.args.registers.now c.requires

pub returns-clause-kept : goal.returns-clause-kept
returns-clause-kept c =
    let old = c.args.terms.now in
    let b = c.typed_operand_of.new.terms in
    let d = c.typed_operand_of-2.new.terms in
    keeps_trans old d c.select.new.terms (keeps_trans old b d (keeps_trans old c.number_of.new.terms b c.number_of.ensures.kept c.typed_operand_of.ensures.kept) c.typed_operand_of-2.ensures.kept) c.select.ensures.kept

pub returns-clause-stands : goal.returns-clause-stands
returns-clause-stands c = λ r names.
    let old = c.args.terms.now in
    let a = c.number_of.new.terms in
    let b = c.typed_operand_of.new.terms in
    let d = c.typed_operand_of-2.new.terms in
    let kb = c.typed_operand_of.ensures.kept in
    let kd = c.typed_operand_of-2.ensures.kept in
    let rs = values_at r old c.args.registers.now in
    let test : number_at r.v d c.in_ok-test.test ≡ as_integer (operand_value rs c.args.condition) = number-later a d (keeps_trans a b d kb kd) r.v c.in_ok-test.test c.in_ok-test.ensures.made ∙ c.in_ok-test.ensures.stands r names in
    let first : value_at r d c.in_ok-first.first ≡ typed_operand_value rs c.args.if_true = value-later b d kd r c.in_ok-first.first c.in_ok-first.ensures.made
    ∙ (c.in_ok-first.ensures.stands r names ∙ ap (λ (vs : List Value). typed_operand_value vs c.args.if_true) (values-later old a c.number_of.ensures.kept r c.args.registers.now c.requires)) in
    let second : value_at r d c.in_ok-second.second ≡ typed_operand_value rs c.args.if_false = c.in_ok-second.ensures.stands r names
    ∙ ap (λ (vs : List Value). typed_operand_value vs c.args.if_false) (values-later old b (keeps_trans old a b c.number_of.ensures.kept kb) r c.args.registers.now c.requires) in
    c.in_ok-value.ensures.stands r ∙ rw (test, first, second) (selected_integer (operand_value rs c.args.condition) (typed_operand_value rs c.args.if_true) (typed_operand_value rs c.args.if_false))
