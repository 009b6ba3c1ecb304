use Rattle.run_terms.proofs.Common.{◌∙◌, ap, sym, subst, List, Option, Some, filter, IrType, Return, is_given, returned_with, naming, Value, typed_operand_value, sight, IsReturned}
use Rattle.run_terms.proofs.Lasting.{counts-later, tally-later}
use Rattle.run_terms.proofs.terminators.returned_value.Goals as goal

pub returns-in_ok-choice-in-Some-clause-stands : goal.returns-in_ok-choice-in-Some-clause-stands
returns-in_ok-choice-in-Some-clause-stands c = λ g at m sees held h.
    let took = c.in_ok-choice-in-Some.ensures.takes g at m sees held h in
    let choice = c.in_ok-choice-in-Some.choice in
    subst (λ (o : Option IrType). IsReturned g c.choose.new.terms choice.tally (Some choice.value) m (returned_with o c.args.returned g.tape m)) (sym c.in-Some.is ∙ c.undef_type.ensures)
    (record { tally = took.0; outcome = ap (λ (v : Value). Return (Some v) (filter is_given m.memory)) took.1 })

pub returns-in_ok-value-in-None-clause-stands : goal.returns-in_ok-value-in-None-clause-stands
returns-in_ok-value-in-None-clause-stands c = λ g at m sees held h.
    let new = c.typed_operand_of.new.terms in
    let s = c.args.leaving.state.now in
    subst (λ (o : Option IrType). IsReturned g new s.tally (Some c.in_ok-value-in-None.value) m (returned_with o c.args.returned g.tape m)) (sym c.in-None.is ∙ c.undef_type.ensures) (record {
      tally = counts-later c.args.terms.now new c.typed_operand_of.ensures.kept g s.tally m.taken c.requires.state.tally h.tally;
      outcome = ap (λ (v : Value). Return (Some v) (filter is_given m.memory)) ((rw c.as_slice.ensures at (c.in_ok-value-in-None.ensures.stands (sight g) (naming g.given))) ∙ ap (λ (rs : List Value). typed_operand_value rs c.args.returned) h.registers);
    })

pub returns-in_ok-value-in-None-clause-tally : goal.returns-in_ok-value-in-None-clause-tally
returns-in_ok-value-in-None-clause-tally c = tally-later c.args.terms.now c.typed_operand_of.new.terms c.typed_operand_of.ensures.kept c.args.leaving.state.now.tally c.requires.state.tally
