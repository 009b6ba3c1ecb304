use Rattle.std.proofs.Common.{ap, arith, length}
use Rattle.bv_terms.specs.declared.variable.Variable.{Variable}
use Rattle.test_solving.proofs.Only.{all-one, order-one, over-gains}
use Rattle.test_solving.proofs.pigeon_tests.asked.Goals as goal

pub ask-requires-clause-order : goal.ask-requires-clause-order
ask-requires-clause-order c = order-one c.variable.new.self c.in_ok-number.number 0 12 c.in_ok-number.ensures.stored

pub ask-requires-clause-all : goal.ask-requires-clause-all
ask-requires-clause-all c =
    let x : Variable = record { number = 0; width = 12 } in
    let terms = c.variable.new.self in
    let own = over-gains x c.args.terms.now terms c.requires.over c.variable.ensures.gains in
    all-one x terms c.args.goal c.in_ok-number.number c.as_slice-count.ensures.fit own (omega (arith, c.if-goal-count.false, ap length c.as_slice-count.ensures.value)) c.in_ok-number.ensures.stored
