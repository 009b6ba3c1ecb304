use Rattle.bv_terms.specs.declared.term.Term.TheVariants as term
use Rattle.bv_terms.specs.declared.variable.Variable.{Variable}
use Rattle.test_solving.proofs.Alone.{alone-binary, alone-constant, alone-variable, later}
use Rattle.test_solving.proofs.ask_tests.below.Goals as goal

pub asked-requires-clause-all : goal.asked-requires-clause-all
asked-requires-clause-all c = λ fit.
    let terms = c.binary.new.self in
    let x : Variable = record { number = 0; width = 8 } in
    let kept = c.binary.ensures.kept in
    let variable = alone-variable terms x fit c.in_ok-terms.x (later _ terms c.in_ok-terms.x.index (term.Variable 0 8) kept c.in_ok-terms.ensures.x) in
    let constant = alone-constant terms x fit c.in_ok-terms.c c.args.value 8 (later _ terms c.in_ok-terms.c.index (term.Constant c.args.value 8) kept c.in_ok-terms.ensures.c) in
    alone-binary terms x fit c.in_ok-goal.goal _ c.in_ok-terms.x c.in_ok-terms.c _ c.in_ok-goal.ensures.stored variable constant
