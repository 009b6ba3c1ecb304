use Rattle.bv_terms.specs.declared.term.Term.TheVariants as term
use Rattle.bv_terms.specs.declared.variable.Variable.{Variable}
use Rattle.test_solving.proofs.Alone.{alone-binary, alone-constant, alone-variable, later}
use Rattle.test_solving.proofs.ask_tests.roots.Goals as goal

pub asked-requires-clause-all : goal.asked-requires-clause-all
asked-requires-clause-all c = λ fit.
    let squared = c.binary.new.self in
    let terms = c.binary-2.new.self in
    let x : Variable = record { number = 0; width = 8 } in
    let first = c.binary.ensures.kept in
    let second = c.binary-2.ensures.kept in
    let variable = alone-variable terms x fit c.in_ok-terms.x (later squared terms c.in_ok-terms.x.index (term.Variable 0 8) second (later _ squared c.in_ok-terms.x.index (term.Variable 0 8) first c.in_ok-terms.ensures.x)) in
    let constant = alone-constant terms x fit c.in_ok-terms.c c.args.value 8
    (later squared terms c.in_ok-terms.c.index (term.Constant c.args.value 8) second (later _ squared c.in_ok-terms.c.index (term.Constant c.args.value 8) first c.in_ok-terms.ensures.c)) in
    let square = alone-binary terms x fit c.in_ok-square.square _ c.in_ok-terms.x c.in_ok-terms.x _ (later squared terms c.in_ok-square.square.index _ second c.in_ok-square.ensures.stored) variable variable in
    alone-binary terms x fit c.in_ok-goal.goal _ c.in_ok-square.square c.in_ok-terms.c _ c.in_ok-goal.ensures.stored square constant
