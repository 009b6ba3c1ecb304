use Rattle.proof_text.proofs.Common.{sym, ◌∙◌, arith, decimal_injective}
use Rattle.proof_text.proofs.words.clause_number_in.Goals as goal

pub returns-else-number-gt0 : goal.returns-else-number-gt0
returns-else-number-gt0 c = λ n fit e.
    let same = decimal_injective n c.in_ok-number.number (omega arith) (omega (arith, c.in_ok-number.ensures.0)) (sym e ∙ c.in_ok-number.ensures.1) in
    omega arith
