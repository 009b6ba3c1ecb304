use Rattle.std.proofs.Common.{true}
use Rattle.mem_terms.proofs.Made.{number-made}
use Rattle.mem_terms.proofs.integers.poison_number.Goals as goal

pub returns-clause-stands : goal.returns-clause-stands
returns-clause-stands c =
    number-made c.number.new.terms c.truth.new.terms c.in_ok-poison.poison c.in_ok-number.number (λ _. true) (λ _. 0) 64 c.in_ok-number.ensures.made c.truth.ensures.kept c.in_ok-poison.ensures.made
