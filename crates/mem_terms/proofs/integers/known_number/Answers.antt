use Rattle.std.proofs.Common.{false}
use Rattle.mem_terms.proofs.Made.{number-made}
use Rattle.mem_terms.proofs.integers.known_number.Goals as goal

pub returns-clause-stands : goal.returns-clause-stands
returns-clause-stands c =
    number-made c.number.new.terms c.truth.new.terms c.in_ok-poison.poison c.in_ok-number.number (λ _. false) (λ _. c.args.n) 64 c.in_ok-number.ensures.made c.truth.ensures.kept c.in_ok-poison.ensures.made
