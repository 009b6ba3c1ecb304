use Rattle.mem_terms.proofs.SymValues.{poison-made}
use Rattle.mem_terms.proofs.values.poison_value.Goals as goal

pub returns-clause-stands : goal.returns-clause-stands
returns-clause-stands c =
    poison-made c.truth-2.new.terms (record { poison = c.in_ok-poison.poison; is_pointer = c.in_ok-is_pointer.is_pointer; block = c.in_ok-zero.zero; number = c.in_ok-zero.zero }) c.in_ok-poison.ensures.made
