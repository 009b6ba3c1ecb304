use Rattle.mem_terms.proofs.SymBytes.{poison_byte-made}
use Rattle.mem_terms.proofs.bytes.poison_byte.Goals as goal

pub returns-clause-stands : goal.returns-clause-stands
returns-clause-stands c =
    poison_byte-made c.constant-3.new.terms c.truth.new.terms
    (record { is_part = c.in_ok-is_part.is_part; mask = c.in_ok-mask.mask; number = c.in_ok-number.number; block = c.in_ok-zero.zero; offset = c.in_ok-zero.zero; part = c.in_ok-part.part })
    c.in_ok-mask.ensures.made c.truth.ensures.kept c.in_ok-is_part.ensures.made
