use Rattle.byte_terms.proofs.Digits.{integer_bytes_stand}
use Rattle.byte_terms.proofs.integer_bytes.integer_bytes.Goals as goal

pub returns-clause-stands : goal.returns-clause-stands
returns-clause-stands c = λ r.
    integer_bytes_stand c.args.terms.now c.either.new.terms c.number_bytes.new.terms c.args.width c.args.value c.in_ok-is_poison.is_poison c.in_ok-bytes.bytes
    c.requires c.either.ensures.kept c.in_ok-is_poison.ensures.made r (c.in_ok-bytes.ensures.stands r)
