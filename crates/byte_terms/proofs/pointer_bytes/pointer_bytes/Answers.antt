use Rattle.byte_terms.proofs.Parts.{pointer_bytes_stand}
use Rattle.byte_terms.proofs.pointer_bytes.pointer_bytes.Goals as goal

pub returns-clause-stands : goal.returns-clause-stands
returns-clause-stands c = λ r.
    pointer_bytes_stand c.args.terms.now c.negation.new.terms c.both.new.terms c.pointer_parts.new.terms c.args.value c.in_ok-is_defined.is_defined c.in_ok-is_part.is_part c.in_ok-bytes.bytes
    c.requires c.negation.ensures.kept c.in_ok-is_defined.ensures.made c.both.ensures.kept c.in_ok-is_part.ensures.made r (c.in_ok-bytes.ensures.stands r)
