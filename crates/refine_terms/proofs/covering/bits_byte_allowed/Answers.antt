use Rattle.refine_terms.proofs.ValueTests.{bits_byte_tests}
use Rattle.refine_terms.proofs.covering.bits_byte_allowed.Goals as goal

pub returns-clause-made : goal.returns-clause-made
returns-clause-made c = λ given.
    bits_byte_tests given c.args.terms.now c.any_allowed_by_bits.new.terms c.args.source c.args.target c.in_ok-id.id c.requires.no_part c.in_ok-id.ensures.made
