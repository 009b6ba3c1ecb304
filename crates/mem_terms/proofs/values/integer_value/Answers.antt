use Rattle.mem_terms.proofs.Later.{keeps_trans}
use Rattle.mem_terms.proofs.SymValues.{integer-made}
use Rattle.mem_terms.proofs.values.integer_value.Goals as goal

pub returns-clause-stands : goal.returns-clause-stands
returns-clause-stands c =
    integer-made c.args.terms.now c.truth.new.terms c.args.n c.in_ok-is_pointer.is_pointer c.in_ok-block.block c.requires (keeps_trans c.args.terms.now c.number.new.terms c.truth.new.terms c.number.ensures.kept c.truth.ensures.kept) c.in_ok-is_pointer.ensures.made
