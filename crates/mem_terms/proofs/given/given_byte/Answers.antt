use Rattle.mem_terms.proofs.GivenTerms.{given_byte-stands}
use Rattle.mem_terms.proofs.given.given_byte.Goals as goal

pub returns-clause-stands : goal.returns-clause-stands
returns-clause-stands c =
    given_byte-stands c.args.terms.now c.resize.new.terms c.constant.new.terms c.equals.new.terms c.args.b c.in_ok-block.block c.in_ok-part_kind.part_kind c.in_ok-is_part.is_part
    c.values_fit.ensures c.requires c.resize.ensures.kept c.in_ok-block.ensures.made c.constant.ensures.kept c.in_ok-part_kind.ensures.made c.equals.ensures.kept c.in_ok-is_part.ensures.made
