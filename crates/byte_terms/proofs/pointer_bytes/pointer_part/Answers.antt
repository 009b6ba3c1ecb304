use Rattle.byte_terms.proofs.Parts.{pointer_part_stands}
use Rattle.byte_terms.proofs.pointer_bytes.pointer_part.Goals as goal

pub returns-clause-stands : goal.returns-clause-stands
returns-clause-stands c =
    pointer_part_stands c.args.terms.now c.constant.new.terms c.constant-2.new.terms c.constant-3.new.terms c.args.is_part c.in_ok-mask.mask c.in_ok-number.number c.args.block c.args.offset c.in_ok-part.part c.args.place
    c.requires.is_part c.requires.block c.requires.offset c.constant.ensures.kept c.in_ok-mask.ensures.made c.constant-2.ensures.kept c.in_ok-number.ensures.made c.constant-3.ensures.kept c.in_ok-part.ensures.made
