use Rattle.byte_terms.proofs.Parts.{is_part_stands}
use Rattle.byte_terms.proofs.pointer_bytes.is_part.Goals as goal

pub returns-clause-stands : goal.returns-clause-stands
returns-clause-stands c = λ r named.
    is_part_stands c.args.terms.now c.is_same_pointer.new.terms c.has_value.new.terms c.both.new.terms c.both-2.new.terms c.args.block c.args.offset c.args.byte c.args.place
    c.in_ok-same_pointer.same_pointer c.in_ok-same_place.same_place c.in_ok-is_same.is_same c.in_ok-is_part.is_part
    c.requires.byte c.is_same_pointer.ensures.kept c.in_ok-same_pointer.ensures.made c.has_value.ensures.kept c.in_ok-same_place.ensures.made c.both.ensures.kept c.in_ok-is_same.ensures.made c.in_ok-is_part.ensures.made r named
