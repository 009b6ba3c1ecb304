use Rattle.refine_terms.proofs.ByteKinds.{place_decides}
use Rattle.refine_terms.proofs.places.place_code.Goals as goal

pub returns-clause-made : goal.returns-clause-made
returns-clause-made c =
    place_decides c.args.terms.now c.byte_code.new.terms c.unused_code.new.terms c.at_most.new.terms c.pick.new.terms c.args.b c.args.layout.now c.args.place c.args.size
    c.in_ok-byte.byte c.in_ok-unused.unused c.in_ok-is_past.is_past c.in_ok-id.id
    c.requires.byte c.requires.size.within c.byte_code.ensures.kept c.unused_code.ensures.kept c.at_most.ensures.kept
    c.in_ok-byte.ensures.made c.in_ok-unused.ensures.made c.in_ok-is_past.ensures.made c.in_ok-id.ensures.made
