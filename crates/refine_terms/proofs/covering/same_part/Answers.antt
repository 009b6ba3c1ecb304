use Rattle.refine_terms.proofs.ValueTests.{same_part_tests}
use Rattle.refine_terms.proofs.covering.same_part.Goals as goal

pub returns-clause-made : goal.returns-clause-made
returns-clause-made c =
    same_part_tests c.args.given c.args.terms.now c.same_address.new.terms c.equals.new.terms c.both.new.terms c.args.source c.args.target c.in_ok-pointer.pointer c.in_ok-part.part c.in_ok-id.id
    c.requires.source c.requires.target c.same_address.ensures.kept c.equals.ensures.kept c.in_ok-pointer.ensures.made c.in_ok-part.ensures.made c.in_ok-id.ensures.made
