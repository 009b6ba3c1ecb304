use Rattle.refine_terms.proofs.ByteKinds.{four_tests}
use Rattle.refine_terms.proofs.bytes.all_four.Goals as goal

pub returns-clause-made : goal.returns-clause-made
returns-clause-made c =
    four_tests c.args.terms.now c.both.new.terms c.both-2.new.terms c.both-3.new.terms c.args.a c.args.b c.args.c c.args.d c.in_ok-last.last c.in_ok-rest.rest c.in_ok-id.id
    c.requires.a c.requires.b c.both.ensures.kept c.both-2.ensures.kept c.in_ok-last.ensures.made c.in_ok-rest.ensures.made c.in_ok-id.ensures.made
