use Rattle.refine_terms.proofs.ValueTests.{address_tests}
use Rattle.refine_terms.proofs.covering.same_address.Goals as goal

pub returns-clause-made : goal.returns-clause-made
returns-clause-made c =
    address_tests c.args.given c.last_given_number-last.result c.last_given_number-last.ensures c.args.terms.now c.both_dead.new.terms c.equals.new.terms c.equals-2.new.terms c.both.new.terms c.either.new.terms c.in_ok-dead.dead c.in_ok-block.block c.in_ok-offset.offset c.in_ok-same.same c.in_ok-id.id
    c.args.source.block c.args.source.offset c.args.target.block c.args.target.offset c.requires.source_block c.requires.source_offset c.requires.target_block c.requires.target_offset
    c.both_dead.ensures.kept c.equals.ensures.kept c.equals-2.ensures.kept c.both.ensures.kept
    c.in_ok-dead.ensures.made c.in_ok-block.ensures.made c.in_ok-offset.ensures.made c.in_ok-same.ensures.made c.in_ok-id.ensures.made
