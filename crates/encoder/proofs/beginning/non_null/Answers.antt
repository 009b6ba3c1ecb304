use Rattle.encoder.proofs.Common.{non_null_stands}
use Rattle.encoder.proofs.beginning.non_null.Goals as goal

pub returns-clause-stands : goal.returns-clause-stands
returns-clause-stands c = non_null_stands c.args.terms.now c.number.new.terms c.equals.new.terms c.equals-2.new.terms c.both.new.terms c.both-2.new.terms c.either.new.terms c.args.value
    c.in_ok-zero.zero c.in_ok-no_block.no_block c.in_ok-no_offset.no_offset c.in_ok-is_zero.is_zero c.in_ok-is_null.is_null c.in_ok-poison.poison c.requires
    c.number.ensures.kept c.in_ok-zero.ensures.made c.equals.ensures.kept c.in_ok-no_block.ensures.made c.equals-2.ensures.kept c.in_ok-no_offset.ensures.made
    c.both.ensures.kept c.in_ok-is_zero.ensures.made c.both-2.ensures.kept c.in_ok-is_null.ensures.made c.either.ensures.kept c.in_ok-poison.ensures.made
