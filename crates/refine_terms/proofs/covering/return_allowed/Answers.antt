use Rattle.refine_terms.proofs.Common.{always_each-later, sym_blocks-later}
use Rattle.refine_terms.proofs.MemoryTests.{return_tests}
use Rattle.refine_terms.proofs.covering.return_allowed.Goals as goal

pub blocks_allowed-requires-clause-source : goal.blocks_allowed-requires-clause-source
blocks_allowed-requires-clause-source c = rw c.as_slice.ensures (sym_blocks-later c.args.terms.now c.returned_allowed.new.terms c.returned_allowed.ensures.kept c.args.source.now.blocks c.requires.source.blocks)

pub blocks_allowed-requires-clause-target : goal.blocks_allowed-requires-clause-target
blocks_allowed-requires-clause-target c = rw c.as_slice-2.ensures (sym_blocks-later c.args.terms.now c.returned_allowed.new.terms c.returned_allowed.ensures.kept c.args.target.now.blocks c.requires.target.blocks)

pub blocks_allowed-requires-clause-always_source :
    goal.blocks_allowed-requires-clause-always_source
blocks_allowed-requires-clause-always_source c =
    rw c.as_slice.ensures (always_each-later c.args.terms.now c.returned_allowed.new.terms c.returned_allowed.ensures.kept c.args.source.now.blocks c.requires.source.blocks c.requires.source.always)

pub blocks_allowed-requires-clause-always_target :
    goal.blocks_allowed-requires-clause-always_target
blocks_allowed-requires-clause-always_target c =
    rw c.as_slice-2.ensures (always_each-later c.args.terms.now c.returned_allowed.new.terms c.returned_allowed.ensures.kept c.args.target.now.blocks c.requires.target.blocks c.requires.target.always)

pub returns-clause-made : goal.returns-clause-made
returns-clause-made c =
    rw (← c.len-given.ensures)
    (return_tests c.len-given.result c.args.terms.now c.returned_allowed.new.terms c.blocks_allowed.new.terms c.both.new.terms c.args.source.now c.args.target.now c.in_ok-value.value c.in_ok-blocks.blocks c.in_ok-id.id
    c.requires.source c.requires.target c.returned_allowed.ensures.kept c.blocks_allowed.ensures.kept c.in_ok-value.ensures.made (rw (c.as_slice.ensures, c.as_slice-2.ensures) at c.in_ok-blocks.ensures.made) c.in_ok-id.ensures.made)
