use Rattle.refine_terms.proofs.Common.{sym_bytes-later}
use Rattle.refine_terms.proofs.MemoryTests.{block_tests}
use Rattle.refine_terms.proofs.covering.block_allowed.Goals as goal

pub returns-clause-made : goal.returns-clause-made
returns-clause-made c =
    block_tests c.args.given c.args.terms.now c.equals.new.terms c.places_allowed.new.terms c.both.new.terms c.args.source.now c.args.target.now c.in_ok-size.size c.in_ok-places.places c.in_ok-id.id
    c.requires.source c.requires.target c.requires.frame c.equals.ensures.kept c.places_allowed.ensures.kept c.in_ok-size.ensures.made (rw (c.as_slice.ensures, c.as_slice-2.ensures) at c.in_ok-places.ensures.made) c.in_ok-id.ensures.made

pub places_allowed-requires-clause-source : goal.places_allowed-requires-clause-source
places_allowed-requires-clause-source c = rw c.as_slice.ensures (sym_bytes-later c.args.terms.now c.equals.new.terms c.equals.ensures.kept c.args.source.now.places c.requires.source.places)

pub places_allowed-requires-clause-target : goal.places_allowed-requires-clause-target
places_allowed-requires-clause-target c = rw c.as_slice-2.ensures (sym_bytes-later c.args.terms.now c.equals.new.terms c.equals.ensures.kept c.args.target.now.places c.requires.target.places)
