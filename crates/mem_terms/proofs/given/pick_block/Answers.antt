use Rattle.mem_terms.proofs.Later.{keeps_trans, sym_bytes-later}
use Rattle.mem_terms.proofs.GivenTerms.{pick_block-stands}
use Rattle.mem_terms.proofs.given.pick_block.Goals as goal

pub pick_places-requires-clause-a : goal.pick_places-requires-clause-a
pick_places-requires-clause-a c =
    let k = keeps_trans c.args.terms.now c.pick.new.terms c.pick-2.new.terms c.pick.ensures.kept c.pick-2.ensures.kept in
    rw c.as_slice.ensures (sym_bytes-later c.args.terms.now c.pick-2.new.terms k c.args.a.now.places c.requires.a.places)

pub pick_places-requires-clause-b : goal.pick_places-requires-clause-b
pick_places-requires-clause-b c =
    let k = keeps_trans c.args.terms.now c.pick.new.terms c.pick-2.new.terms c.pick.ensures.kept c.pick-2.ensures.kept in
    rw c.as_slice-2.ensures (sym_bytes-later c.args.terms.now c.pick-2.new.terms k c.args.b.now.places c.requires.b.places)

pub returns-clause-stands : goal.returns-clause-stands
returns-clause-stands c =
    pick_block-stands c.args.terms.now c.pick.new.terms c.pick-2.new.terms c.pick_places.new.terms c.args.c c.in_ok-exists.exists c.in_ok-size.size c.in_ok-places.places c.args.a.now c.args.b.now
    c.requires.c c.requires.a c.requires.b c.requires.frame c.pick.ensures.kept c.pick-2.ensures.kept c.in_ok-size.ensures.made c.pick_places.ensures.kept
    (rw (c.as_slice.ensures, c.as_slice-2.ensures) at c.in_ok-places.ensures.stands)
