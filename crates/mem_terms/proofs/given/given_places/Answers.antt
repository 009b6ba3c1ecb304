use Rattle.mem_terms.proofs.Eaches.{at-any}
use Rattle.mem_terms.proofs.GivenTerms.{bytes-more}
use Rattle.mem_terms.proofs.given.given_places.Goals as goal

pub loop-b-preserved : goal.loop-b-preserved
loop-b-preserved c =
    bytes-more c.args.terms.now c.loop-b.terms c.given_byte.new.terms c.args.places.now c.loop-b.b-index _ c.loop-b.bytes.items c.push.new.self.items c.in_ok-byte.byte c.requires c.loop-b-test.true (at-any c.args.places.now c.loop-b.b-index _ _ c.loop-b-test.true)
    c.loop-b.invariant.kept c.loop-b.invariant.made c.loop-b.invariant.count c.loop-b.invariant.stands
    c.given_byte.ensures.kept c.in_ok-byte.ensures.made c.in_ok-byte.ensures.stands c.in_ok-push.ensures.items
