use Rattle.std.proofs.Common.{◌<◌, length, arith}
use Rattle.mem_terms.proofs.Eaches.{at-any}
use Rattle.mem_terms.proofs.GivenTerms.{picked_bytes-more}
use Rattle.mem_terms.proofs.given.pick_places.Goals as goal

pub loop-i-preserved : goal.loop-i-preserved
loop-i-preserved c =
    let below : c.loop-i.i < length c.args.b.now = omega (arith, c.requires.alike, c.loop-i-test.true) in
    picked_bytes-more c.args.terms.now c.loop-i.terms c.pick_byte.new.terms c.args.c c.args.a.now c.args.b.now c.loop-i.i _ _ c.loop-i.picked.items c.push.new.self.items c.in_ok-byte.byte
    c.requires.c c.requires.a c.requires.b c.requires.alike c.loop-i-test.true (at-any c.args.a.now c.loop-i.i _ _ c.loop-i-test.true) (at-any c.args.b.now c.loop-i.i _ _ below) c.loop-i.invariant
    c.pick_byte.ensures.kept c.in_ok-byte.ensures.made c.in_ok-byte.ensures.stands c.in_ok-push.ensures.items
