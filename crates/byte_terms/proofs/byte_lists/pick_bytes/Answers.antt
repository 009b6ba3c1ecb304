use Rattle.byte_terms.proofs.Common.{get_or, arith, ◌<◌, length, at-any}
use Rattle.byte_terms.proofs.ByteLists.{bytes_more}
use Rattle.byte_terms.proofs.byte_lists.pick_bytes.Goals as goal

pub loop-i-preserved : goal.loop-i-preserved
loop-i-preserved c =
    let below : c.loop-i.i < length c.args.b.now = omega arith in
    bytes_more c.args.terms.now c.loop-i.terms c.pick_byte.new.terms c.args.c c.args.a.now c.args.b.now c.loop-i.picked.items c.push.new.self.items c.loop-i.i
    (get_or c.args.a.now c.loop-i.i (record { is_part = record { index = 0 }; mask = record { index = 0 }; number = record { index = 0 }; block = record { index = 0 }; offset = record { index = 0 }; part = record { index = 0 } }))
    (get_or c.args.b.now c.loop-i.i (record { is_part = record { index = 0 }; mask = record { index = 0 }; number = record { index = 0 }; block = record { index = 0 }; offset = record { index = 0 }; part = record { index = 0 } })) c.in_ok-one.one
    c.requires.c c.requires.a c.requires.b c.requires.count c.loop-i-test.true (at-any c.args.a.now c.loop-i.i _ _ c.loop-i-test.true) (at-any c.args.b.now c.loop-i.i _ _ below)
    c.loop-i.invariant.0 c.loop-i.invariant.1 c.loop-i.invariant.2 c.loop-i.invariant.4 c.pick_byte.ensures.kept c.in_ok-one.ensures.made c.in_ok-one.ensures.stands c.in_ok-push.ensures.items
