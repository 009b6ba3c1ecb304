use Rattle.std.proofs.Common.{◌≡◌, ◌<◌, length, subst, arith}
use Rattle.mem_terms.specs.Memory.{IsSymBlock}
use Rattle.mem_terms.proofs.Eaches.{each-at}
use Rattle.mem_terms.proofs.Later.{sym_block-later}
use Rattle.mem_terms.proofs.GivenTerms.{PickedBlocks, frame-at, frames-alike, picked_blocks-more, picked_blocks-whole}
use Rattle.mem_terms.proofs.given.pick_given.Goals as goal

pub pick_block-requires-clause-a : goal.pick_block-requires-clause-a
pick_block-requires-clause-a c =
    sym_block-later c.args.terms.now c.loop-i.terms c.loop-i.invariant.kept c.index-a-i.result
    (each-at (IsSymBlock c.args.terms.now) c.args.a.now c.loop-i.i c.index-a-i.result c.requires.a c.loop-i-test.true c.index-a-i.is)

pub pick_block-requires-clause-b : goal.pick_block-requires-clause-b
pick_block-requires-clause-b c =
    let below : c.loop-i.i < length c.args.b.now = omega (arith, frames-alike c.args.a.now c.args.b.now c.requires.frames, c.loop-i-test.true) in
    sym_block-later c.args.terms.now c.loop-i.terms c.loop-i.invariant.kept c.index-b-i.result
    (each-at (IsSymBlock c.args.terms.now) c.args.b.now c.loop-i.i c.index-b-i.result c.requires.b below c.index-b-i.is)

pub pick_block-requires-clause-frame : goal.pick_block-requires-clause-frame
pick_block-requires-clause-frame c =
    let below : c.loop-i.i < length c.args.b.now = omega (arith, frames-alike c.args.a.now c.args.b.now c.requires.frames, c.loop-i-test.true) in
    frame-at c.args.a.now c.args.b.now c.loop-i.i c.index-a-i.result c.index-b-i.result c.requires.frames c.loop-i-test.true below c.index-a-i.is c.index-b-i.is

pub loop-i-preserved : goal.loop-i-preserved
loop-i-preserved c =
    picked_blocks-more c.args.terms.now c.loop-i.terms c.pick_block.new.terms c.args.c c.args.a.now c.args.b.now c.loop-i.i c.index-a-i.result c.index-b-i.result c.loop-i.picked.items c.push.new.self.items c.in_ok-block.block
    c.requires.c c.requires.a c.requires.b (frames-alike c.args.a.now c.args.b.now c.requires.frames) c.loop-i-test.true c.index-a-i.is c.index-b-i.is c.loop-i.invariant
    c.pick_block.ensures.kept c.in_ok-block.ensures.made c.in_ok-block.ensures.frame c.in_ok-block.ensures.exists c.in_ok-block.ensures.stands c.in_ok-push.ensures.items

pub returns-clause-stands : goal.returns-clause-stands
returns-clause-stands c known r ga gb =
    let whole : c.loop-i.i ≡ length c.args.a.now = omega (arith, c.loop-i-test.false, c.loop-i.auto.i-end) in
    rw c.from_vec.ensures
    (picked_blocks-whole c.args.terms.now c.loop-i.terms c.args.c c.args.a.now c.args.b.now c.loop-i.picked.items (frames-alike c.args.a.now c.args.b.now c.requires.frames)
    (subst (λ i. PickedBlocks c.args.terms.now c.loop-i.terms c.args.c c.args.a.now c.args.b.now i c.loop-i.picked.items) whole c.loop-i.invariant) known r ga gb)
