use Rattle.refine_terms.proofs.Common.{◌<◌, length, arith, IsSymBlock, each-at, frame-at, frames-alike, keeps_trans, sym_block-later}
use Rattle.refine_terms.proofs.MemoryTests.{block_row, blocks_end}
use Rattle.refine_terms.proofs.covering.blocks_allowed.Goals as goal

pub block_allowed-requires-clause-source : goal.block_allowed-requires-clause-source
block_allowed-requires-clause-source c =
    sym_block-later c.args.terms.now c.loop-i.terms c.loop-i.invariant.kept c.index-source-i.result
    (each-at (IsSymBlock c.args.terms.now) c.args.source.now c.loop-i.i c.index-source-i.result c.requires.source c.loop-i-test.true c.index-source-i.is)

pub block_allowed-requires-clause-target : goal.block_allowed-requires-clause-target
block_allowed-requires-clause-target c =
    let below : c.loop-i.i < length c.args.target.now = omega (arith, frames-alike c.args.source.now c.args.target.now c.requires.frames, c.loop-i-test.true) in
    sym_block-later c.args.terms.now c.loop-i.terms c.loop-i.invariant.kept c.index-target-i.result
    (each-at (IsSymBlock c.args.terms.now) c.args.target.now c.loop-i.i c.index-target-i.result c.requires.target below c.index-target-i.is)

pub block_allowed-requires-clause-frame : goal.block_allowed-requires-clause-frame
block_allowed-requires-clause-frame c =
    let below : c.loop-i.i < length c.args.target.now = omega (arith, frames-alike c.args.source.now c.args.target.now c.requires.frames, c.loop-i-test.true) in
    frame-at c.args.source.now c.args.target.now c.loop-i.i c.index-source-i.result c.index-target-i.result c.requires.frames c.loop-i-test.true below c.index-source-i.is c.index-target-i.is

pub loop-i-preserved : goal.loop-i-preserved
loop-i-preserved c =
    let below : c.loop-i.i < length c.args.target.now = omega (arith, frames-alike c.args.source.now c.args.target.now c.requires.frames, c.loop-i-test.true) in
    record {
      kept = keeps_trans c.args.terms.now c.block_allowed.new.terms c.both.new.terms (keeps_trans c.args.terms.now c.loop-i.terms c.block_allowed.new.terms c.loop-i.invariant.kept c.block_allowed.ensures.kept) c.both.ensures.kept;
      all = record { within = c.in_ok-all-2.ensures.made.within; wide = c.in_ok-all-2.ensures.made.wide };
      rest = block_row c.args.given c.args.terms.now c.loop-i.terms c.block_allowed.new.terms c.both.new.terms c.in_ok-allowed.allowed c.loop-i.all c.in_ok-all-2.all c.args.source.now c.args.target.now c.loop-i.i c.index-source-i.result c.index-target-i.result
          c.requires.source c.requires.target c.loop-i-test.true below c.index-source-i.is c.index-target-i.is c.loop-i.invariant.all c.loop-i.invariant.kept c.block_allowed.ensures.kept c.loop-i.invariant.rest c.in_ok-allowed.ensures.made c.in_ok-all-2.ensures.made;
    }

pub returns-clause-made : goal.returns-clause-made
returns-clause-made c =
    blocks_end c.args.given c.args.terms.now c.loop-i.terms c.loop-i.all c.args.source.now c.args.target.now c.loop-i.i c.requires.always_source c.requires.always_target c.loop-i.invariant.all c.loop-i-test.false
    (frames-alike c.args.source.now c.args.target.now c.requires.frames) c.loop-i.invariant.rest
