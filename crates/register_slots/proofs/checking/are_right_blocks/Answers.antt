use Rattle.register_slots.proofs.Common.{arith, slice_get_within}
use borrow.Author.Count.{below_more}
use Rattle.register_slots.proofs.checking.are_right_blocks.Goals as goal

pub loop-at-preserved : goal.loop-at-preserved
loop-at-preserved c = below_more _ _ c.loop-at.invariant (c.in_ok-is_right_block.ensures c.if-not-branch.false)

pub returns : goal.returns
returns c = λ _ at b is.
    let within = slice_get_within c.args.f.now.blocks at b is in
    let end = c.len-at-end.ensures in
    c.loop-at.invariant at (omega (arith, within, end)) b is
