use Rattle.register_slots.proofs.Common.{ℕ, block_of, IsRightJump}
use Rattle.register_slots.proofs.RightParts.{one_more}
use Rattle.register_slots.proofs.checking.are_right_jumps.Goals as goal

pub loop-label-preserved : goal.loop-label-preserved
loop-label-preserved c =
    let P : ℕ → Type 0 = λ (label : ℕ). IsRightJump c.args.f.now c.args.slots.now c.args.lives.now c.args.held.now c.args.block.now.label (block_of c.args.f.now label) in
    let here = c.in_ok-is_right_jump.ensures c.if-not-branch.false in
    one_more P c.as_slice-labels.result.now c.loop-label.label-index 0 _ c.loop-label-test.true (rw (← c.place-at.ensures) here) c.loop-label.invariant
