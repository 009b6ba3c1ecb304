use Rattle.points.proofs.Common.{◌-◌, refl, ◌∙◌, arith}
use Rattle.points.proofs.Memories.{none_full_past, next_sizes_is, last_sizes_are, full_more, set_again}
use Rattle.points.proofs.point_steps.next_sizes.Goals as goal

pub loop-i-init : goal.loop-i-init
loop-i-init c = record { unchanged = refl; full = rw c.len-i.ensures (none_full_past c.args.layout.now c.args.blocks.now) }

pub returns-then-block-most-clause-next : goal.returns-then-block-most-clause-next
returns-then-block-most-clause-next c = λ _.
    next_sizes_is c.args.layout.now c.loop-i.blocks c.args.blocks.now _ c.clear_sizes.new.blocks c.clear_places.new.blocks (c.loop-i.i - 1) c.get_mut-block.result.now
    (omega arith) c.requires c.loop-i.invariant.unchanged c.get_mut-block.ensures.value (omega arith)
    (λ j b from e. c.loop-i.invariant.full j b (omega (arith, from)) e) refl c.clear_sizes.ensures c.clear_places.ensures

pub loop-i-preserved : goal.loop-i-preserved
loop-i-preserved c =
    let b = c.get_mut-block.result.now in
    let again = set_again c.loop-i.blocks (c.loop-i.i - 1) b b c.get_mut-block.ensures.value refl in
    record {
      unchanged = again ∙ c.loop-i.invariant.unchanged;
      full = rw again (full_more c.args.layout.now c.loop-i.blocks c.loop-i.i b (omega arith) c.loop-i.invariant.full c.get_mut-block.ensures.value c.if-block-most.false);
    }

pub returns-clause-last : goal.returns-clause-last
returns-clause-last c = λ _. (last_sizes_are c.args.layout.now c.loop-i.blocks c.args.blocks.now c.loop-i.i (omega arith) c.requires c.loop-i.invariant.unchanged c.loop-i.invariant.full (omega arith), c.loop-i.invariant.unchanged)
