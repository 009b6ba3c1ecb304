use Rattle.points.proofs.Common.{◌-◌, List, refl, ap, ◌∙◌, arith, Byte}
use Rattle.points.proofs.Memories.{size_fits, places_fit, none_past_blocks, next_memory_is, last_memory_is, places_last_more, set_again}
use Rattle.points.proofs.point_steps.next_places.Goals as goal

pub loop-i-init : goal.loop-i-init
loop-i-init c = record { unchanged = refl; last = rw c.len-i.ensures (none_past_blocks c.args.layout.now c.args.blocks.now) }

pub next_bytes-requires-clause-room : goal.next_bytes-requires-clause-room
next_bytes-requires-clause-room c =
    let fits = rw (← c.loop-i.invariant.unchanged) at c.requires in
    size_fits c.args.layout.now c.loop-i.blocks (c.loop-i.i - 1) c.get_mut-block.result.now fits c.get_mut-block.ensures.value

pub next_bytes-requires-clause-fit : goal.next_bytes-requires-clause-fit
next_bytes-requires-clause-fit c =
    let fits = rw (← c.loop-i.invariant.unchanged) at c.requires in
    places_fit c.args.layout.now c.loop-i.blocks (c.loop-i.i - 1) c.get_mut-block.result.now fits c.get_mut-block.ensures.value

pub returns-then-next_bytes-clause-next : goal.returns-then-next_bytes-clause-next
returns-then-next_bytes-clause-next c = λ _.
    next_memory_is c.args.layout.now c.loop-i.blocks c.args.blocks.now _ c.clear_places.new.blocks (c.loop-i.i - 1) c.get_mut-block.result.now c.next_bytes.new.places
    (omega arith) c.requires c.loop-i.invariant.unchanged c.get_mut-block.ensures.value (c.if-next_bytes.ensures.next refl)
    (λ j k x from e e'. c.loop-i.invariant.last j k x (omega (arith, from)) e e') refl c.clear_places.ensures

pub loop-i-preserved : goal.loop-i-preserved
loop-i-preserved c =
    let last = c.if-next_bytes.ensures.last refl in
    let b = c.get_mut-block.result.now in
    let again = set_again c.loop-i.blocks (c.loop-i.i - 1) b (record b { places = c.next_bytes.new.places }) c.get_mut-block.ensures.value (ap (λ (ps : List Byte). record b { places = ps }) last.1) in
    record {
      unchanged = again ∙ c.loop-i.invariant.unchanged;
      last = rw again (places_last_more c.args.layout.now c.loop-i.blocks c.args.blocks.now c.loop-i.i b c.requires c.loop-i.invariant.unchanged (omega arith) c.loop-i.invariant.last c.get_mut-block.ensures.value last.0);
    }

pub returns-clause-last : goal.returns-clause-last
returns-clause-last c = λ _. (last_memory_is c.args.layout.now c.loop-i.blocks c.args.blocks.now c.loop-i.i (omega arith) c.requires c.loop-i.invariant.unchanged c.loop-i.invariant.last (omega arith), c.loop-i.invariant.unchanged)
