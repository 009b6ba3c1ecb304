use Rattle.points.proofs.Common.{◌++◌, ap, ◌∙◌, arith, flat_map, byte_code, places_code}
use Rattle.points.proofs.Pushes.{pushed, all_pushed}
use Rattle.points.proofs.codes.push_places.Goals as goal

pub loop-block-preserved : goal.loop-block-preserved
loop-block-preserved c = λ layout. pushed (places_code layout) c.args.memory.now c.loop-block.block-index c.block-item.result c.loop-block.code.items c.push_bytes.new.code.items _ (omega arith) c.block-item.is
    (c.in_ok-push_bytes.ensures layout ∙ ap (λ xs. c.loop-block.code.items ++ flat_map (byte_code layout) xs) c.as_slice.ensures)
    (c.loop-block.invariant layout)

pub returns : goal.returns
returns c = λ layout. all_pushed (places_code layout) c.args.memory.now c.loop-block.block-index c.loop-block.code.items _ (omega arith) (c.loop-block.invariant layout)
