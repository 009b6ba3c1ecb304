use Rattle.memory_access.proofs.Common.{◌+ℤ◌, pos, ◌^◌, ap, ◌∙◌, int_rem_euclid, wrapped, scaled}
use Rattle.memory_access.proofs.Sums.{sum-128, wrapped-euclid, wrapped-below, cast-offset}
use Rattle.memory_access.proofs.offsets.moved_offset.Goals as goal

pub returns : goal.returns
returns c =
    let added = c.scaled_index.ensures in
    let sum = sum-128 c.args.offset c.scaled_index.result c.ranges.offset.fits added.low added.high ∙ ap (λ y. pos c.args.offset +ℤ y) added.value in
    let z = pos c.args.offset +ℤ scaled c.args.index.now in
    cast-offset (wrapped 64 z) c.rem_euclid.result (c.rem_euclid.ensures.value ∙ ap (λ y. int_rem_euclid y (pos (2 ^ 64))) sum ∙ wrapped-euclid 64 z) (wrapped-below 64 z)
