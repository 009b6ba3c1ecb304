use Rattle.std.proofs.Common.{◌<◌, ◌-◌, length, ap, arith}
use Rattle.undef_uses.proofs.TableLemmas.{below_in}
use Rattle.lowering.proofs.operations.operations_of.Goals as goal

pub note_all-requires : goal.note_all-requires
note_all-requires c k i is name found =
    let below : c.loop-at.at - 1 < length c.args.f.now.blocks = omega arith in
    let own = below_in c.args.f.now c.as_slice-blocks.result.now (c.loop-at.at - 1) c.index-blocks-at.result c.as_slice.result.now c.requires c.loop-at.invariant.blocks below c.index-blocks-at.is c.as_slice.ensures k i is name found in
    omega (arith, own, c.loop-at.invariant.long, ap length c.deref_mut.ensures.value)
