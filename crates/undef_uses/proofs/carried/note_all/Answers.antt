use Rattle.std.proofs.Common.{◌<◌, ◌-◌, length, arith}
use Rattle.undef_uses.proofs.TableLemmas.{own_results}
use Rattle.undef_uses.proofs.carried.note_all.Goals as goal

pub note-requires : goal.note-requires
note-requires c name found =
    let below : c.loop-place.place - 1 < length c.args.insts.now = omega arith in
    let own = own_results (length c.args.table.now) c.args.insts.now (c.loop-place.place - 1) c.index-insts-place.result c.requires below c.index-insts-place.is name found in
    omega (arith, own, c.loop-place.invariant.long)
