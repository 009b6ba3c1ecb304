use Rattle.std.proofs.Common.{arith}
use Rattle.pair_costs.proofs.Sizes.{words_of, sum_room, sum_done}
use Rattle.pair_costs.proofs.words.words_in.Goals as goal

pub overflow_add-total : goal.overflow_add-total
overflow_add-total c =
    let insts = c.args.insts.now in
    let room = sum_room words_of insts c.loop-inst.inst-index c.inst-item.result c.loop-inst.total c.loop-inst-test.true c.inst-item.is c.loop-inst.invariant in
    let few = c.requires in
    let here = c.words-total.ensures in
    omega (arith, room, few, here)

pub returns : goal.returns
returns c = sum_done words_of c.args.insts.now c.loop-inst.inst-index c.loop-inst.total (omega arith) c.loop-inst.invariant
