use Rattle.std.proofs.Common.{◌≡◌, ◌<◌, length, get_or, arith}
use Rattle.verdicts.specs.Weight.{made_bytes}
use Rattle.pair_costs.proofs.Sizes.{sum_room, sum_done, small_made_insts}
use Rattle.pair_costs.proofs.memory.made_by_block.Goals as goal

pub overflow_add-total : goal.overflow_add-total
overflow_add-total c =
    let insts = c.args.block.now.insts in
    let below : c.loop-inst.inst-index < length insts = rw (← c.loop-inst.invariant.insts) c.loop-inst-test.true in
    let is : c.inst-item.result ≡ get_or insts c.loop-inst.inst-index c.inst-item.result = rw (← c.loop-inst.invariant.insts) c.inst-item.is in
    let room = sum_room made_bytes insts c.loop-inst.inst-index c.inst-item.result c.loop-inst.total below is c.loop-inst.invariant.total in
    let most = small_made_insts insts c.requires.objects in
    let few = c.requires.few in
    omega (arith, room, most, few, c.made-total.ensures.value)

pub returns : goal.returns
returns c =
    let insts = c.args.block.now.insts in
    let end : c.loop-inst.inst-index ≡ length insts = rw (← c.loop-inst.invariant.insts) (omega arith) in
    sum_done made_bytes insts c.loop-inst.inst-index c.loop-inst.total end c.loop-inst.invariant.total
