use Rattle.std.proofs.Common.{◌≡◌, ◌<◌, length, get_or, arith}
use Rattle.points.specs.Tapes.{inst_widths}
use Rattle.pair_costs.proofs.Sizes.{widest_at, widest_end, widest_block}
use Rattle.pair_costs.proofs.widest.widest_in_block.Goals as goal

pub loop-inst-preserved : goal.loop-inst-preserved
loop-inst-preserved c =
    let insts = c.args.block.now.insts in
    let below : c.loop-inst.inst-index < length insts = rw (← c.loop-inst.invariant.insts) c.loop-inst-test.true in
    let is : c.inst-item.result ≡ get_or insts c.loop-inst.inst-index c.inst-item.result = rw (← c.loop-inst.invariant.insts) c.inst-item.is in
    let more = widest_at inst_widths insts c.loop-inst.inst-index c.inst-item.result below is in
    record { insts = c.loop-inst.invariant.insts; rest = (let wider = c.wider-best.ensures in omega (arith, more, wider, c.loop-inst.invariant.rest)) }

pub returns : goal.returns
returns c =
    let insts = c.args.block.now.insts in
    let end : c.loop-inst.inst-index ≡ length insts = rw (← c.loop-inst.invariant.insts) (omega arith) in
    let one = widest_end inst_widths insts c.loop-inst.inst-index end in
    let is = widest_block c.args.block.now in
    let wider = c.wider_end.ensures in
    omega (arith, one, is, wider, c.loop-inst.invariant.rest, c.loop-inst.best.at_least_1)
