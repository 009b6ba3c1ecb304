use Rattle.candidate_runs.proofs.Common.{arith, refl}
use Rattle.candidate_runs.proofs.Listed.{count_end, count_more}
use Rattle.candidate_runs.proofs.candidate.integer_count.Goals as goal
use Rattle.candidate_runs.proofs.candidate.integer_count.Goals.{in-Int, in-Ptr}

pub loop-parameter-preserved : goal.loop-parameter-preserved
loop-parameter-preserved c =
    let ps = c.args.parameters.now in
    let i = c.loop-parameter.parameter-index in
    let n = c.loop-parameter.count in
    let lt = c.loop-parameter-test.true in
    let is = c.parameter-item.is in
    let inv = c.loop-parameter.invariant in
    elim c.match-parameter.branch [
      | in-Int w ↦ record { within = omega (arith, w.count-is, inv.within); all = count_more ps i n c.match-parameter.count c.parameter-item.result _ lt is w.in-Int.is (omega (arith, w.count-is)) inv.all }
      | in-Ptr w ↦ record { within = omega (arith, w.count-is, inv.within); all = count_more ps i n c.match-parameter.count c.parameter-item.result _ lt is w.in-Ptr.is (omega (arith, w.count-is)) inv.all }
    ]

pub returns : goal.returns
returns c = count_end c.args.parameters.now c.loop-parameter.parameter-index c.loop-parameter.count c.loop-parameter-test.false c.loop-parameter.invariant.all
