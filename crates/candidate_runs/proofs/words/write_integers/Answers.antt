use Rattle.candidate_runs.proofs.Common.{arith, refl}
use Rattle.candidate_runs.proofs.Listed.{integers_end, integers_int, integers_ptr, past_least}
use Rattle.candidate_runs.proofs.words.write_integers.Goals as goal
use Rattle.candidate_runs.proofs.words.write_integers.Goals.{in-Int+in_ok-push-in-Int, in-Ptr}

pub loop-i-preserved : goal.loop-i-preserved
loop-i-preserved c =
    let ps = c.args.parameters.now in
    let vs = c.args.args.now in
    let i = c.loop-i.i in
    let done = c.loop-i.numbers.items in
    let after = c.match-parameters-i.numbers.items in
    elim c.match-parameters-i.branch [
      | in-Int+in_ok-push-in-Int w ↦ integers_int ps vs i _ _ _ done after w.number_or_0.result (omega arith) (omega arith) w.in-Int.is refl w.number_or_0.ensures (rw w.numbers-is w.in_ok-push-in-Int.ensures.items) c.loop-i.invariant
      | in-Ptr w ↦ integers_ptr ps vs i _ done after (omega arith) (omega arith) w.in-Ptr.is (rw w.numbers-is refl) c.loop-i.invariant
    ]

pub returns : goal.returns
returns c = integers_end c.args.parameters.now c.args.args.now c.loop-i.i c.loop-i.numbers.items (past_least _ _ _ (omega arith)) c.loop-i.invariant
