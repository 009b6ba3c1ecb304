use Rattle.slow_judge.proofs.Growing.{grown_end, grown_on}
use Rattle.slow_judge.proofs.judge.grow.Goals as goal

pub returns-in-Some : goal.returns-in-Some
returns-in-Some c =
    let found = rw c.as_slice.ensures.value at c.in_ok-found.ensures.found in
    let end = rw c.in-Some.is at c.in_ok-verdict.ensures in
    grown_end c.args.pair.now c.args.bounds.now c.args.budget.now c.loop-tapes.tapes.items c.in_ok-found.found c.in-Some.verdict c.loop-tapes.invariant.grown found end

pub loop-tapes-preserved : goal.loop-tapes-preserved
loop-tapes-preserved c =
    let found = rw c.as_slice.ensures.value at c.in_ok-found.ensures.found in
    let added = rw c.in_default.is at c.in_ok-verdict.ensures in
    record {
      grown = grown_on c.args.pair.now c.args.bounds.now c.args.budget.now c.loop-tapes.tapes.items c.add_tape.new.tapes.items c.in_ok-found.found c.loop-tapes.invariant.grown found added;
      ready = c.next_round.ensures.ready;
    }
