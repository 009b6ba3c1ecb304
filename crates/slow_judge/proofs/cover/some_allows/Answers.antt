use Rattle.slow_judge.proofs.Common.{◌≡◌, true, false, sym, ap, ◌∙◌, arith, covers}
use Rattle.slow_judge.proofs.Covering.{some_covers_yes, some_covers_no, some_covers_end}
use Rattle.slow_judge.proofs.cover.some_allows.Goals as goal

pub returns-then-branch-clause-value : goal.returns-then-branch-clause-value
returns-then-branch-clause-value c =
    let is : covers c.args.pair.now c.args.bounds.now c.args.point.now c.tape-item.result ≡ true = ap (covers c.args.pair.now c.args.bounds.now c.args.point.now) (sym c.as_slice.ensures) ∙ sym c.in_ok-allows.ensures.value ∙ c.if-branch.true in
    sym (c.loop-tape.invariant.rest ∙ some_covers_yes c.args.pair.now c.args.bounds.now c.args.point.now c.args.tapes.now c.loop-tape.tape-index c.tape-item.result c.loop-tape-test.true c.tape-item.is is)

pub loop-tape-preserved : goal.loop-tape-preserved
loop-tape-preserved c =
    let is : covers c.args.pair.now c.args.bounds.now c.args.point.now c.tape-item.result ≡ false = ap (covers c.args.pair.now c.args.bounds.now c.args.point.now) (sym c.as_slice.ensures) ∙ sym c.in_ok-allows.ensures.value ∙ c.if-branch.false in
    record {
      rest = c.loop-tape.invariant.rest ∙ some_covers_no c.args.pair.now c.args.bounds.now c.args.point.now c.args.tapes.now c.loop-tape.tape-index c.tape-item.result c.loop-tape-test.true c.tape-item.is is;
      ready = c.allows.ensures.ready;
    }

pub returns-clause-value : goal.returns-clause-value
returns-clause-value c = sym (c.loop-tape.invariant.rest ∙ some_covers_end c.args.pair.now c.args.bounds.now c.args.point.now c.args.tapes.now c.loop-tape.tape-index (omega arith))
