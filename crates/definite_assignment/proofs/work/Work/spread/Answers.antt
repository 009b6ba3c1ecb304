use Rattle.definite_assignment.proofs.Common.{take, get_or, arith, ◌∙◌, sym, take_all, take_more, state_of}
use Rattle.definite_assignment.proofs.Spread.{spread_none, spread_more}
use Rattle.definite_assignment.proofs.work.Work.spread.Goals as goal

pub loop-next-init : goal.loop-next-init
loop-next-init c = spread_none (state_of c.args.self.now) c.args.leaving.now

pub cut-requires-clause-within : goal.cut-requires-clause-within
cut-requires-clause-within c = omega (arith, c.requires.within c.loop-next.next-index 0 c.loop-next-test.true, c.loop-next.invariant.many)

pub cut-requires-clause-marks : goal.cut-requires-clause-marks
cut-requires-clause-marks c = c.loop-next.invariant.marks ∙ (c.requires.marks ∙ sym c.loop-next.invariant.many)

pub cut-requires-clause-alike : goal.cut-requires-clause-alike
cut-requires-clause-alike c = c.loop-next.invariant.places (get_or c.args.nexts.now c.loop-next.next-index 0) ∙ c.requires.alike c.loop-next.next-index 0 c.loop-next-test.true

pub loop-next-preserved : goal.loop-next-preserved
loop-next-preserved c =
    rw (take_more c.args.nexts.now c.loop-next.next-index 0 c.loop-next-test.true)
    (spread_more (state_of c.args.self.now) (state_of c.loop-next.self) (state_of c.cut.new.self) (take c.loop-next.next-index c.args.nexts.now) (get_or c.args.nexts.now c.loop-next.next-index 0) c.args.leaving.now c.loop-next.invariant c.cut.ensures)

pub returns : goal.returns
returns c = rw (take_all c.loop-next.next-index c.args.nexts.now c.loop-next-test.false) at c.loop-next.invariant
