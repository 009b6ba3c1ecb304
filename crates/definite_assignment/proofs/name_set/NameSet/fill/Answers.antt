use Rattle.definite_assignment.proofs.Common.{take, get_or, arith, take_all, take_more}
use Rattle.definite_assignment.proofs.Leaving.{leaving_none, leaving_more}
use Rattle.definite_assignment.proofs.name_set.NameSet.fill.Goals as goal

pub loop-name-init : goal.loop-name-init
loop-name-init c = leaving_none c.args.set.now c.copy.new.self c.copy.ensures

pub add-requires : goal.add-requires
add-requires c = omega (arith, c.requires.within c.loop-name.name-index 0 c.loop-name-test.true, c.loop-name.invariant.places)

pub loop-name-preserved : goal.loop-name-preserved
loop-name-preserved c =
    rw (take_more c.args.assigned.now c.loop-name.name-index 0 c.loop-name-test.true, c.add.ensures)
    (leaving_more c.args.set.now (take c.loop-name.name-index c.args.assigned.now) c.loop-name.self (get_or c.args.assigned.now c.loop-name.name-index 0) c.loop-name.invariant
    (omega (arith, c.requires.within c.loop-name.name-index 0 c.loop-name-test.true, c.loop-name.invariant.places)))

pub returns : goal.returns
returns c = rw (take_all c.loop-name.name-index c.args.assigned.now c.loop-name-test.false) at c.loop-name.invariant
