use Rattle.slow_judge.proofs.Common.{false, refl, arith, IsTrue, IsCell, IsUncovered}
use Rattle.points.proofs.Args.{ArgsFit-length}
use Rattle.slow_judge.proofs.Order.{cell_fits, within_places}
use Rattle.slow_judge.proofs.Searching.{reached_first, reached_is_least, reached_next, reached_last}
use Rattle.slow_judge.proofs.search.least_cell.Goals as goal

pub loop-point-init : goal.loop-point-init
loop-point-init c = record {
  reached = reached_first (IsCell c.args.pair.now c.args.bounds.now) c.args.pair.now c.args.bounds.now c.args.tapes.now c.in_ok-point.point c.in_ok-point.ensures.cell c.in_ok-point.ensures.place;
  ready = c.requires.ready;
}

pub is_uncovered-requires-clause-args : goal.is_uncovered-requires-clause-args
is_uncovered-requires-clause-args c = ArgsFit-length _ c.args.pair.now.target.parameters c.loop-point.point.input.args c.loop-point.invariant.reached.among.args

pub returns-then-branch-clause-found : goal.returns-then-branch-clause-found
returns-then-branch-clause-found c = reached_is_least (IsCell c.args.pair.now c.args.bounds.now) c.args.pair.now c.args.bounds.now c.args.tapes.now c.loop-point.point c.loop-point.invariant.reached (c.in_ok-is_uncovered.ensures.value.0 c.if-branch.true)

pub returns-then-not-next_cell-clause-found : goal.returns-then-not-next_cell-clause-found
returns-then-not-next_cell-clause-found c =
    let covered : IsUncovered c.args.pair.now c.args.bounds.now c.args.tapes.now c.loop-point.point → IsTrue false = rw c.if-branch.false at c.in_ok-is_uncovered.ensures.value.1 in
    reached_last (IsCell c.args.pair.now c.args.bounds.now) c.args.pair.now c.args.bounds.now c.args.tapes.now c.loop-point.point (cell_fits c.args.pair.now c.args.bounds.now) c.requires.small c.loop-point.invariant.reached covered (c.if-not-next_cell.ensures.last refl).0

pub loop-point-smaller : goal.loop-point-smaller
loop-point-smaller c =
    let next = c.if-not-next_cell.ensures.next refl in
    let below = within_places c.args.pair.now c.args.bounds.now c.next_cell.new.point c.requires.small (cell_fits c.args.pair.now c.args.bounds.now c.next_cell.new.point next.among) in
    omega (arith, next.later, below)

pub loop-point-preserved : goal.loop-point-preserved
loop-point-preserved c =
    let covered : IsUncovered c.args.pair.now c.args.bounds.now c.args.tapes.now c.loop-point.point → IsTrue false = rw c.if-branch.false at c.in_ok-is_uncovered.ensures.value.1 in
    record {
      reached = reached_next (IsCell c.args.pair.now c.args.bounds.now) c.args.pair.now c.args.bounds.now c.args.tapes.now c.loop-point.point c.next_cell.new.point (cell_fits c.args.pair.now c.args.bounds.now) c.requires.small c.loop-point.invariant.reached covered (c.if-not-next_cell.ensures.next refl);
      ready = c.is_uncovered.ensures.ready;
    }
