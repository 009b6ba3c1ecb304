use Rattle.slow_judge.proofs.Common.{false, refl, arith, IsTrue, IsOfShape, IsUncovered}
use Rattle.points.proofs.Args.{ArgsFit-length}
use Rattle.slow_judge.proofs.Order.{cell_fits, within_places}
use Rattle.slow_judge.proofs.Searching.{reached_first, reached_is_least, reached_next, reached_last}
use Rattle.slow_judge.proofs.Shapes.{shape_fits, fits_shape, next_is, last_is, all_covered, least_of_points}
use Rattle.slow_judge.proofs.search.least_point.Goals as goal

pub loop-point-init : goal.loop-point-init
loop-point-init c =
    let pair = c.args.pair.now in
    let bounds = c.args.bounds.now in
    let p = c.in_ok-point.point in
    record {
      reached = reached_first (IsOfShape c.in_ok-shape.shape) pair bounds c.args.tapes.now p (fits_shape pair bounds c.in_ok-shape.shape p c.in_ok-shape.ensures (cell_fits pair bounds p c.in_ok-point.ensures.cell)) c.in_ok-point.ensures.place;
      ready = c.requires.ready;
    }

pub is_uncovered-requires-clause-args : goal.is_uncovered-requires-clause-args
is_uncovered-requires-clause-args c =
    let fits = shape_fits c.args.pair.now c.args.bounds.now c.in_ok-shape.shape c.in_ok-shape.ensures c.loop-point.point c.loop-point.invariant.reached.among in
    ArgsFit-length _ c.args.pair.now.target.parameters c.loop-point.point.input.args fits.args

pub returns-then-branch-clause-found : goal.returns-then-branch-clause-found
returns-then-branch-clause-found c =
    let pair = c.args.pair.now in
    let bounds = c.args.bounds.now in
    let p = c.loop-point.point in
    least_of_points pair bounds c.args.tapes.now c.in_ok-shape.shape p c.in_ok-shape.ensures (reached_is_least (IsOfShape c.in_ok-shape.shape) pair bounds c.args.tapes.now p c.loop-point.invariant.reached (c.in_ok-is_uncovered.ensures.value.0 c.if-branch.true))

pub next-requires : goal.next-requires
next-requires c = c.loop-point.invariant.reached.among

pub returns-then-not-next-clause-found : goal.returns-then-not-next-clause-found
returns-then-not-next-clause-found c =
    let pair = c.args.pair.now in
    let bounds = c.args.bounds.now in
    let s = c.in_ok-shape.shape in
    let shape = c.in_ok-shape.ensures in
    let covered : IsUncovered pair bounds c.args.tapes.now c.loop-point.point → IsTrue false = rw c.if-branch.false at c.in_ok-is_uncovered.ensures.value.1 in
    all_covered pair bounds c.args.tapes.now s shape (reached_last (IsOfShape s) pair bounds c.args.tapes.now c.loop-point.point (shape_fits pair bounds s shape) c.requires.small c.loop-point.invariant.reached covered (last_is pair bounds s c.loop-point.point shape (c.if-not-next.ensures.last refl).0))

pub loop-point-smaller : goal.loop-point-smaller
loop-point-smaller c =
    let pair = c.args.pair.now in
    let bounds = c.args.bounds.now in
    let s = c.in_ok-shape.shape in
    let shape = c.in_ok-shape.ensures in
    let next = next_is pair bounds s c.loop-point.point c.next.new.point shape (c.if-not-next.ensures.next refl) in
    let below = within_places pair bounds c.next.new.point c.requires.small (shape_fits pair bounds s shape c.next.new.point next.among) in
    omega (arith, next.later, below)

pub loop-point-preserved : goal.loop-point-preserved
loop-point-preserved c =
    let pair = c.args.pair.now in
    let bounds = c.args.bounds.now in
    let s = c.in_ok-shape.shape in
    let shape = c.in_ok-shape.ensures in
    let covered : IsUncovered pair bounds c.args.tapes.now c.loop-point.point → IsTrue false = rw c.if-branch.false at c.in_ok-is_uncovered.ensures.value.1 in
    record {
      reached = reached_next (IsOfShape s) pair bounds c.args.tapes.now c.loop-point.point c.next.new.point (shape_fits pair bounds s shape) c.requires.small c.loop-point.invariant.reached covered (next_is pair bounds s c.loop-point.point c.next.new.point shape (c.if-not-next.ensures.next refl));
      ready = c.is_uncovered.ensures.ready;
    }
