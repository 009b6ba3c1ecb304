use Rattle.std.proofs.Common.{◌<◌, ◌≤◌, arith}
use Rattle.std.proofs.lemmas.List.Elements.{Contains-push}
use Rattle.claim_board.specs.Seats.{hand_of}
use Rattle.pair_driver.specs.Draws.{IsAllowedAt}
use Rattle.pair_driver.specs.declared.place.Answer.{Answer}
use Rattle.pair_driver.proofs.Drawings.{claiming-ends, claiming-has_room, claiming-more, drawing-ends, drawing-more, drawing-passed, not_found}
use Rattle.pair_driver.proofs.work.work.Goals as goal

pub claim-number-requires-clause-allowance : goal.claim-number-requires-clause-allowance
claim-number-requires-clause-allowance g c = claiming-has_room _ _ c.draws.invariant.2.claims

pub returns-then-number-count-clause-done : goal.returns-then-number-count-clause-done
returns-then-number-count-clause-done g c =
    let counted = c.len-count.ensures in
    let reached = c.if-number-count.true in
    let past : g.T.Tasks.count c.args.tasks.now ≤ c.claim-number.result = omega arith in
    record { seat = c.claim-number.ensures.seat; done = rw c.claim-number.ensures.drawn (drawing-ends _ _ _ _ _ _ c.draws.invariant.2 past) }

pub returns-then-number-count-clause-ended : goal.returns-then-number-count-clause-ended
returns-then-number-count-clause-ended g c =
    let counted = c.len-count.ensures in
    let reached = c.if-number-count.true in
    let past : g.T.Tasks.count c.args.tasks.now ≤ c.claim-number.result = omega arith in
    rw c.claim-number.ensures.drawn (claiming-ends (g.T.Tasks.count c.args.tasks.now) c.claim-number.result (hand_of c.draws.desk.seat) past)

pub passes_over-requires-clause-drawn : goal.passes_over-requires-clause-drawn
passes_over-requires-clause-drawn g c = rw c.claim-number.ensures.drawn (Contains-push (hand_of c.draws.desk.seat).drawn c.claim-number.result)

pub draws-preserved-then-passes_over : goal.draws-preserved-then-passes_over
draws-preserved-then-passes_over g c =
    let counted = c.len-count.ensures in
    let below = c.if-number-count.false in
    let inside : c.claim-number.result < g.T.Tasks.count c.args.tasks.now = omega arith in (
      c.passes_over.ensures.seat,
      c.draws.invariant.1,
      rw (c.passes_over.ensures.passed, c.if-passes_over.true, c.claim-number.ensures.drawn)
          (drawing-passed (g.T.Tasks.allows c.args.tasks.now) (g.T.Tasks.ending c.args.tasks.now) _ _ _ c.claim-number.result c.draws.invariant.2 c.claim-number.ensures.above inside),
      c.draws.invariant.3,
    )

pub claim_the_rest-requires-clause-claiming : goal.claim_the_rest-requires-clause-claiming
claim_the_rest-requires-clause-claiming g c =
    let counted = c.len-count.ensures in
    let below = c.if-number-count.false in
    let inside : c.claim-number.result < g.T.Tasks.count c.args.tasks.now = omega arith in
    rw (counted, c.passes_over.ensures.passed, c.if-passes_over.false, c.claim-number.ensures.drawn)
    (claiming-more (g.T.Tasks.count c.args.tasks.now) c.claim-number.result (hand_of c.draws.desk.seat) c.draws.invariant.2.claims c.claim-number.ensures.above inside)

pub report-requires-clause-drawn : goal.report-requires-clause-drawn
report-requires-clause-drawn g c = rw (c.passes_over.ensures.passed, c.claim-number.ensures.drawn) (Contains-push (hand_of c.draws.desk.seat).drawn c.claim-number.result)

pub report-requires-clause-once : goal.report-requires-clause-once
report-requires-clause-once g c =
    rw (c.passes_over.ensures.passed, c.claim-number.ensures.drawn)
    (not_found c.claim-number.result (hand_of c.draws.desk.seat) c.draws.invariant.2.reported c.claim-number.ensures.above)

pub draws-preserved : goal.draws-preserved
draws-preserved g c =
    let counted = c.len-count.ensures in
    let below = c.if-number-count.false in
    let inside : c.claim-number.result < g.T.Tasks.count c.args.tasks.now = omega arith in
    let answer : Answer = record { number = c.claim-number.result; judged = c.in-Ok.judged } in
    let allowed : IsAllowedAt (g.T.Tasks.allows c.args.tasks.now) (g.T.Tasks.count c.args.tasks.now) answer = (inside, c.in-Ok.ensures) in (
      c.report.ensures.seat,
      c.draws.invariant.1,
      rw (c.report.ensures.found, c.passes_over.ensures.passed, c.if-passes_over.false, c.claim-number.ensures.drawn, c.keep.ensures.kept)
          (drawing-more (g.T.Tasks.allows c.args.tasks.now) (g.T.Tasks.ending c.args.tasks.now) _ _ _ answer c.ends.result c.draws.invariant.2 c.claim-number.ensures.above allowed c.ends.ensures),
      (let room = c.draws.invariant.3 in let kept = c.keep.ensures.room in omega arith),
    )
