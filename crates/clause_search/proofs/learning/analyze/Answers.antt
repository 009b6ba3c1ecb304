-- The way back from the conflict, marked entry by marked entry.
use Rattle.clause_search.proofs.Common.{[], refl, List, Lit, standing}
use Rattle.clause_search.proofs.Back.{back-first}
use Rattle.clause_search.proofs.Walking.{marked-none, walk-skip, walk-spread, walk-learned, walk-reason, walk-assigned, walk-marked, walk-next}
use Rattle.clause_search.proofs.learning.analyze.Goals as goal

pub mark_clause-requires-clause-counted : goal.mark_clause-requires-clause-counted
mark_clause-requires-clause-counted c = c.in_ok-marks.ensures.counted c.args.low

pub back-init : goal.back-init
back-init c =
    let all : List (List Lit) = standing c.args.clauses.now c.args.log.now in
    let first = back-first c.args.variables all c.args.trail.now c.args.low c.requires.trail c.requires.last c.args.number c.in-Some.start.now c.in-Some.start.now
    c.push.new.self c.requires.conflict c.in-Some.ensures (rw (c.from_vec-chain.ensures, c.new.ensures.items) at c.in_ok-push.ensures.ok) refl in
    record {
      current = c.in-Some.start.now;
      clause = c.in_ok-mark_clause.ensures.clause;
      back = rw c.len-place.ensures first;
      long = c.in_ok-mark_clause.ensures.long;
      marked = c.in_ok-mark_clause.ensures.marked [] (marked-none c.args.trail.now c.in_ok-marks.marks.marked.items c.in_ok-marks.ensures.none);
      counted = c.in_ok-mark_clause.ensures.counted;
    }

pub back-preserved-then-not-index : goal.back-preserved-then-not-index
back-preserved-then-not-index c =
    let all : List (List Lit) = standing c.args.clauses.now c.args.log.now in
    walk-skip c.args.variables all c.args.trail.now c.args.low c.requires.trail c.requires.last c.back.chain c.back.marks c.back.place c.back.invariant
    c.index.result.now c.index.ensures c.if-not-index.true

pub clause_at-requires : goal.clause_at-requires
clause_at-requires c =
    let all : List (List Lit) = standing c.args.clauses.now c.args.log.now in
    let spread = walk-spread c.args.variables all c.args.trail.now c.args.low c.requires.trail c.requires.last c.back.chain c.back.marks c.back.place c.back.invariant
    c.index.result.now c.index.ensures c.get-entry.result c.get-entry.ensures c.if-not-index.false c.if-marks-eq1.true in
    (c.back.invariant.current, rw (c.opposite-literal.ensures, c.as_slice.ensures.value) spread)

pub returns-then-marks-eq1 : goal.returns-then-marks-eq1
returns-then-marks-eq1 c =
    let all : List (List Lit) = standing c.args.clauses.now c.args.log.now in
    let spread = walk-spread c.args.variables all c.args.trail.now c.args.low c.requires.trail c.requires.last c.back.chain c.back.marks c.back.place c.back.invariant
    c.index.result.now c.index.ensures c.get-entry.result c.get-entry.ensures c.if-not-index.false c.if-marks-eq1.true in
    let is = c.in_ok-clause.ensures c.back.invariant.current (rw (c.opposite-literal.ensures, c.as_slice.ensures.value) spread) in
    walk-learned c.args.variables all c.args.trail.now c.args.low c.requires.trail c.requires.last c.back.chain c.back.marks c.back.place c.back.invariant
    c.index.result.now c.index.ensures c.get-entry.result c.get-entry.ensures c.if-not-index.false c.if-marks-eq1.true _ refl is c.opposite-literal.ensures

pub unreachable-requires-in_default-clause_numbered : goal.unreachable-requires-in_default-clause_numbered
unreachable-requires-in_default-clause_numbered c =
    let all : List (List Lit) = standing c.args.clauses.now c.args.log.now in
    walk-reason c.args.variables all c.args.trail.now c.args.low c.requires.trail c.requires.last c.back.chain c.back.marks c.back.place c.back.invariant
    c.index.result.now c.index.ensures c.get-entry.result c.get-entry.ensures c.if-not-index.false c.if-marks-eq1.false c.in_default-clause_numbered.ensures

pub mark_clause-requires-in-back-clause-assigned : goal.mark_clause-requires-in-back-clause-assigned
mark_clause-requires-in-back-clause-assigned c =
    let all : List (List Lit) = standing c.args.clauses.now c.args.log.now in
    walk-assigned c.args.variables all c.args.trail.now c.args.low c.requires.trail c.requires.last c.back.chain c.back.marks c.back.place c.back.invariant
    c.index.result.now c.index.ensures c.get-entry.result c.get-entry.ensures c.if-not-index.false c.if-marks-eq1.false
    c.in-Some-clause_numbered.reason.now c.in-Some-clause_numbered.ensures

pub unmark-requires-clause-marked : goal.unmark-requires-clause-marked
unmark-requires-clause-marked c =
    let all : List (List Lit) = standing c.args.clauses.now c.args.log.now in
    walk-marked c.args.variables all c.args.trail.now c.args.low c.requires.trail c.requires.last c.back.chain c.back.marks c.back.place c.back.invariant
    c.index.result.now c.index.ensures c.get-entry.result c.get-entry.ensures c.if-not-index.false c.if-marks-eq1.false
    c.in-Some-clause_numbered.reason.now c.in-Some-clause_numbered.ensures
    c.mark_clause-in-back.new.marks.marked.items (c.in_ok-mark_clause-2.ensures.marked c.back.invariant.current c.back.invariant.marked)

pub back-preserved : goal.back-preserved
back-preserved c =
    let all : List (List Lit) = standing c.args.clauses.now c.args.log.now in
    walk-next c.args.variables all c.args.trail.now c.args.low c.requires.trail c.requires.last c.back.chain c.back.marks c.back.place c.back.invariant
    c.index.result.now c.index.ensures c.get-entry.result c.get-entry.ensures c.if-not-index.false c.if-marks-eq1.false
    c.in-Some-clause_numbered.reason.now c.in-Some-clause_numbered.ensures c.in_ok-mark_clause-2.ensures.clause
    c.push-in-back.new.self c.mark_clause-in-back.new.marks.marked.items c.unmark.new.self c.in_ok-push-2.ensures.ok
    c.in_ok-mark_clause-2.ensures.long (c.in_ok-mark_clause-2.ensures.marked c.back.invariant.current c.back.invariant.marked)
    c.unmark.ensures.marked c.unmark.ensures.counted
