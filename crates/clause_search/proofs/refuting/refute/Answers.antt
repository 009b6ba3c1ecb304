-- The way back from the conflict, entry by entry.
use Rattle.clause_search.proofs.Common.{◌∙◌, List, sym, subst, arith, both_ways, Has, Lit, standing}
use Rattle.clause_search.proofs.Root.{down-last, down-skip, down-reason, down-resolvent, down-next}
use Rattle.clause_search.proofs.refuting.refute.Goals as goal

pub back-preserved-then-not-has : goal.back-preserved-then-not-has
back-preserved-then-not-has c =
    let clauses : List (List Lit) = standing c.args.clauses.now c.args.log.now in
    let d = c.get-entry.result in
    down-skip c.args.variables clauses c.args.trail.now c.requires.trail c.requires.implied c.back.chain c.back.clause c.back.place d c.get-entry.ensures (omega arith) c.back.invariant
    (λ has. both_ways c.has.result c.if-not-has.true (c.has.ensures.1 (subst (λ (x : Lit). Has c.back.clause x) (sym c.opposite.ensures) has)))

pub unreachable-requires-in_default-clause_numbered : goal.unreachable-requires-in_default-clause_numbered
unreachable-requires-in_default-clause_numbered c =
    let clauses : List (List Lit) = standing c.args.clauses.now c.args.log.now in
    let d = c.get-entry.result in
    down-reason c.args.variables clauses c.args.trail.now c.requires.trail c.requires.implied c.back.chain c.back.clause c.back.place d c.get-entry.ensures (omega arith) c.back.invariant c.in_default-clause_numbered.ensures

pub unreachable-requires-in_default-2 : goal.unreachable-requires-in_default-2
unreachable-requires-in_default-2 c =
    let clauses : List (List Lit) = standing c.args.clauses.now c.args.log.now in
    let d = c.get-entry.result in
    let has = subst (λ (x : Lit). Has c.back.clause x) c.opposite.ensures (c.has.ensures.0 c.if-not-has.false) in
    let some = down-resolvent c.args.variables clauses c.args.trail.now c.requires.trail c.requires.implied c.back.chain c.back.clause c.back.place d c.get-entry.ensures (omega arith) c.back.invariant has c.in-Some-clause_numbered.reason.now c.in-Some-clause_numbered.ensures c.in_ok-next.ensures.left c.in_ok-next.ensures.right in
    let told = c.in_ok-next.ensures.value in
    let none = c.in_default-2.is in
    cc

pub back-preserved : goal.back-preserved
back-preserved c =
    let clauses : List (List Lit) = standing c.args.clauses.now c.args.log.now in
    let d = c.get-entry.result in
    let has = subst (λ (x : Lit). Has c.back.clause x) c.opposite.ensures (c.has.ensures.0 c.if-not-has.false) in
    down-next c.args.variables clauses c.args.trail.now c.requires.trail c.requires.implied c.back.chain c.back.clause c.back.place d c.get-entry.ensures (omega arith) c.back.invariant has c.in-Some-clause_numbered.reason.now c.in-Some-clause_numbered.ensures c.in_ok-next.ensures.left c.in_ok-next.ensures.right
    c.push-in-back.new.self c.in-Some-2.next c.in_ok-push-2.ensures.ok (sym c.in-Some-2.is ∙ c.in_ok-next.ensures.value)

pub returns : goal.returns
returns c =
    let clauses : List (List Lit) = standing c.args.clauses.now c.args.log.now in
    record {
      chain = c.back.invariant.gives;
      empty = down-last clauses c.args.trail.now c.back.chain c.back.clause c.back.place (omega arith) c.back.invariant;
    }
