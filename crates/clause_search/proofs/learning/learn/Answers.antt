-- The learned clause is added, and its literal at the position gone back to.
use Rattle.clause_search.proofs.Common.{◌∙◌, ◌+◌, List, length, refl, ap, subst, Step, Entry, Stands}
use Rattle.clause_search.proofs.ByPlace.{stands-take}
use Rattle.clause_search.proofs.Learns.{search-learned, search-learn, search-learn-falls}
use Rattle.clause_search.proofs.Searches.{search-cut}
use Rattle.clause_search.proofs.learning.learn.Goals as goal

pub push-requires-2 : goal.push-requires-2
push-requires-2 c =
    let learned = rw c.as_slice.ensures at c.in_ok-chain.ensures in
    λ l at v.
    learned.free l (stands-take c.args.trail.now c.jump-place.result c.args.low l c.jump-place.ensures.within
    (subst (λ (x : List Entry). Stands x l) c.truncate.ensures at)) v

pub returns-in_err-push-clause-search : goal.returns-in_err-push-clause-search
returns-in_err-push-clause-search c =
    rw c.in_err-push.ensures.err (search-cut c.args.variables c.args.clauses.now c.args.log.now c.args.trail.now c.requires.search
    c.jump-place.result c.truncate.new.self c.truncate.ensures)

pub returns-in_err-push-2-clause-search : goal.returns-in_err-push-2-clause-search
returns-in_err-push-2-clause-search c =
    let learned = rw c.as_slice.ensures at c.in_ok-chain.ensures in
    let step : Step = record { chain = c.in_ok-chain.field-0.chain; clause = c.in_ok-chain.field-0.clause } in
    let entry : Entry = record { literal = c.in_ok-chain.field-0.literal; reason = length c.args.clauses.now + length c.as_slice-2.result.now + 1 } in
    search-learned c.args.variables c.args.clauses.now c.args.log.now c.args.trail.now c.requires.search c.args.low c.requires.last c.in_ok-chain.field-0 learned
    c.jump-place.result c.jump-place.ensures.within c.jump-place.ensures.decision c.jump-place.ensures.unit c.jump-place.ensures.first
    step refl refl entry refl (ap (λ xs. length c.args.clauses.now + length xs + 1) c.as_slice-2.ensures)
    c.push.new.self c.push-2.new.self c.in_ok-push.ensures.ok (c.in_err-push-2.ensures.err ∙ c.truncate.ensures)

pub returns-clause-search : goal.returns-clause-search
returns-clause-search c =
    let learned = rw c.as_slice.ensures at c.in_ok-chain.ensures in
    let step : Step = record { chain = c.in_ok-chain.field-0.chain; clause = c.in_ok-chain.field-0.clause } in
    let entry : Entry = record { literal = c.in_ok-chain.field-0.literal; reason = length c.args.clauses.now + length c.as_slice-2.result.now + 1 } in
    search-learn c.args.variables c.args.clauses.now c.args.log.now c.args.trail.now c.requires.search c.args.low c.requires.last c.in_ok-chain.field-0 learned
    c.jump-place.result c.jump-place.ensures.within c.jump-place.ensures.decision c.jump-place.ensures.unit c.jump-place.ensures.first
    step refl refl entry refl (ap (λ xs. length c.args.clauses.now + length xs + 1) c.as_slice-2.ensures)
    c.push.new.self c.push-2.new.self c.in_ok-push.ensures.ok (rw c.truncate.ensures at c.in_ok-push-2.ensures.ok)

pub returns-clause-falls : goal.returns-clause-falls
returns-clause-falls c =
    let learned = rw c.as_slice.ensures at c.in_ok-chain.ensures in
    let step : Step = record { chain = c.in_ok-chain.field-0.chain; clause = c.in_ok-chain.field-0.clause } in
    let entry : Entry = record { literal = c.in_ok-chain.field-0.literal; reason = length c.args.clauses.now + length c.as_slice-2.result.now + 1 } in
    search-learn-falls c.args.variables c.args.clauses.now c.args.log.now c.args.trail.now c.requires.search c.args.low c.requires.last c.in_ok-chain.field-0 learned
    c.jump-place.result c.jump-place.ensures.within c.jump-place.ensures.decision c.jump-place.ensures.unit c.jump-place.ensures.first
    step refl refl entry refl (ap (λ xs. length c.args.clauses.now + length xs + 1) c.as_slice-2.ensures)
    c.push-2.new.self (rw c.truncate.ensures at c.in_ok-push-2.ensures.ok)
