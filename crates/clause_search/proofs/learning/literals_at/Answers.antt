-- One more position.
use Rattle.clause_search.proofs.Common.{slice_index_or}
use Rattle.clause_search.proofs.Walking.{has-index}
use Rattle.clause_search.proofs.Ordering.{opposites-push}
use Rattle.clause_search.proofs.learning.literals_at.Goals as goal

pub get-requires : goal.get-requires
get-requires c =
    let lt = c.loop-place-test.true in
    c.requires (slice_index_or c.args.places.now c.loop-place.place-index 0) (has-index c.args.places.now c.loop-place.place-index 0 lt)

pub loop-place-preserved : goal.loop-place-preserved
loop-place-preserved c =
    opposites-push c.args.trail.now c.args.literal c.args.places.now c.loop-place.place-index c.get.result c.loop-place.literals.items _ c.opposite.result c.loop-place-test.true
    c.get.ensures c.loop-place.invariant c.opposite.ensures c.in_ok-push-2.ensures.ok
