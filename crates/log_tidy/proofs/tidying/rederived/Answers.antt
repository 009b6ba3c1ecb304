-- The steps become steps within theirs.
use Rattle.log_tidy.proofs.Common.{ℕ, ◌+◌, List, length, refl, subst, sym, take, slice_get_read, Step, standing, AreShorter, IsDerived, new_number, AreTidied, RefutesCarefully}
use Rattle.log_tidy.proofs.Adding.{ends-carefully, sound-step, tidied-all, tidied-more}
use Rattle.log_tidy.proofs.Links.{shorter-from}
use Rattle.log_tidy.proofs.tidying.rederived.Goals as goal

pub derived-requires-clause-sound : goal.derived-requires-clause-sound
derived-requires-clause-sound c =
    let log = c.args.log.now in
    let place = c.loop-place.place in
    let step = c.index-log-place.result in
    sound-step c.args.clauses.now log place step c.requires.refutes (slice_get_read log (length log) place step refl c.loop-place-test.true c.index-log-place.is)

pub derived-requires-clause-shorter : goal.derived-requires-clause-shorter
derived-requires-clause-shorter c =
    let clauses = c.args.clauses.now in
    let log = c.args.log.now in
    let place = c.loop-place.place in
    subst (λ (ns : List ℕ). AreShorter (new_number (length clauses) ns) (standing clauses (take place log)) (standing clauses c.as_slice.result.now)) (sym c.deref.ensures.value)
    (subst (λ (ss : List Step). AreShorter (new_number (length clauses) c.loop-place.numbers.items) (standing clauses (take place log)) (standing clauses ss)) (sym c.as_slice.ensures)
    (shorter-from clauses log place c.loop-place.numbers.items c.loop-place.kept c.loop-place.invariant.shorter))

pub returns-then-is_empty : goal.returns-then-is_empty
returns-then-is_empty c =
    let clauses = c.args.clauses.now in
    let kept = c.loop-place.kept in
    let step = c.index-log-place.result in
    let new = c.in_ok-new.new in
    let derived = subst (λ (ss : List Step). IsDerived (standing clauses ss) step.clause new) c.as_slice.ensures c.in_ok-new.ensures in
    subst (λ (ss : List Step). RefutesCarefully clauses ss) (sym c.in_ok-push.ensures.ok)
    (ends-carefully clauses kept new c.loop-place.invariant.stands.careful derived.0 (c.is_empty.ensures.0 c.if-is_empty.true))

pub loop-place-preserved : goal.loop-place-preserved
loop-place-preserved c =
    let clauses = c.args.clauses.now in
    let log = c.args.log.now in
    let place = c.loop-place.place in
    let step = c.index-log-place.result in
    let new = c.in_ok-new.new in
    let derived = subst (λ (ss : List Step). IsDerived (standing clauses ss) step.clause new) c.as_slice.ensures c.in_ok-new.ensures in
    subst (λ (ns : List ℕ). AreTidied clauses log (place + 1) ns c.add.new.kept c.add.new.index) (sym c.in_ok-push-2.ensures.items)
    (tidied-more clauses log place c.loop-place.numbers.items c.loop-place.kept c.add.new.kept c.loop-place.index c.add.new.index step new c.in_ok-number.number
    (slice_get_read log (length log) place step refl c.loop-place-test.true c.index-log-place.is) c.loop-place.invariant derived.1 c.in_ok-number.ensures)

pub unreachable-requires : goal.unreachable-requires
unreachable-requires c = tidied-all c.args.clauses.now c.args.log.now c.loop-place.place c.loop-place.numbers.items c.loop-place.kept c.loop-place.index c.requires.refutes c.loop-place-test.false c.loop-place.invariant
