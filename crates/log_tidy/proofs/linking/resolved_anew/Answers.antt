-- One more link of the chain.
use Rattle.log_tidy.proofs.Common.{ℕ, ◌-◌, ◌∙◌, drop, get_or, length, subst, sym, take, standing, IsNumbered, new_number}
use Rattle.log_tidy.proofs.Links.{anew-more, anew-next, shorter-numbered, within-same}
use Rattle.log_tidy.proofs.linking.resolved_anew.Goals as goal

pub clause_at-next-requires : goal.clause_at-next-requires
clause_at-next-requires c =
    let clauses = c.args.clauses.now in
    let old = standing clauses c.args.earlier.now in
    let new = standing clauses c.args.kept.now in
    let rest = take (length c.as_slice.result.now - 1) (drop 1 c.as_slice.result.now) in
    let i = c.loop-number.number-index in
    subst (λ (m : ℕ). IsNumbered new m) (sym c.new_number-other.ensures)
    (shorter-numbered (new_number (length clauses) c.args.numbers.now) old new (get_or rest i 0) c.requires.shorter
    (anew-next old new c.args.step.now.clause rest i c.loop-number.whole c.loop-number.current c.loop-number.invariant c.loop-number-test.true))

pub linked-requires : goal.linked-requires
linked-requires c =
    let clauses = c.args.clauses.now in
    let new = standing clauses c.args.kept.now in
    let rest = take (length c.as_slice.result.now - 1) (drop 1 c.as_slice.result.now) in
    let n = get_or rest c.loop-number.number-index 0 in
    let before = c.clause_at-before.result.now in (
      c.loop-number.whole,
      before,
      sym c.in_ok-resolvent.ensures.value ∙ c.in-Some.is,
      c.resolve.ensures.left,
      c.resolve.ensures.right,
      c.loop-number.invariant.within,
      within-same new before c.clause_at-next.result.now (new_number (length clauses) c.args.numbers.now n) c.new_number-other.result
          (c.requires.shorter n before c.clause_at-before.ensures) c.new_number-other.ensures c.clause_at-next.ensures,
    )

pub loop-number-preserved : goal.loop-number-preserved
loop-number-preserved c =
    let clauses = c.args.clauses.now in
    let old = standing clauses c.args.earlier.now in
    let new = standing clauses c.args.kept.now in
    let rest = take (length c.as_slice.result.now - 1) (drop 1 c.as_slice.result.now) in
    anew-more old new c.args.step.now.clause rest c.loop-number.number-index c.loop-number.whole c.loop-number.current c.loop-number.invariant
    c.clause_at-before.result.now c.in-Some.resolvent c.in_ok-current-2.current c.loop-number-test.true c.clause_at-before.ensures
    (sym c.in_ok-resolvent.ensures.value ∙ c.in-Some.is)
    (c.in_ok-current-2.ensures new c.loop-number.invariant.sound c.clause_at-next.ensures)
