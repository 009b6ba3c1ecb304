-- No mark has the next stamp.
use Rattle.clause_log.proofs.Common.{◌≡◌, ◌+◌, arith, sym, refl}
use Rattle.clause_log.proofs.Placed.{none-marked}
use Rattle.clause_log.proofs.Joins.{no-marks}
use Rattle.clause_log.proofs.marks.Marks.begin.Goals as goal

pub invariant_of-self : goal.invariant_of-self
invariant_of-self c =
    let old = c.args.self.now in
    let next : c.in-Some.stamp ≡ old.stamp + 1 = c.in-Some.ensures.1 in
    record {
      counted = sym (none-marked old.by_place.items old.stamp c.in-Some.stamp old.none_later (omega (arith, next)));
      begun = omega (arith, next);
      none_later = λ k d lt. let low = old.none_later k d lt in omega (arith, low, next);
    }

pub returns : goal.returns
returns c =
    let old = c.args.self.now in
    let next : c.in-Some.stamp ≡ old.stamp + 1 = c.in-Some.ensures.1 in
    λ places. no-marks places _ old.stamp old.none_later (omega (arith, next)) refl
