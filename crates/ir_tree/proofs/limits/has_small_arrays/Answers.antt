use Rattle.ir_tree.proofs.Common.{ℕ, ◌≤◌, subst, arith}
use Rattle.ir_tree.proofs.Sizes.{large_at, small_at, small_more}
use Rattle.ir_tree.proofs.limits.has_small_arrays.Goals as goal

pub returns-then-size-gt-MOST_ARRAY_BYTES : goal.returns-then-size-gt-MOST_ARRAY_BYTES
returns-then-size-gt-MOST_ARRAY_BYTES c =
    let large = large_at c.as_slice-lengths.result.now c.args.of_type.now.element c.loop-i.i c.loop-i.size c.saturating_mul-size.result c.loop-i-test.true c.loop-i.invariant.within c.loop-i.invariant.size c.saturating_mul-size.ensures c.if-size-gt-MOST_ARRAY_BYTES.true in
    (λ none. absurd (cc none), λ small. absurd (large (rw c.as_slice-lengths.ensures small)))

pub loop-i-preserved : goal.loop-i-preserved
loop-i-preserved c =
    let size = small_more c.as_slice-lengths.result.now c.args.of_type.now.element c.loop-i.i c.loop-i.size c.saturating_mul-size.result c.loop-i-test.true c.loop-i.invariant.within c.loop-i.invariant.size c.saturating_mul-size.ensures c.if-size-gt-MOST_ARRAY_BYTES.false in
    record {
      lengths = c.loop-i.invariant.lengths;
      within = omega (arith, c.loop-i.invariant.within);
      size = size;
      small = small_at c.as_slice-lengths.result.now c.args.of_type.now.element c.loop-i.i c.loop-i-test.true c.loop-i.invariant.within (subst (λ (n : ℕ). n ≤ 1048576) size c.if-size-gt-MOST_ARRAY_BYTES.false) c.loop-i.invariant.small;
    }
