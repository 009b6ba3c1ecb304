use Rattle.ir_grammar.proofs.Common.{◌≡◌, ℕ, ◌≤◌, sym, subst, arith}
use Rattle.ir_tree.proofs.Sizes.{large_at, small_at, small_more}
use Rattle.ir_grammar.proofs.SmallArrays.{small-arrays, not-small-arrays}
use Rattle.ir_grammar.proofs.objects.are_small_arrays.Goals as goal

pub returns-then-size-gt-MOST_ARRAY_BYTES : goal.returns-then-size-gt-MOST_ARRAY_BYTES
returns-then-size-gt-MOST_ARRAY_BYTES c =
    sym (not-small-arrays c.args.lengths.now c.args.element (λ small. large_at c.args.lengths.now c.args.element c.loop-i.i c.loop-i.size c.saturating_mul-size.result c.loop-i-test.true c.loop-i.invariant.within c.loop-i.invariant.size c.saturating_mul-size.ensures c.if-size-gt-MOST_ARRAY_BYTES.true small))

pub loop-i-preserved : goal.loop-i-preserved
loop-i-preserved c =
    let size = small_more c.args.lengths.now c.args.element c.loop-i.i c.loop-i.size c.saturating_mul-size.result c.loop-i-test.true c.loop-i.invariant.within c.loop-i.invariant.size c.saturating_mul-size.ensures c.if-size-gt-MOST_ARRAY_BYTES.false in
    record {
      within = omega (arith, c.loop-i.invariant.within);
      size = size;
      small = small_at c.args.lengths.now c.args.element c.loop-i.i c.loop-i-test.true c.loop-i.invariant.within (subst (λ (n : ℕ). n ≤ 1048576) size c.if-size-gt-MOST_ARRAY_BYTES.false) c.loop-i.invariant.small;
    }

pub returns : goal.returns
returns c = sym (small-arrays c.args.lengths.now c.args.element (let first : c.loop-i.i ≡ 0 = omega arith in rw first at c.loop-i.invariant.small))
