use Rattle.ir_tree.proofs.Common.{◌^◌, arith}
use Rattle.ir_tree.proofs.Sizes.{cut_more}
use Rattle.ir_tree.proofs.limits.indexed_size.Goals as goal

pub loop-i-preserved : goal.loop-i-preserved
loop-i-preserved c = record {
  lengths = c.loop-i.invariant.lengths;
  from = omega (arith, c.loop-i-test.true);
  within = omega (arith, c.loop-i.invariant.within);
  size = cut_more c.as_slice-lengths.result.now c.args.of_type.now.element c.loop-i.i c.loop-i.size (2 ^ 64) (omega (arith, c.loop-i-test.true)) c.loop-i.invariant.within c.loop-i.invariant.size;
}
