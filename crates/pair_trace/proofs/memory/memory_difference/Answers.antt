use Rattle.std.proofs.Common.{refl, ◌∙◌, arith}
use Rattle.points.specs.Refines.{block_allows}
use Rattle.points.proofs.Allowed.{pairs_pass-more, pairs_pass-end}
use Rattle.pair_trace.proofs.memory.memory_difference.Goals as goal

pub loop-i-preserved : goal.loop-i-preserved
loop-i-preserved c =
    let more = pairs_pass-more block_allows c.args.source.now c.args.target.now c.loop-i.i c.index-source-i.result c.index-target-i.result c.loop-i-test.true (omega arith) in
    c.loop-i.invariant ∙ more ∙ rw (← c.index-source-i.is, ← c.index-target-i.is, c.in_default.ensures) refl

pub returns : goal.returns
returns c = c.loop-i.invariant ∙ pairs_pass-end block_allows c.args.source.now c.args.target.now c.loop-i.i (omega arith) (omega arith)
