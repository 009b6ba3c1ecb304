use Rattle.ir_tree.proofs.Listing.{blocks-next}
use Rattle.ir_tree.proofs.sites.SiteList.blocks.Goals as goal

pub loop-place-preserved : goal.loop-place-preserved
loop-place-preserved c = blocks-next c.args.returns c.args.blocks.now c.loop-place.place c.index-blocks-place.result c.loop-place.self c.block.new.self _ c.loop-place-test.true c.index-blocks-place.is c.in_ok-block.ensures c.loop-place.invariant
