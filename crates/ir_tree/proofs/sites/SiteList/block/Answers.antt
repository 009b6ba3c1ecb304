use Rattle.ir_tree.proofs.Listing.{block-made}
use Rattle.ir_tree.proofs.sites.SiteList.block.Goals as goal

pub returns : goal.returns
returns c = block-made c.args.returns c.args.place c.args.block.now c.args.self.now c.part.new.self c.phis.new.self c.insts.new.self c.terminator.new.self c.in_ok-part.ensures (rw c.as_slice.ensures at c.in_ok-phis.ensures) (rw c.as_slice-2.ensures at c.in_ok-insts.ensures) c.in_ok-terminator.ensures
