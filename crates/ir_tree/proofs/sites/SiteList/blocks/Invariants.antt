use Rattle.ir_tree.proofs.Common.{◌≡◌, drop, blocks_steps, with_parts}
use Rattle.ir_tree.proofs.sites.SiteList.blocks.Given as goal

abbrev pub invariant-loop-place : goal.invariant-loop-place
invariant-loop-place l = with_parts l.self (blocks_steps l.returns l.place (drop l.place l.blocks)) ≡ with_parts l.fn.self (blocks_steps l.returns 0 l.blocks)
