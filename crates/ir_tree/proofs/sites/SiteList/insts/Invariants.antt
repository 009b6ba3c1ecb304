use Rattle.ir_tree.proofs.Common.{◌≡◌, drop, inst_steps, with_parts}
use Rattle.ir_tree.proofs.sites.SiteList.insts.Given as goal

abbrev pub invariant-loop-place : goal.invariant-loop-place
invariant-loop-place l = with_parts l.self (inst_steps l.block l.place (drop l.place l.insts)) ≡ with_parts l.fn.self (inst_steps l.block 0 l.insts)
