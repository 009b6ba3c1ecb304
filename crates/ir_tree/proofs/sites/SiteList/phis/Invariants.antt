use Rattle.ir_tree.proofs.Common.{◌≡◌, drop, phi_steps, with_parts}
use Rattle.ir_tree.proofs.sites.SiteList.phis.Given as goal

abbrev pub invariant-loop-place : goal.invariant-loop-place
invariant-loop-place l = with_parts l.self (phi_steps l.block l.place (drop l.place l.phis)) ≡ with_parts l.fn.self (phi_steps l.block 0 l.phis)
