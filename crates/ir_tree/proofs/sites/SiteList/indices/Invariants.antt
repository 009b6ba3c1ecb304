use Rattle.ir_tree.proofs.Common.{◌≡◌, drop, indices_sites, with_part}
use Rattle.ir_tree.proofs.sites.SiteList.indices.Given as goal

abbrev pub invariant-loop-n : goal.invariant-loop-n
invariant-loop-n l = with_part l.self l.part (indices_sites l.arrays l.n (drop l.n l.indices)) ≡ with_part l.fn.self l.part (indices_sites l.arrays 0 l.indices)
