use Rattle.ir_tree.proofs.Common.{◌≡◌, [], drop, take, cases_sites, with_part}
use Rattle.ir_tree.proofs.sites.SiteList.cases.Given as goal

abbrev pub invariant-loop-place : goal.invariant-loop-place
invariant-loop-place l = with_part l.self l.part (cases_sites l.width (take l.place l.cases) (drop l.place l.cases)) ≡ with_part l.fn.self l.part (cases_sites l.width [] l.cases)
