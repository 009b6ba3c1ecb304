use Rattle.ir_tree.proofs.Common.{◌≡◌, ◌++◌, map, take, Site}
use Rattle.ir_tree.proofs.sites.SiteList.part.Given as goal

abbrev pub invariant-loop-site : goal.invariant-loop-site
invariant-loop-site l = record {
  all : l.self.all ≡ l.fn.self.all ++ take l.site-index l.sites;
  parts : l.self.parts ≡ l.fn.self.parts ++ map (λ (site : Site). l.part) (take l.site-index l.sites);
}
