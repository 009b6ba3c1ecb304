-- Lists of sites as they are made, part by part.
use Rattle.std.specs.Prelude.{List, [], ◌∷◌, ◌++◌, map}
use Rattle.ir_tree.specs.declared.sites.Part.{Part}
use Rattle.ir_tree.specs.declared.sites.Site.{Site}
use Rattle.ir_tree.specs.declared.sites.SiteList.{SiteList}
use Rattle.ir_tree.specs.Sites.{Step}

-- the list with more sites of this part
abbrev pub with_part : SiteList → Part → List Site → SiteList
with_part list part sites = record { all = list.all ++ sites; parts = list.parts ++ map (λ (site : Site). part) sites }

-- the list with the sites of these parts, one after another
abbrev pub with_parts : SiteList → List Step → SiteList
with_parts list [] = list
with_parts list (step ∷ steps) = with_parts (with_part list step.0 step.1) steps
