-- Where the names of a list of sites are first defined, and which names a part of a function defines.
use Rattle.std.specs.Prelude.{◌≡◌, ◌<◌, ℕ, List, map, All, length, slice_get, slice_index_or, Option, Some, None}
use Rattle.ir_tree.specs.declared.tree.IrType.{IrType}
use Rattle.std.specs.List.{Contains}
use Rattle.ir_tree.specs.declared.tree.Inst.{Inst}
use Rattle.ir_tree.specs.declared.tree.Phi.{Phi}
use Rattle.ir_tree.specs.declared.tree.Block.{Block}
use Rattle.ir_tree.specs.declared.tree.Parameter.{Parameter}
use Rattle.ir_tree.specs.declared.tree.Function.{Function}
use Rattle.ir_tree.specs.declared.sites.Part.{Part}
use Rattle.ir_tree.specs.declared.sites.Part.TheVariants as part
use Rattle.ir_tree.specs.declared.sites.Site.{Site}
use Rattle.ir_tree.specs.declared.sites.Site.TheVariants.{Defines}
use Rattle.ir_tree.specs.Flow.{results_of}
use Rattle.ir_tree.specs.Sites.{IsNumbered}
use Rattle.ir_tree.specs.WellFormed.{IsUndefinedBefore}

-- the name is defined at this site
abbrev pub IsDefinition : List Site → ℕ → ℕ → Type 0
IsDefinition all n name = (type : Option IrType) × (slice_get all n ≡ Some (Defines type name))

-- the first of the sites before an end at which the name is defined, or that there is none
abbrev pub IsFirstDefinition : List Site → ℕ → ℕ → Option ℕ → Type 0
IsFirstDefinition all end name None = IsUndefinedBefore all end name
IsFirstDefinition all end name (Some n) = (n < end) × IsDefinition all n name × IsUndefinedBefore all n name

-- for each name of the table its first definition among the sites before an end
pub record AreFirst (all : List Site) (end : ℕ) (table : List (Option ℕ)) : Type 0 where
  pub each : (name : ℕ) → name < length table → IsFirstDefinition all end name (slice_index_or table name None)

-- the table has the first definition of each name of the sites
pub record HasFirsts (all : List Site) (table : List (Option ℕ)) : Type 0 where
  pub numbered : All (IsNumbered (length table)) all
  pub first : AreFirst all (length all) table

-- the part gives the name its value, or is the label of that name
abbrev pub DefinesIn : Function → Part → ℕ → Type 0
DefinesIn f part.Header name = ⊥
DefinesIn f part.Parameter name = Contains (map (λ (p : Parameter). p.name) f.parameters) name
DefinesIn f (part.Label k) name = (b : Block) × (slice_get f.blocks k ≡ Some b) × (b.label ≡ name)
DefinesIn f (part.Phi k j) name = (b : Block) × (slice_get f.blocks k ≡ Some b) × (phi : Phi) × (slice_get b.phis j ≡ Some phi) × (phi.into ≡ name)
DefinesIn f (part.Inst k j) name = (b : Block) × (slice_get f.blocks k ≡ Some b) × (i : Inst) × (slice_get b.insts j ≡ Some i) × Contains (results_of i) name
DefinesIn f (part.End k) name = ⊥
