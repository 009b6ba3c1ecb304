-- What is known of a function while its uses are walked.
use Rattle.std.specs.Prelude.{◌≡◌, ◌<◌, IsTrue, false, ℕ, Bool, List, length, slice_get, Option, Some, None}
use Rattle.ir_tree.specs.Paths.{IsAssignedBefore, IsUnassignedBefore}
use Rattle.definite_assignment.specs.Sets.{AreRoomy, has}
use Rattle.ir_tree.specs.declared.tree.Function.{Function}
use Rattle.ir_tree.specs.declared.sites.Part.{Part}
use Rattle.ir_tree.specs.declared.sites.Part.TheVariants.{Header, Parameter, Label, Phi, Inst, End}
use Rattle.ir_tree.specs.declared.sites.Site.{Site}
use Rattle.ir_tree.specs.declared.sites.Site.TheVariants.{Enters}
use Rattle.ir_tree.specs.declared.sites.SiteList.{SiteList}
use Rattle.ir_tree.specs.declared.module.Reason.TheVariants.{NameTwice}
use Rattle.ir_tree.specs.Sites.{sites, parts}
use Rattle.ir_tree.specs.Flow.{successors, assigns}
use Rattle.ir_tree.specs.Definitions.{DefinesIn, HasFirsts}
use Rattle.ir_tree.specs.WellFormed.{Passes}

-- the sites and the first definitions are the function's, and it defines each name once
pub record AreKnown (f : Function) (list : SiteList) (firsts : List (Option ℕ)) : Type 0 where
  pub all : list.all ≡ sites f
  pub parts : list.parts ≡ parts f
  pub alike : length list.parts ≡ length list.all
  pub names : length firsts ≡ length f.names
  pub table : HasFirsts list.all firsts
  pub once : Passes NameTwice f

-- the one part that defines the name, or that none does
abbrev pub IsDefiner : Function → ℕ → Option Part → Type 0
IsDefiner f name None = (p : Part) → DefinesIn f p name → ⊥
IsDefiner f name (Some part) = DefinesIn f part name × ((p : Part) → DefinesIn f p name → p ≡ part)

-- what the part defines has its value in the block, after the first `ran` of its instructions
abbrev pub IsBehind : ℕ → ℕ → Part → Type 0
IsBehind block ran Header = ⊥
IsBehind block ran Parameter = Unit {0}
IsBehind block ran (Label k) = ⊥
IsBehind block ran (Phi k j) = k ≡ block
IsBehind block ran (Inst k j) = (k ≡ block) × (j < ran)
IsBehind block ran (End k) = ⊥

-- for each block the names that every path before it assigns
pub record AreBefore (f : Function) (sets : List (List Bool)) : Type 0 where
  pub room : AreRoomy sets (length f.blocks) (length f.names)
  pub assigned : (block name : ℕ) → block < length f.blocks → name < length f.names → IsTrue (has sets block name) → IsAssignedBefore (successors f) (assigns f) block name
  pub missed : (block name : ℕ) → block < length f.blocks → name < length f.names → has sets block name ≡ false → IsUnassignedBefore (successors f) (assigns f) block name

-- the label that the site enters, if it enters one
abbrev pub IsEntered : List Site → ℕ → Option ℕ → Type 0
IsEntered all n None = (label : ℕ) → slice_get all n ≡ Some (Enters label) → ⊥
IsEntered all n (Some label) = slice_get all n ≡ Some (Enters label)

-- the number of the block that the part is the label of
abbrev pub label_of : Part → Option ℕ
label_of Header = None
label_of Parameter = None
label_of (Label k) = Some k
label_of (Phi k j) = None
label_of (Inst k j) = None
label_of (End k) = None
