-- What is required of a function besides its spelling, each with the sites at which it fails. A
-- reason is reported at the first of its sites, and only where no reason before it has one.
use Rattle.std.specs.Prelude.{◌≡◌, ◌+◌, ◌<◌, ◌≤◌, ◌⊎◌, ◌↔◌, ◌==◌, ℕ, Bool, true, false, List, map, take, slice_get, Option, Some, None}
use Rattle.std.specs.List.{Contains}
use Rattle.ir_tree.specs.Paths.{IsPathTo, IsAssignedIn}
use Rattle.ir_tree.specs.declared.tree.IrType.{IrType}
use Rattle.ir_tree.specs.declared.tree.IrType.TheVariants as type
use Rattle.ir_tree.specs.declared.tree.Operand.{Operand}
use Rattle.ir_tree.specs.declared.tree.Operand.TheVariants as operand
use Rattle.ir_tree.specs.declared.tree.Inst.{Inst}
use Rattle.ir_tree.specs.declared.tree.PhiEntry.{PhiEntry}
use Rattle.ir_tree.specs.declared.tree.Phi.{Phi}
use Rattle.ir_tree.specs.declared.tree.Block.{Block}
use Rattle.ir_tree.specs.declared.tree.Parameter.{Parameter}
use Rattle.ir_tree.specs.declared.tree.Function.{Function}
use Rattle.ir_tree.specs.declared.sites.Part.{Part}
use Rattle.ir_tree.specs.declared.sites.Part.TheVariants as part
use Rattle.ir_tree.specs.declared.sites.Site.{Site}
use Rattle.ir_tree.specs.declared.sites.Site.TheVariants.{Defines, Uses, Enters, Written}
use Rattle.ir_tree.specs.declared.module.Reason.{Reason}
use Rattle.ir_tree.specs.declared.module.Reason.TheVariants.{Syntax, Unsupported, Limit, NameTwice, NameUnknown, TypeClash, PhiEdges, Unassigned, UndefUse}
use Rattle.ir_tree.specs.declared.module.Refused.{Refused}
use Rattle.ir_tree.specs.declared.module.CheckFault.{CheckFault}
use Rattle.ir_tree.specs.declared.module.CheckFault.TheVariants as fault
use Rattle.ir_tree.specs.Sites.{sites, parts, is_same_type, same_number, place_of}
use Rattle.ir_tree.specs.Flow.{IsPredecessor, successors, assigned_with, assigns}
use Rattle.ir_tree.specs.Carrying.{UsesUndef}

-- ---- names

-- a site before this one defines the same name
pub record DefinesAgain (all : List Site) (n : ℕ) : Type 0 where
  pub type : Option IrType
  pub name : ℕ
  pub here : slice_get all n ≡ Some (Defines type name)
  pub earlier : ℕ
  pub before : earlier < n
  pub other : Option IrType
  pub there : slice_get all earlier ≡ Some (Defines other name)

-- some site gives the name a value
abbrev pub HasValue : List Site → ℕ → Type 0
HasValue all name = (m : ℕ) × (type : IrType) × (slice_get all m ≡ Some (Defines (Some type) name))

-- some block has the name as its label
abbrev pub IsLabel : List Site → ℕ → Type 0
IsLabel all name = (m : ℕ) × (slice_get all m ≡ Some (Defines None name))

-- a name is used as a value, and nothing gives it one
pub record UsesNoValue (all : List Site) (n : ℕ) : Type 0 where
  pub type : IrType
  pub name : ℕ
  pub here : slice_get all n ≡ Some (Uses type name)
  pub unknown : HasValue all name → ⊥

-- a name is used as a block, and no block has it
pub record EntersNoBlock (all : List Site) (n : ℕ) : Type 0 where
  pub name : ℕ
  pub here : slice_get all n ≡ Some (Enters name)
  pub unknown : IsLabel all name → ⊥

abbrev pub UsesUnknown : List Site → ℕ → Type 0
UsesUnknown all n = UsesNoValue all n ⊎ EntersNoBlock all n

-- ---- types

-- a name is used as a value of a type, and gets one of another
pub record UsesOtherType (all : List Site) (n : ℕ) : Type 0 where
  pub type : IrType
  pub name : ℕ
  pub here : slice_get all n ≡ Some (Uses type name)
  pub defined : ℕ
  pub other : IrType
  pub there : slice_get all defined ≡ Some (Defines (Some other) name)
  pub differs : is_same_type other type ≡ false

abbrev pub ClashesType : List Site → ℕ → Type 0
ClashesType all n = (slice_get all n ≡ Some (Written false)) ⊎ UsesOtherType all n

-- ---- edges

-- the phi's blocks are those that may be left for this one, and no others
abbrev pub ComesFromPredecessors : Function → Block → Phi → Type 0
ComesFromPredecessors f b phi = (label : ℕ) → Contains (map (λ (entry : PhiEntry). entry.from) phi.entries) label ↔ IsPredecessor f label b.label

-- whether both operands are the same: literals are compared as numbers of their type
abbrev pub is_same_operand : IrType → Operand → Operand → Bool
is_same_operand of_type (operand.Local a) (operand.Local b) = a == b
is_same_operand (type.Int width) (operand.Number a) (operand.Number b) = same_number width.bits a b
is_same_operand type.Ptr (operand.Number a) (operand.Number b) = a == b
is_same_operand of_type operand.Null operand.Null = true
is_same_operand of_type operand.Poison operand.Poison = true
is_same_operand of_type operand.Undef operand.Undef = true
is_same_operand _ _ _ = false

-- two entries of one block have different operands
pub record HasTwoOperands (phi : Phi) : Type 0 where
  pub one : PhiEntry
  pub other : PhiEntry
  pub here : Contains phi.entries one
  pub there : Contains phi.entries other
  pub block : one.from ≡ other.from
  pub differ : is_same_operand phi.of_type one.operand other.operand ≡ false

-- the site is the result of a phi that doesn't fit the block's predecessors
pub record IsUnfitPhi (f : Function) (n : ℕ) : Type 0 where
  pub type : Option IrType
  pub name : ℕ
  pub here : slice_get (sites f) n ≡ Some (Defines type name)
  pub block : ℕ
  pub place : ℕ
  pub part : slice_get (parts f) n ≡ Some (part.Phi block place)
  pub holder : Block
  pub holds : slice_get f.blocks block ≡ Some holder
  pub phi : Phi
  pub stands : slice_get holder.phis place ≡ Some phi
  pub unfit : (ComesFromPredecessors f holder phi → ⊥) ⊎ HasTwoOperands phi

-- the site is a label in a block's end, and is the entry's
pub record JumpsToEntry (f : Function) (n : ℕ) : Type 0 where
  pub name : ℕ
  pub here : slice_get (sites f) n ≡ Some (Enters name)
  pub block : ℕ
  pub part : slice_get (parts f) n ≡ Some (part.End block)
  pub entry : Block
  pub first : slice_get f.blocks 0 ≡ Some entry
  pub back : name ≡ entry.label

abbrev pub HasWrongEdge : Function → ℕ → Type 0
HasWrongEdge f n = IsUnfitPhi f n ⊎ JumpsToEntry f n

-- ---- assignment

-- no site before this one defines the name
abbrev pub IsUndefinedBefore : List Site → ℕ → ℕ → Type 0
IsUndefinedBefore all n name = (m : ℕ) (type : Option IrType) → m < n → slice_get all m ≡ Some (Defines type name) → ⊥

-- Some path from the entry reaches the block and doesn't assign the name: the name is no parameter,
-- no block that the path leaves on its way assigns it, and neither do the block's phis and these of
-- its instructions. The path may leave the block itself, and come back.
pub record IsMissed (f : Function) (block : ℕ) (b : Block) (ran : List Inst) (name : ℕ) : Type 0 where
  pub stands : slice_get f.blocks block ≡ Some b
  pub left : List ℕ
  pub path : IsPathTo (successors f) block left
  pub outside : Contains (map (λ (p : Parameter). p.name) f.parameters) name → ⊥
  pub before : IsAssignedIn (assigns f) left name → ⊥
  pub within : Contains (assigned_with b ran) name → ⊥

-- the block has this label, and the name is missed at its end
pub record IsMissedBehind (f : Function) (label name : ℕ) : Type 0 where
  pub block : ℕ
  pub b : Block
  pub labelled : b.label ≡ label
  pub missed : IsMissed f block b b.insts name

-- The name is missed where a site of this part uses it: in a phi, at the end of the block that the
-- operand comes from, whose label is the next site; in an instruction, after those before it; in a
-- block's end, after all.
abbrev pub IsMissedAt : Function → Part → ℕ → ℕ → Type 0
IsMissedAt f part.Header n name = ⊥
IsMissedAt f part.Parameter n name = ⊥
IsMissedAt f (part.Label block) n name = ⊥
IsMissedAt f (part.Phi block place) n name = (label : ℕ) × (slice_get (sites f) (n + 1) ≡ Some (Enters label)) × IsMissedBehind f label name
IsMissedAt f (part.Inst block place) n name = (b : Block) × IsMissed f block b (take place b.insts) name
IsMissedAt f (part.End block) n name = (b : Block) × IsMissed f block b b.insts name

-- a name is used, and some path from the entry to the use doesn't assign it
pub record UsesUnassigned (f : Function) (n : ℕ) : Type 0 where
  pub type : IrType
  pub name : ℕ
  pub here : slice_get (sites f) n ≡ Some (Uses type name)
  pub part : Part
  pub stands : slice_get (parts f) n ≡ Some part
  pub missed : IsMissedAt f part n name

-- ---- all of it

-- what a reason says of a site; the reasons that are reported of tokens have none
abbrev pub FailsBy : Reason → Function → ℕ → Type 0
FailsBy Syntax f n = ⊥
FailsBy Unsupported f n = ⊥
FailsBy Limit f n = ⊥
FailsBy NameTwice f n = DefinesAgain (sites f) n
FailsBy NameUnknown f n = UsesUnknown (sites f) n
FailsBy TypeClash f n = ClashesType (sites f) n
FailsBy PhiEdges f n = HasWrongEdge f n
FailsBy Unassigned f n = UsesUnassigned f n
FailsBy UndefUse f n = UsesUndef f n

-- the reason holds nowhere
abbrev pub Passes : Reason → Function → Type 0
Passes reason f = (n : ℕ) → FailsBy reason f n → ⊥

-- the first site of a reason
pub record IsFirstSite (reason : Reason) (f : Function) (n : ℕ) : Type 0 where
  pub fails : FailsBy reason f n
  pub first : (k : ℕ) → FailsBy reason f k → n ≤ k

abbrev pub PassesNames : Function → Type 0
PassesNames f = Passes NameTwice f × Passes NameUnknown f

pub record IsWellFormed (f : Function) : Type 0 where
  pub names : PassesNames f
  pub types : Passes TypeClash f
  pub edges : Passes PhiEdges f
  pub assigned : Passes Unassigned f
  pub undef : Passes UndefUse f

-- the reasons before it pass, and this is its first site
abbrev pub IsTestedAs : Reason → Function → ℕ → Type 0
IsTestedAs Syntax f n = ⊥
IsTestedAs Unsupported f n = ⊥
IsTestedAs Limit f n = ⊥
IsTestedAs NameTwice f n = IsFirstSite NameTwice f n
IsTestedAs NameUnknown f n = Passes NameTwice f × IsFirstSite NameUnknown f n
IsTestedAs TypeClash f n = PassesNames f × IsFirstSite TypeClash f n
IsTestedAs PhiEdges f n = PassesNames f × Passes TypeClash f × IsFirstSite PhiEdges f n
IsTestedAs Unassigned f n = PassesNames f × Passes TypeClash f × Passes PhiEdges f × IsFirstSite Unassigned f n
IsTestedAs UndefUse f n = PassesNames f × Passes TypeClash f × Passes PhiEdges f × Passes Unassigned f × IsFirstSite UndefUse f n

-- ---- what is reported

-- a reason at a site
abbrev pub refusal_at : Reason → Function → ℕ → Refused
refusal_at reason f n = record { reason = reason; line = (place_of f n).line; column = (place_of f n).column }

-- the refusal has this reason, for which the function is refused, and its position
pub record IsRefusedAt (reason : Reason) (f : Function) (refused : Refused) : Type 0 where
  pub site : ℕ
  pub tested : IsTestedAs reason f site
  pub told : refused ≡ refusal_at reason f site

-- where a test first fails, or that it fails nowhere
abbrev pub IsFirstFailure : (ℕ → Type 0) → Option ℕ → Type 0
IsFirstFailure Fails None = (n : ℕ) → Fails n → ⊥
IsFirstFailure Fails (Some n) = Fails n × ((k : ℕ) → Fails k → n ≤ k)

-- this holds of a refusal, and of running out of memory nothing is said
abbrev pub IfRefused : (Refused → Type 0) → CheckFault → Type 0
IfRefused Holds (fault.Refused refused) = Holds refused
IfRefused Holds fault.NoMemory = Unit {0}

-- ---- laws

-- a function is refused in one way
abbrev pub OneRefusal : Type 0
OneRefusal = (f : Function) (reason other : Reason) (a b : Refused) → IsRefusedAt reason f a → IsRefusedAt other f b → a ≡ b

-- and not where it is well formed
abbrev pub RefusedIsNotWellFormed : Type 0
RefusedIsNotWellFormed = (f : Function) (reason : Reason) (refused : Refused) → IsRefusedAt reason f refused → IsWellFormed f → ⊥
