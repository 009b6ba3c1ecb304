-- What is known of a function while its undef leaves are counted.
use Rattle.std.specs.Prelude.{◌≡◌, ◌+◌, ◌<◌, ◌≤◌, ◌⊎◌, ℕ, min, List, length, slice_get, slice_index_or, Option, Some, None}
use Rattle.std.specs.List.{All, Contains, find}
use Rattle.ir_tree.specs.declared.tree.Operand.{Operand}
use Rattle.ir_tree.specs.declared.tree.Operand.TheVariants.{Local, Number, Null, Poison, Undef}
use Rattle.ir_tree.specs.declared.tree.Inst.{Inst}
use Rattle.ir_tree.specs.declared.tree.Inst.TheVariants as inst
use Rattle.ir_tree.specs.declared.tree.Function.{Function}
use Rattle.ir_tree.specs.declared.sites.SiteList.{SiteList}
use Rattle.ir_tree.specs.Sites.{sites, parts}
use Rattle.ir_tree.specs.Flow.{results_of}
use Rattle.ir_tree.specs.Carrying.{makes, leaf_count}
use Rattle.undef_uses.specs.declared.carried.Carried.{Carried}

-- ---- what names carry

abbrev pub nothing : Carried
nothing = record { first = Poison; second = Poison; third = Poison }

-- the operands whose undef an instruction's result carries
abbrev pub carried_in : Inst → Carried
carried_in (inst.Binary into op width left right) = record { first = left; second = right; third = Poison }
carried_in (inst.Icmp into predicate same_sign width left right) = record { first = left; second = right; third = Poison }
carried_in (inst.Cast into cast from operand to) = record { first = operand; second = Poison; third = Poison }
carried_in (inst.Select into condition if_true if_false) = record { first = condition; second = if_true.operand; third = if_false.operand }
carried_in (inst.Freeze into type operand) = nothing
carried_in (inst.Alloca into number type align) = nothing
carried_in (inst.Load into type pointer align) = nothing
carried_in (inst.Store value pointer align) = nothing
carried_in (inst.GetElementPtr into inbounds nuw type base indices) = nothing

abbrev pub carried_from : Option Inst → Carried
carried_from None = nothing
carried_from (Some i) = carried_in i

abbrev pub carried_at : List Carried → ℕ → Carried
carried_at table name = slice_index_or table name nothing

-- for each name of the table what it carries, by the first of the instructions that makes it
abbrev pub AreCarried : List Inst → List Carried → Type 0
AreCarried insts table = (name : ℕ) → name < length table → carried_at table name ≡ carried_from (find (makes name) insts)

-- each instruction's result is one of this many names
abbrev pub HasResultsBelow : ℕ → List Inst → Type 0
HasResultsBelow names insts = (k : ℕ) (i : Inst) → slice_get insts k ≡ Some i → (name : ℕ) → Contains (results_of i) name → name < names

-- ---- counts

abbrev pub count_at : List ℕ → ℕ → ℕ
count_at counts name = slice_index_or counts name 0

-- the leaves of an operand, by those of names
abbrev pub counted : (ℕ → ℕ) → Operand → ℕ
counted count (Local name) = count name
counted count Undef = 1
counted count (Number n) = 0
counted count Null = 0
counted count Poison = 0

-- the leaves of a name that carries these operands
abbrev pub leaves_in : (ℕ → ℕ) → Carried → ℕ
leaves_in count c = min 65 (counted count c.first + counted count c.second + counted count c.third)

-- no name has fewer leaves than it carries
abbrev pub AreEnough : List Carried → (ℕ → ℕ) → Type 0
AreEnough table count = (name : ℕ) → name < length table → leaves_in count (carried_at table name) ≤ count name

-- no counts that are enough are less
abbrev pub AreLow : List Carried → List ℕ → Type 0
AreLow table counts = (count : ℕ → ℕ) → AreEnough table count → (name : ℕ) → count_at counts name ≤ count name

-- the least counts that are enough
pub record AreLeast (table : List Carried) (counts : List ℕ) : Type 0 where
  pub long : length counts ≡ length table
  pub enough : AreEnough table (count_at counts)
  pub low : AreLow table counts

-- counts that are not too high, and too low only for names that wait
pub record IsCounting (table : List Carried) (counts waiting : List ℕ) : Type 0 where
  pub long : length counts ≡ length table
  pub names : All (λ name. name < length table) waiting
  pub enough : (name : ℕ) → name < length table → Contains waiting name ⊎ (leaves_in (count_at counts) (carried_at table name) ≤ count_at counts name)
  pub low : AreLow table counts

-- the leaves of each name of a function
abbrev pub AreCounts : Function → List ℕ → Type 0
AreCounts f counts = (name : ℕ) → count_at counts name ≡ leaf_count f (Local name)

-- the sites are the function's
pub record IsListed (f : Function) (list : SiteList) : Type 0 where
  pub all : list.all ≡ sites f
  pub parts : list.parts ≡ parts f
  pub alike : length list.parts ≡ length list.all
