-- The sites of a function: the types, names, literals and labels of its text that a refusal may be about, in text order.
use Rattle.std.specs.Prelude.{ℕ, ◌+◌, ◌%◌, ◌^◌, ◌<◌, List, [], ◌∷◌, ◌++◌, map, length, All, Bool, true, false, not, ◌==◌, nat_lt, nat_le, Option, Some, None, slice_index_or}
use Rattle.std.specs.List.{flat_map, list_any}
use Rattle.tv_num.specs.declared.Width.{Width}
use Rattle.text_places.specs.declared.place.Place.{Place}
use Rattle.ir_tree.specs.declared.tree.IrType.{IrType}
use Rattle.ir_tree.specs.declared.tree.IrType.TheVariants.{Int, Ptr}
use Rattle.ir_tree.specs.declared.tree.Operand.{Operand}
use Rattle.ir_tree.specs.declared.tree.Operand.TheVariants.{Local}
use Rattle.ir_tree.specs.declared.tree.Cast.{Cast}
use Rattle.ir_tree.specs.declared.tree.Cast.TheVariants.{Truncate, ZeroExtend, SignExtend}
use Rattle.ir_tree.specs.declared.tree.Inst.{Inst}
use Rattle.ir_tree.specs.declared.tree.Inst.TheVariants as inst
use Rattle.ir_tree.specs.declared.tree.TypedOperand.{TypedOperand}
use Rattle.ir_tree.specs.declared.tree.GepIndex.{GepIndex}
use Rattle.ir_tree.specs.declared.tree.PhiEntry.{PhiEntry}
use Rattle.ir_tree.specs.declared.tree.Phi.{Phi}
use Rattle.ir_tree.specs.declared.tree.Case.{Case}
use Rattle.ir_tree.specs.declared.tree.Terminator.{Terminator}
use Rattle.ir_tree.specs.declared.tree.Terminator.TheVariants.{Return, Branch, CondBranch, Switch, Unreachable}
use Rattle.ir_tree.specs.declared.tree.Block.{Block}
use Rattle.ir_tree.specs.declared.tree.Parameter.{Parameter}
use Rattle.ir_tree.specs.declared.tree.Function.{Function}
use Rattle.ir_tree.specs.declared.sites.Part.{Part}
use Rattle.ir_tree.specs.declared.sites.Part.TheVariants as part
use Rattle.ir_tree.specs.declared.sites.Site.{Site}
use Rattle.ir_tree.specs.declared.sites.Site.TheVariants.{Defines, Uses, Enters, Written}
use Rattle.ir_tree.specs.Types.{one_bit}

abbrev pub is_same_type : IrType → IrType → Bool
is_same_type (Int a) (Int b) = a.bits == b.bits
is_same_type Ptr Ptr = true
is_same_type _ _ = false

-- a truncation makes a number narrower, and an extension makes it wider
abbrev pub changes_width : Cast → ℕ → ℕ → Bool
changes_width (Truncate flags) from to = nat_lt to from
changes_width (ZeroExtend non_negative) from to = nat_lt from to
changes_width SignExtend from to = nat_lt from to

-- an operand of this type
abbrev pub operand_site : IrType → Operand → Site
operand_site type (Local name) = Uses type name
operand_site type _ = Written true

-- a type, which is allowed there or not, and an operand of it
abbrev pub typed_sites : Bool → TypedOperand → List Site
typed_sites fits t = Written fits ∷ operand_site t.of_type t.operand ∷ []

-- the type of an index, its operand, and whether the operand is allowed there: the first index
-- counts objects, and each further one goes into an array
abbrev pub index_sites : Bool → GepIndex → List Site
index_sites enters index = Written true ∷ operand_site (Int index.width) index.operand ∷ Written enters ∷ []

-- indices into arrays, nested to this depth, the first index with this number
abbrev pub indices_sites : ℕ → ℕ → List GepIndex → List Site
indices_sites arrays n [] = []
indices_sites arrays n (index ∷ indices) = index_sites (nat_le n arrays) index ++ indices_sites arrays (n + 1) indices

-- the result, and then types and operands as they are written
abbrev pub inst_sites : Inst → List Site
inst_sites (inst.Binary into op width left right) =
    Defines (Some (Int width)) into ∷ Written true ∷ operand_site (Int width) left ∷ operand_site (Int width) right ∷ []
inst_sites (inst.Icmp into predicate same_sign width left right) =
    Defines (Some (Int one_bit)) into ∷ Written true ∷ operand_site (Int width) left ∷ operand_site (Int width) right ∷ []
inst_sites (inst.Cast into cast from operand to) =
    Defines (Some (Int to)) into ∷ Written true ∷ operand_site (Int from) operand ∷ Written (changes_width cast from.bits to.bits) ∷ []
inst_sites (inst.Select into condition if_true if_false) =
    Defines (Some if_true.of_type) into ∷ Written true ∷ operand_site (Int one_bit) condition ∷ (typed_sites true if_true ++ typed_sites (is_same_type if_true.of_type if_false.of_type) if_false)
inst_sites (inst.Freeze into type operand) =
    Defines (Some type) into ∷ Written true ∷ operand_site type operand ∷ []
inst_sites (inst.Alloca into number type align) =
    Defines (Some Ptr) into ∷ Written true ∷ []
inst_sites (inst.Load into type pointer align) =
    Defines (Some type) into ∷ Written true ∷ Written true ∷ operand_site Ptr pointer ∷ []
inst_sites (inst.Store value pointer align) =
    typed_sites true value ++ Written true ∷ operand_site Ptr pointer ∷ []
inst_sites (inst.GetElementPtr into inbounds nuw type base indices) =
    Defines (Some Ptr) into ∷ Written true ∷ Written true ∷ operand_site Ptr base ∷ indices_sites (length type.lengths) 0 indices

-- an operand, and the block that it comes from
abbrev pub entry_sites : IrType → PhiEntry → List Site
entry_sites type entry = operand_site type entry.operand ∷ Enters entry.from ∷ []

-- the result, the type, and then each entry
abbrev pub phi_sites : Phi → List Site
phi_sites phi = Defines (Some phi.of_type) phi.into ∷ Written true ∷ flat_map (entry_sites phi.of_type) phi.entries

-- whether both are the same number of this width
abbrev pub same_number : ℕ → ℕ → ℕ → Bool
same_number width a b = a % 2 ^ width == b % 2 ^ width

-- whether one of the cases has this number
abbrev pub has_case : ℕ → List Case → ℕ → Bool
has_case width cases n = list_any (λ (c : Case). same_number width c.value n) cases

-- a case's type, which is the switch's, its literal, which no case before has, and its label
abbrev pub case_sites : Width → List Case → Case → List Site
case_sites width before c = Written (c.width.bits == width.bits) ∷ Written (not (has_case width.bits before c.value)) ∷ Enters c.to ∷ []

-- each case, the first of them after these
abbrev pub cases_sites : Width → List Case → List Case → List Site
cases_sites width before [] = []
cases_sites width before (c ∷ cases) = case_sites width before c ++ cases_sites width (before ++ c ∷ []) cases

-- whether the type after ret is the header's
abbrev pub returns_type : Option IrType → IrType → Bool
returns_type None type = false
returns_type (Some header) type = is_same_type header type

abbrev pub is_void : Option IrType → Bool
is_void None = true
is_void (Some type) = false

-- the function's return type comes first
abbrev pub terminator_sites : Option IrType → Terminator → List Site
terminator_sites header (Return None) = Written (is_void header) ∷ []
terminator_sites header (Return (Some returned)) = typed_sites (returns_type header returned.of_type) returned
terminator_sites header (Branch to) = Enters to ∷ []
terminator_sites header (CondBranch condition if_true if_false) = Written true ∷ operand_site (Int one_bit) condition ∷ Enters if_true ∷ Enters if_false ∷ []
terminator_sites header (Switch width operand default cases) =
    (Written true ∷ operand_site (Int width) operand ∷ Enters default ∷ []) ++ cases_sites width [] cases
terminator_sites header Unreachable = []

abbrev pub parameter_sites : Parameter → List Site
parameter_sites p = Written true ∷ Defines (Some p.of_type) p.name ∷ []

abbrev pub label_sites : Block → List Site
label_sites b = Defines None b.label ∷ []

-- the return type and the function's name
abbrev pub header_sites : List Site
header_sites = Written true ∷ Written true ∷ []

-- ---- the parts of the text

-- a part, and its sites
abbrev pub Step : Type 0
Step = Part × List Site

abbrev pub parameter_steps : List Parameter → List Step
parameter_steps ps = map (λ (p : Parameter). (part.Parameter, parameter_sites p)) ps

-- phis of a block, the first of them with this number
abbrev pub phi_steps : ℕ → ℕ → List Phi → List Step
phi_steps block n [] = []
phi_steps block n (phi ∷ phis) = (part.Phi block n, phi_sites phi) ∷ phi_steps block (n + 1) phis

-- instructions of a block, the first of them with this number
abbrev pub inst_steps : ℕ → ℕ → List Inst → List Step
inst_steps block n [] = []
inst_steps block n (inst ∷ insts) = (part.Inst block n, inst_sites inst) ∷ inst_steps block (n + 1) insts

-- the block of this number: its label, its phis, its instructions and its end
abbrev pub block_steps : Option IrType → ℕ → Block → List Step
block_steps header n b =
    (part.Label n, label_sites b) ∷ (phi_steps n 0 b.phis ++ (inst_steps n 0 b.insts ++ (part.End n, terminator_sites header b.terminator) ∷ []))

-- blocks, the first of them with this number
abbrev pub blocks_steps : Option IrType → ℕ → List Block → List Step
blocks_steps header n [] = []
blocks_steps header n (b ∷ bs) = block_steps header n b ++ blocks_steps header (n + 1) bs

-- the header, the parameters and the blocks
unfoldable pub steps : Function → List Step
steps f = (part.Header, header_sites) ∷ (parameter_steps f.parameters ++ blocks_steps f.returns 0 f.blocks)

-- the sites of these parts, one after another
abbrev pub sites_in : List Step → List Site
sites_in steps = flat_map (λ (step : Step). step.1) steps

abbrev pub sites : Function → List Site
sites f = sites_in (steps f)

-- for each site of these parts its part
abbrev pub parts_in : List Step → List Part
parts_in steps = flat_map (λ (step : Step). map (λ (site : Site). step.0) step.1) steps

-- for each site of a function the part of the text that it is in
abbrev pub parts : Function → List Part
parts f = parts_in (steps f)

-- a name's number has its name in a table of this length
abbrev pub IsNumbered : ℕ → Site → Type 0
IsNumbered count (Defines type name) = name < count
IsNumbered count (Uses type name) = name < count
IsNumbered count (Enters name) = name < count
IsNumbered count (Written fits) = Unit {0}

-- each name of the function is in its table
abbrev pub AreNumbered : Function → Type 0
AreNumbered f = All (IsNumbered (length f.names)) (sites f)

-- line 0 means no position; a function that was read has a position for each site
abbrev pub no_place : Place
no_place = record { line = 0; column = 0 }

-- where a site is: an unnamed parameter's name at its type, an unwritten label at the opening brace
abbrev pub place_of : Function → ℕ → Place
place_of f n = slice_index_or f.places n no_place
