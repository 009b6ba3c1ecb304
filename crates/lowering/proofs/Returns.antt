-- A well-formed function within the limits can be run: each return has a value where the header has a type.
use Rattle.std.proofs.Common.{◌≡◌, ℕ, arith, refl, false, All, get_or, slice_get, Option, Some, None, inl}
use Rattle.std.specs.List.{Contains}
use Rattle.std.proofs.lemmas.Option.{slice_get-get_or}
use Rattle.ir_tree.specs.declared.tree.IrType.{IrType}
use Rattle.ir_tree.specs.declared.tree.Terminator.{Terminator}
use Rattle.ir_tree.specs.declared.tree.Terminator.TheVariants as terminator
use Rattle.ir_tree.specs.declared.tree.Block.{Block}
use Rattle.ir_tree.specs.declared.tree.Function.{Function}
use Rattle.ir_tree.specs.declared.sites.Site.TheVariants.{Written}
use Rattle.ir_tree.specs.Sites.{terminator_sites}
use Rattle.ir_tree.specs.Limits.{IsWithinLimits, CanRun, FitsReturn, HasSmallNumbers, ReturnsFit}
use Rattle.ir_tree.specs.WellFormed.{IsWellFormed}
use Rattle.ir_tree.proofs.Standing.{end_site}

-- no end of a block has a site that was wrongly written
abbrev AllIsWell : Option IrType → Terminator → Type 0
AllIsWell header end = Contains (terminator_sites header end) (Written false) → ⊥

fits : (header : Option IrType) (end : Terminator) → AllIsWell header end → FitsReturn header end
fits None (terminator.Return None) well = refl
fits (Some type) (terminator.Return None) well = absurd (well (0, omega arith, refl))
fits None (terminator.Return (Some returned)) well = absurd (well (0, omega arith, refl))
fits (Some type) (terminator.Return (Some returned)) well = refl
fits header (terminator.Branch to) well = tt
fits header (terminator.CondBranch condition if_true if_false) well = tt
fits header (terminator.Switch width operand default cases) well = tt
fits header terminator.Unreachable well = tt

ends_well : (f : Function) → IsWellFormed f → (k : ℕ) (b : Block) → slice_get f.blocks k ≡ Some b → AllIsWell f.returns b.terminator
ends_well f formed k b stands wrong =
    let at = end_site f k b (Written false) stands wrong in
    formed.types at.0 (inl at.1)

returns_fit : (f : Function) → IsWellFormed f → ReturnsFit f
returns_fit f formed = λ k d below. fits f.returns (get_or f.blocks k d).terminator (ends_well f formed k (get_or f.blocks k d) (slice_get-get_or f.blocks k d below))

pub can_run : (f : Function) → IsWellFormed f → IsWithinLimits f → All HasSmallNumbers f.blocks → CanRun f
can_run f formed limits numbers = record { returns = returns_fit f formed; objects = limits.objects; numbers = numbers }
