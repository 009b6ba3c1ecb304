-- The function with slots may be run in place of the one that it is made of.
use Rattle.register_slots.proofs.Common.{ℕ, ◌≡◌, List, [], ◌∷◌, length, map, Option, Some, None, refl, sym, ap, subst, suc, All, IfSome, Name, IrType, Inst, Terminator, Block, Parameter, Function, block_in, function_in, index_in, inst_in, parameter_in, terminator_in}
use Rattle.std.proofs.lemmas.List.Elements.{All-map, All-weaker}
use Rattle.ir_tree.specs.declared.tree.Inst.TheVariants as inst
use Rattle.ir_tree.specs.declared.tree.Terminator.TheVariants as terminator
use Rattle.ir_tree.specs.Limits.{HasSmallObjects, HasSmallTypes, CanRun, FitsReturn, HasSmallNumber, HasSmallNumbers}
use Rattle.points.specs.declared.point.Layout.{Layout}
use Rattle.bv_terms.specs.declared.term.Term.{Term}
use Rattle.mem_terms.specs.declared.inputs.ArgTerms.{ArgTerms}
use Rattle.mem_terms.specs.declared.inputs.InputTerms.{InputTerms}
use Rattle.mem_terms.specs.Inputs.{AreArgs, IsInput}
use Rattle.register_slots.specs.Slotted.{IsSlotted}
use Rattle.register_slots.specs.StandIn.{IsStandIn}
use Rattle.register_slots.proofs.Beginning.{allocations_keep_runs}

map-count : {A B : Type 0} (f : A → B) (xs : List A) → length (map f xs) ≡ length xs
map-count f [] = refl
map-count f (x ∷ xs) = ap suc (map-count f xs)

-- ---- what may be run

returned_in : (slots : List ℕ) (returns : Option IrType) (t : Terminator) → FitsReturn returns t → FitsReturn returns (terminator_in slots t)
returned_in slots returns (terminator.Return None) h = h
returned_in slots returns (terminator.Return (Some returned)) h = h
returned_in slots returns (terminator.Branch to) h = tt
returned_in slots returns (terminator.CondBranch condition if_true if_false) h = tt
returned_in slots returns (terminator.Switch width operand default cases) h = tt
returned_in slots returns terminator.Unreachable h = tt

small_in : (slots : List ℕ) (i : Inst) → HasSmallTypes i → HasSmallTypes (inst_in slots i)
small_in slots (inst.Binary into op width left right) h = tt
small_in slots (inst.Icmp into predicate same_sign width left right) h = tt
small_in slots (inst.Cast into cast from operand to) h = tt
small_in slots (inst.Select into condition if_true if_false) h = tt
small_in slots (inst.Freeze into type operand) h = tt
small_in slots (inst.Alloca into number type align) h = h
small_in slots (inst.Load into type pointer align) h = h
small_in slots (inst.Store value pointer align) h = h
small_in slots (inst.GetElementPtr into inbounds nuw type base indices) h = (h.0, rw (map-count (index_in slots) indices) h.1, h.2)

number_in : (slots : List ℕ) (i : Inst) → HasSmallNumber i → HasSmallNumber (inst_in slots i)
number_in slots (inst.Binary into op width left right) h = tt
number_in slots (inst.Icmp into predicate same_sign width left right) h = tt
number_in slots (inst.Cast into cast from operand to) h = tt
number_in slots (inst.Select into condition if_true if_false) h = tt
number_in slots (inst.Freeze into type operand) h = tt
number_in slots (inst.Alloca into number type align) h = h
number_in slots (inst.Load into type pointer align) h = tt
number_in slots (inst.Store value pointer align) h = tt
number_in slots (inst.GetElementPtr into inbounds nuw type base indices) h = tt

-- of each block
blocks_in : (slots : List ℕ) (P Q : Block → Type 0) → ((b : Block) → P b → Q (block_in slots b)) → (blocks : List Block) → All P blocks → All Q (map (block_in slots) blocks)
blocks_in slots P Q each blocks h = All-map Q (block_in slots) blocks (All-weaker P (λ (b : Block). Q (block_in slots b)) each blocks h)

-- of each instruction of a block
insts_in : (slots : List ℕ) (P : Inst → Type 0) → ((i : Inst) → P i → P (inst_in slots i)) → (insts : List Inst) → All P insts → All P (map (inst_in slots) insts)
insts_in slots P each insts h = All-map P (inst_in slots) insts (All-weaker P (λ (i : Inst). P (inst_in slots i)) each insts h)

can_run_in : (slots : List ℕ) (names : List Name) (f : Function) → CanRun f → CanRun (function_in slots names f)
can_run_in slots names f h = record {
  returns = blocks_in slots (λ (b : Block). FitsReturn f.returns b.terminator) (λ (b : Block). FitsReturn f.returns b.terminator) (λ b fits. returned_in slots f.returns b.terminator fits) f.blocks h.returns;
  objects = blocks_in slots HasSmallObjects HasSmallObjects (λ b small. insts_in slots HasSmallTypes (small_in slots) b.insts small) f.blocks h.objects;
  numbers = blocks_in slots HasSmallNumbers HasSmallNumbers (λ b small. insts_in slots HasSmallNumber (number_in slots) b.insts small) f.blocks h.numbers;
}

-- ---- inputs

args_in : (slots : List ℕ) (terms : List Term) (ps : List Parameter) (args : List ArgTerms) → AreArgs terms ps args → AreArgs terms (map (parameter_in slots) ps) args
args_in slots terms [] [] h = h
args_in slots terms (p ∷ ps) (a ∷ args) h = (h.0, args_in slots terms ps args h.1)
args_in slots terms [] (a ∷ args) h = h
args_in slots terms (p ∷ ps) [] h = h

input_in : (slots : List ℕ) (names : List Name) (f : Function) (layout : Layout) (terms : List Term) (input : InputTerms) → IsInput f.parameters layout terms input → IsInput (function_in slots names f).parameters layout terms input
input_in slots names f layout terms input h = record {
  args = args_in slots terms f.parameters input.args h.args;
  size_count = h.size_count;
  sizes = h.sizes;
  block_count = h.block_count;
  places = h.places;
}

-- ---- both

stand_in : (f g : Function) → IsSlotted f g → IsStandIn f g
stand_in f g h =
    let slots = h.0 in
    let names = h.1 in
    subst (IsStandIn f) (sym h.4) (record {
      runs = allocations_keep_runs f slots names h.2 h.3;
      can_run = can_run_in slots names f;
      inputs = input_in slots names f;
      returns = refl;
    })

-- of what is found, if something is
pub stand_in-found : (f : Function) (found : Option Function) → IfSome found (IsSlotted f) → IfSome found (IsStandIn f)
stand_in-found f (Some g) h = stand_in f g h
stand_in-found f None h = h
