-- The table of operations, as it is made from the last instruction to the first.
use Rattle.std.proofs.Common.{◌≡◌, ◌⊎◌, ◌+◌, ◌<◌, ℕ, Bool, true, false, cond, List, [], ◌∷◌, ◌++◌, length, get_or, drop, Some, inl, inr, refl, sym, ap}
use Rattle.std.specs.Prelude.{slice_set}
use Rattle.std.specs.List.{find, flat_map}
use Rattle.std.proofs.lemmas.Bool.{cases_eq, eq-eqb, ne_eqb}
use Rattle.std.proofs.lemmas.List.{drop_more, get_or-set_same, get_or-set_other}
use Rattle.ir_tree.specs.declared.tree.Inst.{Inst}
use Rattle.ir_tree.specs.declared.tree.Block.{Block}
use Rattle.ir_tree.specs.Flow.{results_of}
use Rattle.ir_tree.specs.Carrying.{makes}
use Rattle.lowering.specs.declared.operations.Operation.{Operation}
use Rattle.lowering.specs.declared.operations.Operation.TheVariants.{Other}
use Rattle.lowering.specs.Operations.{AreOperations, operation_at, operation_in, operation_of}

-- ---- one instruction more

found_first : (p : Inst → Bool) (i : Inst) (rest : List Inst) → p i ≡ true → find p (i ∷ rest) ≡ Some i
found_first p i rest does = ap (λ (b : Bool). cond b (Some i) (find p rest)) does

found_later : (p : Inst → Bool) (i : Inst) (rest : List Inst) → p i ≡ false → find p (i ∷ rest) ≡ find p rest
found_later p i rest not' = ap (λ (b : Bool). cond b (Some i) (find p rest)) not'

makes-own : (name into : ℕ) (i : Inst) → results_of i ≡ into ∷ [] → name ≡ into → makes name i ≡ true
makes-own name into i own same = rw own (rw (eq-eqb into name (sym same)) refl)

makes-other : (name into : ℕ) (i : Inst) → results_of i ≡ into ∷ [] → (name ≡ into → ⊥) → makes name i ≡ false
makes-other name into i own other = rw own (rw (ne_eqb into name (λ same. other (sym same))) refl)

pub noted : (i : Inst) (table : List Operation) (into : ℕ) (o : Operation) → results_of i ≡ into ∷ [] → into < length table → o ≡ operation_in i → (rest : List Inst) → AreOperations rest table → AreOperations (i ∷ rest) (slice_set table into o)
noted i table into o own below is rest before name = by (cases_eq name into)
  where
    by : (name ≡ into) ⊎ (name ≡ into → ⊥) → operation_at (slice_set table into o) name ≡ operation_of (find (makes name) (i ∷ rest))
    by (inl same) = rw (found_first (makes name) i rest (makes-own name into i own same), same, get_or-set_same table into o Other below) is
    by (inr other) = rw (found_later (makes name) i rest (makes-other name into i own other), get_or-set_other table into name o Other other) (before name)

-- ---- the instructions of a block, from the last to the first

pub insts_more : (insts rest : List Inst) (place next : ℕ) (i : Inst) (table : List Operation) → next ≡ place + 1 → place < length insts → i ≡ get_or insts place i → AreOperations (i ∷ (drop next insts ++ rest)) table → AreOperations (drop place insts ++ rest) table
insts_more insts rest place next i table e below is there = rw (drop_more insts place i below, ← is, ← e) there

-- ---- the blocks, from the last to the first

abbrev pub insts_in : List Block → List Inst
insts_in blocks = flat_map (λ (b : Block). b.insts) blocks

pub blocks_more : (blocks : List Block) (place next : ℕ) (b : Block) (table : List Operation) → next ≡ place + 1 → place < length blocks → b ≡ get_or blocks place b → AreOperations (b.insts ++ insts_in (drop next blocks)) table → AreOperations (insts_in (drop place blocks)) table
blocks_more blocks place next b table e below is there = rw (drop_more blocks place b below, ← is, ← e) there
