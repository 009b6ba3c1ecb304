-- The parts of an allocation, in loops.
use Rattle.register_slots.proofs.Common.{◌≡◌, ℕ, ◌+◌, ◌<◌, List, [], length, drop, get_or, Option, Some, refl, sym, subst, slice_index_or, AllByRecursion, drop_more, Inst, Block, Function, results_of, IsHeld, holding, only_holding, HasSlot, IsRightInst, AreRightInsts, held_after, IsRightJump, IsRightBlock, parameter_names, IsAllocation}
use Rattle.std.proofs.Common.{slice_get}
use Rattle.std.proofs.Math.Seq.{drop-length}

-- ---- lists

-- one item more is so of all
pub one_more : {X : Type 0} (P : X → Type 0) (xs : List X) (i : ℕ) (x : X) (W : Type 0) → i < length xs → P (get_or xs i x) → (AllByRecursion P (drop i xs) → W) → AllByRecursion P (drop (i + 1) xs) → W
one_more P xs i x W below here before rest = before (subst (λ (ys : List _). AllByRecursion P ys) (sym (drop_more xs i x below)) (here, rest))

-- ---- instructions

pub inst_joins : (slots : List ℕ) (names : ℕ) (insts : List Inst) (held : List (Option ℕ)) (i : ℕ) (inst : Inst) (W : Type 0) → i < length insts → inst ≡ get_or insts i inst → IsRightInst slots names held inst
    → (AreRightInsts slots names held (drop i insts) → W) → AreRightInsts slots names (holding slots (results_of inst) held) (drop (i + 1) insts) → W
unfolding AreRightInsts
inst_joins slots names insts held i inst W below is right before rest = before (rw (drop_more insts i inst below, ← is) (right, rest))

pub held_joins : (slots : List ℕ) (insts : List Inst) (held : List (Option ℕ)) (i : ℕ) (inst : Inst) → i < length insts → inst ≡ get_or insts i inst
    → held_after slots (drop i insts) held ≡ held_after slots (drop (i + 1) insts) (holding slots (results_of inst) held)
unfolding held_after
held_joins slots insts held i inst below is = rw (drop_more insts i inst below, ← is) refl

pub insts_end : (slots : List ℕ) (names : ℕ) (insts : List Inst) (held : List (Option ℕ)) (i : ℕ) → i ≡ length insts → AreRightInsts slots names held (drop i insts)
unfolding AreRightInsts
insts_end slots names insts held i end = rw (end, drop-length insts) tt

pub held_end : (slots : List ℕ) (insts : List Inst) (held : List (Option ℕ)) (i : ℕ) → i ≡ length insts → held_after slots (drop i insts) held ≡ held
unfolding held_after
held_end slots insts held i end = rw (end, drop-length insts) refl

-- ---- a function

pub allocation_is : (f : Function) (slots : List ℕ) (count : ℕ) (lives : List (List ℕ)) (names : List ℕ) (held : List (Option ℕ)) → names ≡ parameter_names f → held ≡ only_holding slots count names
    → AllByRecursion (HasSlot slots (length f.names) count) names → AllByRecursion (IsHeld slots held) names → IsRightJump f slots lives held 0 0
    → ((at : ℕ) (b : Block) → slice_get f.blocks at ≡ Some b → IsRightBlock f slots count lives (slice_index_or lives at []) b) → IsAllocation f slots count lives
allocation_is f slots count lives names held are holds fit apart entry blocks =
    let P : List ℕ → Type 0 = λ (ns : List ℕ). AllByRecursion (HasSlot slots (length f.names) count) ns in
    let Q : List ℕ → Type 0 = λ (ns : List ℕ). AllByRecursion (IsHeld slots (only_holding slots count ns)) ns in
    let R : List ℕ → Type 0 = λ (ns : List ℕ). IsRightJump f slots lives (only_holding slots count ns) 0 0 in
    let S : List (Option ℕ) → Type 0 = λ (h : List (Option ℕ)). AllByRecursion (IsHeld slots h) names in
    let T : List (Option ℕ) → Type 0 = λ (h : List (Option ℕ)). IsRightJump f slots lives h 0 0 in
    record {
      parameters = subst P are fit;
      apart = subst Q are (subst S holds apart);
      entry = subst R are (subst T holds entry);
      blocks = blocks;
    }
