-- The table of what names carry, as it is made from the last instruction to the first.
use Rattle.std.proofs.Common.{◌≡◌, ◌⊎◌, ◌≢◌, ◌+◌, ◌<◌, ◌≤◌, ◌||◌, ◌==◌, ℕ, suc, Bool, true, false, cond, List, [], ◌∷◌, ◌++◌, length, get_or, drop, slice_get, Some, None, refl, sym, ◌∙◌, ap, subst, arith, Contains}
use Rattle.std.specs.List.{find, flat_map, list_any, AllByRecursion}
use Rattle.std.proofs.lemmas.Bool.{ne_eqb}
use Rattle.std.proofs.lemmas.List.{drop_more}
use Rattle.std.proofs.lemmas.List.Elements.{Contains-append_right}
use Rattle.std.proofs.lemmas.Option.{slice_get_read}
use Rattle.ir_tree.specs.declared.tree.Inst.{Inst}
use Rattle.ir_tree.specs.declared.tree.Block.{Block}
use Rattle.ir_tree.specs.declared.tree.Function.{Function}
use Rattle.ir_tree.specs.declared.sites.Part.TheVariants as part
use Rattle.ir_tree.specs.declared.sites.Site.TheVariants.{Defines}
use Rattle.ir_tree.specs.Sites.{AreNumbered, IsNumbered, sites}
use Rattle.ir_tree.specs.Flow.{results_of}
use Rattle.ir_tree.specs.Carrying.{insts_of, makes}
use Rattle.ir_tree.proofs.Definers.{all_at, defined_at}
use Rattle.undef_uses.specs.declared.carried.Carried.{Carried}
use Rattle.undef_uses.specs.Counts.{AreCarried, HasResultsBelow}

-- ---- one instruction more

found_first : (p : Inst → Bool) (i : Inst) (rest : List Inst) → p i ≡ true → find p (i ∷ rest) ≡ Some i
found_first p i rest yes' = ap (λ (b : Bool). cond b (Some i) (find p rest)) yes'

found_later : (p : Inst → Bool) (i : Inst) (rest : List Inst) → p i ≡ false → find p (i ∷ rest) ≡ find p rest
found_later p i rest no' = ap (λ (b : Bool). cond b (Some i) (find p rest)) no'

-- ---- the instructions of a block, from the last to the first

pub insts_more : (insts rest : List Inst) (place next : ℕ) (i : Inst) (table : List Carried) → next ≡ place + 1 → place < length insts → i ≡ get_or insts place i → AreCarried (i ∷ (drop next insts ++ rest)) table → AreCarried (drop place insts ++ rest) table
insts_more insts rest place next i table e below is there = rw (drop_more insts place i below, ← is, ← e) there

pub own_results : (names : ℕ) (insts : List Inst) (place : ℕ) (i : Inst) → HasResultsBelow names insts → place < length insts → i ≡ get_or insts place i → (name : ℕ) → Contains (results_of i) name → name < names
own_results names insts place i fit below is = fit place i (slice_get_read insts (length insts) place i refl below is)

-- ---- the blocks, from the last to the first

abbrev pub insts_in : List Block → List Inst
insts_in blocks = flat_map (λ (b : Block). b.insts) blocks

pub blocks_more : (blocks : List Block) (place next : ℕ) (b : Block) (table : List Carried) → next ≡ place + 1 → place < length blocks → b ≡ get_or blocks place b → AreCarried (b.insts ++ insts_in (drop next blocks)) table → AreCarried (insts_in (drop place blocks)) table
blocks_more blocks place next b table e below is there = rw (drop_more blocks place b below, ← is, ← e) there

-- each result has a number below that of names
pub results_below : (f : Function) (k : ℕ) (b : Block) → AreNumbered f → slice_get f.blocks k ≡ Some b → HasResultsBelow (length f.names) b.insts
results_below f k b numbered stands j i its name found =
    let w = defined_at f (part.Inst k j) name (b, stands, i, its, found) in
    all_at (IsNumbered (length f.names)) (sites f) w.0 (Defines w.1 name) numbered w.2

-- ---- a name past the others

any_false : (xs : List ℕ) (name : ℕ) → (Contains xs name → ⊥) → list_any (λ (x : ℕ). x == name) xs ≡ false
any_false [] name absent = refl
any_false (x ∷ xs) name absent =
    let first : (x == name) ≡ false = ne_eqb x name (λ same. absent (0, omega arith, same)) in
    rw (first, any_false xs name (λ found. absent (Contains-append_right (x ∷ []) xs name found))) refl

none_found : (p : Inst → Bool) (insts : List Inst) → AllByRecursion (λ i. p i ≡ false) insts → find p insts ≡ None
none_found p [] all = refl
none_found p (i ∷ insts) all = found_later p i insts all.0 ∙ none_found p insts all.1

all_append : (P : Inst → Type 0) (xs ys : List Inst) → ((k : ℕ) (i : Inst) → slice_get xs k ≡ Some i → P i) → AllByRecursion P ys → AllByRecursion P (xs ++ ys)
all_append P [] ys each all = all
all_append P (x ∷ xs) ys each all = (each 0 x refl, all_append P xs ys (λ k i is. each (suc k) i is) all)

all_insts : (P : Inst → Type 0) (blocks : List Block) → ((k : ℕ) (b : Block) → slice_get blocks k ≡ Some b → (j : ℕ) (i : Inst) → slice_get b.insts j ≡ Some i → P i) → AllByRecursion P (insts_in blocks)
all_insts P [] each = tt
all_insts P (b ∷ blocks) each = all_append P b.insts (insts_in blocks) (each 0 b refl) (all_insts P blocks (λ k c is. each (suc k) c is))

-- no instruction makes it
pub none_makes : (f : Function) (name : ℕ) → AreNumbered f → length f.names ≤ name → find (makes name) (insts_of f) ≡ None
none_makes f name numbered past =
    none_found (makes name) (insts_of f)
    (all_insts (λ i. makes name i ≡ false) f.blocks
    (λ k b stands j i its. any_false (results_of i) name (λ found. let below = results_below f k b numbered stands j i its name found in omega (arith, below, past))))

-- its own result is one of an instruction's results
pub own_first : (i : Inst) (into names : ℕ) → results_of i ≡ into ∷ [] → ((name : ℕ) → Contains (results_of i) name → name < names) → into < names
own_first i into names e below = below into (subst (λ (results : List ℕ). Contains results into) (sym e) (0, omega arith, refl))

pub below_in : (f : Function) (blocks : List Block) (k : ℕ) (b : Block) (insts : List Inst) → AreNumbered f → blocks ≡ f.blocks → k < length f.blocks → b ≡ get_or blocks k b → insts ≡ (get_or blocks k b).insts → HasResultsBelow (length f.names) insts
below_in f blocks k b insts numbered same below is those =
    let own : insts ≡ b.insts = those ∙ ap (λ (c : Block). c.insts) (sym is) in
    subst (HasResultsBelow (length f.names)) (sym own) (results_below f k b numbered (slice_get_read f.blocks (length f.blocks) k b refl below (is ∙ ap (λ (bs : List Block). get_or bs k b) same)))
