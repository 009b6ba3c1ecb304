-- The names that phis read, as they are noted.
use Rattle.register_slots.proofs.Common.{◌≡◌, ◌↔◌, ◌⊎◌, inl, inr, ℕ, zero, suc, ◌+◌, ◌<◌, ◌≤◌, Bool, true, false, List, [], ◌∷◌, length, drop, get_or, set, cond, nat_eq, Option, Some, refl, sym, ap, subst, ◌∙◌, arith, Contains, slice_index_or, AllByRecursion, find, cases_eq, eqb-true, get_or-set_same, get_or-set_other, slice_get_within, get_or_from_slice_get, none-some, same_Some, Operand, PhiEntry, Phi, Block, Function, HasSlot, IsHeld, IsReadHeld, IsEntryHeld, IsRightPhi, Grows, IsReadNoted, IsEntryNoted, IsPhiNoted, IsBlockNoted, ArePhisHeld, AreEntriesHeld}
use Rattle.std.proofs.Common.{slice_get}
use Rattle.std.proofs.Math.ListN.{drop_of_length-le}
use Rattle.ir_tree.specs.declared.tree.Operand.TheVariants as operand
use Rattle.register_slots.proofs.RightParts.{one_more}

-- ---- rows

pub grows_in : (rows : List (List ℕ)) (at item : ℕ) (row row' : List ℕ) → slice_get rows at ≡ Some row → ((other : ℕ) → Contains row' other ↔ (Contains row other ⊎ (other ≡ item))) → Grows rows (set rows at row')
grows_in rows at item row row' read pushed = λ k name found. there k name (cases_eq k at) found
  where
    within : at < length rows
    within = slice_get_within rows at row read

    there : (k name : ℕ) → (k ≡ at) ⊎ (k ≡ at → ⊥) → Contains (slice_index_or rows k []) name → Contains (slice_index_or (set rows at row') k []) name
    there k name (inl e) found =
        let was : get_or rows k [] ≡ row = ap (λ (j : ℕ). get_or rows j []) e ∙ get_or_from_slice_get rows at row [] read in
        let is : get_or (set rows at row') k [] ≡ row' = ap (λ (j : ℕ). get_or (set rows at row') j []) e ∙ get_or-set_same rows at row' [] within in
        subst (λ (r : List ℕ). Contains r name) (sym is) ((pushed name).1 (inl (subst (λ (r : List ℕ). Contains r name) was found)))
    there k name (inr differ) found = subst (λ (r : List ℕ). Contains r name) (sym (get_or-set_other rows at k row' [] differ)) found

pub added_in : (rows : List (List ℕ)) (at item : ℕ) (row row' : List ℕ) → slice_get rows at ≡ Some row → ((other : ℕ) → Contains row' other ↔ (Contains row other ⊎ (other ≡ item))) → Contains (slice_index_or (set rows at row') at []) item
added_in rows at item row row' read pushed = subst (λ (r : List ℕ). Contains r item) (sym (get_or-set_same rows at row' [] (slice_get_within rows at row read))) ((pushed item).1 (inr refl))

-- ---- later rows

pub read_later : (old new : List (List ℕ)) (from : ℕ) (o : Operand) → Grows old new → IsReadNoted old from o → IsReadNoted new from o
read_later old new from (operand.Local name) grows noted = grows from name noted
read_later old new from (operand.Number n) grows noted = noted
read_later old new from operand.Null grows noted = noted
read_later old new from operand.Poison grows noted = noted
read_later old new from operand.Undef grows noted = noted

pub all_weaker : {X : Type 0} (P Q : X → Type 0) → ((x : X) → P x → Q x) → (xs : List X) → AllByRecursion P xs → AllByRecursion Q xs
all_weaker P Q weaker [] all = all
all_weaker P Q weaker (x ∷ xs) all = (weaker x all.0, all_weaker P Q weaker xs all.1)

pub entry_later : (old new : List (List ℕ)) (e : PhiEntry) → Grows old new → IsEntryNoted old e → IsEntryNoted new e
entry_later old new e grows noted = read_later old new e.from e.operand grows noted

pub phi_later : (old new : List (List ℕ)) (phi : Phi) → Grows old new → IsPhiNoted old phi → IsPhiNoted new phi
phi_later old new phi grows noted = all_weaker (IsEntryNoted old) (IsEntryNoted new) (λ e. entry_later old new e grows) phi.entries noted

pub block_later : (old new : List (List ℕ)) (b : Block) → Grows old new → IsBlockNoted old b → IsBlockNoted new b
block_later old new b grows noted = all_weaker (IsPhiNoted old) (IsPhiNoted new) (λ phi. phi_later old new phi grows) b.phis noted

-- one item more is noted
pub note_more : {X : Type 0} (P : List (List ℕ) → X → Type 0) → ((old new : List (List ℕ)) (x : X) → Grows old new → P old x → P new x) → (xs : List X) (i : ℕ) (d : X) (old new : List (List ℕ)) → i < length xs → Grows old new → P new (get_or xs i d)
    → ((rows : List (List ℕ)) → Grows old rows → AllByRecursion (P rows) (drop i xs) → AllByRecursion (P rows) xs) → (rows : List (List ℕ)) → Grows new rows → AllByRecursion (P rows) (drop (i + 1) xs) → AllByRecursion (P rows) xs
note_more P later xs i d old new below grows here before rows after rest = one_more (P rows) xs i d _ below (later new rows (get_or xs i d) after here) (before rows (λ k name found. after k name (grows k name found))) rest

pub all_end : {X : Type 0} (P : X → Type 0) (xs : List X) (i : ℕ) → length xs ≤ i → AllByRecursion P (drop i xs)
all_end P xs i past = subst (λ (ys : List _). AllByRecursion P ys) (sym (drop_of_length-le xs past)) tt

-- ---- what is held

pub all_contains : (P : ℕ → Type 0) (xs : List ℕ) (x : ℕ) → AllByRecursion P xs → Contains xs x → P x
all_contains P xs x all found = subst P found.2 (at xs found.0 all found.1)
  where
    at : (ys : List ℕ) (k : ℕ) → AllByRecursion P ys → k < length ys → P (slice_index_or ys k x)
    at [] k every below = absurd (omega (arith, below))
    at (y ∷ ys) zero every below = every.0
    at (y ∷ ys) (suc k) every below = at ys k every.1 (omega (arith, below))

pub all_get : {X : Type 0} (P : X → Type 0) (xs : List X) (k : ℕ) (x : X) → AllByRecursion P xs → slice_get xs k ≡ Some x → P x
all_get P [] k x all is = absurd (none-some x is)
all_get P (y ∷ ys) zero x all is = subst P (same_Some y x is) all.0
all_get P (y ∷ ys) (suc k) x all is = all_get P ys k x all.1 is

pub read_held : (slots : List ℕ) (held : List (Option ℕ)) (rows : List (List ℕ)) (from : ℕ) (o : Operand) → AllByRecursion (IsHeld slots held) (slice_index_or rows from []) → IsReadNoted rows from o → IsReadHeld slots held o
read_held slots held rows from (operand.Local name) all noted = all_contains (IsHeld slots held) (slice_index_or rows from []) name all noted
read_held slots held rows from (operand.Number n) all noted = noted
read_held slots held rows from operand.Null all noted = noted
read_held slots held rows from operand.Poison all noted = noted
read_held slots held rows from operand.Undef all noted = noted

pub entry_held : (slots : List ℕ) (held : List (Option ℕ)) (rows : List (List ℕ)) (from : ℕ) (entries : List PhiEntry) → AllByRecursion (IsHeld slots held) (slice_index_or rows from []) → AllByRecursion (IsEntryNoted rows) entries
    → IsEntryHeld slots held (find (λ (e : PhiEntry). nat_eq e.from from) entries)
entry_held slots held rows from [] all noted = tt
entry_held slots held rows from (e ∷ entries) all noted = go (nat_eq e.from from) refl (entry_held slots held rows from entries all noted.1)
  where
    go : (b : Bool) → nat_eq e.from from ≡ b → IsEntryHeld slots held (find (λ (other : PhiEntry). nat_eq other.from from) entries) → IsEntryHeld slots held (cond b (Some e) (find (λ (other : PhiEntry). nat_eq other.from from) entries))
    go true same later =
        let is : e.from ≡ from = eqb-true e.from from same in
        read_held slots held rows from e.operand all (subst (λ (label : ℕ). IsReadNoted rows label e.operand) is noted.0)
    go false other later = later

-- what phis read where the block of a label is left is held there
pub entries_held : (f : Function) (slots : List ℕ) (held : List (Option ℕ)) (rows : List (List ℕ)) (from : ℕ) → AllByRecursion (IsBlockNoted rows) f.blocks → AllByRecursion (IsHeld slots held) (slice_index_or rows from []) → (at : ℕ) → AreEntriesHeld f slots held from at
entries_held f slots held rows from noted all at b is =
    all_weaker (IsPhiNoted rows) (λ (phi : Phi). IsEntryHeld slots held (find (λ (e : PhiEntry). nat_eq e.from from) phi.entries)) (λ phi phi_noted. entry_held slots held rows from phi.entries all phi_noted) b.phis (all_get (IsBlockNoted rows) f.blocks at b noted is)

pub right_phis : (slots : List ℕ) (names : ℕ) (held : List (Option ℕ)) (from : ℕ) (phis : List Phi) → ArePhisHeld slots held from phis → AllByRecursion (λ (phi : Phi). HasSlot slots names (length held) phi.into) phis → AllByRecursion (IsRightPhi slots names held from) phis
right_phis slots names held from [] reads fit = tt
right_phis slots names held from (phi ∷ phis) reads fit = ((reads.0, fit.0), right_phis slots names held from phis reads.1 fit.1)
