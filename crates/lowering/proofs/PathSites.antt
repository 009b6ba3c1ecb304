-- What a function that the reader accepts says of the operands and results of its parts.
use Rattle.lowering.proofs.PathCommon.{◌≡◌, ◌⊎◌, inl, inr, ℕ, zero, suc, ◌+◌, ◌<◌, ◌≤◌, Bool, true, false, cond, ◌||◌, ◌==◌, nat_lt, nat_le, IsTrue, List, [], ◌∷◌, ◌++◌, length, get_or, map, take, slice_get, Contains, Option, Some, None, refl, sym, ap, subst, ◌∙◌, arith, flat_map, find, list_any, AllByRecursion, cases_Bool, cases_lt, both_ways, nat_tests, none-some, same_Some, IrType, Operand, GepIndex, Inst, Phi, PhiEntry, Terminator, Block, Function, one_bit, results_of, assigned_with, carrying_operands, insts_of, makes, leaf_count, carries, refuses_undef, end_refuses_undef, counts_agree, HasFewLeaves, maker_of, operands_of, operands_at_end, AreNumbered, IsNumbered, sites, operand_site, index_sites, indices_sites, inst_sites, entry_sites, phi_sites, terminator_sites, Passes, IsWellFormed, NameTwice, Site, Defines, Uses, Written, DefinesIn, all_at, behind, Contains-append_right, phi_site, inst_site, end_site}
use Rattle.lowering.proofs.Paths.{Misses, is_missed, all_in, one_part}
use Rattle.ir_tree.specs.declared.tree.IrType.TheVariants.{Int, Ptr}
use Rattle.ir_tree.specs.declared.tree.Operand.TheVariants.{Local, Number, Null, Poison, Undef}
use Rattle.ir_tree.specs.declared.tree.Inst.TheVariants as inst
use Rattle.ir_tree.specs.declared.tree.Terminator.TheVariants.{Return, Branch, CondBranch, Switch, Unreachable}
use Rattle.ir_tree.specs.declared.sites.Part.TheVariants as part

-- the function's names are in its table, and the reader's checks pass
pub record IsAccepted (f : Function) : Type 0 where
  pub numbered : AreNumbered f
  pub well_formed : IsWellFormed f

pub all-map : {X : Type 0} (P Q : X → Type 0) → ((x : X) → P x → Q x) → (xs : List X) → AllByRecursion P xs → AllByRecursion Q xs
all-map P Q each [] all = tt
all-map P Q each (x ∷ xs) all = (each x all.0, all-map P Q each xs all.1)

-- ---- the sites of operands

-- the sites have the operand, at some type
abbrev pub HasSite : List Site → Operand → Type 0
HasSite ss o = (ty : IrType) × Contains ss (operand_site ty o)

past : (front ss : List Site) (os : List Operand) → AllByRecursion (HasSite ss) os → AllByRecursion (HasSite (front ++ ss)) os
past front ss os all = all-map (HasSite ss) (HasSite (front ++ ss)) (λ o site. (site.0, Contains-append_right front ss (operand_site site.0 o) site.1)) os all

indices_have : (arrays n : ℕ) (indices : List GepIndex) → AllByRecursion (HasSite (indices_sites arrays n indices)) (map (λ (index : GepIndex). index.operand) indices)
indices_have arrays n [] = tt
indices_have arrays n (index ∷ indices) = (
  (Int index.width, (1, omega arith, refl)),
  past (index_sites (nat_le n arrays) index) (indices_sites arrays (n + 1) indices) (map (λ (other : GepIndex). other.operand) indices) (indices_have arrays (n + 1) indices),
)

insts_have : (i : Inst) → AllByRecursion (HasSite (inst_sites i)) (operands_of i)
insts_have (inst.Binary into op width left right) = ((Int width, (2, omega arith, refl)), ((Int width, (3, omega arith, refl)), tt))
insts_have (inst.Icmp into predicate same_sign width left right) = ((Int width, (2, omega arith, refl)), ((Int width, (3, omega arith, refl)), tt))
insts_have (inst.Cast into cast from operand to) = ((Int from, (2, omega arith, refl)), tt)
insts_have (inst.Select into condition if_true if_false) = ((Int one_bit, (2, omega arith, refl)), ((if_true.of_type, (4, omega arith, refl)), ((if_false.of_type, (6, omega arith, refl)), tt)))
insts_have (inst.Freeze into ty operand) = ((ty, (2, omega arith, refl)), tt)
insts_have (inst.Alloca into number ty align) = tt
insts_have (inst.Load into ty pointer align) = ((Ptr, (3, omega arith, refl)), tt)
insts_have (inst.Store value pointer align) = ((value.of_type, (1, omega arith, refl)), ((Ptr, (3, omega arith, refl)), tt))
insts_have (inst.GetElementPtr into inbounds nuw ty base indices) = (
  (Ptr, (3, omega arith, refl)),
  past (Defines (Some Ptr) into ∷ Written true ∷ Written true ∷ operand_site Ptr base ∷ []) (indices_sites (length ty.lengths) 0 indices) (map (λ (index : GepIndex). index.operand) indices) (indices_have (length ty.lengths) 0 indices),
)

entries_have : (ty : IrType) (entries : List PhiEntry) → AllByRecursion (HasSite (flat_map (entry_sites ty) entries)) (map (λ (entry : PhiEntry). entry.operand) entries)
entries_have ty [] = tt
entries_have ty (entry ∷ entries) = (
  (ty, (0, omega arith, refl)),
  past (entry_sites ty entry) (flat_map (entry_sites ty) entries) (map (λ (other : PhiEntry). other.operand) entries) (entries_have ty entries),
)

ends_have : (header : Option IrType) (end : Terminator) → AllByRecursion (HasSite (terminator_sites header end)) (operands_at_end end)
ends_have header (Return None) = tt
ends_have header (Return (Some returned)) = ((returned.of_type, (1, omega arith, refl)), tt)
ends_have header (Branch to) = tt
ends_have header (CondBranch condition if_true if_false) = ((Int one_bit, (1, omega arith, refl)), tt)
ends_have header (Switch width operand default cases) = ((Int width, (1, omega arith, refl)), tt)
ends_have header Unreachable = tt

-- ---- operands

-- a name that an operand is has its name in the table, isn't missed, and carries nothing where undef is refused
abbrev pub IsUsable : Function → (ℕ → Type 0) → Bool → Operand → Type 0
IsUsable f Missed refuses (Local name) = (name < length f.names) × (Missed name → ⊥) × (IsTrue refuses → carries f (Local name) ≡ false)
IsUsable f Missed refuses (Number n) = Unit {0}
IsUsable f Missed refuses Null = Unit {0}
IsUsable f Missed refuses Poison = Unit {0}
IsUsable f Missed refuses Undef = Unit {0}

used_in : (f : Function) (n : ℕ) (ty : IrType) (name : ℕ) → AreNumbered f → slice_get (sites f) n ≡ Some (Uses ty name) → name < length f.names
used_in f n ty name numbered site = all_at (IsNumbered (length f.names)) (sites f) n (Uses ty name) numbered site

not_carried : (b : Bool) → (b ≡ true → ⊥) → b ≡ false
not_carried b never = by (cases_Bool b)
  where
    by : (b ≡ true) ⊎ (b ≡ false) → b ≡ false
    by (inl t) = absurd (never t)
    by (inr e) = e

-- the names that a path to an instruction of a block misses
abbrev pub MissedAt : Function → ℕ → Block → ℕ → ℕ → Type 0
MissedAt f k b j name = Misses f k (assigned_with b (take j b.insts)) name

-- the operands of an instruction
pub inst_usable : (f : Function) (k : ℕ) (b : Block) (j : ℕ) (i : Inst) → IsAccepted f → slice_get f.blocks k ≡ Some b → slice_get b.insts j ≡ Some i → AllByRecursion (IsUsable f (MissedAt f k b j) (refuses_undef i)) (operands_of i)
inst_usable f k b j i accepted stands its = all-map (HasSite (inst_sites i)) (IsUsable f (MissedAt f k b j) (refuses_undef i)) usable (operands_of i) (insts_have i)
  where
    usable : (o : Operand) → HasSite (inst_sites i) o → IsUsable f (MissedAt f k b j) (refuses_undef i) o
    usable (Local name) site =
        let w = inst_site f k b j i (Uses site.0 name) stands its site.1 in (
          used_in f w.0 site.0 name accepted.numbered w.1,
          (λ missed. accepted.well_formed.assigned w.0 (record { type = site.0; name = name; here = w.1; part = part.Inst k j; stands = w.2; missed = (b, is_missed f k b (take j b.insts) name stands missed) })),
          (λ refuses. not_carried (carries f (Local name)) (λ does. accepted.well_formed.undef w.0 (inl (record { type = site.0; name = name; here = w.1; carried = does; part = part.Inst k j; stands = w.2; refuses = (b, stands, i, its, refuses) })))),
        )
    usable (Number n) site = tt
    usable Null site = tt
    usable Poison site = tt
    usable Undef site = tt

-- the operands of a phi
pub phi_usable : (f : Function) (k : ℕ) (b : Block) (j : ℕ) (phi : Phi) → IsAccepted f → slice_get f.blocks k ≡ Some b → slice_get b.phis j ≡ Some phi → AllByRecursion (IsUsable f (λ name. ⊥) true) (map (λ (entry : PhiEntry). entry.operand) phi.entries)
phi_usable f k b j phi accepted stands its =
    all-map (HasSite (phi_sites phi)) (IsUsable f (λ name. ⊥) true) usable (map (λ (entry : PhiEntry). entry.operand) phi.entries)
    (past (Defines (Some phi.of_type) phi.into ∷ Written true ∷ []) (flat_map (entry_sites phi.of_type) phi.entries) (map (λ (entry : PhiEntry). entry.operand) phi.entries) (entries_have phi.of_type phi.entries))
  where
    usable : (o : Operand) → HasSite (phi_sites phi) o → IsUsable f (λ name. ⊥) true o
    usable (Local name) site =
        let w = phi_site f k b j phi (Uses site.0 name) stands its site.1 in (
          used_in f w.0 site.0 name accepted.numbered w.1,
          (λ missed. missed),
          (λ refuses. not_carried (carries f (Local name)) (λ does. accepted.well_formed.undef w.0 (inl (record { type = site.0; name = name; here = w.1; carried = does; part = part.Phi k j; stands = w.2; refuses = tt })))),
        )
    usable (Number n) site = tt
    usable Null site = tt
    usable Poison site = tt
    usable Undef site = tt

-- the operands of a block's end
pub end_usable : (f : Function) (k : ℕ) (b : Block) → IsAccepted f → slice_get f.blocks k ≡ Some b → AllByRecursion (IsUsable f (Misses f k (assigned_with b b.insts)) (end_refuses_undef f.returns_no_undef b.terminator)) (operands_at_end b.terminator)
end_usable f k b accepted stands =
    all-map (HasSite (terminator_sites f.returns b.terminator)) (IsUsable f (Misses f k (assigned_with b b.insts)) (end_refuses_undef f.returns_no_undef b.terminator)) usable (operands_at_end b.terminator) (ends_have f.returns b.terminator)
  where
    usable : (o : Operand) → HasSite (terminator_sites f.returns b.terminator) o → IsUsable f (Misses f k (assigned_with b b.insts)) (end_refuses_undef f.returns_no_undef b.terminator) o
    usable (Local name) site =
        let w = end_site f k b (Uses site.0 name) stands site.1 in (
          used_in f w.0 site.0 name accepted.numbered w.1,
          (λ missed. accepted.well_formed.assigned w.0 (record { type = site.0; name = name; here = w.1; part = part.End k; stands = w.2; missed = (b, is_missed f k b b.insts name stands missed) })),
          (λ refuses. not_carried (carries f (Local name)) (λ does. accepted.well_formed.undef w.0 (inl (record { type = site.0; name = name; here = w.1; carried = does; part = part.End k; stands = w.2; refuses = (b, stands, refuses) })))),
        )
    usable (Number n) site = tt
    usable Null site = tt
    usable Poison site = tt
    usable Undef site = tt

-- what a name carries is among the operands of its maker
carrying_usable : (P : Operand → Type 0) (i : Inst) → AllByRecursion P (operands_of i) → AllByRecursion P (carrying_operands i)
carrying_usable P (inst.Binary into op width left right) all = all
carrying_usable P (inst.Icmp into predicate same_sign width left right) all = all
carrying_usable P (inst.Cast into cast from operand to) all = all
carrying_usable P (inst.Select into condition if_true if_false) all = all
carrying_usable P (inst.Freeze into ty operand) all = tt
carrying_usable P (inst.Alloca into number ty align) all = tt
carrying_usable P (inst.Load into ty pointer align) all = tt
carrying_usable P (inst.Store value pointer align) all = tt
carrying_usable P (inst.GetElementPtr into inbounds nuw ty base indices) all = tt

pub carried_usable : (f : Function) (k : ℕ) (b : Block) (j : ℕ) (i : Inst) → IsAccepted f → slice_get f.blocks k ≡ Some b → slice_get b.insts j ≡ Some i → AllByRecursion (IsUsable f (MissedAt f k b j) (refuses_undef i)) (carrying_operands i)
carried_usable f k b j i accepted stands its = carrying_usable (IsUsable f (MissedAt f k b j) (refuses_undef i)) i (inst_usable f k b j i accepted stands its)

-- ---- results

abbrev IsDefinedIn : List Site → ℕ → Type 0
IsDefinedIn ss name = (ty : IrType) × Contains ss (Defines (Some ty) name)

results_have : (i : Inst) → AllByRecursion (IsDefinedIn (inst_sites i)) (results_of i)
results_have (inst.Binary into op width left right) = ((Int width, (0, omega arith, refl)), tt)
results_have (inst.Icmp into predicate same_sign width left right) = ((Int one_bit, (0, omega arith, refl)), tt)
results_have (inst.Cast into cast from operand to) = ((Int to, (0, omega arith, refl)), tt)
results_have (inst.Select into condition if_true if_false) = ((if_true.of_type, (0, omega arith, refl)), tt)
results_have (inst.Freeze into ty operand) = ((ty, (0, omega arith, refl)), tt)
results_have (inst.Alloca into number ty align) = ((Ptr, (0, omega arith, refl)), tt)
results_have (inst.Load into ty pointer align) = ((ty, (0, omega arith, refl)), tt)
results_have (inst.Store value pointer align) = tt
results_have (inst.GetElementPtr into inbounds nuw ty base indices) = ((Ptr, (0, omega arith, refl)), tt)

-- the name is a result of the instruction at this place
pub record IsResultAt (f : Function) (name : ℕ) (i : Inst) : Type 0 where
  pub k : ℕ
  pub j : ℕ
  pub b : Block
  pub stands : slice_get f.blocks k ≡ Some b
  pub its : slice_get b.insts j ≡ Some i
  pub result : Contains (results_of i) name

result_site : (f : Function) (name : ℕ) (i : Inst) → IsResultAt f name i → (n : ℕ) × (ty : IrType) × (slice_get (sites f) n ≡ Some (Defines (Some ty) name))
result_site f name i at =
    let d = all_in (IsDefinedIn (inst_sites i)) (results_of i) name (results_have i) at.result in
    let w = inst_site f at.k at.b at.j i (Defines (Some d.0) name) at.stands at.its d.1 in
    (w.0, d.0, w.1)

pub result_within : (f : Function) (name : ℕ) (i : Inst) → IsAccepted f → IsResultAt f name i → name < length f.names
result_within f name i accepted at = let w = result_site f name i at in all_at (IsNumbered (length f.names)) (sites f) w.0 (Defines (Some w.1) name) accepted.numbered w.2

pub phi_within : (f : Function) (k : ℕ) (b : Block) (j : ℕ) (phi : Phi) → IsAccepted f → slice_get f.blocks k ≡ Some b → slice_get b.phis j ≡ Some phi → phi.into < length f.names
phi_within f k b j phi accepted stands its =
    let w = phi_site f k b j phi (Defines (Some phi.of_type) phi.into) stands its (0, omega arith, refl) in
    all_at (IsNumbered (length f.names)) (sites f) w.0 (Defines (Some phi.of_type) phi.into) accepted.numbered w.1

-- ---- the maker of a name

find_gives : {X : Type 0} (p : X → Bool) (xs : List X) (x : X) → find p xs ≡ Some x → (m : ℕ) × (slice_get xs m ≡ Some x) × (p x ≡ true)
find_gives p [] x e = absurd (none-some x e)
find_gives {X} p (y ∷ xs) x e = by (cases_Bool (p y)) (λ there. find_gives p xs x there)
  where
    by : (p y ≡ true) ⊎ (p y ≡ false) → (find p xs ≡ Some x → (m : ℕ) × (slice_get xs m ≡ Some x) × (p x ≡ true)) → (m : ℕ) × (slice_get (y ∷ xs) m ≡ Some x) × (p x ≡ true)
    by (inl t) later =
        let same : y ≡ x = same_Some y x (sym (ap (λ (b : Bool). cond b (Some y) (find p xs)) t) ∙ e) in
        (0, ap Some same, ap p (sym same) ∙ t)
    by (inr no') later = let w = later (sym (ap (λ (b : Bool). cond b (Some y) (find p xs)) no') ∙ e) in (suc w.0, w.1, w.2)

find_passes : {X : Type 0} (p : X → Bool) (xs : List X) (m : ℕ) (x : X) → slice_get xs m ≡ Some x → p x ≡ true → (y : X) × (find p xs ≡ Some y)
find_passes p [] m x e t = absurd (none-some x e)
find_passes {X} p (y ∷ xs) m x e t = by (cases_Bool (p y)) m e (λ n there. find_passes p xs n x there t)
  where
    by : (p y ≡ true) ⊎ (p y ≡ false) → (n : ℕ) → slice_get (y ∷ xs) n ≡ Some x → ((n : ℕ) → slice_get xs n ≡ Some x → (z : X) × (find p xs ≡ Some z)) → (z : X) × (find p (y ∷ xs) ≡ Some z)
    by (inl yes') n here later = (y, ap (λ (b : Bool). cond b (Some y) (find p xs)) yes')
    by (inr no') zero here later = absurd (both_ways _ no' (ap p (same_Some y x here) ∙ t))
    by (inr no') (suc n) here later = let w = later n here in (w.0, ap (λ (b : Bool). cond b (Some y) (find p xs)) no' ∙ w.1)

append_at : {X : Type 0} (xs ys : List X) (m : ℕ) (x : X) → slice_get (xs ++ ys) m ≡ Some x → ((j : ℕ) × (slice_get xs j ≡ Some x)) ⊎ ((j : ℕ) × (slice_get ys j ≡ Some x))
append_at [] ys m x e = inr (m, e)
append_at (y ∷ xs) ys zero x e = inl (0, e)
append_at (y ∷ xs) ys (suc m) x e = by (append_at xs ys m x e)
  where
    by : ((j : ℕ) × (slice_get xs j ≡ Some x)) ⊎ ((j : ℕ) × (slice_get ys j ≡ Some x)) → ((j : ℕ) × (slice_get (y ∷ xs) j ≡ Some x)) ⊎ ((j : ℕ) × (slice_get ys j ≡ Some x))
    by (inl w) = inl (suc w.0, w.1)
    by (inr w) = inr w

append_from : {X : Type 0} (xs ys : List X) (j : ℕ) (x : X) → slice_get ys j ≡ Some x → (m : ℕ) × (slice_get (xs ++ ys) m ≡ Some x)
append_from [] ys j x e = (j, e)
append_from (y ∷ xs) ys j x e = let w = append_from xs ys j x e in (suc w.0, w.1)

append_here : {X : Type 0} (xs ys : List X) (j : ℕ) (x : X) → slice_get xs j ≡ Some x → slice_get (xs ++ ys) j ≡ Some x
append_here [] ys j x e = absurd (none-some x e)
append_here (y ∷ xs) ys zero x e = e
append_here (y ∷ xs) ys (suc j) x e = append_here xs ys j x e

in_blocks : (blocks : List Block) (m : ℕ) (i : Inst) → slice_get (flat_map (λ (b : Block). b.insts) blocks) m ≡ Some i → (k : ℕ) × (b : Block) × (slice_get blocks k ≡ Some b) × (j : ℕ) × (slice_get b.insts j ≡ Some i)
in_blocks [] m i e = absurd (none-some i e)
in_blocks (b ∷ blocks) m i e = by (append_at b.insts (flat_map (λ (c : Block). c.insts) blocks) m i e) (λ n there. in_blocks blocks n i there)
  where
    by : ((j : ℕ) × (slice_get b.insts j ≡ Some i)) ⊎ ((j : ℕ) × (slice_get (flat_map (λ (c : Block). c.insts) blocks) j ≡ Some i))
        → ((n : ℕ) → slice_get (flat_map (λ (c : Block). c.insts) blocks) n ≡ Some i → (k : ℕ) × (c : Block) × (slice_get blocks k ≡ Some c) × (j : ℕ) × (slice_get c.insts j ≡ Some i))
        → (k : ℕ) × (c : Block) × (slice_get (b ∷ blocks) k ≡ Some c) × (j : ℕ) × (slice_get c.insts j ≡ Some i)
    by (inl w) later = (0, b, refl, w.0, w.1)
    by (inr w) later = let d = later w.0 w.1 in (suc d.0, d.1, d.2, d.3, d.4)

pub of_blocks : (blocks : List Block) (k : ℕ) (b : Block) (j : ℕ) (i : Inst) → slice_get blocks k ≡ Some b → slice_get b.insts j ≡ Some i → (m : ℕ) × (slice_get (flat_map (λ (c : Block). c.insts) blocks) m ≡ Some i)
of_blocks [] k b j i stands its = absurd (none-some b stands)
of_blocks (c ∷ blocks) zero b j i stands its =
    (j, append_here c.insts (flat_map (λ (d : Block). d.insts) blocks) j i (subst (λ (d : Block). slice_get d.insts j ≡ Some i) (sym (same_Some c b stands)) its))
of_blocks (c ∷ blocks) (suc k) b j i stands its = let w = of_blocks blocks k b j i stands its in append_from c.insts (flat_map (λ (d : Block). d.insts) blocks) w.0 i w.1

equal : (a b : ℕ) → (a == b) ≡ true → a ≡ b
equal a b e = grind (arith, nat_tests)

own : (a : ℕ) → (a == a) ≡ true
own a = grind (arith, nat_tests)

any_contains : (rs : List ℕ) (name : ℕ) → list_any (λ (r : ℕ). r == name) rs ≡ true → Contains rs name
any_contains [] name e = absurd (let never : true ≡ false = sym e in cc)
any_contains (r ∷ rs) name e = by (cases_Bool (r == name)) (λ later. any_contains rs name later)
  where
    by : ((r == name) ≡ true) ⊎ ((r == name) ≡ false) → (list_any (λ (s : ℕ). s == name) rs ≡ true → Contains rs name) → Contains (r ∷ rs) name
    by (inl t) later = (0, omega arith, equal r name t)
    by (inr no') later = behind r rs name (later (sym (ap (λ (b : Bool). b || list_any (λ (s : ℕ). s == name) rs) no') ∙ e))

contains_any : (rs : List ℕ) (name k : ℕ) → slice_get rs k ≡ Some name → list_any (λ (r : ℕ). r == name) rs ≡ true
contains_any [] name k e = absurd (none-some name e)
contains_any (r ∷ rs) name zero e = ap (λ (b : Bool). b || list_any (λ (s : ℕ). s == name) rs) (ap (λ (n : ℕ). n == name) (same_Some r name e) ∙ own name)
contains_any (r ∷ rs) name (suc k) e = rw (contains_any rs name k e) (or_true (r == name))
  where
    or_true : (b : Bool) → (b || true) ≡ true
    or_true true = refl
    or_true false = refl

slice_from : (xs : List ℕ) (x : ℕ) → Contains xs x → (k : ℕ) × (slice_get xs k ≡ Some x)
slice_from xs x found = (found.0, at xs found.0 found.1 found.2)
  where
    at : (ys : List ℕ) (k : ℕ) → k < length ys → get_or ys k x ≡ x → slice_get ys k ≡ Some x
    at [] k below e = absurd (omega (arith, below))
    at (y ∷ ys) zero below e = ap Some e
    at (y ∷ ys) (suc k) below e = at ys k (omega (arith, below)) e

-- the maker of a name is where the name is a result
pub maker_at : (f : Function) (name : ℕ) (i : Inst) → maker_of f name ≡ Some i → IsResultAt f name i
maker_at f name i e =
    let w = find_gives (makes name) (insts_of f) i e in
    let d = in_blocks f.blocks w.0 i w.1 in
    record { k = d.0; j = d.3; b = d.1; stands = d.2; its = d.4; result = any_contains (results_of i) name w.2 }

pub defined_at_result : (f : Function) (name : ℕ) (i : Inst) → (at : IsResultAt f name i) → DefinesIn f (part.Inst at.k at.j) name
defined_at_result f name i at = (at.b, at.stands, i, at.its, at.result)

same_inst : (f : Function) (name : ℕ) (i j : Inst) → Passes NameTwice f → IsResultAt f name i → IsResultAt f name j → i ≡ j
same_inst f name i j once a c =
    let same = one_part f (part.Inst a.k a.j) (part.Inst c.k c.j) name once (defined_at_result f name i a) (defined_at_result f name j c) in
    let block : a.k ≡ c.k = cc in
    let place : a.j ≡ c.j = cc in
    let of_block : a.b ≡ c.b = same_Some a.b c.b (sym a.stands ∙ (ap (λ (n : ℕ). slice_get f.blocks n) block ∙ c.stands)) in
    same_Some i j (sym a.its ∙ (ap (λ (b : Block). slice_get b.insts a.j) of_block ∙ (ap (λ (n : ℕ). slice_get c.b.insts n) place ∙ c.its)))

-- and an instruction makes its result
pub maker_is : (f : Function) (name : ℕ) (i : Inst) → Passes NameTwice f → IsResultAt f name i → maker_of f name ≡ Some i
maker_is f name i once at =
    let w = of_blocks f.blocks at.k at.b at.j i at.stands at.its in
    let s = slice_from (results_of i) name at.result in
    let d = find_passes (makes name) (insts_of f) w.0 i w.1 (contains_any (results_of i) name s.0 s.1) in
    d.1 ∙ ap Some (same_inst f name d.0 i once (maker_at f name d.0 d.1) at)

-- ---- leaves

no-maker : (f : Function) (name : ℕ) → maker_of f name ≡ None → leaf_count f (Local name) ≡ 0
no-maker f name none = counts_agree f (Local name) ∙ rw none refl

-- each name has few leaves
pub has_few_leaves : (f : Function) → IsAccepted f → HasFewLeaves f
has_few_leaves f accepted name = by (maker_of f name) refl
  where
    by : (m : Option Inst) → maker_of f name ≡ m → leaf_count f (Local name) ≤ 64
    by None e = let none = no-maker f name e in omega (arith, none)
    by (Some i) e = most (cases_lt 64 (leaf_count f (Local name)))
      where
        most : (64 < leaf_count f (Local name)) ⊎ (leaf_count f (Local name) ≤ 64) → leaf_count f (Local name) ≤ 64
        most (inl many) = absurd (let w = result_site f name i (maker_at f name i e) in accepted.well_formed.undef w.0 (inr (record { type = w.1; name = name; here = w.2; many = many })))
        most (inr few) = few

-- a name that carries undef has a maker
pub has_maker : (f : Function) (name : ℕ) → carries f (Local name) ≡ true → (i : Inst) × (maker_of f name ≡ Some i)
has_maker f name does = by (maker_of f name) refl
  where
    by : (m : Option Inst) → maker_of f name ≡ m → (i : Inst) × (maker_of f name ≡ Some i)
    by None e = absurd (let none = no-maker f name e in let never : true ≡ false = sym does ∙ ap (nat_lt 0) none in cc)
    by (Some i) e = (i, e)
