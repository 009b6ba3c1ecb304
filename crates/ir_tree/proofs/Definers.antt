-- Which names the parts of a function define, and which labels they enter.
use Rattle.ir_tree.proofs.Common.{◌≡◌, ◌⊎◌, ℕ, true, not, ◌==◌, zero, suc, ◌+◌, ◌<◌, ◌≤◌, List, [], ◌∷◌, ◌++◌, map, length, get_or, slice_get, Option, Some, None, inl, inr, refl, ap, subst, ◌∙◌, arith, All, Contains, flat_map, AllByRecursion, cases_lt, slice_get-get_or, slice_get_within, get_or_from_slice_get, none-some, same_Some, Width, IrType, Operand, Local, Number, Null, Poison, Undef, Inst, PhiEntry, Phi, Case, Block, Parameter, Function, Part, Site, Defines, Uses, Enters, Written, sites, parts, steps, has_case, operand_site, indices_sites, inst_sites, entry_sites, phi_sites, cases_sites, terminator_sites, one_bit, targets, results_of, DefinesAgain, IsLabel, DefinesIn}
use Rattle.ir_tree.specs.declared.tree.IrType.TheVariants.{Int, Ptr}
use Rattle.ir_tree.specs.declared.tree.Inst.TheVariants as inst
use Rattle.ir_tree.specs.declared.tree.GepIndex.{GepIndex}
use Rattle.ir_tree.specs.declared.tree.Terminator.{Terminator}
use Rattle.ir_tree.specs.declared.tree.Terminator.TheVariants.{Return, Branch, CondBranch, Switch, Unreachable}
use Rattle.ir_tree.specs.declared.sites.Part.TheVariants as part
use Rattle.ir_tree.proofs.Listing.{list-length}
use Rattle.ir_tree.proofs.Standing.{InFunction, Stands, behind, at_site, parameter_site, label_site, phi_site, inst_site, end_site}

-- ---- lists

-- an item of a list of what is made of others is made of one of them
pub made_of : {X : Type 0} (v : X → ℕ) (xs : List X) (k name : ℕ) → k < length (map v xs) → get_or (map v xs) k name ≡ name → (x : X) × (slice_get xs k ≡ Some x) × (v x ≡ name)
made_of v [] k name below e = absurd (omega (arith, below))
made_of v (x ∷ xs) zero name below e = (x, refl, e)
made_of v (x ∷ xs) (suc k) name below e = made_of v xs k name (omega (arith, below)) e

pub makes : {X : Type 0} (v : X → ℕ) (xs : List X) (k : ℕ) (x : X) → slice_get xs k ≡ Some x → Contains (map v xs) (v x)
makes v [] k x e = absurd (none-some x e)
makes v (y ∷ xs) zero x e = (0, omega arith, ap v (same_Some y x e))
makes v (y ∷ xs) (suc k) x e = behind (v y) (map v xs) (v x) (makes v xs k x e)

pub all_at : {X : Type 0} (P : X → Type 0) (xs : List X) (n : ℕ) (x : X) → All P xs → slice_get xs n ≡ Some x → P x
all_at P xs n x all e = subst P (get_or_from_slice_get xs n x x e) (all n x (slice_get_within xs n x e))

slice_get_at : {X : Type 0} (xs : List X) (k : ℕ) (x : X) → k < length xs → get_or xs k x ≡ x → slice_get xs k ≡ Some x
slice_get_at xs k x below e = slice_get-get_or xs k x below ∙ ap Some e

-- where each name is defined once, two sites that define it are one
pub one_site : (all : List Site) → ((k : ℕ) → DefinesAgain all k → ⊥) → (n m : ℕ) (type other : Option IrType) (name : ℕ) → slice_get all n ≡ Some (Defines type name) → slice_get all m ≡ Some (Defines other name) → n ≡ m
one_site all once n m type other name here there = below (cases_lt n m)
  where
    above : (m < n) ⊎ (n ≤ m) → m ≤ n → n ≡ m
    above (inl less) most = absurd (once n (record { type = type; name = name; here = here; earlier = m; before = less; other = other; there = there }))
    above (inr more) most = omega (arith, more, most)

    below : (n < m) ⊎ (m ≤ n) → n ≡ m
    below (inl less) = absurd (once m (record { type = other; name = name; here = there; earlier = n; before = less; other = type; there = here }))
    below (inr more) = above (cases_lt m n) more

-- ---- sites that define nothing

abbrev IsNoDefinition : Site → Type 0
IsNoDefinition (Defines type name) = ⊥
IsNoDefinition (Uses type name) = Unit {0}
IsNoDefinition (Enters name) = Unit {0}
IsNoDefinition (Written fits) = Unit {0}

none_defines : (ss : List Site) (k : ℕ) (type : Option IrType) (name : ℕ) → AllByRecursion IsNoDefinition ss → k < length ss → get_or ss k (Defines type name) ≡ Defines type name → ⊥
none_defines [] k type name all below e = omega (arith, below)
none_defines (s ∷ ss) zero type name all below e = subst IsNoDefinition e all.0
none_defines (s ∷ ss) (suc k) type name all below e = none_defines ss k type name all.1 (omega (arith, below)) e

-- only the first site is a definition
first_at : (t : Option IrType) (into : ℕ) (rest : List Site) (k : ℕ) (type : Option IrType) (name : ℕ) → AllByRecursion IsNoDefinition rest → k < length (Defines t into ∷ rest) → get_or (Defines t into ∷ rest) k (Defines type name) ≡ Defines type name → into ≡ name
first_at t into rest zero type name all below e = let same : Defines t into ≡ Defines type name = e in cc
first_at t into rest (suc k) type name all below e = absurd (none_defines rest k type name all (omega (arith, below)) e)

first_defines : (t : Option IrType) (into : ℕ) (rest : List Site) (type : Option IrType) (name : ℕ) → AllByRecursion IsNoDefinition rest → Contains (Defines t into ∷ rest) (Defines type name) → into ≡ name
first_defines t into rest type name all found = first_at t into rest found.0 type name all found.1 found.2

operand_plain : (type : IrType) (operand : Operand) → IsNoDefinition (operand_site type operand)
operand_plain type (Local name) = tt
operand_plain type (Number n) = tt
operand_plain type Null = tt
operand_plain type Poison = tt
operand_plain type Undef = tt

indices_plain : (arrays n : ℕ) (indices : List GepIndex) → AllByRecursion IsNoDefinition (indices_sites arrays n indices)
indices_plain arrays n [] = tt
indices_plain arrays n (index ∷ indices) = (tt, (operand_plain (Int index.width) index.operand, (tt, indices_plain arrays (n + 1) indices)))

-- the instruction's sites are its result, and others that define nothing
record HasResult (i : Inst) : Type 0 where
  type : IrType
  into : ℕ
  others : List Site
  result : results_of i ≡ into ∷ []
  all : inst_sites i ≡ Defines (Some type) into ∷ others
  plain : AllByRecursion IsNoDefinition others

-- it has no result, and none of its sites defines anything
record HasNoResult (i : Inst) : Type 0 where
  none : results_of i ≡ []
  plain : AllByRecursion IsNoDefinition (inst_sites i)

with_result : (i : Inst) (type : IrType) (into : ℕ) (others : List Site) → results_of i ≡ into ∷ [] → inst_sites i ≡ Defines (Some type) into ∷ others → AllByRecursion IsNoDefinition others → HasResult i ⊎ HasNoResult i
with_result i type into others result all plain = inl (record { type = type; into = into; others = others; result = result; all = all; plain = plain })

results_in : (i : Inst) → HasResult i ⊎ HasNoResult i
results_in (inst.Binary into op width left right) = with_result _ (Int width) into _ refl refl (tt, (operand_plain (Int width) left, (operand_plain (Int width) right, tt)))
results_in (inst.Icmp into predicate same_sign width left right) = with_result _ (Int one_bit) into _ refl refl (tt, (operand_plain (Int width) left, (operand_plain (Int width) right, tt)))
results_in (inst.Cast into cast from operand to) = with_result _ (Int to) into _ refl refl (tt, (operand_plain (Int from) operand, (tt, tt)))
results_in (inst.Select into condition if_true if_false) =
    with_result _ if_true.of_type into _ refl refl (tt, (operand_plain (Int one_bit) condition, (tt, (operand_plain if_true.of_type if_true.operand, (tt, (operand_plain if_false.of_type if_false.operand, tt))))))
results_in (inst.Freeze into type operand) = with_result _ type into _ refl refl (tt, (operand_plain type operand, tt))
results_in (inst.Alloca into number type align) = with_result _ Ptr into _ refl refl (tt, tt)
results_in (inst.Load into type pointer align) = with_result _ type into _ refl refl (tt, (tt, (operand_plain Ptr pointer, tt)))
results_in (inst.Store value pointer align) = inr (record { none = refl; plain = (tt, (operand_plain value.of_type value.operand, (tt, (operand_plain Ptr pointer, tt)))) })
results_in (inst.GetElementPtr into inbounds nuw type base indices) = with_result _ Ptr into _ refl refl (tt, (tt, (operand_plain Ptr base, indices_plain (length type.lengths) 0 indices)))

-- a list of one name has only that name
only : (into name : ℕ) → Contains (into ∷ []) name → into ≡ name
only into name found = at found.0 found.1 found.2
  where
    at : (k : ℕ) → k < 1 → get_or (into ∷ []) k name ≡ name → into ≡ name
    at zero below e = e
    at (suc k) below e = absurd (omega (arith, below))

inst_defines : (i : Inst) (type : Option IrType) (name : ℕ) → Contains (inst_sites i) (Defines type name) → Contains (results_of i) name
inst_defines i type name found = by (results_in i)
  where
    by : HasResult i ⊎ HasNoResult i → Contains (results_of i) name
    by (inl r) = rw r.result (0, omega arith, first_defines (Some r.type) r.into r.others type name r.plain (rw r.all at found))
    by (inr r) = absurd (none_defines (inst_sites i) found.0 type name r.plain found.1 found.2)

entries_plain : (type : IrType) (entries : List PhiEntry) → AllByRecursion IsNoDefinition (flat_map (entry_sites type) entries)
entries_plain type [] = tt
entries_plain type (entry ∷ entries) = (operand_plain type entry.operand, (tt, entries_plain type entries))

phi_defines : (phi : Phi) (type : Option IrType) (name : ℕ) → Contains (phi_sites phi) (Defines type name) → phi.into ≡ name
phi_defines phi type name found = first_defines _ phi.into (Written true ∷ flat_map (entry_sites phi.of_type) phi.entries) type name (tt, entries_plain phi.of_type phi.entries) found

cases_plain : (width : Width) (before cases : List Case) → AllByRecursion IsNoDefinition (cases_sites width before cases)
cases_plain width before [] = tt
cases_plain width before (c ∷ cases) = (tt, (tt, (tt, cases_plain width (before ++ c ∷ []) cases)))

end_plain : (header : Option IrType) (t : Terminator) → AllByRecursion IsNoDefinition (terminator_sites header t)
end_plain header (Return None) = (tt, tt)
end_plain header (Return (Some returned)) = (tt, (operand_plain returned.of_type returned.operand, tt))
end_plain header (Branch to) = (tt, tt)
end_plain header (CondBranch condition if_true if_false) = (tt, (operand_plain (Int one_bit) condition, (tt, (tt, tt))))
end_plain header (Switch width operand default cases) = (tt, (operand_plain (Int width) operand, (tt, cases_plain width [] cases)))
end_plain header Unreachable = tt

-- ---- what a part defines

parameter_defines : (f : Function) (k : ℕ) (p : Parameter) (type : Option IrType) (name : ℕ) → slice_get f.parameters k ≡ Some p → (j : ℕ) → j < 2 → get_or (Written true ∷ Defines (Some p.of_type) p.name ∷ []) j (Defines type name) ≡ Defines type name → DefinesIn f part.Parameter name
parameter_defines f k p type name stands zero below e = absurd (let same : Written true ≡ Defines type name = e in cc)
parameter_defines f k p type name stands (suc zero) below e =
    subst (λ (n : ℕ). Contains (map (λ (q : Parameter). q.name) f.parameters) n) (let same : Defines (Some p.of_type) p.name ≡ Defines type name = e in let is : p.name ≡ name = cc in is)
    (makes (λ (q : Parameter). q.name) f.parameters k p stands)
parameter_defines f k p type name stands (suc (suc j)) below e = absurd (omega (arith, below))

defines_by : (f : Function) (p : Part) (type : Option IrType) (name : ℕ) → InFunction f p (Defines type name) → DefinesIn f p name
defines_by f part.Header type name found = none_defines (Written true ∷ Written true ∷ []) found.0 type name (tt, (tt, tt)) found.1 found.2
defines_by f part.Parameter type name found =
    parameter_defines f found.1.0 found.0 type name (slice_get_at f.parameters found.1.0 found.0 found.1.1 found.1.2) found.2.0 found.2.1 found.2.2
defines_by f (part.Label k) type name found = (found.0, found.1, first_defines None found.0.label [] type name tt found.2.1)
defines_by f (part.Phi k j) type name found = (found.0, found.1, found.2.1, found.2.2, phi_defines found.2.1 type name found.2.3)
defines_by f (part.Inst k j) type name found = (found.0, found.1, found.2.1, found.2.2, inst_defines found.2.1 type name found.2.3)
defines_by f (part.End k) type name found = absurd (none_defines (terminator_sites f.returns found.0.terminator) found.2.1.0 type name (end_plain f.returns found.0.terminator) found.2.1.1 found.2.1.2)

-- a site that defines a name is in a part that does
pub defines_in : (f : Function) (n : ℕ) (p : Part) (type : Option IrType) (name : ℕ) → slice_get (sites f) n ≡ Some (Defines type name) → slice_get (parts f) n ≡ Some p → DefinesIn f p name
defines_in f n p type name site its = defines_by f p type name (at_site f n p (Defines type name) site its)

inst_begins : (i : Inst) (name : ℕ) → Contains (results_of i) name → (type : Option IrType) × Contains (inst_sites i) (Defines type name)
inst_begins i name found = by (results_in i)
  where
    by : HasResult i ⊎ HasNoResult i → (type : Option IrType) × Contains (inst_sites i) (Defines type name)
    by (inl r) = (Some r.type, rw r.all (0, omega arith, ap (Defines (Some r.type)) (only r.into name (rw r.result at found))))
    by (inr r) = absurd (let none : Contains [] name = rw r.none at found in omega (arith, none.1))

-- ---- labels

no_label : (type : IrType) (into : ℕ) (rest : List Site) (k name : ℕ) → AllByRecursion IsNoDefinition rest → k < length (Defines (Some type) into ∷ rest) → get_or (Defines (Some type) into ∷ rest) k (Defines None name) ≡ Defines None name → ⊥
no_label type into rest zero name all below e = let same : Defines (Some type) into ≡ Defines None name = e in cc
no_label type into rest (suc k) name all below e = none_defines rest k None name all (omega (arith, below)) e

inst_no_label : (i : Inst) (name : ℕ) → Contains (inst_sites i) (Defines None name) → ⊥
inst_no_label i name found = by (results_in i)
  where
    by : HasResult i ⊎ HasNoResult i → ⊥
    by (inl r) = let those : Contains (Defines (Some r.type) r.into ∷ r.others) (Defines None name) = rw r.all at found in no_label r.type r.into r.others those.0 name r.plain those.1 those.2
    by (inr r) = none_defines (inst_sites i) found.0 None name r.plain found.1 found.2

parameter_no_label : (p : Parameter) (name k : ℕ) → k < 2 → get_or (Written true ∷ Defines (Some p.of_type) p.name ∷ []) k (Defines None name) ≡ Defines None name → ⊥
parameter_no_label p name zero below e = let same : Written true ≡ Defines None name = e in cc
parameter_no_label p name (suc zero) below e = let same : Defines (Some p.of_type) p.name ≡ Defines None name = e in cc
parameter_no_label p name (suc (suc k)) below e = omega (arith, below)

label_by : (f : Function) (p : Part) (name : ℕ) → InFunction f p (Defines None name) → (k : ℕ) × DefinesIn f (part.Label k) name
label_by f part.Header name found = absurd (none_defines (Written true ∷ Written true ∷ []) found.0 None name (tt, (tt, tt)) found.1 found.2)
label_by f part.Parameter name found = absurd (parameter_no_label found.0 name found.2.0 found.2.1 found.2.2)
label_by f (part.Label k) name found = (k, defines_by f (part.Label k) None name found)
label_by f (part.Phi k j) name found =
    let phi : Phi = found.2.1 in
    absurd (no_label phi.of_type phi.into (Written true ∷ flat_map (entry_sites phi.of_type) phi.entries) found.2.3.0 name (tt, entries_plain phi.of_type phi.entries) found.2.3.1 found.2.3.2)
label_by f (part.Inst k j) name found = absurd (inst_no_label found.2.1 name found.2.3)
label_by f (part.End k) name found = absurd (none_defines (terminator_sites f.returns found.0.terminator) found.2.1.0 None name (end_plain f.returns found.0.terminator) found.2.1.1 found.2.1.2)

-- a site has a part
pub part_at : (f : Function) (n : ℕ) (s : Site) → slice_get (sites f) n ≡ Some s → (p : Part) × (slice_get (parts f) n ≡ Some p)
part_at f n s site =
    let long = list-length f (record { all = sites f; parts = parts f }) refl refl in
    let within = slice_get_within (sites f) n s site in
    (get_or (parts f) n part.Header, slice_get-get_or (parts f) n part.Header (omega (arith, long, within)))

-- a label is some block's
pub label_of_block : (f : Function) (name : ℕ) → IsLabel (sites f) name → (k : ℕ) × DefinesIn f (part.Label k) name
label_of_block f name label = let p = part_at f label.0 (Defines None name) label.1 in label_by f p.0 name (at_site f label.0 p.0 (Defines None name) label.1 p.1)

-- ---- and back

-- some site of the part defines the name
abbrev pub DefinedAt : Function → Part → ℕ → Type 0
DefinedAt f p name = (n : ℕ) × (type : Option IrType) × (slice_get (sites f) n ≡ Some (Defines type name)) × (slice_get (parts f) n ≡ Some p)

defined : (f : Function) (p : Part) (type : Option IrType) (into name : ℕ) → into ≡ name → Stands (steps f) p (Defines type into) → DefinedAt f p name
defined f p type into name same stands = subst (λ (n : ℕ). DefinedAt f p n) same (stands.0, type, stands.1, stands.2)

pub defined_at : (f : Function) (p : Part) (name : ℕ) → DefinesIn f p name → DefinedAt f p name
defined_at f part.Header name found = absurd found
defined_at f part.Parameter name found =
    let w = made_of (λ (q : Parameter). q.name) f.parameters found.0 name found.1 found.2 in
    defined f part.Parameter (Some w.0.of_type) w.0.name name w.2 (parameter_site f found.0 w.0 (Defines (Some w.0.of_type) w.0.name) w.1 (1, omega arith, refl))
defined_at f (part.Label k) name found = defined f (part.Label k) None found.0.label name found.2 (label_site f k found.0 (Defines None found.0.label) found.1 (0, omega arith, refl))
defined_at f (part.Phi k j) name found =
    defined f (part.Phi k j) (Some found.2.of_type) found.2.into name found.4 (phi_site f k found.0 j found.2 (Defines (Some found.2.of_type) found.2.into) found.1 found.3 (0, omega arith, refl))
defined_at f (part.Inst k j) name found = with_type (inst_begins found.2 name found.4)
  where
    with_type : (type : Option IrType) × Contains (inst_sites found.2) (Defines type name) → DefinedAt f (part.Inst k j) name
    with_type w = defined f (part.Inst k j) w.0 name name refl (inst_site f k found.0 j found.2 (Defines w.0 name) found.1 found.3 w.1)
defined_at f (part.End k) name found = absurd found

-- ---- what a block enters

cases_enter : (width : Width) (before cases : List Case) (k t : ℕ) → k < length (map (λ (c : Case). c.to) cases) → get_or (map (λ (c : Case). c.to) cases) k t ≡ t → Contains (cases_sites width before cases) (Enters t)
cases_enter width before [] k t below e = absurd (omega (arith, below))
cases_enter width before (c ∷ cases) zero t below e = (2, omega arith, ap Enters e)
cases_enter width before (c ∷ cases) (suc k) t below e =
    let fits : Site = Written (c.width.bits == width.bits) in
    let other : Site = Written (not (has_case width.bits before c.value)) in
    let rest : List Site = cases_sites width (before ++ c ∷ []) cases in
    behind fits (other ∷ Enters c.to ∷ rest) (Enters t) (behind other (Enters c.to ∷ rest) (Enters t) (behind (Enters c.to) rest (Enters t) (cases_enter width (before ++ c ∷ []) cases k t (omega (arith, below)) e)))

end_enters : (header : Option IrType) (end : Terminator) (k t : ℕ) → k < length (targets end) → get_or (targets end) k t ≡ t → Contains (terminator_sites header end) (Enters t)
end_enters header (Return returned) k t below e = absurd (omega (arith, below))
end_enters header (Branch to) zero t below e = (0, omega arith, ap Enters e)
end_enters header (Branch to) (suc k) t below e = absurd (omega (arith, below))
end_enters header (CondBranch condition if_true if_false) zero t below e = (2, omega arith, ap Enters e)
end_enters header (CondBranch condition if_true if_false) (suc zero) t below e = (3, omega arith, ap Enters e)
end_enters header (CondBranch condition if_true if_false) (suc (suc k)) t below e = absurd (omega (arith, below))
end_enters header (Switch width operand default cases) zero t below e = (2, omega arith, ap Enters e)
end_enters header (Switch width operand default cases) (suc k) t below e =
    let used : Site = operand_site (Int width) operand in
    let rest : List Site = cases_sites width [] cases in
    behind (Written true) (used ∷ Enters default ∷ rest) (Enters t) (behind used (Enters default ∷ rest) (Enters t) (behind (Enters default) rest (Enters t) (cases_enter width [] cases k t (omega (arith, below)) e)))
end_enters header Unreachable k t below e = absurd (omega (arith, below))

-- each target of a block is a label that its end enters
pub entered_at : (f : Function) (k : ℕ) (b : Block) (t : ℕ) → slice_get f.blocks k ≡ Some b → Contains (targets b.terminator) t → (n : ℕ) × (slice_get (sites f) n ≡ Some (Enters t)) × (slice_get (parts f) n ≡ Some (part.End k))
entered_at f k b t stands found = end_site f k b (Enters t) stands (end_enters f.returns b.terminator found.0 t found.1 found.2)
