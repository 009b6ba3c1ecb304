-- Where the paths to a place miss a name, they miss each name that an instruction makes of it.
use Rattle.lowering.proofs.PathCommon.{◌≡◌, ◌⊎◌, inl, inr, ℕ, suc, ◌<◌, ◌≤◌, List, [], ◌∷◌, length, map, take, slice_get, Contains, Some, sym, ap, subst, ◌∙◌, arith, cases_lt, flat_map, AllByRecursion, Contains-append_left, Contains-append_right, Contains-append_cases, same_Some, Operand, Inst, Block, Function, results_of, targets, block_of, successors, assigns, assigned_with, carrying_operands, maker_of, refuses_undef, IsSuccessor, Assigns, IsPathTo, IsAssignedIn, Passes, NameTwice}
use Rattle.lowering.proofs.Paths.{Misses, IsWithin, IntoOf, slice_take, assigned_of, assigned_inst, assigns_of, take_whole, one_part, defined_within, defined_by_block, block_assigns, row_is, contains_map}
use Rattle.lowering.proofs.PathSites.{IsAccepted, IsUsable, IsResultAt, MissedAt, maker_at, defined_at_result, carried_usable, all-map}
use Rattle.ir_tree.specs.declared.tree.Operand.TheVariants.{Local, Number, Null, Poison, Undef}
use Rattle.ir_tree.specs.declared.sites.Part.TheVariants as part

-- ---- more of a block

-- what a block has assigned, it has assigned later
fewer : (b : Block) (j j' name : ℕ) → j ≤ j' → Contains (assigned_with b (take j b.insts)) name → Contains (assigned_with b (take j' b.insts)) name
fewer b j j' name le found = either (Contains-append_cases (IntoOf b) (flat_map results_of (take j b.insts)) name found)
  where
    either : Contains (IntoOf b) name ⊎ Contains (flat_map results_of (take j b.insts)) name → Contains (assigned_with b (take j' b.insts)) name
    either (inl of_phi) = Contains-append_left (IntoOf b) (flat_map results_of (take j' b.insts)) name of_phi
    either (inr of_inst) =
        let w = assigned_of (take j b.insts) name of_inst in
        let t = slice_take b.insts j w.0 w.1 w.2 in
        assigned_inst b j' w.0 w.1 name (omega (arith, t.0, le)) t.1 w.3

whole : (b : Block) (j name : ℕ) → Contains (assigned_with b (take j b.insts)) name → Contains (assigned_with b b.insts) name
whole b j name found = either (Contains-append_cases (IntoOf b) (flat_map results_of (take j b.insts)) name found)
  where
    either : Contains (IntoOf b) name ⊎ Contains (flat_map results_of (take j b.insts)) name → Contains (assigned_with b b.insts) name
    either (inl of_phi) = Contains-append_left (IntoOf b) (flat_map results_of b.insts) name of_phi
    either (inr of_inst) =
        let w = assigned_of (take j b.insts) name of_inst in
        let t = slice_take b.insts j w.0 w.1 w.2 in
        Contains-append_right (IntoOf b) (flat_map results_of b.insts) name (assigns_of b.insts w.0 w.1 name t.1 w.3)

-- ---- a name that is made of a missed one

-- a path that leaves the block that makes a name has a part that leads there
on_path : (f : Function) → Passes NameTwice f → (n : ℕ) (i : Inst) (at : IsResultAt f n i) (y block : ℕ) (left : List ℕ) → IsPathTo (successors f) block left → IsAssignedIn (assigns f) left n
    → (before : List ℕ) × IsPathTo (successors f) at.k before × (Assigns (assigns f) at.k y ⊎ IsAssignedIn (assigns f) before y → IsAssignedIn (assigns f) left y)
on_path f once n i at y block [] path found = absurd found
on_path f once n i at y block (last ∷ before) path (inl here) = (before, subst (λ (m : ℕ). IsPathTo (successors f) m before) (sym same) path.1, later)
  where
    same : at.k ≡ last
    same =
        let d = defined_by_block f last n here in
        let there : IsWithin last d.1 (part.Inst at.k at.j) = subst (IsWithin last d.1) (one_part f d.0 (part.Inst at.k at.j) n once d.2 (defined_at_result f n i at)) d.3 in
        there.0

    later : Assigns (assigns f) at.k y ⊎ IsAssignedIn (assigns f) before y → Assigns (assigns f) last y ⊎ IsAssignedIn (assigns f) before y
    later (inl a) = inl (subst (λ (m : ℕ). Assigns (assigns f) m y) same a)
    later (inr b) = inr b
on_path f once n i at y block (last ∷ before) path (inr there) = let w = on_path f once n i at y last before path.1 there in (w.0, w.1, λ c. inr (w.2 c))

-- a name is missed on a path that misses an operand of its maker, and doesn't assign it later
made_missed : (f : Function) (k : ℕ) (ran : List ℕ) (n y : ℕ) (i : Inst) → Passes NameTwice f → (at : IsResultAt f n i) → (MissedAt f at.k at.b at.j y → ⊥) → Misses f k ran y → (Contains ran n → ⊥) → Misses f k ran n
made_missed f k ran n y i once at used m later = record {
  left = m.left;
  path = m.path;
  outside = λ found. let never : part.Parameter ≡ part.Inst at.k at.j = one_part f part.Parameter (part.Inst at.k at.j) n once found (defined_at_result f n i at) in cc;
  before = λ found.
      let w = on_path f once n i at y k m.left m.path found in
      used (record {
        left = w.0;
        path = w.1;
        outside = m.outside;
        before = λ c. m.before (w.2 (inr c));
        within = λ c. m.before (w.2 (inl (block_assigns f at.k y at.b at.stands (whole at.b at.j y c))));
      });
  within = later;
}

-- the operand is a name of these
abbrev pub OnName : (ℕ → Type 0) → Operand → Type 0
OnName P (Local name) = P name
OnName P (Number n) = ⊥
OnName P Null = ⊥
OnName P Poison = ⊥
OnName P Undef = ⊥

-- with a name, these are the names that an instruction makes of it
abbrev pub IsClosed : Function → (ℕ → Type 0) → Type 0
IsClosed f P = (n : ℕ) (i : Inst) → maker_of f n ≡ Some i → AllByRecursion (λ (o : Operand). OnName P o → P n) (carrying_operands i)

closed_by : (f : Function) (P : ℕ → Type 0) → IsAccepted f → ((n y : ℕ) (i : Inst) (at : IsResultAt f n i) → (MissedAt f at.k at.b at.j y → ⊥) → P y → P n) → IsClosed f P
closed_by f P accepted step n i maker =
    all-map (IsUsable f (MissedAt f at.k at.b at.j) (refuses_undef i)) (λ (o : Operand). OnName P o → P n) each (carrying_operands i) (carried_usable f at.k at.b at.j i accepted at.stands at.its)
  where
    at : IsResultAt f n i
    at = maker_at f n i maker

    each : (o : Operand) → IsUsable f (MissedAt f at.k at.b at.j) (refuses_undef i) o → OnName P o → P n
    each (Local y) usable p = step n y i at usable.1 p
    each (Number m) usable p = absurd p
    each Null usable p = absurd p
    each Poison usable p = absurd p
    each Undef usable p = absurd p

-- at a block's entry, before its phis
pub closed_before : (f : Function) (k : ℕ) → IsAccepted f → IsClosed f (Misses f k [])
closed_before f k accepted = closed_by f (Misses f k []) accepted (λ n y i at used m. made_missed f k [] n y i accepted.well_formed.names.0 at used m (λ found. omega (arith, found.1)))

-- at an instruction
pub closed_at : (f : Function) (k : ℕ) (b : Block) (j : ℕ) → IsAccepted f → slice_get f.blocks k ≡ Some b → IsClosed f (MissedAt f k b j)
closed_at f k b j accepted stands = closed_by f (MissedAt f k b j) accepted step
  where
    step : (n y : ℕ) (i : Inst) (at : IsResultAt f n i) → (MissedAt f at.k at.b at.j y → ⊥) → MissedAt f k b j y → MissedAt f k b j n
    step n y i at used m = made_missed f k (assigned_with b (take j b.insts)) n y i accepted.well_formed.names.0 at used m later
      where
        later : Contains (assigned_with b (take j b.insts)) n → ⊥
        later found =
            let d = defined_within f k j n b stands found in
            let there : IsWithin k j (part.Inst at.k at.j) = subst (IsWithin k j) (one_part f d.0 (part.Inst at.k at.j) n accepted.well_formed.names.0 d.1 (defined_at_result f n i at)) d.2 in
            let same : at.b ≡ b = same_Some at.b b (sym at.stands ∙ (ap (λ (m : ℕ). slice_get f.blocks m) there.0 ∙ stands)) in
            used (record {
              left = m.left;
              path = subst (λ (c : ℕ). IsPathTo (successors f) c m.left) (sym there.0) m.path;
              outside = m.outside;
              before = m.before;
              within = λ c. m.within (fewer b at.j j y (omega (arith, there.1)) (subst (λ (x : Block). Contains (assigned_with x (take at.j x.insts)) y) same c));
            })

-- ---- from one place to the next

-- after the phis a name is missed that an instruction makes
pub missed_start : (f : Function) (k : ℕ) (b : Block) (n : ℕ) (i : Inst) → Passes NameTwice f → slice_get f.blocks k ≡ Some b → IsResultAt f n i → Misses f k [] n → MissedAt f k b 0 n
missed_start f k b n i once stands at m = record {
  left = m.left;
  path = m.path;
  outside = m.outside;
  before = m.before;
  within = λ found.
      let d = defined_within f k 0 n b stands found in
      let there : IsWithin k 0 (part.Inst at.k at.j) = subst (IsWithin k 0) (one_part f d.0 (part.Inst at.k at.j) n once d.1 (defined_at_result f n i at)) d.2 in
      omega (arith, there.1);
}

-- after an instruction a name is missed that isn't its result
pub missed_next : (f : Function) (k : ℕ) (b : Block) (j n : ℕ) (i : Inst) → slice_get b.insts j ≡ Some i → (Contains (results_of i) n → ⊥) → MissedAt f k b j n → MissedAt f k b (suc j) n
missed_next f k b j n i its other m = record { left = m.left; path = m.path; outside = m.outside; before = m.before; within = λ found. either (Contains-append_cases (IntoOf b) (flat_map results_of (take (suc j) b.insts)) n found) }
  where
    place : (c : ℕ) (i' : Inst) → c < suc j → slice_get b.insts c ≡ Some i' → Contains (results_of i') n → (c < j) ⊎ (j ≤ c) → ⊥
    place c i' below there found (inl less) = m.within (assigned_inst b j c i' n less there found)
    place c i' below there found (inr more) =
        let same : c ≡ j = omega (arith, below, more) in
        let is : i' ≡ i = same_Some i' i (sym there ∙ (ap (λ (e : ℕ). slice_get b.insts e) same ∙ its)) in
        other (subst (λ (x : Inst). Contains (results_of x) n) is found)

    either : Contains (IntoOf b) n ⊎ Contains (flat_map results_of (take (suc j) b.insts)) n → ⊥
    either (inl of_phi) = m.within (Contains-append_left (IntoOf b) (flat_map results_of (take j b.insts)) n of_phi)
    either (inr of_inst) =
        let w = assigned_of (take (suc j) b.insts) n of_inst in
        let t = slice_take b.insts (suc j) w.0 w.1 w.2 in
        place w.0 w.1 t.0 t.1 w.3 (cases_lt w.0 j)

-- at the block's end
pub missed_end : (f : Function) (k : ℕ) (b : Block) (j n : ℕ) → j ≡ length b.insts → MissedAt f k b j n → Misses f k (assigned_with b b.insts) n
missed_end f k b j n e m = subst (λ (insts : List Inst). Misses f k (assigned_with b insts) n) (ap (λ (c : ℕ). take c b.insts) e ∙ take_whole b.insts) m

-- the block of a label that a block leads to may run next
pub next_block : (f : Function) (k : ℕ) (b : Block) (label : ℕ) → slice_get f.blocks k ≡ Some b → Contains (targets b.terminator) label → IsSuccessor (successors f) k (block_of f label)
next_block f k b label stands leads =
    subst (λ (row : List ℕ). Contains row (block_of f label)) (sym (row_is (λ (c : Block). map (block_of f) (targets c.terminator)) f.blocks k b stands)) (contains_map (block_of f) (targets b.terminator) label leads)

-- at the next block's entry
pub missed_on : (f : Function) (k to : ℕ) (b : Block) (n : ℕ) → slice_get f.blocks k ≡ Some b → IsSuccessor (successors f) k to → Misses f k (assigned_with b b.insts) n → Misses f to [] n
missed_on f k to b n stands edge m = record { left = k ∷ m.left; path = (edge, m.path); outside = m.outside; before = before; within = λ found. omega (arith, found.1) }
  where
    before : Assigns (assigns f) k n ⊎ IsAssignedIn (assigns f) m.left n → ⊥
    before (inl here) = m.within (subst (λ (row : List ℕ). Contains row n) (row_is (λ (c : Block). assigned_with c c.insts) f.blocks k b stands) here)
    before (inr there) = m.before there
