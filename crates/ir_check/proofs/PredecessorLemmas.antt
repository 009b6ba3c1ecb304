-- The lists of predecessors as they are made, block by block.
use Rattle.ir_check.proofs.Common.{◌≡◌, ◌↔◌, ◌⊎◌, inl, inr, ℕ, ◌<◌, List, [], ◌∷◌, ◌++◌, length, take, ◌+◌, get_or, set, slice_get, Option, Some, refl, ap, sym, subst, ◌∙◌, arith, length-set, All, Contains, cases_eq, take_more, get_or_default, get_or-set_same, get_or-set_other, Contains-append_left, Contains-get_or, Contains-push, Contains-push_cases, slice_get_read, slice_get_within, get_or_from_slice_get, same_Some, IrType, Phi, Defines, Enters, AreNumbered, IsNumbered, sites, parts, all_at, defined_at, entered_at, ComesFromPredecessors, HasTwoOperands, HasWrongEdge, LeadsIn, ArePredecessors, IsUnfit, IsUnfitAt}
use Rattle.ir_tree.specs.declared.tree.Block.{Block}
use Rattle.ir_tree.specs.declared.tree.Function.{Function}
use Rattle.ir_tree.specs.declared.sites.Part.TheVariants as part
use Rattle.ir_tree.specs.Flow.{IsPredecessor, targets}

-- ---- the items that were walked

pub taken : {X : Type 0} (xs : List X) (i : ℕ) (x : X) → i < length xs → x ≡ get_or xs i x → take (i + 1) xs ≡ take i xs ++ x ∷ []
taken {X} xs i x below is = take_more xs i x below ∙ ap (λ (y : X). take i xs ++ y ∷ []) (sym is)

pub got : {X : Type 0} (xs ys : List X) (i : ℕ) (x : X) → xs ≡ ys → i < length xs → x ≡ get_or xs i x → slice_get ys i ≡ Some x
got {X} xs ys i x same below is = subst (λ (zs : List X). slice_get zs i ≡ Some x) same (slice_get_read xs (length xs) i x refl below is)

-- ---- one label more

pub record HaveAdded (old new : List (List ℕ)) (label : ℕ) (nexts : List ℕ) : Type 0 where
  pub long : length new ≡ length old
  pub each : (next other : ℕ) → Contains (get_or new next []) other ↔ (Contains (get_or old next []) other ⊎ ((other ≡ label) × Contains nexts next))

pub added_more : (old new : List (List ℕ)) (label : ℕ) (nexts : List ℕ) (t : ℕ) (row row' : List ℕ) → HaveAdded old new label nexts → slice_get new t ≡ Some row → ((other : ℕ) → Contains row' other ↔ (Contains row other ⊎ (other ≡ label)))
    → HaveAdded old (set new t row') label (nexts ++ t ∷ [])
added_more old new label nexts t row row' so_far read pushed =
    record { long = length-set new t row' ∙ so_far.long; each = λ next other. (λ found. there next other (cases_eq next t) found, λ found. back next other (cases_eq next t) found) }
  where
    within : t < length new
    within = slice_get_within new t row read

    at : get_or new t [] ≡ row
    at = get_or_from_slice_get new t row [] read

    wider : (next other : ℕ) → Contains (get_or old next []) other ⊎ ((other ≡ label) × Contains nexts next) → Contains (get_or old next []) other ⊎ ((other ≡ label) × Contains (nexts ++ t ∷ []) next)
    wider next other (inl found) = inl found
    wider next other (inr new') = inr (new'.0, Contains-append_left nexts (t ∷ []) next new'.1)

    here : (next other : ℕ) → next ≡ t → Contains row other ⊎ (other ≡ label) → Contains (get_or old next []) other ⊎ ((other ≡ label) × Contains (nexts ++ t ∷ []) next)
    here next other e (inl found) = wider next other ((so_far.each next other).0 (subst (λ (r : List ℕ). Contains r other) (sym at ∙ ap (λ (k : ℕ). get_or new k []) (sym e)) found))
    here next other e (inr same) = inr (same, subst (λ (k : ℕ). Contains (nexts ++ t ∷ []) k) (sym e) (Contains-push nexts t))

    there : (next other : ℕ) → (next ≡ t) ⊎ (next ≡ t → ⊥) → Contains (get_or (set new t row') next []) other → Contains (get_or old next []) other ⊎ ((other ≡ label) × Contains (nexts ++ t ∷ []) next)
    there next other (inl e) found = here next other e ((pushed other).0 (subst (λ (r : List ℕ). Contains r other) (ap (λ (k : ℕ). get_or (set new t row') k []) e ∙ get_or-set_same new t row' [] within) found))
    there next other (inr away) found = wider next other ((so_far.each next other).0 (subst (λ (r : List ℕ). Contains r other) (get_or-set_other new t next row' [] away) found))

    at_t : (next other : ℕ) → next ≡ t → Contains row other ⊎ (other ≡ label) → Contains (get_or (set new t row') next []) other
    at_t next other e found = subst (λ (r : List ℕ). Contains r other) (sym (ap (λ (k : ℕ). get_or (set new t row') k []) e ∙ get_or-set_same new t row' [] within)) ((pushed other).1 found)

    elsewhere : (next other : ℕ) → (next ≡ t → ⊥) → Contains (get_or old next []) other ⊎ ((other ≡ label) × Contains nexts next) → Contains (get_or (set new t row') next []) other
    elsewhere next other away found = subst (λ (r : List ℕ). Contains r other) (sym (get_or-set_other new t next row' [] away)) ((so_far.each next other).1 found)

    older : (next other : ℕ) → (next ≡ t → ⊥) → other ≡ label → Contains nexts next ⊎ (t ≡ next) → Contains (get_or (set new t row') next []) other
    older next other away same (inl found) = elsewhere next other away (inr (same, found))
    older next other away same (inr e) = absurd (away (sym e))

    back : (next other : ℕ) → (next ≡ t) ⊎ (next ≡ t → ⊥) → Contains (get_or old next []) other ⊎ ((other ≡ label) × Contains (nexts ++ t ∷ []) next) → Contains (get_or (set new t row') next []) other
    back next other (inl e) (inl found) = at_t next other e (inl (subst (λ (r : List ℕ). Contains r other) (ap (λ (k : ℕ). get_or new k []) e ∙ at) ((so_far.each next other).1 (inl found))))
    back next other (inl e) (inr same) = at_t next other e (inr same.0)
    back next other (inr away) (inl found) = elsewhere next other away (inl found)
    back next other (inr away) (inr same) = older next other away same.0 (Contains-push_cases nexts t next same.1)

-- ---- block by block

pub leads_more : (blocks : List Block) (b : Block) (old new : List (List ℕ)) (nexts : List ℕ) → ArePredecessors blocks old → nexts ≡ targets b.terminator → HaveAdded old new b.label nexts → ArePredecessors (blocks ++ b ∷ []) new
leads_more blocks b old new nexts so_far is added =
    record { each = λ next label below. let below' : next < length old = (let long = added.long in omega (arith, below, long)) in (λ found. there next label below' ((added.each next label).0 found), λ leads. back next label below' leads (Contains-push_cases blocks b leads.block leads.stands)) }
  where
    there : (next label : ℕ) → next < length old → Contains (get_or old next []) label ⊎ ((label ≡ b.label) × Contains nexts next) → LeadsIn (blocks ++ b ∷ []) label next
    there next label below (inl found) =
        let w = (so_far.each next label below).0 found in record { block = w.block; stands = Contains-append_left blocks (b ∷ []) w.block w.stands; labelled = w.labelled; leads = w.leads }
    there next label below (inr new') = record { block = b; stands = Contains-push blocks b; labelled = sym new'.0; leads = subst (λ (ts : List ℕ). Contains ts next) is new'.1 }

    back : (next label : ℕ) → next < length old → (leads : LeadsIn (blocks ++ b ∷ []) label next) → Contains blocks leads.block ⊎ (b ≡ leads.block) → Contains (get_or new next []) label
    back next label below leads (inl found) = (added.each next label).1 (inl ((so_far.each next label below).1 (record { block = leads.block; stands = found; labelled = leads.labelled; leads = leads.leads })))
    back next label below leads (inr same) = (added.each next label).1 (inr (sym (ap (λ (c : Block). c.label) same ∙ leads.labelled), subst (λ (ts : List ℕ). Contains ts next) (sym (is ∙ ap (λ (c : Block). targets c.terminator) same)) leads.leads))

-- ---- names have numbers

pub targets_numbered : (f : Function) (i : ℕ) (b : Block) (nexts : List ℕ) (count : ℕ) → AreNumbered f → slice_get f.blocks i ≡ Some b → nexts ≡ targets b.terminator → count ≡ length f.names → All (λ t. t < count) nexts
targets_numbered f i b nexts count numbered stands is same k d below =
    let found : Contains (targets b.terminator) (get_or nexts k d) = subst (λ (ts : List ℕ). Contains ts (get_or nexts k d)) is (Contains-get_or nexts k d below) in
    let w = entered_at f i b (get_or nexts k d) stands found in
    let least : get_or nexts k d < length f.names = all_at (IsNumbered (length f.names)) (sites f) w.0 (Enters (get_or nexts k d)) numbered w.1 in
    omega (arith, least, same)

pub label_numbered : (f : Function) (i : ℕ) (b : Block) → AreNumbered f → slice_get f.blocks i ≡ Some b → b.label < length f.names
label_numbered f i b numbered stands =
    let w = defined_at f (part.Label i) b.label (b, stands, refl) in
    all_at (IsNumbered (length f.names)) (sites f) w.0 (Defines w.1 b.label) numbered w.2

-- ---- the list of a block

leads_as : (f : Function) (label next : ℕ) → LeadsIn f.blocks label next → IsPredecessor f label next
leads_as f label next leads = record { block = leads.block; stands = leads.stands; labelled = leads.labelled; leads = leads.leads }

as_leads : (f : Function) (label next : ℕ) → IsPredecessor f label next → LeadsIn f.blocks label next
as_leads f label next before = record { block = before.block; stands = before.stands; labelled = before.labelled; leads = before.leads }

pub predecessors_numbered : (f : Function) (table : List (List ℕ)) (next : ℕ) (row : List ℕ) (count : ℕ) → AreNumbered f → ArePredecessors f.blocks table → next < length table → row ≡ get_or table next row → count ≡ length f.names → All (λ label. label < count) row
predecessors_numbered f table next row count numbered are within is same k d below =
    let found : Contains (get_or table next []) (get_or row k d) = subst (λ (r : List ℕ). Contains r (get_or row k d)) (is ∙ get_or_default table next row [] within) (Contains-get_or row k d below) in
    let leads = (are.each next (get_or row k d) within).0 found in
    let least = label_numbered f leads.stands.0 leads.block numbered (slice_get_read f.blocks (length f.blocks) leads.stands.0 leads.block refl leads.stands.1 (sym leads.stands.2)) in
    let labelled = leads.labelled in omega (arith, least, same, labelled)

-- the row of the holder's label are its predecessors
row_is : (f : Function) (table : List (List ℕ)) (next : ℕ) (row : List ℕ) → ArePredecessors f.blocks table → next < length table → row ≡ get_or table next row → (label : ℕ) → Contains row label ↔ IsPredecessor f label next
row_is f table next row are within is label =
    let same : row ≡ get_or table next [] = is ∙ get_or_default table next row [] within in (
      λ found. leads_as f label next ((are.each next label within).0 (subst (λ (r : List ℕ). Contains r label) same found)),
      λ before. subst (λ (r : List ℕ). Contains r label) (sym same) ((are.each next label within).1 (as_leads f label next before)),
    )

pub unfit_at : (f : Function) (table : List (List ℕ)) (block place : ℕ) (holder : Block) (phi : Phi) (row : List ℕ) → ArePredecessors f.blocks table → holder.label < length table → row ≡ get_or table holder.label row
    → slice_get f.blocks block ≡ Some holder → slice_get holder.phis place ≡ Some phi → IsUnfit row phi → IsUnfitAt f block place
unfit_at f table block place holder phi row are within is stands its unfit = (holder, stands, phi, its, either unfit)
  where
    either : IsUnfit row phi → (ComesFromPredecessors f holder phi → ⊥) ⊎ HasTwoOperands phi
    either (inl strange) = inl (λ comes. strange (λ label. (
      λ found. (row_is f table holder.label row are within is label).1 ((comes label).0 found),
      λ found. (comes label).1 ((row_is f table holder.label row are within is label).0 found),
    )))
    either (inr two) = inr two

pub at_unfit : (f : Function) (table : List (List ℕ)) (block place : ℕ) (holder : Block) (phi : Phi) (row : List ℕ) → ArePredecessors f.blocks table → holder.label < length table → row ≡ get_or table holder.label row
    → slice_get f.blocks block ≡ Some holder → slice_get holder.phis place ≡ Some phi → IsUnfitAt f block place → IsUnfit row phi
at_unfit f table block place holder phi row are within is stands its unfit = either (subst (λ (p : Phi). (ComesFromPredecessors f holder p → ⊥) ⊎ HasTwoOperands p) same_phi (subst (λ (b : Block). (ComesFromPredecessors f b unfit.2 → ⊥) ⊎ HasTwoOperands unfit.2) same unfit.4))
  where
    same : unfit.0 ≡ holder
    same = same_Some unfit.0 holder (sym unfit.1 ∙ stands)

    same_phi : unfit.2 ≡ phi
    same_phi = same_Some unfit.2 phi (sym unfit.3 ∙ (ap (λ (b : Block). slice_get b.phis place) same ∙ its))

    either : (ComesFromPredecessors f holder phi → ⊥) ⊎ HasTwoOperands phi → IsUnfit row phi
    either (inl strange) = inl (λ comes. strange (λ label. (
      λ found. (row_is f table holder.label row are within is label).0 ((comes label).0 found),
      λ found. (comes label).1 ((row_is f table holder.label row are within is label).1 found),
    )))
    either (inr two) = inr two

-- ---- the sites

pub phi_wrong : (f : Function) (n : ℕ) (type : Option IrType) (name block place : ℕ) → slice_get (sites f) n ≡ Some (Defines type name) → slice_get (parts f) n ≡ Some (part.Phi block place) → HasWrongEdge f n ↔ IsUnfitAt f block place
phi_wrong f n type name block place site its = (
  λ wrong. there wrong,
  λ unfit. inl (record {
    type = type;
    name = name;
    here = site;
    block = block;
    place = place;
    part = its;
    holder = unfit.0;
    holds = unfit.1;
    phi = unfit.2;
    stands = unfit.3;
    unfit = unfit.4;
  }),
)
  where
    there : HasWrongEdge f n → IsUnfitAt f block place
    there (inl unfit) =
        let same : part.Phi unfit.block unfit.place ≡ part.Phi block place = same_Some _ _ (sym unfit.part ∙ its) in
        let block_is : unfit.block ≡ block = cc in
        let place_is : unfit.place ≡ place = cc in
        (unfit.holder, ap (λ (k : ℕ). slice_get f.blocks k) (sym block_is) ∙ unfit.holds, unfit.phi, ap (λ (k : ℕ). slice_get unfit.holder.phis k) (sym place_is) ∙ unfit.stands, unfit.unfit)
    there (inr jump) = absurd (let same : Enters jump.name ≡ Defines type name = same_Some _ _ (sym jump.here ∙ site) in cc)

pub wrong_within : (f : Function) (n : ℕ) → HasWrongEdge f n → n < length (sites f)
wrong_within f n (inl unfit) = slice_get_within (sites f) n (Defines unfit.type unfit.name) unfit.here
wrong_within f n (inr jump) = slice_get_within (sites f) n (Enters jump.name) jump.here
