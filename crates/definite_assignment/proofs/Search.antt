-- The search from its start to its end.
use Rattle.definite_assignment.proofs.Common.{ℕ, suc, zero, ◌+◌, ◌-◌, ◌≡◌, ◌<◌, ◌≤◌, ◌⊎◌, inl, inr, Bool, true, false, List, [], ◌∷◌, ◌++◌, length, get_or, set, replicate, refl, ap, sym, subst, ◌∙◌, arith, length-set, IsTrue, Some, slice_get, ◌↔◌, get_or_from_slice_get, All, Contains, sum_by, get_or-set_same, get_or-set_other, get_or-replicate, length-replicate, get_or_default, get_or_past, replicate_more, All-contains, Contains-append_cases, Contains-append_right, All-nil, All-cons, cases_eq, cases_lt, cases_Bool, both_ways, false_from_ne_true, Assigns, IsAssignedBefore, IsAssignedIn, IsSuccessor, IsUnassignedBefore, AreRoomy, has, has_name, places_for, IsLeaving, IsSearch, IsSpread, State, count, first_sets, is_waiting, rest_of, set_of}
use Rattle.definite_assignment.proofs.Names.{count-unset}

-- a name of a set has an entry there
place_of : (s : List Bool) (name : ℕ) → IsTrue (has_name s name) → name < length s
place_of s name t = cases (cases_lt name (length s))
  where
    cases : (name < length s) ⊎ (length s ≤ name) → name < length s
    cases (inl below) = below
    cases (inr past) = absurd (both_ways _ (get_or_past s name false past) t)

-- a path that doesn't assign the name goes on through a block that doesn't assign it
pub goes_on : (successors assigns : List (List ℕ)) (block next name : ℕ) → IsSuccessor successors block next → IsUnassignedBefore successors assigns block name → (Assigns assigns block name → ⊥) → IsUnassignedBefore successors assigns next name
goes_on successors assigns block next name edge before silent = (block ∷ before.0, (edge, before.1), behind)
  where
    behind : Assigns assigns block name ⊎ IsAssignedIn assigns before.0 name → ⊥
    behind (inl here) = silent here
    behind (inr there) = before.2 there

-- the first of a list
first_of : (x : ℕ) (xs : List ℕ) → Contains (x ∷ xs) x
first_of x xs = (0, omega arith, refl)

-- and the only one of a list of one
only : (y x : ℕ) → Contains (y ∷ []) x → y ≡ x
only y x here = All-contains (λ (z : ℕ). y ≡ z) (y ∷ []) x (All-cons (λ (z : ℕ). y ≡ z) y [] refl (All-nil (λ (z : ℕ). y ≡ z))) here

-- a number is one of a list, or none of it
contains_cases : (xs : List ℕ) (x : ℕ) → Contains xs x ⊎ (Contains xs x → ⊥)
contains_cases [] x = inr (λ found. omega (arith, found.1))
contains_cases (y ∷ ys) x = first (cases_eq y x) (contains_cases ys x)
  where
    first : (y ≡ x) ⊎ (y ≡ x → ⊥) → Contains ys x ⊎ (Contains ys x → ⊥) → Contains (y ∷ ys) x ⊎ (Contains (y ∷ ys) x → ⊥)
    first (inl same) _ = inl (0, omega arith, same)
    first (inr other) (inl there) = inl (Contains-append_right (y ∷ []) ys x there)
    first (inr other) (inr absent) = inr (λ found. either (Contains-append_cases (y ∷ []) ys x found))
      where
        either : Contains (y ∷ []) x ⊎ Contains ys x → ⊥
        either (inl here) = other (only y x here)
        either (inr there) = absent there

-- where each block hands on no more than it has or assigns, what a block has is assigned on each path
pub on_each_path : (successors assigns : List (List ℕ)) (sets : List (List Bool)) (name : ℕ)
    → has sets 0 name ≡ false
    → ((block next : ℕ) → IsSuccessor successors block next → IsTrue (has sets next name) → IsTrue (has sets block name) ⊎ Assigns assigns block name)
    → (block : ℕ) → IsTrue (has sets block name) → IsAssignedBefore successors assigns block name
on_each_path successors assigns sets name entry passed block t [] path = absurd (both_ways _ (ap (λ b. has sets b name) path ∙ entry) t)
on_each_path successors assigns sets name entry passed block t (last ∷ before) path = step (λ kept. on_each_path successors assigns sets name entry passed last kept before path.1) (passed last block path.0 t)
  where
    step : (IsTrue (has sets last name) → IsAssignedIn assigns before name) → IsTrue (has sets last name) ⊎ Assigns assigns last name → Assigns assigns last name ⊎ IsAssignedIn assigns before name
    step further (inl kept) = inr (further kept)
    step further (inr here) = inl here

-- the start
pub search_starts : (successors assigns : List (List ℕ)) (names others : ℕ) → length successors ≡ others + 1
    → All (All (λ next. next < length successors)) successors
    → IsSearch successors assigns (places_for names) (record { sets = first_sets others names; marks = set (replicate (others + 1) false) 0 true })
search_starts successors assigns names others many within =
    record {
      many = ap (λ n. suc n) (length-replicate others full) ∙ omega (arith, many);
      marks = length-set (replicate (others + 1) false) 0 true ∙ (length-replicate (others + 1) false ∙ sym many);
      wide = wide;
      entry = λ name. nothing name (cases_lt name (places_for names));
      missed = missed;
      passed = passed;
    }
  where
    full : List Bool
    full = replicate (places_for names) true

    marks : List Bool
    marks = set (replicate (others + 1) false) 0 true

    row : (block : ℕ) → suc block < length successors → get_or (first_sets others names) (suc block) [] ≡ replicate (places_for names) true
    row block below = get_or-replicate others block (replicate (places_for names) true) [] (omega (arith, below, many))

    wide : (block : ℕ) → block < length successors → length (get_or (first_sets others names) block []) ≡ places_for names
    wide zero below = length-replicate (places_for names) false
    wide (suc block) below = ap length (row block below) ∙ length-replicate (places_for names) true

    nothing : (name : ℕ) → (name < places_for names) ⊎ (places_for names ≤ name) → has_name (replicate (places_for names) false) name ≡ false
    nothing name (inl below) = get_or-replicate (places_for names) name false false below
    nothing name (inr past) = get_or_past (replicate (places_for names) false) name false (omega (arith, past, length-replicate (places_for names) false))

    all_names : (block name : ℕ) → suc block < length successors → name < places_for names → IsTrue (has (first_sets others names) (suc block) name)
    all_names block name below place = ap (λ s. has_name s name) (row block below) ∙ get_or-replicate (places_for names) name true false place

    missed : (block name : ℕ) → block < length successors → name < places_for names → has (first_sets others names) block name ≡ false → IsUnassignedBefore successors assigns block name
    missed zero name below place lacks = ([], refl, λ assigned. assigned)
    missed (suc block) name below place lacks = absurd (both_ways _ lacks (all_names block name below place))

    inside : (block next : ℕ) → IsSuccessor successors block next → (block < length successors) × (next < length successors)
    inside block next edge = cases (cases_lt block (length successors))
      where
        cases : (block < length successors) ⊎ (length successors ≤ block) → (block < length successors) × (next < length successors)
        cases (inl below) = (below, All-contains (λ n. n < length successors) (get_or successors block []) next (within block [] below) edge)
        cases (inr past) = absurd (let none : get_or successors block [] ≡ [] = get_or_past successors block [] past in let edge' : Contains (get_or successors block []) next = edge in omega (arith, edge'.1, ap length none))

    passed : (block next name : ℕ) → get_or (set (replicate (others + 1) false) 0 true) block false ≡ false → IsSuccessor successors block next → IsTrue (has (first_sets others names) next name) → IsTrue (has (first_sets others names) block name) ⊎ Assigns assigns block name
    passed zero next name m edge t = absurd (both_ways _ m (get_or-set_same (replicate (others + 1) false) 0 true false (omega (arith, length-replicate (others + 1) false))))
    passed (suc block) next name m edge t = inl (all_names block name (inside (suc block) next edge).0 (omega (arith, place_of _ name t, wide next (inside (suc block) next edge).1)))

-- a block is taken off the list, and what leaves it is passed on
pub search_goes_on : (successors assigns : List (List ℕ)) (places : ℕ) (old taken new : State) (block : ℕ) (leaving : List Bool)
    → IsSearch successors assigns places old
    → block < length successors → taken.sets ≡ old.sets → taken.marks ≡ set old.marks block false
    → IsLeaving (set_of old block) (get_or assigns block []) leaving
    → IsSpread taken new (get_or successors block []) leaving
    → IsSearch successors assigns places new
search_goes_on successors assigns places old taken new block leaving held block_within sets marks leaves spread =
    record {
      many = spread.many ∙ (ap length sets ∙ held.many);
      marks = spread.marks ∙ (ap length marks ∙ (length-set old.marks block false ∙ held.marks));
      wide = λ b below. spread.places b ∙ (ap (λ s. length (get_or s b [])) sets ∙ held.wide b below);
      entry = λ name. false_from_ne_true _ (λ t. both_ways _ (held.entry name) (was 0 name t));
      missed = λ b name below place lacks. misses b name below place lacks (cases_Bool (has old.sets b name));
      passed = λ b next name m edge t. passes b next name m edge t (cases_eq b block);
    }
  where
    was : (b name : ℕ) → IsTrue (has new.sets b name) → IsTrue (has old.sets b name)
    was b name t = ap (λ s. has s b name) (sym sets) ∙ spread.smaller b name t

    cleared : get_or taken.marks block false ≡ false
    cleared = ap (λ m. get_or m block false) marks ∙ get_or-set_same old.marks block false false (omega (arith, block_within, held.marks))

    other_mark : (b : ℕ) → (b ≡ block → ⊥) → get_or taken.marks b false ≡ get_or old.marks b false
    other_mark b away = ap (λ m. get_or m b false) marks ∙ get_or-set_other old.marks block b false false away

    -- the name leaves the block neither as one of its set nor as one that it assigns
    stays : (b name : ℕ) → IsSuccessor successors block b → name < places → has_name leaving name ≡ false → IsUnassignedBefore successors assigns b name
    stays b name edge place f =
        goes_on successors assigns block b name edge (held.missed block name block_within place (false_from_ne_true _ (λ t. both_ways _ f ((leaves.names name).1 (inl t))))) (λ here. both_ways _ f ((leaves.names name).1 (inr here)))

    misses : (b name : ℕ) → b < length successors → name < places → has new.sets b name ≡ false → (has old.sets b name ≡ true) ⊎ (has old.sets b name ≡ false) → IsUnassignedBefore successors assigns b name
    misses b name below place lacks (inr lacked) = held.missed b name below place lacked
    misses b name below place lacks (inl had) = by_edge (contains_cases (get_or successors block []) b) (cases_Bool (has_name leaving name))
      where
        still : (IsSuccessor successors block b → IsTrue (has_name leaving name)) → ⊥
        still leaves_on = both_ways _ lacks (spread.kept b name (ap (λ s. has s b name) sets ∙ had) leaves_on)

        by_edge : IsSuccessor successors block b ⊎ (IsSuccessor successors block b → ⊥) → (has_name leaving name ≡ true) ⊎ (has_name leaving name ≡ false) → IsUnassignedBefore successors assigns b name
        by_edge (inl edge) (inr f) = stays b name edge place f
        by_edge (inl edge) (inl t) = absurd (still (λ e. t))
        by_edge (inr away) _ = absurd (still (λ edge. absurd (away edge)))

    passes : (b next name : ℕ) → get_or new.marks b false ≡ false → IsSuccessor successors b next → IsTrue (has new.sets next name) → (b ≡ block) ⊎ (b ≡ block → ⊥) → IsTrue (has new.sets b name) ⊎ Assigns assigns b name
    passes b next name m edge t (inl e) = again ((leaves.names name).0 (spread.cut next name (subst (λ x. IsSuccessor successors x next) e edge) t))
      where
        again : IsTrue (has_name (set_of old block) name) ⊎ Contains (get_or assigns block []) name → IsTrue (has new.sets b name) ⊎ Assigns assigns b name
        again (inl kept) = inl (ap (λ s. has_name s name) (spread.same b m) ∙ (ap (λ s. has s b name) sets ∙ (ap (λ x. has old.sets x name) e ∙ kept)))
        again (inr here) = inr (subst (λ x. Assigns assigns x name) (sym e) here)
    passes b next name m edge t (inr away) = again (held.passed b next name (sym (other_mark b away) ∙ spread.waits b m) edge (was next name t))
      where
        again : IsTrue (has old.sets b name) ⊎ Assigns assigns b name → IsTrue (has new.sets b name) ⊎ Assigns assigns b name
        again (inl kept) = inl (ap (λ s. has_name s name) (spread.same b m) ∙ (ap (λ s. has s b name) sets ∙ kept))
        again (inr here) = inr here

-- the end: no block waits
pub search_ends : (successors assigns : List (List ℕ)) (places : ℕ) (state : State) → IsSearch successors assigns places state → ((b : ℕ) → b < length successors → is_waiting state b ≡ false)
    → (block name : ℕ) → block < length successors → name < places → IsTrue (has state.sets block name) ↔ IsAssignedBefore successors assigns block name
search_ends successors assigns places state held none block name below place =
    (on_each_path successors assigns state.sets name (held.entry name) (λ b next edge t. held.passed b next name (quiet b) edge t) block, λ before. kept before (cases_Bool (has state.sets block name)))
  where
    kept : IsAssignedBefore successors assigns block name → (has state.sets block name ≡ true) ⊎ (has state.sets block name ≡ false) → IsTrue (has state.sets block name)
    kept before (inl t) = t
    kept before (inr f) = let w = held.missed block name below place f in absurd (w.2 (before w.0 w.1))

    quiet : (b : ℕ) → is_waiting state b ≡ false
    quiet b = cases (cases_lt b (length successors))
      where
        cases : (b < length successors) ⊎ (length successors ≤ b) → is_waiting state b ≡ false
        cases (inl less) = none b less
        cases (inr past) = get_or_past state.marks b false (omega (arith, past, held.marks))

-- one more block at the start
pub first_sets-more : (blocks names : ℕ) → 1 ≤ blocks → first_sets (blocks - 1) names ++ replicate (places_for names) true ∷ [] ≡ first_sets ((blocks + 1) - 1) names
first_sets-more blocks names some =
    ap (λ s. replicate (places_for names) false ∷ s) (replicate_more (blocks - 1) (replicate (places_for names) true) ∙ ap (λ n. replicate n (replicate (places_for names) true)) (let e : (blocks - 1) + 1 ≡ (blocks + 1) - 1 = omega (arith, some) in e))

-- its set has an entry for each name
pub set_places : {successors assigns : List (List ℕ)} {places : ℕ} {state : State} {block : ℕ} {row : List Bool} → IsSearch successors assigns places state → block < length successors → slice_get state.sets block ≡ Some row → length row ≡ places
set_places {state = state} {block = block} {row = row} held below read = ap length (sym (get_or_from_slice_get state.sets block row [] read)) ∙ held.wide block below

-- a list that is read is the one at the block
pub list_at : (lists : List (List ℕ)) (block : ℕ) (row : List ℕ) {xs : List ℕ} → block < length lists → xs ≡ row → row ≡ get_or lists block row → xs ≡ get_or lists block []
list_at lists block row below e read = e ∙ (read ∙ get_or_default lists block row [] below)

-- the block's successors are blocks
pub nexts_fit : (successors : List (List ℕ)) (block : ℕ) {xs : List ℕ} → block < length successors → All (All (λ next. next < length successors)) successors → xs ≡ get_or successors block [] → All (λ next. next < length successors) xs
nexts_fit successors block below all e = subst (λ ys. All (λ next. next < length successors) ys) (sym e) (all block [] below)

-- one turn of the search
pub search_turns : {successors assigns : List (List ℕ)} {places : ℕ} {old : State} (taken : State) {new : State} (block : ℕ) {row leaving : List Bool} {assigned nexts : List ℕ}
    → IsSearch successors assigns places old
    → block < length successors → taken.sets ≡ old.sets → taken.marks ≡ set old.marks block false
    → slice_get old.sets block ≡ Some row → assigned ≡ get_or assigns block [] → nexts ≡ get_or successors block []
    → IsLeaving row assigned leaving → IsSpread taken new nexts leaving
    → IsSearch successors assigns places new
search_turns {successors} {assigns} {places} {old} taken {new} block {row} {leaving} held below sets marks read is is' leaves spread =
    search_goes_on successors assigns places old taken new block leaving held below sets marks
    (subst (λ r. IsLeaving r (get_or assigns block []) leaving) (sym (get_or_from_slice_get old.sets block row [] read)) (subst (λ xs. IsLeaving row xs leaving) is leaves))
    (subst (λ xs. IsSpread taken new xs leaving) is' spread)

pub search_starts_at : (successors assigns : List (List ℕ)) (names blocks : ℕ) (state : State) → length successors ≡ blocks → 0 < blocks → All (All (λ next. next < length successors)) successors
    → state.sets ≡ first_sets (blocks - 1) names → state.marks ≡ set (replicate blocks false) 0 true
    → IsSearch successors assigns (places_for names) state
search_starts_at successors assigns names blocks state long some within sets marks =
    subst (λ s. IsSearch successors assigns (places_for names) s) whole (search_starts successors assigns names (blocks - 1) (omega (arith, long, some)) within)
  where
    less : (blocks - 1) + 1 ≡ blocks
    less = omega (arith, some)

    marked : set (replicate ((blocks - 1) + 1) false) 0 true ≡ state.marks
    marked = ap (λ n. set (replicate n false) 0 true) less ∙ sym marks

    whole : record { sets = first_sets (blocks - 1) names; marks = set (replicate ((blocks - 1) + 1) false) 0 true } ≡ state
    whole = λ i. record { sets = sym sets i; marks = marked i }

-- a block that waited is marked no longer, and no set grew
pub visit_shrinks : (old taken new : State) (block : ℕ) {nexts : List ℕ} {leaving : List Bool} → taken.sets ≡ old.sets → taken.marks ≡ set old.marks block false → IsSpread taken new nexts leaving
    → is_waiting old block ≡ true → rest_of new < rest_of old
visit_shrinks old taken new block sets marks spread waits =
    omega (arith, spread.rest, ap (λ s. sum_by count s) sets, ap count marks, count-unset old.marks block waits)

-- no block of a list waits, and every block is on the list
pub none_waits : (state : State) (order : List ℕ) (blocks : ℕ) → All (λ block. is_waiting state block ≡ false) order → ((block : ℕ) → block < blocks → Contains order block) → (block : ℕ) → block < blocks → is_waiting state block ≡ false
none_waits state order blocks quiet every block below = All-contains (λ b. is_waiting state b ≡ false) order block quiet (every block below)

-- the sets have an entry for each name
pub search_room : {successors assigns : List (List ℕ)} {places names : ℕ} {state : State} → IsSearch successors assigns places state → places ≡ places_for names → AreRoomy state.sets (length successors) names
search_room {successors} {places = places} {names = names} {state = state} held long =
    record { long = held.many; wide = λ k d below. ample k d below }
  where
    ample : (k : ℕ) (d : List Bool) → k < length state.sets → names ≤ length (get_or state.sets k d)
    ample k d below =
        let within : k < length successors = omega (arith, below, held.many) in
        omega (arith, held.wide k within, ap length (get_or_default state.sets k d [] below), long)
