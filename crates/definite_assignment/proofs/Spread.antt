-- One block's names passed on to its successors.
use Rattle.definite_assignment.proofs.Common.{ℕ, ◌+◌, ◌≡◌, ◌<◌, ◌≤◌, ◌⊎◌, inl, inr, Bool, true, false, List, [], ◌∷◌, ◌++◌, length, get_or, set, refl, ap, sym, subst, ◌∙◌, arith, length-set, IsTrue, Some, slice_get, get_or_from_slice_get, Contains, get_or-set_same, get_or-set_other, Contains-append_left, Contains-append_right, Contains-append_cases, Contains-push, All-contains, sum_by-set, cases_eq, and_parts, and_from, both_ways, both, has, has_name, State, IsSpread, count}
use Rattle.definite_assignment.proofs.Names.{has_name-both, length-both, count-both, count-both_less, count-set}

-- a set replaces one: what is at a block
at_set : (sets : List (List Bool)) (next : ℕ) (row : List Bool) → next < length sets → (P : ℕ → List Bool → Type 0) → P next row → ((block : ℕ) → (block ≡ next → ⊥) → P block (get_or sets block [])) → (block : ℕ) → P block (get_or (set sets next row) block [])
at_set sets next row within P here others block = cases (cases_eq block next)
  where
    cases : (block ≡ next) ⊎ (block ≡ next → ⊥) → P block (get_or (set sets next row) block [])
    cases (inl e) = rw (e, get_or-set_same sets next row [] within) here
    cases (inr away) = rw (get_or-set_other sets next block row [] away) (others block away)

-- the one block of a list of one
only : (next block : ℕ) → Contains (next ∷ []) block → block ≡ next
only next block c = All-contains (λ x. x ≡ next) (next ∷ []) block (λ k d below. let e : k ≡ 0 = omega (arith, below) in rw e refl) c

-- one set cut, where the block whose set changed is marked and no mark is lost
pub cut_spreads : (sets : List (List Bool)) (marks marks' : List Bool) (next : ℕ) (leaving : List Bool)
    → next < length sets
    → length (get_or sets next []) ≡ length leaving
    → length marks' ≡ length marks
    → (get_or marks' next false ≡ false → both (get_or sets next []) leaving ≡ get_or sets next [])
    → ((block : ℕ) → get_or marks' block false ≡ false → get_or marks block false ≡ false)
    → count (both (get_or sets next []) leaving) + count marks' ≤ count (get_or sets next []) + count marks
    → IsSpread (record { sets = sets; marks = marks }) (record { sets = set sets next (both (get_or sets next []) leaving); marks = marks' }) (next ∷ []) leaving
cut_spreads sets marks marks' next leaving within alike long quiet kept rest =
    let row : List Bool = get_or sets next [] in
    let new : List Bool = both row leaving in
    record {
      many = length-set sets next new;
      marks = long;
      places = at_set sets next new within (λ block s. length s ≡ length (get_or sets block [])) (length-both row leaving alike) (λ block away. refl);
      smaller = at_set sets next new within (λ block s. (name : ℕ) → IsTrue (has_name s name) → IsTrue (has_name (get_or sets block []) name))
          (λ name t. (and_parts _ _ (sym (has_name-both row leaving name) ∙ t)).0) (λ block away name t. t);
      cut = at_set sets next new within (λ block s. (name : ℕ) → Contains (next ∷ []) block → IsTrue (has_name s name) → IsTrue (has_name leaving name))
          (λ name c t. (and_parts _ _ (sym (has_name-both row leaving name) ∙ t)).1) (λ block away name c t. absurd (away (only next block c)));
      kept = at_set sets next new within (λ block s. (name : ℕ) → IsTrue (has_name (get_or sets block []) name) → (Contains (next ∷ []) block → IsTrue (has_name leaving name)) → IsTrue (has_name s name))
          (λ name t f. has_name-both row leaving name ∙ and_from _ _ t (f (Contains-push [] next))) (λ block away name t f. t);
      same = at_set sets next new within (λ block s. get_or marks' block false ≡ false → s ≡ get_or sets block []) quiet (λ block away m. refl);
      waits = kept;
      rest = omega (arith, sum_by-set count sets next new [] within, rest);
    }

-- the set stays: nothing changes
cut_keeps : (sets : List (List Bool)) (marks : List Bool) (next : ℕ) (leaving : List Bool) → next < length sets → length (get_or sets next []) ≡ length leaving
    → both (get_or sets next []) leaving ≡ get_or sets next []
    → IsSpread (record { sets = sets; marks = marks }) (record { sets = set sets next (both (get_or sets next []) leaving); marks = marks }) (next ∷ []) leaving
cut_keeps sets marks next leaving within alike same =
    cut_spreads sets marks marks next leaving within alike refl (λ m. same) (λ block m. m) (omega (arith, count-both (get_or sets next []) leaving))

-- the set shrinks, and the block waits
cut_marks : (sets : List (List Bool)) (marks : List Bool) (next : ℕ) (leaving : List Bool) → next < length sets → length marks ≡ length sets → length (get_or sets next []) ≡ length leaving
    → (both (get_or sets next []) leaving ≡ get_or sets next [] → ⊥)
    → IsSpread (record { sets = sets; marks = marks }) (record { sets = set sets next (both (get_or sets next []) leaving); marks = set marks next true }) (next ∷ []) leaving
cut_marks sets marks next leaving within long alike differ =
    cut_spreads sets marks (set marks next true) next leaving within alike (length-set marks next true)
    (λ m. absurd (both_ways _ m here)) (λ block m. unmarked block (cases_eq block next) m)
    (omega (arith, count-both_less (get_or sets next []) leaving alike differ, count-set marks next true))
  where
    here : get_or (set marks next true) next false ≡ true
    here = get_or-set_same marks next true false (omega (arith, within, long))

    unmarked : (block : ℕ) → (block ≡ next) ⊎ (block ≡ next → ⊥) → get_or (set marks next true) block false ≡ false → get_or marks block false ≡ false
    unmarked block (inl e) m = absurd (both_ways _ (rw e at m) here)
    unmarked block (inr away) m = sym (get_or-set_other marks next block true false away) ∙ m

-- no block
pub spread_none : (state : State) (leaving : List Bool) → IsSpread state state [] leaving
spread_none state leaving =
    record {
      many = refl;
      marks = refl;
      places = λ block. refl;
      smaller = λ block name t. t;
      cut = λ block name c t. absurd (omega (arith, c.1));
      kept = λ block name t f. t;
      same = λ block m. refl;
      waits = λ block m. m;
      rest = omega arith;
    }

-- and one more
pub spread_more : (a b c : State) (nexts : List ℕ) (next : ℕ) (leaving : List Bool) → IsSpread a b nexts leaving → IsSpread b c (next ∷ []) leaving → IsSpread a c (nexts ++ next ∷ []) leaving
spread_more a b c nexts next leaving p q =
    record {
      many = q.many ∙ p.many;
      marks = q.marks ∙ p.marks;
      places = λ block. q.places block ∙ p.places block;
      smaller = λ block name t. p.smaller block name (q.smaller block name t);
      cut = λ block name found t. cut block name t (Contains-append_cases nexts (next ∷ []) block found);
      kept = λ block name t f. q.kept block name (p.kept block name t (λ found. f (Contains-append_left nexts (next ∷ []) block found))) (λ found. f (Contains-append_right nexts (next ∷ []) block found));
      same = λ block m. q.same block m ∙ p.same block (q.waits block m);
      waits = λ block m. p.waits block (q.waits block m);
      rest = omega (arith, p.rest, q.rest);
    }
  where
    cut : (block name : ℕ) → IsTrue (has c.sets block name) → Contains nexts block ⊎ Contains (next ∷ []) block → IsTrue (has_name leaving name)
    cut block name t (inl found) = p.cut block name found (q.smaller block name t)
    cut block name t (inr found) = q.cut block name found t

-- the same, of a set that is read and put back
pub cut_keeps_at : (sets : List (List Bool)) (marks : List Bool) (next : ℕ) (leaving row new : List Bool) → next < length sets → length (get_or sets next []) ≡ length leaving
    → slice_get sets next ≡ Some row → new ≡ both row leaving → new ≡ row
    → IsSpread (record { sets = sets; marks = marks }) (record { sets = set sets next new; marks = marks }) (next ∷ []) leaving
cut_keeps_at sets marks next leaving row new within alike read is same =
    let at : get_or sets next [] ≡ row = get_or_from_slice_get sets next row [] read in
    let is' : new ≡ both (get_or sets next []) leaving = is ∙ ap (λ r. both r leaving) (sym at) in
    subst (λ n. IsSpread (record { sets = sets; marks = marks }) (record { sets = set sets next n; marks = marks }) (next ∷ []) leaving) (sym is')
    (cut_keeps sets marks next leaving within alike (sym is' ∙ (same ∙ sym at)))

pub cut_marks_at : (sets : List (List Bool)) (marks : List Bool) (next : ℕ) (leaving row new : List Bool) → next < length sets → length marks ≡ length sets → length (get_or sets next []) ≡ length leaving
    → slice_get sets next ≡ Some row → new ≡ both row leaving → (new ≡ row → ⊥)
    → IsSpread (record { sets = sets; marks = marks }) (record { sets = set sets next new; marks = set marks next true }) (next ∷ []) leaving
cut_marks_at sets marks next leaving row new within long alike read is differ =
    let at : get_or sets next [] ≡ row = get_or_from_slice_get sets next row [] read in
    let is' : new ≡ both (get_or sets next []) leaving = is ∙ ap (λ r. both r leaving) (sym at) in
    subst (λ n. IsSpread (record { sets = sets; marks = marks }) (record { sets = set sets next n; marks = set marks next true }) (next ∷ []) leaving) (sym is')
    (cut_marks sets marks next leaving within long alike (λ same. differ (is' ∙ (same ∙ at))))
