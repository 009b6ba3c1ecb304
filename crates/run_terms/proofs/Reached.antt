-- An entry of the list of the copies ahead is changed.
use Rattle.run_terms.proofs.Common.{ℕ, zero, suc, ◌≡◌, ◌<◌, true, false, ◌||◌, List, [], ◌∷◌, length, nat_eq, Option, Some, None, IfSome, inl, inr, refl, ap, sym, subst, ◌∙◌, arith, slice_get, or-false, or-true, cases_Bool, eqb-true, eqb-false, set-set, set_comm, each-set, bit-later, Machine, Where, At, Done, Term, Keeps, Tests, bit_at, Each, RunState, IsState, MatchesState, Scene, Visit, visit_of, AreStates, IsUnreached, MatchesAhead, MatchesEntry}
use Rattle.std.specs.Prelude.{slice_set}
use Rattle.run_terms.proofs.Lasting.{each-get, matches_state-later, unreached-later, states-later}

-- ---- lists with one item set

pub set_same : {A : Type 0} (xs : List A) (n : ℕ) (x : A) → n < length xs → slice_get (slice_set xs n x) n ≡ Some x
set_same [] n x lt = absurd (omega arith)
set_same (y ∷ ys) zero x lt = refl
set_same (y ∷ ys) (suc n) x lt = set_same ys n x (omega arith)

pub set_other : {A : Type 0} (xs : List A) (n c : ℕ) (x : A) → (n ≡ c → ⊥) → slice_get (slice_set xs n x) c ≡ slice_get xs c
set_other [] n c x apart = refl
set_other (y ∷ ys) zero zero x apart = absurd (apart refl)
set_other (y ∷ ys) zero (suc c) x apart = refl
set_other (y ∷ ys) (suc n) zero x apart = refl
set_other (y ∷ ys) (suc n) (suc c) x apart = set_other ys n c x (λ e. apart (ap suc e))

-- ---- an entry is changed, over more terms

-- what was known of one entry is known of what it is changed to
pub record Passes (g : Scene) (old new : List Term) (known changed : Option RunState) : Type 0 where
  pub unreached : IsUnreached g old known → IsUnreached g new changed
  pub stands : (entry : RunState) (visit : Visit) (m : Machine) → known ≡ Some entry → bit_at g.v old entry.alive ≡ true → MatchesState g old visit entry m
      → (after : RunState) × (changed ≡ Some after) × (bit_at g.v new after.alive ≡ true) × MatchesState g new visit after m

module _ (old new : List Term) (k : Keeps old new) (ahead : List (Option RunState)) (entries : AreStates old ahead) (g : Scene) (n : ℕ) where
  none_entries : (c : ℕ) → AreStates old (slice_set ahead c None)
  none_entries c = each-set (λ (o : Option RunState). IfSome o (IsState old)) ahead c None entries tt

  pub changed_unreached : (changed : Option RunState) → Each (IsUnreached g old) ahead → IsUnreached g new changed → Each (IsUnreached g new) (slice_set ahead n changed)
  changed_unreached changed h u = each-set (IsUnreached g new) ahead n changed (unreached-later old new k g ahead entries h) u

  pub set_entries : (changed : Option RunState) → IfSome changed (IsState new) → AreStates new (slice_set ahead n changed)
  set_entries changed h = each-set (λ (o : Option RunState). IfSome o (IsState new)) ahead n changed (states-later old new k ahead entries) h

  pub changed_entry : (known changed : Option RunState) (c : ℕ) (m : Machine) → n < length ahead → slice_get ahead n ≡ Some known → Passes g old new known changed → MatchesEntry g old ahead c m
      → MatchesEntry g new (slice_set ahead n changed) c m
  changed_entry known changed c m lt is pass s = elim (cases_Bool (nat_eq n c)) [
    | inl t ↦ here (eqb-true n c t)
    | inr f ↦ there (eqb-false n c f)
  ]
    where
      none-at : (c' : ℕ) (x : Option RunState) → Each (IsUnreached g old) (slice_set ahead c' None) → IsUnreached g new x → Each (IsUnreached g new) (slice_set (slice_set ahead c' None) n x)
      none-at c' x h u = each-set (IsUnreached g new) (slice_set ahead c' None) n x (unreached-later old new k g (slice_set ahead c' None) (none_entries c') h) u

      here : n ≡ c → MatchesEntry g new (slice_set ahead n changed) c m
      here same =
          let at : slice_get ahead c ≡ Some known = ap (λ (i : ℕ). slice_get ahead i) (sym same) ∙ is in
          let it = s.is in
          let one : known ≡ Some s.entry = cc in
          let after = pass.stands s.entry (visit_of m) m one s.alive s.matches in
          record {
            entry = after.0;
            is = ap (λ (i : ℕ). slice_get (slice_set ahead n changed) i) (sym same) ∙ (set_same ahead n changed lt ∙ ap Some after.1);
            alive = after.2;
            matches = after.3;
            others = subst (λ (xs : List (Option RunState)). Each (IsUnreached g new) xs) (sym (ap (λ (i : ℕ). slice_set (slice_set ahead n changed) i None) (sym same) ∙ (set-set ahead n changed None ∙ ap (λ (i : ℕ). slice_set ahead i None) same)))
                (unreached-later old new k g (slice_set ahead c None) (none_entries c) s.others);
          }

      there : (n ≡ c → ⊥) → MatchesEntry g new (slice_set ahead n changed) c m
      there apart =
          let known_there : slice_get (slice_set ahead c None) n ≡ Some known = set_other ahead c n None (λ e. apart (sym e)) ∙ is in
          let u = each-get (IsUnreached g old) (slice_set ahead c None) n known s.others known_there in
          let entry = each-get (λ (o : Option RunState). IfSome o (IsState old)) ahead c (Some s.entry) entries s.is in
          record {
            entry = s.entry;
            is = set_other ahead n c changed apart ∙ s.is;
            alive = bit-later old new k g.v s.entry.alive entry.alive.within ∙ s.alive;
            matches = matches_state-later old new k g (visit_of m) s.entry m entry s.matches;
            others = subst (λ (xs : List (Option RunState)). Each (IsUnreached g new) xs) (sym (set_comm ahead n c changed None apart)) (none-at c changed s.others (pass.unreached u));
          }

  pub changed_ahead : (known changed : Option RunState) (at : Option Where) → n < length ahead → slice_get ahead n ≡ Some known → Passes g old new known changed → MatchesAhead g old ahead at
      → MatchesAhead g new (slice_set ahead n changed) at
  changed_ahead known changed None lt is pass s = changed_unreached changed s (pass.unreached (each-get (IsUnreached g old) ahead n known s is))
  changed_ahead known changed (Some (At c m)) lt is pass s = changed_entry known changed c m lt is pass s
  changed_ahead known changed (Some (Done run)) lt is pass s = changed_unreached changed s (pass.unreached (each-get (IsUnreached g old) ahead n known s is))

  -- the run comes to the entry
  pub changed_reached : (entry : RunState) (m : Machine) → n < length ahead → bit_at g.v new entry.alive ≡ true → MatchesState g new (visit_of m) entry m → Each (IsUnreached g old) ahead
      → MatchesEntry g new (slice_set ahead n (Some entry)) n m
  changed_reached entry m lt alive h s = record {
    entry = entry;
    is = set_same ahead n (Some entry) lt;
    alive = alive;
    matches = h;
    others = subst (λ (xs : List (Option RunState)). Each (IsUnreached g new) xs) (sym (set-set ahead n (Some entry) None)) (changed_unreached None s tt);
  }

-- ---- the cases

-- an edge that isn't taken comes where none came
pub passes_first : (old : List Term) (g : Scene) (edge : RunState) → bit_at g.v old edge.alive ≡ false → Passes g old old None (Some edge)
passes_first old g edge none = record { unreached = λ u. none; stands = λ entry visit m e alive h. absurd (let c : ⊥ = cc in c) }

-- or where one is known
pub passes_joined : (old new : List Term) (g : Scene) (edge known entry : RunState) → Tests new entry.alive (λ v. bit_at v old known.alive || bit_at v old edge.alive) → bit_at g.v old edge.alive ≡ false
    → ((visit : Visit) (m : Machine) → bit_at g.v old known.alive ≡ true → MatchesState g old visit known m → MatchesState g new visit entry m) → Passes g old new (Some known) (Some entry)
passes_joined old new g edge known entry t none st =
    let same : bit_at g.v new entry.alive ≡ bit_at g.v old known.alive = t.says g.v ∙ rw none (or-false (bit_at g.v old known.alive)) in
    record {
      unreached = λ u. same ∙ u;
      stands = λ x visit m e alive h.
          let is : known ≡ x = cc in
          let there : bit_at g.v old known.alive ≡ true = ap (λ (s : RunState). bit_at g.v old s.alive) is ∙ alive in
          (entry, refl, same ∙ there, st visit m there (subst (λ (s : RunState). MatchesState g old visit s m) (sym is) h));
    }

pub joined_alive : (old new : List Term) (g : Scene) (edge known entry : RunState) → Tests new entry.alive (λ v. bit_at v old known.alive || bit_at v old edge.alive) → bit_at g.v old edge.alive ≡ true → bit_at g.v new entry.alive ≡ true
joined_alive old new g edge known entry t held = t.says g.v ∙ rw held (or-true (bit_at g.v old known.alive))

-- an entry that isn't reached is taken out
pub passes_taken : (old : List Term) (g : Scene) (known : Option RunState) → IsUnreached g old known → Passes g old old known None
passes_taken old g None u = record { unreached = λ w. tt; stands = λ entry visit m e alive h. absurd (let c : ⊥ = cc in c) }
passes_taken old g (Some s) u = record {
  unreached = λ w. tt;
  stands = λ entry visit m e alive h.
      let is : s ≡ entry = cc in
      let none : bit_at g.v old entry.alive ≡ false = ap (λ (x : RunState). bit_at g.v old x.alive) (sym is) ∙ u in
      absurd (let c : ⊥ = cc in c);
}
