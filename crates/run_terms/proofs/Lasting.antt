-- What was said of a run so far is said of it over more terms.
use Rattle.run_terms.proofs.Common.{ℕ, zero, suc, ◌≡◌, Bool, true, List, [], ◌∷◌, ◌++◌, map, take, drop, Option, Some, None, IfSome, refl, ap, sym, subst, ◌∙◌, slice_get, option_map, IsSymBlock, each-weaker, each-set, each-push, bit-later, term-later, is_term-later, sym_values-later, sym_value-later, sym_blocks-later, values-later, value-later, memory-later, given_blocks-later, words_at-later, Machine, Where, At, Done, TermId, Term, Keeps, IsTerm, Tests, bit_at, Bor, Test, AreTests, HoldAll, LeadsBy, HasReturned, SymValue, Each, IsSymValue, Reading, value_at, AreSymBlocks, frame_of, memory_at, AreWords, Tally, RunMemory, RunState, Ending, Frontier, Leaving, Setting, Counts, IsRunMemory, IsState, IsTally, MatchesState, Scene, Sees, Visit, frames_in, sight, visit_of, AreStates, HasShape, IsEnding, IsFrontier, IsLeaving, IsUnreached, MatchesAhead, MatchesEnding, MatchesFrontier, ending_at}
use Rattle.std.specs.Prelude.{slice_set}

pub each-get : {A : Type 0} (P : A → Type 0) (xs : List A) (n : ℕ) (x : A) → Each P xs → slice_get xs n ≡ Some x → P x
each-get P [] n x h e = absurd (let c : ⊥ = cc in c)
each-get P (y ∷ ys) zero x h e = (let is : y ≡ x = cc in subst P is h.0)
each-get P (y ∷ ys) (suc n) x h e = each-get P ys n x h.1 e

-- a term that tests something
pub tested : {terms : List Term} {id : TermId} {test : (ℕ → ℕ → ℕ) → Bool} → Tests terms id test → IsTerm terms 1 id
tested t = record { within = t.within; wide = t.wide }

-- of both parts of a list
pub each-parts : {A : Type 0} (P : A → Type 0) (n : ℕ) (xs : List A) → Each P (take n xs) → Each P (drop n xs) → Each P xs
each-parts P zero xs h t = t
each-parts P (suc n) [] h t = tt
each-parts P (suc n) (x ∷ xs) h t = (h.0, each-parts P n xs h.1 t)

-- the blocks of a memory, given and not
pub memory_blocks : (terms : List Term) (m : RunMemory) → IsRunMemory terms m → AreSymBlocks terms m.blocks
memory_blocks terms m h = each-parts (IsSymBlock terms) m.given m.blocks h.given.are h.are

-- where the machine is, is where the state says
pub matches_there : (g : Scene) (terms : List Term) (at : Visit) (s : RunState) (m : Machine) → MatchesState g terms at s m → MatchesState g terms (visit_of m) s m
matches_there g terms at s m h = subst (λ (v : Visit). MatchesState g terms v s m) (sym h.visit) h

module _ (old new : List Term) (k : Keeps old new) where
  pub sees-later : (g : Scene) (tape : List TermId) → AreWords old tape → Sees g old tape → Sees g new tape
  sees-later g tape h s = words_at-later old new k g.v tape h ∙ s

  pub tally-later : (t : Tally) → IsTally old t → IsTally new t
  tally-later t h = record { read = is_term-later old new k 64 t.read h.read; fits = is_term-later old new k 1 t.fits h.fits }

  pub counts-later : (g : Scene) (t : Tally) (taken : List ℕ) → IsTally old t → Counts g old t taken → Counts g new t taken
  counts-later g t taken h c = record { read = term-later old new k g.v t.read h.read.within ∙ c.read; fits = bit-later old new k g.v t.fits h.fits.within ∙ c.fits }

  -- ---- tests

  pub tests-later : (path : List Test) → AreTests old path → AreTests new path
  tests-later path h = each-weaker (λ (t : Test). IsTerm old 1 t.bit) (λ (t : Test). IsTerm new 1 t.bit) path (λ t i. is_term-later old new k 1 t.bit i) h

  pub hold-later : (v : ℕ → ℕ → ℕ) (path : List Test) → AreTests old path → HoldAll v old path → HoldAll v new path
  hold-later v [] h held = tt
  hold-later v (t ∷ ts) h held = (bit-later old new k v t.bit h.0.within ∙ held.0, hold-later v ts h.1 held.1)

  -- under a condition that holds less often
  pub leads_under : (c d : TermId) (path : List Test) → LeadsBy old c path → ((v : ℕ → ℕ → ℕ) → bit_at v new d ≡ true → bit_at v old c ≡ true) → LeadsBy new d path
  leads_under c d path h smaller = record { tests = tests-later path h.tests; hold = λ v held. hold-later v path h.tests (h.hold v (smaller v held)) }

  pub leads-later : (c : TermId) (path : List Test) → IsTerm old 1 c → LeadsBy old c path → LeadsBy new c path
  leads-later c path hc h = leads_under c c path h (λ v held. sym (bit-later old new k v c hc.within) ∙ held)

  -- and by one test more
  pub leads_further : (c d : TermId) (path : List Test) (t : Test) → LeadsBy old c path → IsTerm old 1 t.bit → ((v : ℕ → ℕ → ℕ) → bit_at v new d ≡ true → (bit_at v old c ≡ true) × (bit_at v old t.bit ≡ t.holds)) → LeadsBy new d (path ++ t ∷ [])
  leads_further c d path t h ht so = record {
    tests = each-push (λ (x : Test). IsTerm new 1 x.bit) path t (tests-later path h.tests) (is_term-later old new k 1 t.bit ht);
    hold = λ v held.
        let it = so v held in
        each-push (λ (x : Test). bit_at v new x.bit ≡ x.holds) path t (hold-later v path h.tests (h.hold v it.0)) (bit-later old new k v t.bit ht.within ∙ it.1);
  }

  -- ---- memory

  pub run_memory-later : (m : RunMemory) → IsRunMemory old m → IsRunMemory new m
  run_memory-later m h = record {
    given = given_blocks-later old new k (frames_in m) (take m.given m.blocks) h.given;
    count = h.count;
    numbered = h.numbered;
    are = sym_blocks-later old new k (drop m.given m.blocks) h.are;
    own = h.own;
  }

  -- what the blocks of a memory denote
  pub blocks_at-later : (r : Reading) (m : RunMemory) → IsRunMemory old m → memory_at r new m.blocks ≡ memory_at r old m.blocks
  blocks_at-later r m h = memory-later old new k r m.blocks (memory_blocks old m h)

  -- ---- states

  pub state-later : (s : RunState) → IsState old s → IsState new s
  state-later s h = record {
    alive = is_term-later old new k 1 s.alive h.alive;
    path = leads-later s.alive s.path h.alive h.path;
    registers = sym_values-later old new k s.registers h.registers;
    memory = run_memory-later s.memory h.memory;
    tally = tally-later s.tally h.tally;
  }

  pub matches_state-later : (g : Scene) (at : Visit) (s : RunState) (m : Machine) → IsState old s → MatchesState g old at s m → MatchesState g new at s m
  matches_state-later g at s m h c = record {
    registers = values-later old new k (sight g) s.registers h.registers ∙ c.registers;
    given = c.given;
    memory = blocks_at-later (sight g) s.memory h.memory ∙ c.memory;
    tally = counts-later g s.tally m.taken h.tally c.tally;
    words_bound = c.words_bound;
    visit = c.visit;
  }

  -- ---- how it ended

  pub some-later : (o : Option SymValue) → IfSome o (IsSymValue old) → IfSome o (IsSymValue new)
  some-later None h = tt
  some-later (Some s) h = sym_value-later old new k s h

  pub option-later : (r : Reading) (o : Option SymValue) → IfSome o (IsSymValue old) → option_map (value_at r new) o ≡ option_map (value_at r old) o
  option-later r None h = refl
  option-later r (Some s) h = ap Some (value-later old new k r s h)

  tests_of-later : (o : Option (List Test)) → IfSome o (AreTests old) → IfSome o (AreTests new)
  tests_of-later None h = tt
  tests_of-later (Some path) h = tests-later path h

  pub returned-later : (v : ℕ → ℕ → ℕ) (o : Option (List Test)) → IfSome o (AreTests old) → HasReturned v old o → HasReturned v new o
  returned-later v None h held = held
  returned-later v (Some path) h held = hold-later v path h held

  pub ending-later : (e : Ending) → IsEnding old e → IsEnding new e
  ending-later e h = record {
    ub = is_term-later old new k 1 e.ub h.ub;
    beyond = is_term-later old new k 1 e.beyond h.beyond;
    value = some-later e.value h.value;
    given = given_blocks-later old new k (map frame_of e.blocks) e.blocks h.given;
    tally = tally-later e.tally h.tally;
    returned = tests_of-later e.returned h.returned;
  }

  pub ending_at-later : (r : Reading) (e : Ending) → IsEnding old e → ending_at r new e ≡ ending_at r old e
  ending_at-later r e h =
      rw (bit-later old new k r.v e.ub h.ub.within, bit-later old new k r.v e.beyond h.beyond.within, option-later r e.value h.value, memory-later old new k r e.blocks h.given.are) refl

  pub matches_ending-later : (g : Scene) (e : Ending) (at : Option Where) → IsEnding old e → MatchesEnding g old e at → MatchesEnding g new e at
  matches_ending-later g e None h s = record { ub = bit-later old new k g.v e.ub h.ub.within ∙ s.ub; beyond = bit-later old new k g.v e.beyond h.beyond.within ∙ s.beyond }
  matches_ending-later g e (Some (At n m)) h s = record { ub = bit-later old new k g.v e.ub h.ub.within ∙ s.ub; beyond = bit-later old new k g.v e.beyond h.beyond.within ∙ s.beyond }
  matches_ending-later g e (Some (Done run)) h s = record {
    outcome = ending_at-later (sight g) e h ∙ s.outcome;
    tally = counts-later g e.tally run.taken h.tally s.tally;
    returned = λ u b. returned-later g.v e.returned h.returned (s.returned (sym (bit-later old new k g.v e.ub h.ub.within) ∙ u) (sym (bit-later old new k g.v e.beyond h.beyond.within) ∙ b));
  }

  -- ---- the copies ahead

  state_of-later : (o : Option RunState) → IfSome o (IsState old) → IfSome o (IsState new)
  state_of-later None h = tt
  state_of-later (Some s) h = state-later s h

  pub states-later : (ahead : List (Option RunState)) → AreStates old ahead → AreStates new ahead
  states-later ahead h = each-weaker (λ (o : Option RunState). IfSome o (IsState old)) (λ (o : Option RunState). IfSome o (IsState new)) ahead state_of-later h

  unreached_of-later : (g : Scene) (o : Option RunState) → IfSome o (IsState old) → IsUnreached g old o → IsUnreached g new o
  unreached_of-later g None h u = tt
  unreached_of-later g (Some s) h u = bit-later old new k g.v s.alive h.alive.within ∙ u

  pub unreached-later : (g : Scene) (ahead : List (Option RunState)) → AreStates old ahead → Each (IsUnreached g old) ahead → Each (IsUnreached g new) ahead
  unreached-later g [] h u = tt
  unreached-later g (o ∷ os) h u = (unreached_of-later g o h.0 u.0, unreached-later g os h.1 u.1)

  pub matches_ahead-later : (g : Scene) (ahead : List (Option RunState)) (at : Option Where) → AreStates old ahead → MatchesAhead g old ahead at → MatchesAhead g new ahead at
  matches_ahead-later g ahead None h s = unreached-later g ahead h s
  matches_ahead-later g ahead (Some (At n m)) h s =
      let entry = each-get (λ (o : Option RunState). IfSome o (IsState old)) ahead n (Some s.entry) h s.is in
      record {
        entry = s.entry;
        is = s.is;
        alive = bit-later old new k g.v s.entry.alive entry.alive.within ∙ s.alive;
        matches = matches_state-later g (visit_of m) s.entry m entry s.matches;
        others = unreached-later g (slice_set ahead n None) (each-set (λ (o : Option RunState). IfSome o (IsState old)) ahead n None h tt) s.others;
      }
  matches_ahead-later g ahead (Some (Done run)) h s = unreached-later g ahead h s

  pub matches_frontier-later : (g : Scene) (w : Frontier) (at : Option Where) → IsFrontier old w → MatchesFrontier g old w at → MatchesFrontier g new w at
  matches_frontier-later g w at h s = record { ahead = matches_ahead-later g w.ahead at h.ahead s.ahead; ending = matches_ending-later g w.ending at h.ending s.ending }

  pub frontier-later : (w : Frontier) → IsFrontier old w → IsFrontier new w
  frontier-later w h = record { ahead = states-later w.ahead h.ahead; ending = ending-later w.ending h.ending }

  -- at another frontier, where another condition holds, by another path
  pub leaving-at : (setting : Setting) (w w' : Frontier) (l : Leaving) (c : TermId) (path : Bor (List Test)) → IsLeaving setting old w l → IsFrontier new w' → HasShape setting w' → IsTerm new 1 c → LeadsBy new c path.now → IsLeaving setting new w' (record l { c = c; path = path })
  leaving-at setting w w' l c path h frontier shape hc leads = record { frontier = frontier; shape = shape; state = state-later l.state.now h.state; fits = h.fits; c = hc; path = leads }

  pub leaving-later : (setting : Setting) (w : Frontier) (l : Leaving) → IsLeaving setting old w l → IsLeaving setting new w l
  leaving-later setting w l h = leaving-at setting w w l l.c l.path h (frontier-later w h.frontier) h.shape (is_term-later old new k 1 l.c h.c) (leads-later l.c l.path.now h.c h.path)
