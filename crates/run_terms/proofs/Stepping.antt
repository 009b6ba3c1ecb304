-- The terms of a state follow an instruction.
use Rattle.run_terms.proofs.Common.{ℕ, ◌≡◌, ◌<◌, ◌≤◌, ◌+◌, Bool, true, false, not, ◌&&◌, List, [], ◌∷◌, ◌++◌, length, take, get_or, slice_set, Option, Some, None, refl, ap, sym, subst, ◌∙◌, arith, slice_get, slice_index_or, option_map, and-true, length-set, take_all, Inst, Op, Operand, MemoryBlock, value_result, act, assigned, Tree, truth, AreFit, trees_from, trees_of, SymNumber, option_from, each-set, map-set, take-push, keeps_trans, bit-later, sym_value-later, sym_values-later, value-later, values-later, naming, Value, Machine, operand_value, TermId, Term, Keeps, IsTerm, Tests, bit_at, SymValue, IsNaming, IsSymValue, Reading, value_at, values_at, memory_at, Tally, RunMemory, RunState, Always, Counts, IsRunMemory, IsState, IsTally, MatchesCourse, MatchesState, Scene, LeadsBy, Steps, Visit, shape_of, sight, stepped, Course, Idle, Dead, Live, advanced, steps}
use Rattle.ir_tree.specs.declared.tree.Inst.TheVariants as inst
use Rattle.tv_num.specs.declared.Width.{Width}
use Rattle.bv_terms.specs.declared.term.Term.TheVariants as term
use Rattle.bv_terms.specs.Tree as tree
use Rattle.bv_terms.specs.Tree.{value_of}
use Rattle.bv_terms.proofs.Stages.{tree-stored}
use Rattle.run_terms.specs.Common.{number_at}
use Rattle.run_terms.proofs.Lasting.{counts-later, leads_under, matches_state-later, blocks_at-later, state-later, tested}
use Rattle.run_terms.proofs.Leading.{both_hold}

-- ---- more terms

pub matches_course-later : (old new : List Term) (k : Keeps old new) (g : Scene) (at : Visit) (s : RunState) (hs : IsState old s) (c : Course) → MatchesCourse g old at s c → MatchesCourse g new at s c
matches_course-later old new k g at s hs Idle h = bit-later old new k g.v s.alive hs.alive.within ∙ h
matches_course-later old new k g at s hs (Dead m) h = (bit-later old new k g.v s.alive hs.alive.within ∙ h.0, counts-later old new k g s.tally m.taken hs.tally h.1)
matches_course-later old new k g at s hs (Live m) h = (bit-later old new k g.v s.alive hs.alive.within ∙ h.0, matches_state-later old new k g at s m hs h.1)

-- ---- steps, one after another

-- where this holds, that does
pub steps_on : {on on' : Scene → Visit → Type 0} {old new : List Term} {before after : RunState} {to : List ℕ → Course → Course}
    → Steps on old new before after to → ((g : Scene) (at : Visit) → on' g at → on g at) → Steps on' old new before after to
steps_on h w = record { state = h.state; shape = h.shape; matches = λ g at c here. h.matches g at c (w g at here) }

-- terms may be made before
pub steps_later : {on on' : Scene → Visit → Type 0} {old mid new : List Term} {before after : RunState} {to : List ℕ → Course → Course}
    → Steps on mid new before after to → Keeps old mid → IsState old before → ((g : Scene) (at : Visit) → on' g at → on g at) → Steps on' old new before after to
steps_later {old = old} {mid = mid} {before = before} h k hs w = record {
  state = h.state;
  shape = h.shape;
  matches = λ g at c here follows. h.matches g at c (w g at here) (matches_course-later old mid k g at before hs c follows);
}

steps_push : (insts : List Inst) (i : Inst) (tape : List ℕ) (c : Course) → steps (insts ++ i ∷ []) tape c ≡ stepped i tape (steps insts tape c)
unfolding steps
steps_push [] i tape c = refl
steps_push (x ∷ xs) i tape c = steps_push xs i tape (stepped x tape c)

pub steps_none : (on : Scene → Visit → Type 0) (terms : List Term) (s : RunState) → IsState terms s → Steps on terms terms s s (steps [])
unfolding steps
steps_none on terms s h = record { state = h; shape = refl; matches = λ g at c here follows. follows }

-- an instruction more
pub steps_more : {on on' : Scene → Visit → Type 0} {old mid new : List Term} {before between after : RunState} (insts : List Inst) (i : ℕ) (inst : Inst) → i < length insts → inst ≡ get_or insts i inst
    → Steps on old mid before between (steps (take i insts)) → Steps on' mid new between after (stepped inst) → ((g : Scene) (at : Visit) → on g at → on' g at) → Steps on old new before after (steps (take (i + 1) insts))
steps_more {new = new} {after = after} insts i inst lt is h1 h2 w = record {
  state = h2.state;
  shape = h2.shape ∙ h1.shape;
  matches = λ g at c here follows.
      subst (λ (x : Course). MatchesCourse g new at after x) (sym (ap (λ (xs : List Inst). steps xs g.tape c) (take-push insts i inst lt is) ∙ steps_push (take i insts) inst g.tape c))
      (h2.matches g at (steps (take i insts) g.tape c) (w g at here) (h1.matches g at c here follows));
}

pub steps_all : {on : Scene → Visit → Type 0} {old new : List Term} {before after : RunState} (insts : List Inst) (i : ℕ) → length insts ≤ i → Steps on old new before after (steps (take i insts)) → Steps on old new before after (steps insts)
steps_all {on = on} {old = old} {new = new} {before = before} {after = after} insts i past h = subst (λ (xs : List Inst). Steps on old new before after (steps xs)) (take_all i insts past) h

-- ---- one step

-- an instruction leaves the machine where it is defined
abbrev pub if_defined : Bool → Machine → Option Machine
if_defined true m = Some m
if_defined false m = None

-- an operation gives a result, or is undefined
result_acts : (u : Bool) (v : Value) (o : Option Value) (m : Machine) (into : ℕ) → option_from u v ≡ o → option_map (assigned m into) o ≡ if_defined (not u) (assigned m into v)
result_acts true v o m into e = ap (option_map (assigned m into)) (sym e)
result_acts false v o m into e = ap (option_map (assigned m into)) (sym e)

-- the path of a state stays where it is alive less often
pub leads_both : {old mid new : List Term} {alive : TermId} (km : Keeps old mid) (k : Keeps old new) (s : RunState) (hs : IsState old s) (defined : (ℕ → ℕ → ℕ) → Bool) → ((v : ℕ → ℕ → ℕ) → bit_at v new alive ≡ (bit_at v mid s.alive && defined v)) → LeadsBy new alive s.path
leads_both {old = old} {mid = mid} {new = new} {alive = alive} km k s hs defined is =
    leads_under old new k s.alive alive s.path hs.path (λ v held. sym (bit-later old mid km v s.alive hs.alive.within) ∙ (both_hold (bit_at v mid s.alive) (defined v) (sym (is v) ∙ held)).0)

-- no register more or less
pub set_shape : (s : RunState) (into : ℕ) (x : SymValue) → shape_of (record s { registers = slice_set s.registers into x }) ≡ shape_of s
set_shape s into x = rw (length-set s.registers into x) refl

module _ (old new : List Term) (k : Keeps old new) (s : RunState) (hs : IsState old s) where
  -- it is defined where a term says so
  pub defined_steps : {on : Scene → Visit → Type 0} (i : Inst) (after : RunState) (defined : Scene → Bool) → IsState new after → shape_of after ≡ shape_of s → after.tally ≡ s.tally
      → ((g : Scene) → bit_at g.v new after.alive ≡ (bit_at g.v old s.alive && defined g))
      → ((g : Scene) (at : Visit) (m : Machine) → on g at → MatchesState g old at s m → (n : Machine) × (act i g.tape m ≡ if_defined (defined g) n) × (defined g ≡ true → MatchesState g new at after n))
      → Steps on old new s after (stepped i)
  defined_steps {on = on} i after defined made shape tally lives acts = record { state = made; shape = shape; matches = by }
    where
      settled : (g : Scene) (at : Visit) (m n : Machine) → bit_at g.v old s.alive ≡ true → Counts g old s.tally m.taken → (d : Bool) → defined g ≡ d → (d ≡ true → MatchesState g new at after n) → MatchesCourse g new at after (advanced m (if_defined d n))
      settled g at m n h counts true e so = (lives g ∙ rw (h, e) refl, so refl)
      settled g at m n h counts false e so = (lives g ∙ rw (h, e) refl, rw tally (counts-later old new k g s.tally m.taken hs.tally counts))

      by : (g : Scene) (at : Visit) (c : Course) → on g at → MatchesCourse g old at s c → MatchesCourse g new at after (stepped i g.tape c)
      by g at Idle here h = lives g ∙ rw h refl
      by g at (Dead m) here h = (lives g ∙ rw h.0 refl, rw tally (counts-later old new k g s.tally m.taken hs.tally h.1))
      by g at (Live m) here h =
          let it = acts g at m here h.1 in
          rw it.1 (settled g at m it.0 h.0 h.1.tally (defined g) refl it.2)

  -- ---- a name gets a value

  pub set_state : (into : ℕ) (x : SymValue) (alive : TermId) (memory : RunMemory) (tally : Tally) (words_bound : ℕ) → IsTerm new 1 alive → LeadsBy new alive s.path → IsSymValue new x → IsRunMemory new memory → IsTally new tally
      → IsState new (record { alive = alive; path = s.path; registers = slice_set s.registers into x; memory = memory; tally = tally; words_bound = words_bound })
  set_state into x alive memory tally words_bound ha hp hx hm ht = record {
    alive = ha;
    path = hp;
    registers = each-set (IsSymValue new) s.registers into x (sym_values-later old new k s.registers hs.registers) hx;
    memory = hm;
    tally = ht;
  }

  pub set_registers : (into : ℕ) (x : SymValue) (g : Scene) (m : Machine) (v : Value) → values_at (sight g) old s.registers ≡ m.registers → value_at (sight g) new x ≡ v → values_at (sight g) new (slice_set s.registers into x) ≡ slice_set m.registers into v
  set_registers into x g m v e is = map-set (value_at (sight g) new) s.registers into x ∙ rw (is, values-later old new k (sight g) s.registers hs.registers, e) refl

  pub set_matches : (into : ℕ) (x : SymValue) (alive : TermId) (memory : RunMemory) (g : Scene) (at : Visit) (m : Machine) (v : Value) (blocks : List MemoryBlock) → MatchesState g old at s m
      → value_at (sight g) new x ≡ v → memory.given ≡ s.memory.given → memory_at (sight g) new memory.blocks ≡ blocks
      → MatchesState g new at (record s { alive = alive; registers = slice_set s.registers into x; memory = memory }) (assigned (record m { memory = blocks }) into v)
  set_matches into x alive memory g at m v blocks h is given holds = let later = matches_state-later old new k g at s m hs h in record {
    registers = set_registers into x g m v h.registers is;
    given = given ∙ h.given;
    memory = holds;
    tally = later.tally;
    words_bound = later.words_bound;
    visit = later.visit;
  }

  -- it always does
  pub value_steps : {on : Scene → Visit → Type 0} (i : Inst) (into : ℕ) (x : SymValue) (value : Scene → Machine → Value) → IsSymValue new x
      → ((g : Scene) (at : Visit) (m : Machine) → on g at → MatchesState g old at s m → (act i g.tape m ≡ Some (assigned m into (value g m))) × (value_at (sight g) new x ≡ value g m))
      → Steps on old new s (record s { registers = slice_set s.registers into x }) (stepped i)
  value_steps i into x value hx is =
      let later = state-later old new k s hs in
      defined_steps i (record s { registers = slice_set s.registers into x }) (λ g. true) (set_state into x s.alive s.memory s.tally s.words_bound later.alive later.path hx later.memory later.tally) (set_shape s into x) refl
      (λ g. bit-later old new k g.v s.alive hs.alive.within ∙ sym (and-true (bit_at g.v old s.alive)))
      (λ g at m here h.
      let it = is g at m here h in
      (assigned m into (value g m), it.0, λ e. set_matches into x s.alive s.memory g at m (value g m) m.memory h it.1 refl (blocks_at-later old new k (sight g) s.memory hs.memory ∙ h.memory)))

  -- one that the registers decide
  pub result_steps : (i : Inst) (into : ℕ) (x : SymValue) (f : List Value → Value) → IsSymValue new x → ((tape : List ℕ) (m : Machine) → act i tape m ≡ Some (assigned m into (f m.registers)))
      → ((r : Reading) → IsNaming r.name → value_at r new x ≡ f (values_at r old s.registers)) → Steps Always old new s (record s { registers = slice_set s.registers into x }) (stepped i)
  result_steps i into x f hx acts has = value_steps i into x (λ g m. f m.registers) hx (λ g at m here h. (acts g.tape m, has (sight g) (naming g.given) ∙ ap f h.registers))

  -- an operation, which may be undefined
  pub binary_steps : (into : ℕ) (x : SymValue) (first second : List Term) (ka : Keeps old first) (ki : Keeps first second) (kb : Keeps second new) (op : Op) (width : Width) (left right : Operand) (undefined alive : TermId) (n : SymNumber)
      → IsTerm first 1 undefined → IsSymValue second x
      → ((r : Reading) → IsNaming r.name → option_from (bit_at r.v first undefined) (number_at r.v first n) ≡ value_result op width.bits (operand_value (values_at r old s.registers) left) (operand_value (values_at r old s.registers) right))
      → ((r : Reading) → value_at r second x ≡ number_at r.v first n)
      → Tests new alive (λ v. bit_at v second s.alive && not (bit_at v second undefined))
      → Steps Always old new s (record s { alive = alive; registers = slice_set s.registers into x }) (stepped (inst.Binary into op width left right))
  binary_steps into x first second ka ki kb op width left right undefined alive n hu hx gives whole t =
      let later = state-later old new k s hs in
      let kas = keeps_trans old first second ka ki in
      defined_steps (inst.Binary into op width left right) (record s { alive = alive; registers = slice_set s.registers into x }) (λ g. not (bit_at g.v first undefined))
      (set_state into x alive s.memory s.tally s.words_bound (tested t) (leads_both kas k s hs (λ v. not (bit_at v second undefined)) t.says) (sym_value-later second new kb x hx) later.memory later.tally) (set_shape s into x) refl
      (λ g. t.says g.v ∙ rw (bit-later first second ki g.v undefined hu.within, bit-later old second kas g.v s.alive hs.alive.within) refl)
      (λ g at m here h.
      let row : option_from (bit_at g.v first undefined) (number_at g.v first n) ≡ value_result op width.bits (operand_value m.registers left) (operand_value m.registers right) = gives (sight g) (naming g.given) ∙ rw h.registers refl in (
        assigned m into (number_at g.v first n),
        result_acts (bit_at g.v first undefined) (number_at g.v first n) _ m into row,
        λ e. set_matches into x alive s.memory g at m (number_at g.v first n) m.memory h (value-later second new kb (sight g) x hx ∙ whole (sight g)) refl (blocks_at-later old new k (sight g) s.memory hs.memory ∙ h.memory),
      ))

-- ---- a term that is never true

pub plainly_false : (terms : List Term) (a : TermId) (value width : ℕ) → AreFit [] terms → slice_get terms a.index ≡ Some (term.Constant value width) → value ≡ 0 → (v : ℕ → ℕ → ℕ) → bit_at v terms a ≡ false
unfolding trees_of
plainly_false terms a value width fit is none v =
    let e : a.index ≡ 0 + a.index = omega arith in
    ap (λ (i : ℕ). truth (value_of v (slice_index_or (trees_from [] terms) i (tree.Constant 0 1)))) e
    ∙ (ap (λ (t : Tree). truth (value_of v t)) (tree-stored [] terms a.index (term.Constant value width) fit is) ∙ ap truth none)
