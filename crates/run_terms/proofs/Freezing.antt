-- The terms of a state follow a freeze.
use Rattle.run_terms.proofs.Common.{ℕ, ◌≡◌, ◌≤◌, ◌+◌, Bool, true, false, cond, ◌&&◌, List, ◌++◌, length, slice_set, Some, refl, ap, sym, ◌∙◌, arith, length-append, IrType, Operand, BlockName, Num, Poison, assigned, choice_of, frozen, is_poison, typed_value, with_taken, truth, width_of, tree_in, value_of, keeps_trans, bit-later, term-later, value-later, naming, Value, Machine, operand_value, TermId, Term, Keeps, Makes, Tests, bit_at, term_at, SymValue, IsNaming, IsSymValue, Reading, values_at, AreWords, Tally, RunState, Counts, IsState, IsTally, MatchesCourse, MatchesState, Scene, Sees, Steps, Visit, sight, stepped, Course, Idle, Dead, Live}
use Rattle.ir_tree.specs.declared.tree.Inst.TheVariants as inst
use Rattle.byte_block.specs.declared.value.Value.TheVariants as value
use Rattle.mem_terms.specs.Values.{value_at}
use Rattle.run_terms.proofs.Lasting.{sees-later, counts-later, matches_state-later, state-later, tally-later}
use Rattle.run_terms.proofs.Stepping.{set_registers, set_shape, set_state, value_steps}

-- ---- the value

frozen_kind : (c p : Bool) (name : ℕ → BlockName) (i j x y m n : ℕ) → is_poison (value_of p (truth i) (name x) m) ≡ false
    → value_of false (truth (cond c i j)) (name (cond c x y)) (cond c m n) ≡ cond c (value_of p (truth i) (name x) m) (value_of c (truth j) (name y) n)
frozen_kind true true name i j x y m n e = absurd (let c : ⊥ = cc in c)
frozen_kind true false name i j x y m n e = refl
frozen_kind false p name i j x y m n e = refl

-- the choice where the value is poison
pub frozen-stands : (old a b d new : List Term) (poison is_pointer block number : TermId) (x y : SymValue) → IsSymValue old x → IsSymValue old y → ((r : Reading) → is_poison (value_at r old y) ≡ false)
    → Keeps old a → Makes a is_pointer (width_of (tree_in old y.is_pointer)) (λ v. cond (bit_at v old x.poison) (term_at v old y.is_pointer) (term_at v old x.is_pointer))
    → Keeps a b → Makes b block (width_of (tree_in a y.block)) (λ v. cond (bit_at v a x.poison) (term_at v a y.block) (term_at v a x.block))
    → Keeps b d → Makes d number (width_of (tree_in b y.number)) (λ v. cond (bit_at v b x.poison) (term_at v b y.number) (term_at v b x.number))
    → Keeps d new → Tests new poison (λ _. false)
    → (r : Reading) → value_at r new (record { poison = poison; is_pointer = is_pointer; block = block; number = number }) ≡ cond (bit_at r.v old x.poison) (value_at r old y) (value_at r old x)
unfolding value_at
frozen-stands old a b d new poison is_pointer block number x y hx hy defined ka mi kb mb kd mn kn t r =
    let kab = keeps_trans old a b ka kb in
    let kbn = keeps_trans b d new kd kn in
    let kan = keeps_trans a b new kb kbn in
    rw (
      t.says r.v,
      bit-later a new kan r.v is_pointer mi.within,
      ap truth (mi.says r.v),
      term-later b new kbn r.v block mb.within,
      mb.says r.v,
      term-later d new kn r.v number mn.within,
      mn.says r.v,
      bit-later old a ka r.v x.poison hx.poison.within,
      term-later old a ka r.v y.block hy.block.within,
      term-later old a ka r.v x.block hx.block.within,
      bit-later old b kab r.v x.poison hx.poison.within,
      term-later old b kab r.v y.number hy.number.within,
      term-later old b kab r.v x.number hx.number.within,
    )
    (frozen_kind (bit_at r.v old x.poison) (bit_at r.v old y.poison) r.name (term_at r.v old y.is_pointer) (term_at r.v old x.is_pointer) (term_at r.v old y.block) (term_at r.v old x.block) (term_at r.v old y.number) (term_at r.v old x.number) (defined r))

-- ---- the state

frozen_defined : (type : IrType) (x : Value) → is_poison x ≡ false → (tape : List ℕ) (m : Machine) (into : ℕ) → frozen tape m into type x ≡ assigned m into x
frozen_defined type (Num n) e tape m into = refl
frozen_defined type Poison e tape m into = absurd (let c : ⊥ = cc in c)
frozen_defined type (value.Ptr p) e tape m into = refl

frozen_poison : (type : IrType) (x : Value) → x ≡ Poison → (tape : List ℕ) (m : Machine) (into : ℕ) → frozen tape m into type x ≡ assigned (with_taken m (choice_of type tape m)) into (choice_of type tape m).value
frozen_poison type x e tape m into = rw e refl

defined_kind : (is_pointer : Bool) (block : BlockName) (n : ℕ) → is_poison (value_of false is_pointer block n) ≡ false
defined_kind true block n = refl
defined_kind false block n = refl

defined_at : (r : Reading) (terms : List Term) (x : SymValue) → bit_at r.v terms x.poison ≡ false → is_poison (value_at r terms x) ≡ false
unfolding value_at
defined_at r terms x e = rw e (defined_kind (bit_at r.v terms x.is_pointer) (r.name (term_at r.v terms x.block)) (term_at r.v terms x.number))

pub poison_at : (r : Reading) (terms : List Term) (x : SymValue) → bit_at r.v terms x.poison ≡ true → value_at r terms x ≡ Poison
unfolding value_at
poison_at r terms x e = rw e refl

-- a value that is never poison
pub plain_steps : {on : Scene → Visit → Type 0} (old new : List Term) (k : Keeps old new) (s : RunState) (hs : IsState old s) (into : ℕ) (type : IrType) (operand : Operand) (x : SymValue) → IsSymValue new x
    → ((r : Reading) → IsNaming r.name → value_at r new x ≡ typed_value type (operand_value (values_at r old s.registers) operand)) → ((v : ℕ → ℕ → ℕ) → bit_at v new x.poison ≡ false)
    → Steps on old new s (record s { registers = slice_set s.registers into x }) (stepped (inst.Freeze into type operand))
plain_steps old new k s hs into type operand x hx has never =
    value_steps old new k s hs (inst.Freeze into type operand) into x (λ g m. typed_value type (operand_value m.registers operand)) hx (λ g at m here h.
    let is : value_at (sight g) new x ≡ typed_value type (operand_value m.registers operand) = has (sight g) (naming g.given) ∙ ap (λ (rs : List Value). typed_value type (operand_value rs operand)) h.registers in
    let defined : is_poison (typed_value type (operand_value m.registers operand)) ≡ false = sym (ap is_poison is) ∙ defined_at (sight g) new x (never g.v) in
    (ap Some (frozen_defined type (typed_value type (operand_value m.registers operand)) defined g.tape m into), is))

-- a choice where it is poison
module _ (old a b d : List Term) (ka : Keeps old a) (kb : Keeps a b) (kd : Keeps b d) (s : RunState) (hs : IsState old s) (into : ℕ) (type : IrType) (x y z : SymValue) (hx : IsSymValue old x)
    (taken : TermId) (tally : Tally) (words_bound : ℕ) (tape : List TermId) (words : AreWords old tape) (ht : IsTally b tally) (hz : IsSymValue d z)
    (more : (g : Scene) (m : Machine) → length m.taken ≤ s.words_bound → length m.taken + length (choice_of type g.tape m).words ≤ words_bound)
    (t : Tests a taken (λ v. bit_at v old s.alive && bit_at v old x.poison))
    (stays : (g : Scene) (made : List ℕ) → bit_at g.v a taken ≡ false → Counts g a s.tally made → Counts g b tally made)
    (takes : (g : Scene) (at : Visit) (m : Machine) → Sees g a tape → bit_at g.v a taken ≡ true → MatchesState g a at s m
    → Counts g b tally (m.taken ++ (choice_of type g.tape m).words) × (value_at (sight g) b y ≡ (choice_of type g.tape m).value))
    (has : (r : Reading) → value_at r d z ≡ cond (bit_at r.v b x.poison) (value_at r b y) (value_at r b x)) where
  kab : Keeps old b
  kab = keeps_trans old a b ka kb

  kad : Keeps old d
  kad = keeps_trans old b d kab kd

  alive_is : (g : Scene) → bit_at g.v d s.alive ≡ bit_at g.v old s.alive
  alive_is g = bit-later old d kad g.v s.alive hs.alive.within

  left_out : (g : Scene) (made : List ℕ) → (bit_at g.v old s.alive && bit_at g.v old x.poison) ≡ false → Counts g old s.tally made → Counts g d tally made
  left_out g made none k = counts-later b d kd g tally made ht (stays g made (t.says g.v ∙ none) (counts-later old a ka g s.tally made hs.tally k))

  lived : (g : Scene) (at : Visit) (m : Machine) (v : Value) → Sees g old tape → bit_at g.v old s.alive ≡ true → MatchesState g old at s m → value_at (sight g) old x ≡ v → (p : Bool) → bit_at g.v old x.poison ≡ p
      → MatchesState g d at (record s { registers = slice_set s.registers into z; tally = tally; words_bound = words_bound }) (frozen g.tape m into type v)
  lived g at m v sees on h e true p =
      let choice = choice_of type g.tape m in
      let took = takes g at m (sees-later old a ka g tape words sees) (t.says g.v ∙ rw (on, p) refl) (matches_state-later old a ka g at s m hs h) in
      let is : value_at (sight g) d z ≡ choice.value = has (sight g) ∙ rw (bit-later old b kab g.v x.poison hx.poison.within, p, took.1) refl in
      let later = matches_state-later old d kad g at s m hs h in
      let enough = more g m h.words_bound in
      rw (frozen_poison type v (sym e ∙ poison_at (sight g) old x p) g.tape m into) (record {
        registers = set_registers old d kad s hs into z g m choice.value h.registers is;
        given = later.given;
        memory = later.memory;
        tally = counts-later b d kd g tally (m.taken ++ choice.words) ht took.0;
        words_bound = omega (arith, enough, length-append m.taken choice.words);
        visit = later.visit;
      })
  lived g at m v sees on h e false p =
      let is : value_at (sight g) d z ≡ v = has (sight g) ∙ (rw (bit-later old b kab g.v x.poison hx.poison.within, p) (value-later old b kab (sight g) x hx) ∙ e) in
      let defined : is_poison v ≡ false = sym (ap is_poison e) ∙ defined_at (sight g) old x p in
      let later = matches_state-later old d kad g at s m hs h in
      let enough = more g m h.words_bound in
      rw (frozen_defined type v defined g.tape m into) (record {
        registers = set_registers old d kad s hs into z g m v h.registers is;
        given = later.given;
        memory = later.memory;
        tally = left_out g m.taken (rw (on, p) refl) h.tally;
        words_bound = omega (arith, enough);
        visit = later.visit;
      })

  pub choice_steps : (operand : Operand) → Steps (λ g at. Sees g old tape × (value_at (sight g) old x ≡ typed_value type (operand_value (values_at (sight g) old s.registers) operand)))
      old d s (record s { registers = slice_set s.registers into z; tally = tally; words_bound = words_bound }) (stepped (inst.Freeze into type operand))
  choice_steps operand = record { state = made; shape = set_shape s into z; matches = by }
    where
      made : IsState d (record s { registers = slice_set s.registers into z; tally = tally; words_bound = words_bound })
      made = let later = state-later old d kad s hs in set_state old d kad s hs into z s.alive s.memory tally words_bound later.alive later.path hz later.memory (tally-later b d kd tally ht)

      by : (g : Scene) (at : Visit) (c : Course) → Sees g old tape × (value_at (sight g) old x ≡ typed_value type (operand_value (values_at (sight g) old s.registers) operand)) → MatchesCourse g old at s c
          → MatchesCourse g d at (record s { registers = slice_set s.registers into z; tally = tally; words_bound = words_bound }) (stepped (inst.Freeze into type operand) g.tape c)
      by g at Idle here h = alive_is g ∙ h
      by g at (Dead m) here h = (alive_is g ∙ h.0, left_out g m.taken (rw h.0 refl) h.1)
      by g at (Live m) here h =
          let is : value_at (sight g) old x ≡ typed_value type (operand_value m.registers operand) = here.1 ∙ ap (λ (rs : List Value). typed_value type (operand_value rs operand)) h.1.registers in
          (alive_is g ∙ h.0, lived g at m (typed_value type (operand_value m.registers operand)) here.0 h.0 h.1 is (bit_at g.v old x.poison) refl)
