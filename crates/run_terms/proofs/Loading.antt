-- The terms of a state follow a load, a store, an alloca and a getelementptr.
use Rattle.run_terms.proofs.Common.{ℕ, ◌≡◌, ◌≤◌, Bool, true, cond, ◌&&◌, List, [], ◌∷◌, ◌++◌, map, slice_set, refl, ap, sym, subst, ◌∙◌, and-true, IrType, MemoryType, GepIndex, Operand, object_size, Local, MemoryBlock, access_of, allocated, assigned, index_values, keeps_trans, bit-later, memory-later, sym_blocks-later, sym_value-later, value-later, values-later, naming, SymIndex, IsSymLoaded, loaded_at, stored_at, sym_frame, indices_at, Value, Machine, operand_value, typed_operand_value, TermId, Term, Keeps, Tests, bit_at, SymValue, SymBlock, IsNaming, IsSymValue, Reading, first_local, value_at, values_at, AreSymBlocks, memory_at, RunState, Always, IsState, MatchesState, Scene, Steps, Visit, sight, stepped}
use Rattle.ir_tree.specs.declared.tree.Inst.TheVariants as inst
use Rattle.ir_tree.specs.declared.tree.TypedOperand.{TypedOperand}
use Rattle.byte_block.specs.declared.value.Value.TheVariants as value
use Rattle.memory_access.specs.declared.access_types.Access.{Access}
use Rattle.memory_access.specs.declared.access_types.Loaded.TheVariants as loading
use Rattle.memory_access.specs.declared.access_types.Stored.TheVariants as storing
use Rattle.memory_access.specs.Accesses.{load_result, store_result, after_store, after_alloca}
use Rattle.memory_access.specs.Offsets.{gep_result}
use Rattle.access_terms.specs.declared.accesses.SymLoaded.{SymLoaded}
use Rattle.run_terms.proofs.Lasting.{blocks_at-later, matches_state-later, state-later, tested}
use Rattle.run_terms.proofs.Stepping.{defined_steps, leads_both, set_matches, set_shape, set_state, value_steps}
use Rattle.run_terms.proofs.Changing.{alloca_frames, alloca_memory, memory_shape, store_frames, store_memory}
use Rattle.run_terms.proofs.Accessing.{load_acts, store_acts}

-- ---- load

pub load_steps : (old o l new : List Term) (ko : Keeps old o) (kl : Keeps o l) (kn : Keeps l new) (s : RunState) (hs : IsState old s) (into : ℕ) (type : IrType) (pointer : Operand) (align : ℕ) (at : SymValue) (x : SymLoaded) (alive : TermId) (access : Access)
    → access ≡ access_of type → IsSymLoaded l x
    → ((r : Reading) → IsNaming r.name → value_at r o at ≡ operand_value (values_at r old s.registers) pointer)
    → ((r : Reading) → IsNaming r.name → loaded_at r l x ≡ load_result (memory_at r o s.memory.blocks) (value_at r o at) access align)
    → Tests new alive (λ v. bit_at v l s.alive && bit_at v l x.is_defined)
    → Steps Always old new s (record s { alive = alive; registers = slice_set s.registers into x.value }) (stepped (inst.Load into type pointer align))
load_steps old o l new ko kl kn s hs into type pointer align at x alive access is hx reads stands t =
    let later = state-later old new k s hs in
    defined_steps old new k s hs (inst.Load into type pointer align) (record s { alive = alive; registers = slice_set s.registers into x.value }) (λ g. bit_at g.v l x.is_defined)
    (set_state old new k s hs into x.value alive s.memory s.tally s.words_bound (tested t) (leads_both (keeps_trans old o l ko kl) k s hs (λ v. bit_at v l x.is_defined) t.says) (sym_value-later l new kn x.value hx.value) later.memory later.tally) (set_shape s into x.value) refl
    (λ g. t.says g.v ∙ ap (λ b. b && bit_at g.v l x.is_defined) (bit-later old l (keeps_trans old o l ko kl) g.v s.alive hs.alive.within))
    (λ g visit m here h. (
      assigned m into (value_at (sight g) l x.value),
      load_acts (bit_at g.v l x.is_defined) (value_at (sight g) l x.value) _ m into (gives g visit m h),
      λ e. set_matches old new k s hs into x.value alive s.memory g visit m (value_at (sight g) l x.value) m.memory h (value-later l new kn (sight g) x.value hx.value) refl (blocks_at-later old new k (sight g) s.memory hs.memory ∙ h.memory),
    ))
  where
    k : Keeps old new
    k = keeps_trans old l new (keeps_trans old o l ko kl) kn

    gives : (g : Scene) (visit : Visit) (m : Machine) → MatchesState g old visit s m → cond (bit_at g.v l x.is_defined) (loading.Done (value_at (sight g) l x.value)) loading.Ub ≡ load_result m.memory (operand_value m.registers pointer) (access_of type) align
    gives g visit m h =
        let read : value_at (sight g) o at ≡ operand_value m.registers pointer = reads (sight g) (naming g.given) ∙ ap (λ (rs : List Value). operand_value rs pointer) h.registers in
        let blocks : memory_at (sight g) o s.memory.blocks ≡ m.memory = blocks_at-later old o ko (sight g) s.memory hs.memory ∙ h.memory in
        stands (sight g) (naming g.given) ∙ rw (read, blocks, is) refl

-- ---- store

pub store_steps : (old o t w new : List Term) (ko : Keeps old o) (kt : Keeps o t) (kw : Keeps t w) (kn : Keeps w new) (s : RunState) (hs : IsState old s) (v : TypedOperand) (pointer : Operand) (align : ℕ) (at written : SymValue) (defined alive : TermId) (access : Access) (blocks : List SymBlock)
    → access ≡ access_of v.of_type → IsSymValue o at → AreSymBlocks w blocks → map sym_frame blocks ≡ map sym_frame s.memory.blocks
    → ((r : Reading) → IsNaming r.name → value_at r o at ≡ operand_value (values_at r old s.registers) pointer)
    → ((r : Reading) → IsNaming r.name → value_at r t written ≡ typed_operand_value (values_at r o s.registers) v)
    → ((r : Reading) → IsNaming r.name → stored_at r w defined ≡ store_result (memory_at r t s.memory.blocks) access (value_at r t at) align)
    → ((r : Reading) → IsNaming r.name → bit_at r.v w defined ≡ true → memory_at r w blocks ≡ after_store (memory_at r t s.memory.blocks) (value_at r t written) access (value_at r t at) align)
    → Tests new alive (λ v. bit_at v w s.alive && bit_at v w defined)
    → Steps Always old new s (record s { alive = alive; memory = record s.memory { blocks = blocks } }) (stepped (inst.Store v pointer align))
store_steps old o t w new ko kt kw kn s hs v pointer align at written defined alive access blocks is ha hb same reads writes stands changes test =
    let later = state-later old new k s hs in
    defined_steps old new k s hs (inst.Store v pointer align) (record s { alive = alive; memory = record s.memory { blocks = blocks } }) (λ g. bit_at g.v w defined)
    (record { alive = tested test; path = leads_both kow k s hs (λ v. bit_at v w defined) test.says; registers = later.registers; memory = store_memory old new k s.memory hs.memory blocks (sym_blocks-later w new kn blocks hb) same; tally = later.tally })
    (memory_shape s (record s.memory { blocks = blocks }) (store_frames s.memory blocks same)) refl
    (λ g. test.says g.v ∙ ap (λ b. b && bit_at g.v w defined) (bit-later old w kow g.v s.alive hs.alive.within))
    (λ g visit m here h. (
      record m { memory = left m },
      store_acts (bit_at g.v w defined) _ m (left m) (gives g visit m h),
      λ e.
          let after = matches_state-later old new k g visit s m hs h in
          record { registers = after.registers; given = h.given; memory = memory-later w new kn (sight g) blocks hb ∙ changed g visit e m h; tally = after.tally; words_bound = h.words_bound; visit = h.visit },
    ))
  where
    kot : Keeps old t
    kot = keeps_trans old o t ko kt

    kow : Keeps old w
    kow = keeps_trans old t w kot kw

    k : Keeps old new
    k = keeps_trans old w new kow kn

    left : Machine → List MemoryBlock
    left m = after_store m.memory (typed_operand_value m.registers v) (access_of v.of_type) (operand_value m.registers pointer) align

    pointed : (g : Scene) (visit : Visit) (m : Machine) → MatchesState g old visit s m → value_at (sight g) t at ≡ operand_value m.registers pointer
    pointed g visit m h = value-later o t kt (sight g) at ha ∙ (reads (sight g) (naming g.given) ∙ ap (λ (rs : List Value). operand_value rs pointer) h.registers)

    held : (g : Scene) (visit : Visit) (m : Machine) → MatchesState g old visit s m → memory_at (sight g) t s.memory.blocks ≡ m.memory
    held g visit m h = blocks_at-later old t kot (sight g) s.memory hs.memory ∙ h.memory

    gives : (g : Scene) (visit : Visit) (m : Machine) → MatchesState g old visit s m → cond (bit_at g.v w defined) storing.Done storing.Ub ≡ store_result m.memory (access_of v.of_type) (operand_value m.registers pointer) align
    gives g visit m h = stands (sight g) (naming g.given) ∙ rw (pointed g visit m h, held g visit m h, is) refl

    changed : (g : Scene) (visit : Visit) → bit_at g.v w defined ≡ true → (m : Machine) → MatchesState g old visit s m → memory_at (sight g) w blocks ≡ after_store m.memory (typed_operand_value m.registers v) (access_of v.of_type) (operand_value m.registers pointer) align
    changed g visit e m h =
        let put : value_at (sight g) t written ≡ typed_operand_value m.registers v = writes (sight g) (naming g.given)
        ∙ ap (λ (rs : List Value). typed_operand_value rs v) (values-later old o ko (sight g) s.registers hs.registers ∙ h.registers) in
        changes (sight g) (naming g.given) e ∙ rw (pointed g visit m h, held g visit m h, put, is) refl

-- ---- alloca

pub alloca_steps : (old a new : List Term) (ka : Keeps old a) (kn : Keeps a new) (s : RunState) (hs : IsState old s) (into : ℕ) (type : MemoryType) (align : ℕ) (block size : ℕ) (blocks : List SymBlock) (x : SymValue)
    → AreSymBlocks a blocks → (b : SymBlock) × (blocks ≡ s.memory.blocks ++ b ∷ []) × (b.number ≡ block) → first_local s.memory.given ≤ block → IsSymValue new x → size ≡ object_size type
    → ((r : Reading) → memory_at r a blocks ≡ after_alloca (memory_at r old s.memory.blocks) (r.name block) size align)
    → ((r : Reading) → value_at r new x ≡ value.Ptr (record { block = r.name block; offset = 0 }))
    → (number : ℕ) → Steps (λ g visit. s.memory.given ≡ g.given → (sight g).name block ≡ Local visit.turn number) old new s (record s { registers = slice_set s.registers into x; memory = record s.memory { blocks = blocks } }) (stepped (inst.Alloca into number type align))
alloca_steps old a new ka kn s hs into type align block size blocks x hb grown own hx whole grows points number =
    let later = state-later old new k s hs in
    defined_steps old new k s hs (inst.Alloca into number type align) (record s { registers = slice_set s.registers into x; memory = record s.memory { blocks = blocks } }) (λ g. true)
    (set_state old new k s hs into x s.alive (record s.memory { blocks = blocks }) s.tally s.words_bound later.alive later.path hx
    (alloca_memory old s.memory hs.memory blocks grown.0 grown.1 new k (sym_blocks-later a new kn blocks hb) (subst (λ (n : ℕ). first_local s.memory.given ≤ n) (sym grown.2) own)) later.tally)
    (set_shape (record s { memory = record s.memory { blocks = blocks } }) into x ∙ memory_shape s (record s.memory { blocks = blocks }) (alloca_frames old s.memory hs.memory blocks grown.0 grown.1)) refl
    (λ g. bit-later old new k g.v s.alive hs.alive.within ∙ sym (and-true (bit_at g.v old s.alive)))
    (λ g visit m named h.
    let turned : (sight g).name block ≡ Local m.turn number = named h.given ∙ ap (λ (n : ℕ). Local n number) (sym (ap (λ (v : Visit). v.turn) h.visit)) in (
      allocated m into number type align,
      refl,
      λ e. set_matches old new k s hs into x s.alive (record s.memory { blocks = blocks }) g visit m (value.Ptr (record { block = Local m.turn number; offset = 0 })) (after_alloca m.memory (Local m.turn number) (object_size type) align) h
          (points (sight g) ∙ rw turned refl) refl (memory-later a new kn (sight g) blocks hb ∙ (grows (sight g) ∙ rw (turned, h.memory, whole) refl)),
    ))
  where
    k : Keeps old new
    k = keeps_trans old a new ka kn

-- ---- getelementptr

pub gep_steps : (old b i new : List Term) (kb : Keeps old b) (ki : Keeps b i) (kn : Keeps i new) (s : RunState) (hs : IsState old s) (into : ℕ) (inbounds nuw : Bool) (type : MemoryType) (from : Operand) (indices : List GepIndex) (base x : SymValue) (steps : List SymIndex)
    → IsSymValue b base → IsSymValue new x
    → ((r : Reading) → IsNaming r.name → value_at r b base ≡ operand_value (values_at r old s.registers) from)
    → ((r : Reading) → IsNaming r.name → indices_at r.v i steps ≡ index_values (values_at r b s.registers) type 0 indices)
    → ((r : Reading) → IsNaming r.name → value_at r new x ≡ gep_result (memory_at r i s.memory.blocks) (value_at r i base) (indices_at r.v i steps) inbounds nuw)
    → Steps Always old new s (record s { registers = slice_set s.registers into x }) (stepped (inst.GetElementPtr into inbounds nuw type from indices))
gep_steps old b i new kb ki kn s hs into inbounds nuw type from indices base x steps hbase hx reads counts leads =
    value_steps old new k s hs (inst.GetElementPtr into inbounds nuw type from indices) into x (λ g m. gep_result m.memory (operand_value m.registers from) (index_values m.registers type 0 indices) inbounds nuw) hx (λ g visit m here h. (refl, is g visit m h))
  where
    kbi : Keeps old i
    kbi = keeps_trans old b i kb ki

    k : Keeps old new
    k = keeps_trans old i new kbi kn

    is : (g : Scene) (visit : Visit) (m : Machine) → MatchesState g old visit s m → value_at (sight g) new x ≡ gep_result m.memory (operand_value m.registers from) (index_values m.registers type 0 indices) inbounds nuw
    is g visit m h =
        let pointed : value_at (sight g) i base ≡ operand_value m.registers from = value-later b i ki (sight g) base hbase ∙ (reads (sight g) (naming g.given) ∙ ap (λ (rs : List Value). operand_value rs from) h.registers) in
        let held : memory_at (sight g) i s.memory.blocks ≡ m.memory = blocks_at-later old i kbi (sight g) s.memory hs.memory ∙ h.memory in
        let counted = counts (sight g) (naming g.given) ∙ ap (λ (rs : List Value). index_values rs type 0 indices) (values-later old b kb (sight g) s.registers hs.registers ∙ h.registers) in
        leads (sight g) (naming g.given) ∙ rw (pointed, held, counted) refl
