-- A return leaves the given blocks of its memory.
use Rattle.run_terms.proofs.Common.{ℕ, ◌≡◌, ◌<◌, ◌≤◌, ◌+◌, Bool, true, false, cond, if◌then◌else◌, List, [], ◌∷◌, ◌++◌, length, map, take, drop, Option, refl, ap, sym, subst, ◌∙◌, arith, is_some, option_map, filter, append-nil, length-take, MemoryBlock, Return, is_given, reading, SymFrame, block_at, memory-later, given_named, local_block, Machine, Run, Done, Term, Keeps, bit_at, SymValue, SymBlock, Each, first_local, value_at, AreGivenBlocks, frame_of, Tally, RunMemory, RunState, Ending, Frontier, Leaving, Setting, AreNumberedFrom, IsRunMemory, IsState, MatchesState, Scene, StateShape, Visit, sight, Ends, HasShape, IsLeaving, Leaves, EndingShape, IsReturned}
use Rattle.std.proofs.lemmas.List.Elements.{filter-append}
use Rattle.mem_terms.specs.Memory.{memory_at}
use Rattle.run_terms.proofs.Moving.{ends_leaves}
use Rattle.run_terms.proofs.Memories.{memory-parts}

-- ---- their numbers

abbrev IsGivenNumber : ℕ → SymBlock → Type 0
IsGivenNumber given b = (0 < b.number) × (b.number ≤ given)

given_numbers : (given first : ℕ) (bs : List SymBlock) → AreNumberedFrom first (map frame_of bs) → 0 < first → first + length bs ≤ given + 1 → Each (IsGivenNumber given) bs
given_numbers given first [] numbered p q = tt
given_numbers given first (b ∷ bs) numbered p q =
    let is : b.number ≡ first = numbered.0 in
    ((omega (arith, is, p), omega (arith, is, q)), given_numbers given (first + 1) bs numbered.1 (omega arith) (omega (arith, q)))

-- ---- which blocks are given

given_block : (given : ℕ) (v : ℕ → ℕ → ℕ) (terms : List Term) (b : SymBlock) → IsGivenNumber given b → is_given (block_at (reading given v) terms b) ≡ true
unfolding block_at
given_block given v terms b h = rw (given_named given b.number h.0 h.1) refl

own_block : (given : ℕ) (v : ℕ → ℕ → ℕ) (terms : List Term) (b : SymBlock) → first_local given ≤ b.number → is_given (block_at (reading given v) terms b) ≡ false
unfolding block_at
own_block given v terms b h = rw (local_block given b.number h) refl

front_one : (e : Bool) (x : MemoryBlock) (xs : List MemoryBlock) → is_given x ≡ true → filter is_given xs ≡ xs → filter is_given (cond e (x ∷ xs) xs) ≡ cond e (x ∷ xs) xs
front_one true x xs p q = rw (p, q) refl
front_one false x xs p q = q

own_one : (e : Bool) (x : MemoryBlock) (xs : List MemoryBlock) → is_given x ≡ false → filter is_given xs ≡ [] → filter is_given (cond e (x ∷ xs) xs) ≡ []
own_one true x xs p q = rw p q
own_one false x xs p q = q

front_stays : (given : ℕ) (v : ℕ → ℕ → ℕ) (terms : List Term) (bs : List SymBlock) → Each (IsGivenNumber given) bs → filter is_given (memory_at (reading given v) terms bs) ≡ memory_at (reading given v) terms bs
unfolding memory_at
front_stays given v terms [] h = refl
front_stays given v terms (b ∷ bs) h =
    front_one (bit_at v terms b.exists) (block_at (reading given v) terms b) (memory_at (reading given v) terms bs) (given_block given v terms b h.0) (front_stays given v terms bs h.1)

own_goes : (given : ℕ) (v : ℕ → ℕ → ℕ) (terms : List Term) (bs : List SymBlock) → Each (λ (b : SymBlock). first_local given ≤ b.number) bs → filter is_given (memory_at (reading given v) terms bs) ≡ []
unfolding memory_at
own_goes given v terms [] h = refl
own_goes given v terms (b ∷ bs) h =
    own_one (bit_at v terms b.exists) (block_at (reading given v) terms b) (memory_at (reading given v) terms bs) (own_block given v terms b h.0) (own_goes given v terms bs h.1)

pub given_left : (terms : List Term) (m : RunMemory) → IsRunMemory terms m → (v : ℕ → ℕ → ℕ) → filter is_given (memory_at (reading m.given v) terms m.blocks) ≡ memory_at (reading m.given v) terms (take m.given m.blocks)
given_left terms m h v =
    let r = reading m.given v in
    let taken = length-take m.given m.blocks in
    let front = front_stays m.given v terms (take m.given m.blocks) (given_numbers m.given 1 (take m.given m.blocks) h.numbered (omega arith) (omega (arith, taken, h.count))) in
    let own = own_goes m.given v terms (drop m.given m.blocks) h.own in
    ap (filter is_given) (sym (memory-parts r terms m.given m.blocks))
    ∙ (filter-append is_given (memory_at r terms (take m.given m.blocks)) (memory_at r terms (drop m.given m.blocks))
    ∙ (ap (λ (bs : List MemoryBlock). filter is_given (memory_at r terms (take m.given m.blocks)) ++ bs) own ∙ (append-nil (filter is_given (memory_at r terms (take m.given m.blocks))) ∙ front)))

-- ---- the return

pub done_if : (p : Bool) (x y : Run) → cond p (Done x) (Done y) ≡ Done (if p then x else y)
done_if true x y = refl
done_if false x y = refl

-- the given blocks of a state have the frames of the ending
pub given_shaped : (setting : Setting) (terms : List Term) (w : Frontier) (l : Leaving) → IsLeaving setting terms w l → AreGivenBlocks (map frame_of w.ending.blocks) terms (take l.state.now.memory.given l.state.now.memory.blocks)
given_shaped setting terms w l h =
    let frames = ap (λ (x : StateShape). x.frames) h.fits ∙ sym (ap (λ (x : EndingShape). x.frames) h.shape.ending) in
    subst (λ (fs : List SymFrame). AreGivenBlocks fs terms (take l.state.now.memory.given l.state.now.memory.blocks)) frames h.state.memory.given

pub ending_valued : (setting : Setting) (w : Frontier) → HasShape setting w → is_some w.ending.value ≡ is_some setting.f.now.returns
ending_valued setting w shape = ap (λ (x : EndingShape). x.valued) shape.ending

-- the blocks that it leaves
pub memory_left : (old a : List Term) (k : Keeps old a) (s : RunState) (hs : IsState old s) (g : Scene) (visit : Visit) (m : Machine) → MatchesState g old visit s m → memory_at (sight g) a (take s.memory.given s.memory.blocks) ≡ filter is_given m.memory
memory_left old a k s hs g visit m h =
    memory-later old a k (sight g) (take s.memory.given s.memory.blocks) hs.memory.given.are
    ∙ (subst (λ (n : ℕ). memory_at (reading n g.v) old (take s.memory.given s.memory.blocks) ≡ filter is_given (memory_at (reading n g.v) old s.memory.blocks)) h.given (sym (given_left old s.memory hs.memory g.v))
    ∙ ap (filter is_given) h.memory)

pub return_leaves : {on : Scene → Type 0} {setting : Setting} {l : Leaving} {old a new : List Term} {before : Frontier} {e : Ending} {t : Tally} (value : Option SymValue) {run : Scene → Machine → Run}
    → (ka : Keeps old a) → Keeps a new → (h : IsLeaving setting old before l)
    → Ends a new before.ending e l.c t (λ g. Return (option_map (value_at (sight g) a) value) (memory_at (sight g) a (take l.state.now.memory.given l.state.now.memory.blocks)))
    → ((g : Scene) (at : Visit) (m : Machine) → on g → bit_at g.v old l.c ≡ true → MatchesState g old at l.state.now m → IsReturned g a t value m (run g m))
    → Leaves on setting l old new before (record before { ending = e }) (λ g m. Done (run g m))
return_leaves {l = l} {old = old} {a = a} value ka kn h ends so = ends_leaves ka kn h ends (λ g at m here held matches.
    let it = so g at m here held matches in
    (it.tally, ap (Return (option_map (value_at (sight g) a) value)) (memory_left old a ka l.state.now h.state g at m matches) ∙ it.outcome))
