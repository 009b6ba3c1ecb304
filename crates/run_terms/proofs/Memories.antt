-- The blocks of a run's memory: the given ones, and after them those of allocas.
use Rattle.run_terms.proofs.Common.{ℕ, ◌≡◌, ◌<◌, ◌≤◌, ◌-◌, Bool, true, false, cond, List, [], ◌∷◌, ◌++◌, length, length-append, map, take, drop, refl, ap, sym, subst, ◌∙◌, arith, length-take, take-append-drop, MemoryBlock, SymFrame, block_at, map-length, bit-later, memory-later, given_blocks-later, TermId, Term, Keeps, IsTerm, bit_at, SymBlock, Each, Reading, first_local, AreGivenBlocks, AreSymBlocks, frame_of, RunMemory, AreNumberedFrom, IsRunMemory, frames_in}
use Rattle.std.proofs.Math.Seq.{drop-append_seam, take-append_seam}
use Rattle.mem_terms.specs.Memory.{memory_at}

-- ---- how many are given

pub given_count : (known : List SymFrame) (terms : List Term) (bs : List SymBlock) → AreGivenBlocks known terms bs → length bs ≡ length known
given_count known terms bs h = sym (map-length frame_of bs) ∙ ap length h.frames

pub frames_count : (m : RunMemory) → m.given ≤ length m.blocks → length (frames_in m) ≡ m.given
frames_count m h =
    let all = map-length frame_of (take m.given m.blocks) in
    let taken = length-take m.given m.blocks in
    omega (arith, all, taken, h)

-- memories with the same frames have as many given blocks
pub same_given : (terms : List Term) (a b : RunMemory) → IsRunMemory terms a → IsRunMemory terms b → frames_in b ≡ frames_in a → b.given ≡ a.given
same_given terms a b ha hb e = sym (frames_count b hb.count) ∙ (ap length e ∙ frames_count a ha.count)

-- given blocks, by their own frames
pub given_framed : (known : List SymFrame) (terms : List Term) (bs : List SymBlock) → AreGivenBlocks known terms bs → AreGivenBlocks (map frame_of bs) terms bs
given_framed known terms bs h = record { are = h.are; always = h.always; frames = refl }

-- ---- two lists of blocks

there-append : (e : Bool) (b : MemoryBlock) (xs ys : List MemoryBlock) → cond e (b ∷ xs ++ ys) (xs ++ ys) ≡ cond e (b ∷ xs) xs ++ ys
there-append true b xs ys = refl
there-append false b xs ys = refl

pub memory-append : (r : Reading) (terms : List Term) (xs ys : List SymBlock) → memory_at r terms (xs ++ ys) ≡ memory_at r terms xs ++ memory_at r terms ys
unfolding memory_at
memory-append r terms [] ys = refl
memory-append r terms (b ∷ bs) ys = rw (memory-append r terms bs ys) (there-append (bit_at r.v terms b.exists) (block_at r terms b) (memory_at r terms bs) (memory_at r terms ys))

pub memory-parts : (r : Reading) (terms : List Term) (n : ℕ) (bs : List SymBlock) → memory_at r terms (take n bs) ++ memory_at r terms (drop n bs) ≡ memory_at r terms bs
memory-parts r terms n bs = sym (memory-append r terms (take n bs) (drop n bs)) ∙ ap (memory_at r terms) (take-append-drop n bs)

cond-append : (e : Bool) (xs ys zs ws : List MemoryBlock) → cond e xs ys ++ cond e zs ws ≡ cond e (xs ++ zs) (ys ++ ws)
cond-append true xs ys zs ws = refl
cond-append false xs ys zs ws = refl

-- ---- one of two memories

-- the parts of the second memory, where the frames of its given blocks are those of the first
pub given_like : (terms : List Term) (a b : RunMemory) → IsRunMemory terms a → IsRunMemory terms b → frames_in b ≡ frames_in a
    → AreGivenBlocks (frames_in a) terms (take a.given b.blocks) × AreSymBlocks terms (drop a.given b.blocks) × Each (λ (x : SymBlock). first_local a.given ≤ x.number) (drop a.given b.blocks)
given_like terms a b ha hb e =
    let same = same_given terms a b ha hb e in
    let known : AreGivenBlocks (frames_in a) terms (take b.given b.blocks) = subst (λ (fs : List SymFrame). AreGivenBlocks fs terms (take b.given b.blocks)) e hb.given in (
      subst (λ (n : ℕ). AreGivenBlocks (frames_in a) terms (take n b.blocks)) same known,
      subst (λ (n : ℕ). AreSymBlocks terms (drop n b.blocks)) same hb.are,
      subst (λ (n : ℕ). Each (λ (x : SymBlock). first_local n ≤ x.number) (drop n b.blocks)) same hb.own,
    )

-- numbers from n on are those above the one before n
pub above_before : (n : ℕ) (bs : List SymBlock) → 0 < n → Each (λ (b : SymBlock). n ≤ b.number) bs → Each (λ (b : SymBlock). n - 1 < b.number) bs
above_before n [] pos h = tt
above_before n (b ∷ bs) pos h =
    let here : n ≤ b.number = h.0 in
    (omega (arith, pos, here), above_before n bs pos h.1)

pub from_after : (n : ℕ) (bs : List SymBlock) → 0 < n → Each (λ (b : SymBlock). n - 1 < b.number) bs → Each (λ (b : SymBlock). n ≤ b.number) bs
from_after n [] pos h = tt
from_after n (b ∷ bs) pos h =
    let here : n - 1 < b.number = h.0 in
    (omega (arith, pos, here), from_after n bs pos h.1)

-- what is made of given blocks and others
module _ (given own blocks : List SymBlock) (n : ℕ) (count : length given ≡ n) (is : blocks ≡ given ++ own) where
  front_made : take n blocks ≡ given
  front_made = ap (take n) is ∙ (ap (λ (i : ℕ). take i (given ++ own)) (sym count) ∙ take-append_seam given own)

  pub frames_made : (known : List SymFrame) → map frame_of given ≡ known → map frame_of (take n blocks) ≡ known
  frames_made known e = ap (map frame_of) front_made ∙ e

  pub memory_made : (a new : List Term) (known : List SymFrame) → Keeps a new → AreGivenBlocks known a given → AreNumberedFrom 1 known → AreSymBlocks new own → Each (λ (b : SymBlock). first_local n ≤ b.number) own
      → IsRunMemory new (record { blocks = blocks; given = n })
  memory_made a new known k hg numbered ho numbers =
      let behind : drop n blocks ≡ own = ap (drop n) is ∙ (ap (λ (i : ℕ). drop i (given ++ own)) (sym count) ∙ drop-append_seam given own) in
      let long : length blocks ≡ length (given ++ own) = ap length is in
      let later = given_framed known new given (given_blocks-later a new k known given hg) in
      record {
        given = subst (λ (bs : List SymBlock). AreGivenBlocks (map frame_of bs) new bs) (sym front_made) later;
        count = omega (arith, long, length-append given own, count);
        numbered = subst (AreNumberedFrom 1) (sym (frames_made known hg.frames)) numbered;
        are = subst (AreSymBlocks new) (sym behind) ho;
        own = subst (Each (λ (b : SymBlock). first_local n ≤ b.number)) (sym behind) numbers;
      }

pub memory_picked : (old a new : List Term) (c : TermId) (xs ys given own blocks : List SymBlock) (n : ℕ) → IsTerm old 1 c → Keeps old a → Keeps a new
    → AreSymBlocks a given → AreSymBlocks old (drop n xs) → AreSymBlocks old (drop n ys)
    → ((r : Reading) → memory_at r a given ≡ cond (bit_at r.v old c) (memory_at r old (take n xs)) (memory_at r old (take n ys)))
    → ((r : Reading) → memory_at r new own ≡ cond (bit_at r.v a c) (memory_at r a (drop n xs)) (memory_at r a (drop n ys)))
    → blocks ≡ given ++ own
    → (r : Reading) → memory_at r new blocks ≡ cond (bit_at r.v old c) (memory_at r old xs) (memory_at r old ys)
memory_picked old a new c xs ys given own blocks n hc ka kb hg hx hy sg so is r =
    let e_given : memory_at r new given ≡ cond (bit_at r.v old c) (memory_at r old (take n xs)) (memory_at r old (take n ys)) = memory-later a new kb r given hg ∙ sg r in
    let e_own : memory_at r new own ≡ cond (bit_at r.v old c) (memory_at r old (drop n xs)) (memory_at r old (drop n ys)) =
    so r ∙ rw (bit-later old a ka r.v c hc.within, memory-later old a ka r (drop n xs) hx, memory-later old a ka r (drop n ys) hy) refl in
    let whole : memory_at r new blocks ≡ cond (bit_at r.v old c) (memory_at r old (take n xs)) (memory_at r old (take n ys)) ++ cond (bit_at r.v old c) (memory_at r old (drop n xs)) (memory_at r old (drop n ys)) =
    ap (memory_at r new) is ∙ (memory-append r new given own ∙ rw (e_given, e_own) refl) in
    whole
    ∙ (cond-append (bit_at r.v old c) (memory_at r old (take n xs)) (memory_at r old (take n ys)) (memory_at r old (drop n xs)) (memory_at r old (drop n ys))
    ∙ rw (memory-parts r old n xs, memory-parts r old n ys) refl)
