-- A memory that a store or an alloca changed is one of a run still.
use Rattle.run_terms.proofs.Common.{ℕ, zero, suc, ◌≡◌, ◌≤◌, true, List, [], ◌∷◌, ◌++◌, length, map, take, drop, refl, ap, sym, subst, ◌∙◌, arith, append_assoc, drop-map, take-append-drop, take-map, IsSymBlock, SymFrame, each-push, map-length, always_each-later, sym_blocks-later, each-take, sym_frame, Term, Keeps, bit_at, SymBlock, Each, first_local, AreSymBlocks, frame_of, RunMemory, RunState, AreNumberedFrom, IsRunMemory, frames_in, shape_of}
use Rattle.access_terms.specs.Accesses as access
use Rattle.run_terms.proofs.Lasting.{memory_blocks}
use Rattle.run_terms.proofs.Memories.{frames_count, frames_made, memory_made}

-- ---- parts of lists

each-rest : {A : Type 0} (P : A → Type 0) (n : ℕ) (xs : List A) → Each P xs → Each P (drop n xs)
each-rest P zero xs h = h
each-rest P (suc n) [] h = tt
each-rest P (suc n) (x ∷ xs) h = each-rest P n xs h.1

each-behind : {A : Type 0} (P : A → Type 0) (xs ys : List A) → Each P (xs ++ ys) → Each P ys
each-behind P [] ys h = h
each-behind P (x ∷ xs) ys h = each-behind P xs ys h.1

-- ---- more terms

pub blocks_later : (old new : List Term) (k : Keeps old new) (m : RunMemory) → IsRunMemory old m → AreSymBlocks new m.blocks
blocks_later old new k m h = sym_blocks-later old new k m.blocks (memory_blocks old m h)

-- ---- the shape of a state with another memory

pub memory_shape : (s : RunState) (m : RunMemory) → frames_in m ≡ frames_in s.memory → shape_of (record s { memory = m }) ≡ shape_of s
memory_shape s m e = λ i. record { names = length s.registers; frames = e i }

-- ---- what a store keeps

to_frames : (P : access.SymFrame → Type 0) (bs : List SymBlock) → Each (λ (b : SymBlock). P (sym_frame b)) bs → Each P (map sym_frame bs)
to_frames P [] h = tt
to_frames P (b ∷ bs) h = (h.0, to_frames P bs h.1)

from_frames : (P : access.SymFrame → Type 0) (bs : List SymBlock) → Each P (map sym_frame bs) → Each (λ (b : SymBlock). P (sym_frame b)) bs
from_frames P [] h = tt
from_frames P (b ∷ bs) h = (h.0, from_frames P bs h.1)

-- what holds of the frames of blocks holds of those of others with the same
each-framed : (P : access.SymFrame → Type 0) (xs ys : List SymBlock) → map sym_frame ys ≡ map sym_frame xs → Each (λ (b : SymBlock). P (sym_frame b)) xs → Each (λ (b : SymBlock). P (sym_frame b)) ys
each-framed P xs ys e h = from_frames P ys (subst (λ (fs : List access.SymFrame). Each P fs) (sym e) (to_frames P xs h))

abbrev less_framed : access.SymFrame → SymFrame
less_framed f = record { number = f.number; align = f.align; room = f.room }

frames_less : (bs : List SymBlock) → map frame_of bs ≡ map less_framed (map sym_frame bs)
frames_less [] = refl
frames_less (b ∷ bs) = ap (λ (fs : List SymFrame). frame_of b ∷ fs) (frames_less bs)

front_same : (m : RunMemory) (blocks : List SymBlock) → map sym_frame blocks ≡ map sym_frame m.blocks → map sym_frame (take m.given blocks) ≡ map sym_frame (take m.given m.blocks)
front_same m blocks same = sym (take-map sym_frame m.given blocks) ∙ (ap (take m.given) same ∙ take-map sym_frame m.given m.blocks)

-- the frames of the given blocks stay
pub store_frames : (m : RunMemory) (blocks : List SymBlock) → map sym_frame blocks ≡ map sym_frame m.blocks → frames_in (record m { blocks = blocks }) ≡ frames_in m
store_frames m blocks same = frames_less (take m.given blocks) ∙ (ap (map less_framed) (front_same m blocks same) ∙ sym (frames_less (take m.given m.blocks)))

pub store_memory : (old new : List Term) (k : Keeps old new) (m : RunMemory) → IsRunMemory old m → (blocks : List SymBlock) → AreSymBlocks new blocks → map sym_frame blocks ≡ map sym_frame m.blocks → IsRunMemory new (record m { blocks = blocks })
store_memory old new k m h blocks are same =
    let front = front_same m blocks same in
    let rest : map sym_frame (drop m.given blocks) ≡ map sym_frame (drop m.given m.blocks) = sym (drop-map sym_frame m.given blocks) ∙ (ap (drop m.given) same ∙ drop-map sym_frame m.given m.blocks) in
    let long : length (map sym_frame blocks) ≡ length (map sym_frame m.blocks) = ap length same in
    record {
      given = record {
        are = each-take (IsSymBlock new) blocks m.given are;
        always = each-framed (λ (f : access.SymFrame). (v : ℕ → ℕ → ℕ) → bit_at v new f.exists ≡ true) (take m.given m.blocks) (take m.given blocks) front (always_each-later old new k (take m.given m.blocks) h.given.are h.given.always);
        frames = refl;
      };
      count = omega (arith, long, map-length sym_frame blocks, map-length sym_frame m.blocks, h.count);
      numbered = subst (AreNumberedFrom 1) (sym (store_frames m blocks same)) h.numbered;
      are = each-rest (IsSymBlock new) m.given blocks are;
      own = each-framed (λ (f : access.SymFrame). first_local m.given ≤ f.number) (drop m.given m.blocks) (drop m.given blocks) rest h.own;
    }

-- ---- a block more

module _ (old : List Term) (m : RunMemory) (h : IsRunMemory old m) (blocks : List SymBlock) (b : SymBlock) (is : blocks ≡ m.blocks ++ b ∷ []) where
  parts : blocks ≡ take m.given m.blocks ++ (drop m.given m.blocks ++ b ∷ [])
  parts = is ∙ (ap (λ (bs : List SymBlock). bs ++ b ∷ []) (sym (take-append-drop m.given m.blocks)) ∙ append_assoc (take m.given m.blocks) (drop m.given m.blocks) (b ∷ []))

  count : length (take m.given m.blocks) ≡ m.given
  count = sym (map-length frame_of (take m.given m.blocks)) ∙ frames_count m h.count

  -- the frames of the given blocks stay
  pub alloca_frames : frames_in (record m { blocks = blocks }) ≡ frames_in m
  alloca_frames = frames_made (take m.given m.blocks) (drop m.given m.blocks ++ b ∷ []) blocks m.given count parts (frames_in m) refl

  pub alloca_memory : (new : List Term) (k : Keeps old new) → AreSymBlocks new blocks → first_local m.given ≤ b.number → IsRunMemory new (record m { blocks = blocks })
  alloca_memory new k are own =
      memory_made (take m.given m.blocks) (drop m.given m.blocks ++ b ∷ []) blocks m.given count parts old new (frames_in m) k h.given h.numbered
      (each-behind (IsSymBlock new) (take m.given m.blocks) (drop m.given m.blocks ++ b ∷ []) (subst (AreSymBlocks new) parts are))
      (each-push (λ (x : SymBlock). first_local m.given ≤ x.number) (drop m.given m.blocks) b h.own own)
