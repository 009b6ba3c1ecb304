-- What is made of the terms of an argument or of a given block denotes what they say.
use Rattle.std.proofs.Common.{ℕ, zero, suc, ◌≡◌, ◌+◌, ◌<◌, ◌≤◌, ◌%◌, ◌^◌, Bool, true, false, cond, nat_eq, List, [], ◌∷◌, ◌++◌, length, map, take, get_or, slice_get, Some, refl, ap, sym, ◌∙◌, subst, arith, length-append}
use Rattle.std.proofs.lemmas.List.{length-take-le, take_all}
use Rattle.std.proofs.lemmas.Option.{get_or_from_slice_get}
use Rattle.byte_block.specs.declared.value.Byte.{Byte}
use Rattle.byte_block.specs.declared.block.MemoryBlock.{MemoryBlock}
use Rattle.ir_tree.specs.declared.tree.IrType.{IrType}
use Rattle.ir_tree.specs.declared.tree.IrType.TheVariants as type
use Rattle.byte_block.specs.declared.value.BlockName.{BlockName}
use Rattle.bv_terms.specs.declared.term.TermId.{TermId}
use Rattle.bv_terms.specs.declared.term.Term.{Term}
use Rattle.bv_terms.specs.Tree.{width_of}
use Rattle.bv_terms.specs.Trees.{AreInRange, IsTerm, Keeps, Makes, Tests, bit_at, term_at, tree_in}
use Rattle.mem_terms.specs.declared.inputs.ArgTerms.TheVariants as arg
use Rattle.mem_terms.specs.declared.inputs.ByteTerms.{ByteTerms}
use Rattle.mem_terms.specs.Values.{Each, Reading, value_at}
use Rattle.mem_terms.specs.declared.bytes.SymByte.{SymByte}
use Rattle.mem_terms.specs.Memory.{AreGivenBlocks, AreSymBlocks, AreSymBytes, IsAlways, IsSymBlock, IsSymByte, SymFrame, block_at, byte_at, frame_of, given_frames, memory_at, places_at}
use Rattle.mem_terms.specs.declared.blocks.SymBlock.{SymBlock}
use Rattle.mem_terms.proofs.Eaches.{each-at, each-push, map-at, map-length, map-push, map-take, take-push}
use Rattle.mem_terms.specs.Inputs.{IsArg, IsBlockTerms, IsByteTerms, arg_at, given_block_at, given_blocks_at, given_byte_at}
use Rattle.mem_terms.proofs.Bits.{term-below}
use Rattle.mem_terms.proofs.Later.{always-later, always_each-later, bit-later, block-later, blocks-same, byte-later, given_block_at-later, given_byte_at-later, given_bytes_at-later, keeps_trans, places-later, sym_blocks-later, sym_bytes-later, term-later}
use Rattle.mem_terms.proofs.Made.{below-wider, pick-later, small_mod}
use Rattle.mem_terms.proofs.SymValues.{integer_is}

-- a number of at most 64 bits stays the same in 64
pub in_64 : (old : List Term) (n : ℕ) (a : TermId) → AreInRange old → IsTerm old n a → n ≤ 64 → (v : ℕ → ℕ → ℕ) → term_at v old a % 2 ^ 64 ≡ term_at v old a
in_64 old n a range h most v = small_mod (term_at v old a) (2 ^ 64) (below-wider (term_at v old a) n 64 (term-below old n a range h v) most)

-- an integer argument
pub int_arg-stands : (old a new : List Term) (t : IrType) (flag n id block is_pointer : TermId) → AreInRange old → IsArg old t (arg.Int flag n) → Keeps old a → Makes a id 64 (λ v. term_at v old n % 2 ^ 64) → Keeps a new
    → Tests new is_pointer (λ _. false) → (r : Reading) → value_at r new (record { poison = flag; is_pointer = is_pointer; block = block; number = id }) ≡ arg_at r old (arg.Int flag n)
unfolding value_at
int_arg-stands old a new (type.Int width) flag n id block is_pointer range h k m k' t r =
    rw (t.says r.v, bit-later old new (keeps_trans old a new k k') r.v flag h.0.within, term-later a new k' r.v id m.within, m.says r.v, in_64 old width.bits n range h.1 width.at_most_64 r.v)
    (integer_is (bit_at r.v old flag) (r.name (term_at r.v new block)) (term_at r.v old n))
int_arg-stands old a new type.Ptr flag n id block is_pointer range h k m k' t r = absurd h

-- a pointer argument
pub ptr_arg-stands : (old a new : List Term) (t : IrType) (flag block offset id is_pointer : TermId) → AreInRange old → IsArg old t (arg.Ptr flag block offset) → Keeps old a → Makes a id 64 (λ v. term_at v old block % 2 ^ 64) → Keeps a new
    → Tests new is_pointer (λ _. true) → (r : Reading) → value_at r new (record { poison = flag; is_pointer = is_pointer; block = id; number = offset }) ≡ arg_at r old (arg.Ptr flag block offset)
unfolding value_at
ptr_arg-stands old a new (type.Int width) flag block offset id is_pointer range h k m k' t r = absurd h
ptr_arg-stands old a new type.Ptr flag block offset id is_pointer range h k m k' t r =
    let whole = keeps_trans old a new k k' in
    rw (t.says r.v, bit-later old new whole r.v flag h.0.within, term-later a new k' r.v id m.within, m.says r.v, in_64 old 3 block range h.1 (omega arith) r.v, term-later old new whole r.v offset h.2.within) refl

-- a byte of a given block
pub given_byte-stands : (old a b new : List Term) (g : ByteTerms) (block one is_part : TermId) → AreInRange old → IsByteTerms old g → Keeps old a → Makes a block 64 (λ v. term_at v old g.block % 2 ^ 64) → Keeps a b
    → Makes b one 2 (λ _. 1) → Keeps b new → Tests new is_part (λ v. nat_eq (term_at v b g.kind) (term_at v b one))
    → (r : Reading) → byte_at r new (record { is_part = is_part; mask = g.mask; number = g.number; block = block; offset = g.offset; part = g.part }) ≡ given_byte_at r old g
unfolding byte_at given_byte_at
given_byte-stands old a b new g block one is_part range h ka m kb mo kn t r =
    let whole = keeps_trans old a new ka (keeps_trans a b new kb kn) in
    rw (
      t.says r.v,
      mo.says r.v,
      term-later old b (keeps_trans old a b ka kb) r.v g.kind h.kind.within,
      term-later a new (keeps_trans a b new kb kn) r.v block m.within,
      m.says r.v,
      in_64 old 3 g.block range h.block (omega arith) r.v,
      term-later old new whole r.v g.mask h.mask.within,
      term-later old new whole r.v g.number h.number.within,
      term-later old new whole r.v g.offset h.offset.within,
      term-later old new whole r.v g.part h.part.within,
    ) refl

-- the bytes so far are the first of the contents
pub record BytesSoFar (old new : List Term) (places : List ByteTerms) (i : ℕ) (bytes : List SymByte) : Type 0 where
  pub kept : Keeps old new
  pub made : AreSymBytes new bytes
  pub count : length bytes ≡ i
  pub stands : (r : Reading) → places_at r new bytes ≡ map (given_byte_at r old) (take i places)

-- a byte more
pub bytes-more : (old a new : List Term) (places : List ByteTerms) (i : ℕ) (b : ByteTerms) (bytes more : List SymByte) (s : SymByte) → Each (IsByteTerms old) places → i < length places → b ≡ get_or places i b → Keeps old a → AreSymBytes a bytes → length bytes ≡ i
    → ((r : Reading) → places_at r a bytes ≡ map (given_byte_at r old) (take i places)) → Keeps a new → IsSymByte new s → ((r : Reading) → byte_at r new s ≡ given_byte_at r a b) → more ≡ bytes ++ s ∷ []
    → BytesSoFar old new places (i + 1) more
bytes-more old a new places i b bytes more s h lt is k hb count so k' hs ss e =
    let hp = each-at (IsByteTerms old) places i b h lt is in
    record {
      kept = keeps_trans old a new k k';
      made = subst (AreSymBytes new) (sym e) (each-push (IsSymByte new) bytes s (sym_bytes-later a new k' bytes hb) hs);
      count = ap (λ (bs : List SymByte). length bs) e ∙ omega (arith, count, length-append bytes (s ∷ []));
      stands = λ r.
          ap (places_at r new) e
          ∙ (map-push (byte_at r new) bytes s
          ∙ (ap (λ zs. zs ++ byte_at r new s ∷ []) (places-later a new k' r bytes hb ∙ so r)
          ∙ (ap (λ z. map (given_byte_at r old) (take i places) ++ z ∷ []) (ss r ∙ given_byte_at-later old a k r b hp)
          ∙ sym (map-take (given_byte_at r old) places i b lt is))));
    }

-- ---- blocks

-- a given block
pub given_block-stands : (old a b new : List Term) (n : ℕ) (size exists id : TermId) (places : List ByteTerms) (bytes : List SymByte) → AreInRange old → IsTerm old 6 size → Each (IsByteTerms old) places → Keeps old a → Keeps a b
    → Makes b id 64 (λ v. term_at v a size % 2 ^ 64) → Keeps b new → ((r : Reading) → places_at r new bytes ≡ map (given_byte_at r b) places)
    → (r : Reading) → block_at r new (record { number = n; exists = exists; size = id; align = 16; places = bytes }) ≡ given_block_at r old n size places
unfolding block_at
given_block-stands old a b new n size exists id places bytes range hs hp ka kb m kn so r =
    rw (
      term-later b new kn r.v id m.within,
      m.says r.v,
      term-later old a ka r.v size hs.within,
      in_64 old 6 size range hs (omega arith) r.v,
      so r,
      given_bytes_at-later old b (keeps_trans old a b ka kb) r places hp,
    ) refl

-- where all blocks are there, memory is all of them
pub memory-always : (r : Reading) (terms : List Term) (bs : List SymBlock) → Each (IsAlways terms) bs → memory_at r terms bs ≡ map (block_at r terms) bs
unfolding memory_at
memory-always r terms [] h = refl
memory-always r terms (b ∷ bs) h = rw (h.0 r.v, memory-always r terms bs h.1) refl

given_frames-suc : (n i bytes : ℕ) → given_frames n (suc i) bytes ≡ given_frames n i bytes ++ record { number = n + i; align = 16; room = bytes } ∷ []
given_frames-suc n zero bytes = let e : n + 0 ≡ n = omega arith in rw e refl
given_frames-suc n (suc i) bytes =
    let e : n + 1 + i ≡ n + suc i = omega arith in
    ap (λ fs. record { number = n; align = 16; room = bytes } ∷ fs) (given_frames-suc (n + 1) i bytes ∙ ap (λ k. given_frames (n + 1) i bytes ++ record { number = k; align = 16; room = bytes } ∷ []) e)

pub given_frames-push : (n i bytes : ℕ) → given_frames n (i + 1) bytes ≡ given_frames n i bytes ++ record { number = n + i; align = 16; room = bytes } ∷ []
given_frames-push n i bytes = let e : i + 1 ≡ suc i = omega arith in ap (λ k. given_frames n k bytes) e ∙ given_frames-suc n i bytes

pub given_blocks-push : (r : Reading) (terms : List Term) (n : ℕ) (sizes : List TermId) (lists : List (List ByteTerms)) (size : TermId) (places : List ByteTerms) → length sizes ≡ length lists
    → given_blocks_at r terms n (sizes ++ size ∷ []) (lists ++ places ∷ []) ≡ given_blocks_at r terms n sizes lists ++ given_block_at r terms (n + length sizes) size places ∷ []
given_blocks-push r terms n [] [] size places e = let z : n + 0 ≡ n = omega arith in rw z refl
given_blocks-push r terms n (s ∷ sizes) (l ∷ lists) size places e =
    let z : n + 1 + length sizes ≡ n + suc (length sizes) = omega arith in
    ap (λ bs. given_block_at r terms n s l ∷ bs) (rw z at (given_blocks-push r terms (n + 1) sizes lists size places (omega (arith, e))))
given_blocks-push r terms n [] (l ∷ lists) size places e = absurd (omega (arith, e))
given_blocks-push r terms n (s ∷ sizes) [] size places e = absurd (omega (arith, e))

-- the blocks so far are those of the first sizes and contents
pub record BlocksSoFar (old new : List Term) (sizes : List TermId) (lists : List (List ByteTerms)) (i : ℕ) (bs : List SymBlock) : Type 0 where
  pub kept : Keeps old new
  pub made : AreSymBlocks new bs
  pub always : Each (IsAlways new) bs
  pub frames : (bytes : ℕ) → Each (IsBlockTerms bytes old) lists → map frame_of bs ≡ given_frames 1 i bytes
  pub stands : (r : Reading) → map (block_at r new) bs ≡ given_blocks_at r old 1 (take i sizes) (take i lists)

pub blocks-more : (old a new : List Term) (sizes : List TermId) (lists : List (List ByteTerms)) (i : ℕ) (size : TermId) (places : List ByteTerms) (bs more : List SymBlock) (b : SymBlock)
    → Each (IsTerm old 6) sizes → Each (Each (IsByteTerms old)) lists → length sizes ≡ length lists → i < length sizes → size ≡ get_or sizes i size → places ≡ get_or lists i places → BlocksSoFar old a sizes lists i bs
    → Keeps a new → IsSymBlock new b → IsAlways new b → frame_of b ≡ record { number = i + 1; align = 16; room = length places } → ((r : Reading) → block_at r new b ≡ given_block_at r a (i + 1) size places) → more ≡ bs ++ b ∷ []
    → BlocksSoFar old new sizes lists (i + 1) more
blocks-more old a new sizes lists i size places bs more b hs hl alike lt is il so k hb always frame sb e =
    let lt_l : i < length lists = omega (arith, alike) in
    let h_size = each-at (IsTerm old 6) sizes i size hs lt is in
    let h_places = each-at (Each (IsByteTerms old)) lists i places hl lt_l il in
    let n_sizes = length-take-le i sizes (omega (arith, lt)) in
    let n_lists = length-take-le i lists (omega (arith, lt_l)) in
    let e_n : 1 + length (take i sizes) ≡ i + 1 = omega (arith, n_sizes) in
    let e_i : 1 + i ≡ i + 1 = omega arith in
    record {
      kept = keeps_trans old a new so.kept k;
      made = subst (AreSymBlocks new) (sym e) (each-push (IsSymBlock new) bs b (sym_blocks-later a new k bs so.made) hb);
      always = subst (Each (IsAlways new)) (sym e) (each-push (IsAlways new) bs b (always_each-later a new k bs so.made so.always) always);
      frames = λ bytes are.
          let room = (each-at (IsBlockTerms bytes old) lists i places are lt_l il).count in
          ap (map frame_of) e
          ∙ (map-push frame_of bs b
          ∙ (ap (λ fs. fs ++ frame_of b ∷ []) (so.frames bytes are)
          ∙ (ap (λ f. given_frames 1 i bytes ++ f ∷ []) (frame ∙ rw (room, sym e_i) refl)
          ∙ sym (given_frames-push 1 i bytes))));
      stands = λ r.
          ap (map (block_at r new)) e
          ∙ (map-push (block_at r new) bs b
          ∙ (ap (λ zs. zs ++ block_at r new b ∷ []) (blocks-same a new k r bs so.made ∙ so.stands r)
          ∙ (ap (λ z. given_blocks_at r old 1 (take i sizes) (take i lists) ++ z ∷ []) (sb r ∙ given_block_at-later old a so.kept r (i + 1) size places h_size h_places)
          ∙ sym (
          rw (take-push sizes i size lt is, take-push lists i places lt_l il)
          (given_blocks-push r old 1 (take i sizes) (take i lists) size places (n_sizes ∙ sym n_lists) ∙ ap (λ n. given_blocks_at r old 1 (take i sizes) (take i lists) ++ given_block_at r old n size places ∷ []) e_n)
          ))));
    }

-- all blocks
pub blocks-whole : (old new : List Term) (sizes : List TermId) (lists : List (List ByteTerms)) (bs : List SymBlock) → length sizes ≡ length lists → BlocksSoFar old new sizes lists (length sizes) bs
    → (r : Reading) → memory_at r new bs ≡ given_blocks_at r old 1 sizes lists
blocks-whole old new sizes lists bs alike so r =
    memory-always r new bs so.always
    ∙ (so.stands r ∙ rw (take_all (length sizes) sizes (omega arith), take_all (length sizes) lists (omega (arith, alike))) refl)

pub got : {A : Type 0} (xs : List A) (i : ℕ) (x y : A) → slice_get xs i ≡ Some x → y ≡ x → y ≡ get_or xs i y
got xs i x y e same = same ∙ sym (get_or_from_slice_get xs i x y e)

-- ---- choices

cond-push : {A : Type 0} (c : Bool) (xs ys : List A) (x y : A) → cond c xs ys ++ cond c x y ∷ [] ≡ cond c (xs ++ x ∷ []) (ys ++ y ∷ [])
cond-push true xs ys x y = refl
cond-push false xs ys x y = refl

-- the bytes so far are the first ones of either list
pub record PickedBytes (old new : List Term) (c : TermId) (xs ys : List SymByte) (i : ℕ) (picked : List SymByte) : Type 0 where
  pub kept : Keeps old new
  pub made : AreSymBytes new picked
  pub count : length picked ≡ i
  pub stands : (r : Reading) → places_at r new picked ≡ cond (bit_at r.v old c) (places_at r old (take i xs)) (places_at r old (take i ys))

pub picked_bytes-more : (old a new : List Term) (c : TermId) (xs ys : List SymByte) (i : ℕ) (x y : SymByte) (picked more : List SymByte) (b : SymByte)
    → IsTerm old 1 c → AreSymBytes old xs → AreSymBytes old ys → length ys ≡ length xs → i < length xs → x ≡ get_or xs i x → y ≡ get_or ys i y → PickedBytes old a c xs ys i picked
    → Keeps a new → IsSymByte new b → ((r : Reading) → byte_at r new b ≡ cond (bit_at r.v a c) (byte_at r a x) (byte_at r a y)) → more ≡ picked ++ b ∷ []
    → PickedBytes old new c xs ys (i + 1) more
picked_bytes-more old a new c xs ys i x y picked more b hc hxs hys alike lt ix iy so k hb sb e =
    let lt_y : i < length ys = omega (arith, alike) in
    let hx = each-at (IsSymByte old) xs i x hxs lt ix in
    let hy = each-at (IsSymByte old) ys i y hys lt_y iy in
    record {
      kept = keeps_trans old a new so.kept k;
      made = subst (AreSymBytes new) (sym e) (each-push (IsSymByte new) picked b (sym_bytes-later a new k picked so.made) hb);
      count = ap (λ (bs : List SymByte). length bs) e ∙ omega (arith, so.count, length-append picked (b ∷ []));
      stands = λ r.
          let one : byte_at r new b ≡ cond (bit_at r.v old c) (byte_at r old x) (byte_at r old y) =
          sb r ∙ rw (bit-later old a so.kept r.v c hc.within, byte-later old a so.kept r x hx, byte-later old a so.kept r y hy) refl in
          ap (places_at r new) e
          ∙ (map-push (byte_at r new) picked b
          ∙ (ap (λ zs. zs ++ byte_at r new b ∷ []) (places-later a new k r picked so.made ∙ so.stands r)
          ∙ (ap (λ z. cond (bit_at r.v old c) (places_at r old (take i xs)) (places_at r old (take i ys)) ++ z ∷ []) one
          ∙ (cond-push (bit_at r.v old c) (places_at r old (take i xs)) (places_at r old (take i ys)) (byte_at r old x) (byte_at r old y)
          ∙ sym (rw (map-take (byte_at r old) xs i x lt ix, map-take (byte_at r old) ys i y lt_y iy) refl)))));
    }

abbrev block_from : BlockName → (size align : ℕ) → List Byte → MemoryBlock
block_from name size align places = record { name = name; size = size; align = align; places = places }

picked_block : (c : Bool) (name : ℕ → BlockName) (n m l k s t : ℕ) (p q : List Byte) → m ≡ n → k ≡ l
    → block_from (name n) (cond c s t) l (cond c p q) ≡ cond c (block_from (name n) s l p) (block_from (name m) t k q)
picked_block true name n m l k s t p q e f = refl
picked_block false name n m l k s t p q e f = rw (e, f) refl

-- a block of two with one frame
pub pick_block-stands : (old g1 g2 new : List Term) (c exists size : TermId) (places : List SymByte) (a b : SymBlock) → IsTerm old 1 c → IsSymBlock old a → IsSymBlock old b → frame_of b ≡ frame_of a
    → Keeps old g1 → Keeps g1 g2 → Makes g2 size (width_of (tree_in g1 a.size)) (λ v. cond (bit_at v g1 c) (term_at v g1 a.size) (term_at v g1 b.size)) → Keeps g2 new
    → ((r : Reading) → places_at r new places ≡ cond (bit_at r.v g2 c) (places_at r g2 a.places) (places_at r g2 b.places))
    → (r : Reading) → block_at r new (record { number = a.number; exists = exists; size = size; align = a.align; places = places }) ≡ cond (bit_at r.v old c) (block_at r old a) (block_at r old b)
unfolding block_at
pick_block-stands old g1 g2 new c exists size places a b hc ha hb frame k1 k2 ms kn sp r =
    let k02 = keeps_trans old g1 g2 k1 k2 in
    let m = pick-later old g1 g2 new c a.size b.size size 64 hc ha.size hb.size k1 kn ms in
    rw (m.says r.v, sp r, bit-later old g2 k02 r.v c hc.within, places-later old g2 k02 r a.places ha.places, places-later old g2 k02 r b.places hb.places)
    (picked_block (bit_at r.v old c) r.name a.number b.number a.align b.align (term_at r.v old a.size) (term_at r.v old b.size) (places_at r old a.places) (places_at r old b.places)
    (ap (λ (f : SymFrame). f.number) frame) (ap (λ (f : SymFrame). f.align) frame))

-- the blocks so far are the first ones of either list
pub record PickedBlocks (old new : List Term) (c : TermId) (xs ys : List SymBlock) (i : ℕ) (picked : List SymBlock) : Type 0 where
  pub kept : Keeps old new
  pub made : AreSymBlocks new picked
  pub frames : map frame_of picked ≡ map frame_of (take i xs)
  pub always : Each (IsAlways old) xs → Each (IsAlways old) ys → Each (IsAlways new) picked
  pub stands : (r : Reading) → map (block_at r new) picked ≡ cond (bit_at r.v old c) (map (block_at r old) (take i xs)) (map (block_at r old) (take i ys))

always-picked : (c : Bool) (p q : Bool) → p ≡ true → q ≡ true → cond c p q ≡ true
always-picked true p q e f = e
always-picked false p q e f = f

-- two with one frame each at every index
pub frame-at : (xs ys : List SymBlock) (i : ℕ) (x y : SymBlock) → map frame_of ys ≡ map frame_of xs → i < length xs → i < length ys → x ≡ get_or xs i x → y ≡ get_or ys i y → frame_of y ≡ frame_of x
frame-at xs ys i x y e lt lt_y ix iy =
    sym (map-at frame_of ys i y (frame_of x) lt_y iy)
    ∙ (ap (λ fs. get_or fs i (frame_of x)) e ∙ map-at frame_of xs i x (frame_of x) lt ix)

pub frames-alike : (xs ys : List SymBlock) → map frame_of ys ≡ map frame_of xs → length ys ≡ length xs
frames-alike xs ys e = sym (map-length frame_of ys) ∙ (ap (λ (fs : List SymFrame). length fs) e ∙ map-length frame_of xs)

pub picked_blocks-more : (old a new : List Term) (c : TermId) (xs ys : List SymBlock) (i : ℕ) (x y : SymBlock) (picked more : List SymBlock) (b : SymBlock)
    → IsTerm old 1 c → AreSymBlocks old xs → AreSymBlocks old ys → length ys ≡ length xs → i < length xs → x ≡ get_or xs i x → y ≡ get_or ys i y → PickedBlocks old a c xs ys i picked
    → Keeps a new → IsSymBlock new b → frame_of b ≡ frame_of x → ((v : ℕ → ℕ → ℕ) → bit_at v new b.exists ≡ cond (bit_at v a c) (bit_at v a x.exists) (bit_at v a y.exists))
    → ((r : Reading) → block_at r new b ≡ cond (bit_at r.v a c) (block_at r a x) (block_at r a y)) → more ≡ picked ++ b ∷ []
    → PickedBlocks old new c xs ys (i + 1) more
picked_blocks-more old a new c xs ys i x y picked more b hc hxs hys alike lt ix iy so k hb frame exists sb e =
    let lt_y : i < length ys = omega (arith, alike) in
    let hx = each-at (IsSymBlock old) xs i x hxs lt ix in
    let hy = each-at (IsSymBlock old) ys i y hys lt_y iy in
    record {
      kept = keeps_trans old a new so.kept k;
      made = subst (AreSymBlocks new) (sym e) (each-push (IsSymBlock new) picked b (sym_blocks-later a new k picked so.made) hb);
      frames =
          ap (map frame_of) e
          ∙ (map-push frame_of picked b
          ∙ (ap (λ fs. fs ++ frame_of b ∷ []) so.frames
          ∙ (ap (λ f. map frame_of (take i xs) ++ f ∷ []) frame ∙ sym (map-take frame_of xs i x lt ix))));
      always = λ ax ay.
          let one_x = always-later old a so.kept x hx (each-at (IsAlways old) xs i x ax lt ix) in
          let one_y = always-later old a so.kept y hy (each-at (IsAlways old) ys i y ay lt_y iy) in
          subst (Each (IsAlways new)) (sym e)
          (each-push (IsAlways new) picked b (always_each-later a new k picked so.made (so.always ax ay)) (λ v. exists v ∙ always-picked (bit_at v a c) (bit_at v a x.exists) (bit_at v a y.exists) (one_x v) (one_y v)));
      stands = λ r.
          let one : block_at r new b ≡ cond (bit_at r.v old c) (block_at r old x) (block_at r old y) =
          sb r ∙ rw (bit-later old a so.kept r.v c hc.within, block-later old a so.kept r x hx, block-later old a so.kept r y hy) refl in
          ap (map (block_at r new)) e
          ∙ (map-push (block_at r new) picked b
          ∙ (ap (λ zs. zs ++ block_at r new b ∷ []) (blocks-same a new k r picked so.made ∙ so.stands r)
          ∙ (ap (λ z. cond (bit_at r.v old c) (map (block_at r old) (take i xs)) (map (block_at r old) (take i ys)) ++ z ∷ []) one
          ∙ (cond-push (bit_at r.v old c) (map (block_at r old) (take i xs)) (map (block_at r old) (take i ys)) (block_at r old x) (block_at r old y)
          ∙ sym (rw (map-take (block_at r old) xs i x lt ix, map-take (block_at r old) ys i y lt_y iy) refl)))));
    }

module _ (old new : List Term) (c : TermId) (xs ys picked : List SymBlock) (alike : length ys ≡ length xs) (so : PickedBlocks old new c xs ys (length xs) picked) where
  pub picked_given : (known : List SymFrame) → AreGivenBlocks known old xs → AreGivenBlocks known old ys → AreGivenBlocks known new picked
  picked_given known gx gy = record {
    are = so.made;
    always = so.always gx.always gy.always;
    frames = so.frames ∙ (ap (map frame_of) (take_all (length xs) xs (omega arith)) ∙ gx.frames);
  }

  pub picked_blocks-whole : (known : List SymFrame) (r : Reading) → AreGivenBlocks known old xs → AreGivenBlocks known old ys → memory_at r new picked ≡ cond (bit_at r.v old c) (memory_at r old xs) (memory_at r old ys)
  picked_blocks-whole known r gx gy =
      memory-always r new picked (so.always gx.always gy.always)
      ∙ (so.stands r
      ∙ rw (take_all (length xs) xs (omega arith), take_all (length xs) ys (omega (arith, alike)), memory-always r old xs gx.always, memory-always r old ys gy.always) refl)
