-- Two memories joined block by block.
use Rattle.access_terms.proofs.Common.{append-nil, ℕ, ◌≡◌, ◌<◌, ◌+◌, Bool, true, false, not, ◌&&◌, cond, List, [], ◌∷◌, ◌++◌, length, take, get_or, refl, ap, sym, subst, ◌∙◌, BlockName, Byte, MemoryBlock, TermId, Term, truth, Keeps, IsTerm, Makes, bit_at, term_at, SymBlock, SymByte, Reading, AreSymBlocks, AreSymBytes, IsSymBlock, block_at, memory_at, places_at, each-at, each-push, take-push, keeps_trans, bit-later, term-later, block-later, memory-later, places-later, is_term-later, sym_block-later, AreAbove, AreAlike, IsGrown, IsJoined, part_at}
use Rattle.access_terms.specs.declared.joining.Joined.{Joined}
use Rattle.access_terms.proofs.Finding.{truth-cond}
use Rattle.access_terms.proofs.Memories.{memory-push}
use Rattle.access_terms.proofs.Stored.{each-take}

-- ---- a block more

pub where_made : (t0 t1 : List Term) (b : SymBlock) (exists : TermId) → Keeps t0 t1 → IsSymBlock t0 b → IsTerm t1 1 exists → IsSymBlock t1 (record { number = b.number; exists = exists; size = b.size; align = b.align; places = b.places })
where_made t0 t1 b exists k h he = let later = sym_block-later t0 t1 k b h in record { numbered = h.numbered; exists = he; size = later.size; places = later.places }

pub copied_is : (memory new : List SymBlock) (b : SymBlock) (exists : TermId) (places : List SymByte) → places ≡ b.places
    → new ≡ memory ++ record { number = b.number; exists = exists; size = b.size; align = b.align; places = places } ∷ []
    → new ≡ memory ++ record { number = b.number; exists = exists; size = b.size; align = b.align; places = b.places } ∷ []
copied_is memory new b exists places same is = rw same at is

-- a block is added with the number of one of a memory whose numbers are above
pub above-grown : (most : ℕ) (xs picked picked' : List SymBlock) (i : ℕ) (x : SymBlock) → AreAbove most xs → i < length xs → x ≡ get_or xs i x → IsGrown picked picked' x.number → AreAbove most picked → AreAbove most picked'
above-grown most xs picked picked' i x hx lt at (b, is, same) h =
    let number = each-at (λ (y : SymBlock). most < y.number) xs i x hx lt at in
    subst (AreAbove most) (sym is) (each-push (λ (y : SymBlock). most < y.number) picked b h (rw same number))

-- a block's value has nothing of whether it is there
block-same : (r : Reading) (terms : List Term) (b : SymBlock) (exists : TermId) → block_at r terms (record { number = b.number; exists = exists; size = b.size; align = b.align; places = b.places }) ≡ block_at r terms b
unfolding block_at
block-same r terms b exists = refl

pub where_stands : (t0 t1 : List Term) (memory new : List SymBlock) (b : SymBlock) (c exists : TermId) (places : List SymByte) (r : Reading) → Keeps t0 t1 → AreSymBlocks t0 memory → IsSymBlock t0 b → places ≡ b.places
    → new ≡ memory ++ record { number = b.number; exists = exists; size = b.size; align = b.align; places = places } ∷ []
    → bit_at r.v t1 exists ≡ (bit_at r.v t0 c && bit_at r.v t0 b.exists)
    → memory_at r t1 new ≡ memory_at r t0 memory ++ cond (bit_at r.v t0 c && bit_at r.v t0 b.exists) (block_at r t0 b ∷ []) []
where_stands t0 t1 memory new b c exists places r k h hb copied is there =
    let x : SymBlock = record { number = b.number; exists = exists; size = b.size; align = b.align; places = b.places } in
    let is' : new ≡ memory ++ x ∷ [] = rw copied at is in
    let e_block : block_at r t1 x ≡ block_at r t0 b = block-same r t1 b exists ∙ block-later t0 t1 k r b hb in
    ap (memory_at r t1) is' ∙ (memory-push r t1 memory x ∙ rw (memory-later t0 t1 k r memory h, there, e_block) refl)

-- ---- two that are alike

pick-fields : (c : Bool) (name name' : BlockName) (size size' align align' : ℕ) (places places' : List Byte) → name ≡ name' → align ≡ align'
    → ◌≡◌ {A = MemoryBlock} (record { name = name; size = cond c size size'; align = align; places = cond c places places' })
    (cond c (record { name = name; size = size; align = align; places = places }) (record { name = name'; size = size'; align = align'; places = places' }))
pick-fields true name name' size size' align align' places places' e f = refl
pick-fields false name name' size size' align align' places places' e f = rw (e, f) refl

pick-parts : (c e e' : Bool) (x y : MemoryBlock) → cond (cond c e e') (cond c x y ∷ []) [] ≡ cond c (cond e (x ∷ []) []) (cond e' (y ∷ []) [])
pick-parts true e e' x y = refl
pick-parts false e e' x y = refl

pub either_made : (t1 t2 t3 : List Term) (a : SymBlock) (exists size : TermId) (places : List SymByte) → Keeps t1 t2 → Keeps t2 t3 → 0 < a.number → IsTerm t1 1 exists → IsTerm t2 64 size → AreSymBytes t3 places
    → IsSymBlock t3 (record { number = a.number; exists = exists; size = size; align = a.align; places = places })
either_made t1 t2 t3 a exists size places k2 k3 numbered he hs hp = record { numbered = numbered; exists = is_term-later t1 t3 (keeps_trans t1 t2 t3 k2 k3) 1 exists he; size = is_term-later t2 t3 k3 64 size hs; places = hp }

pub either_stands : (t0 t1 t2 t3 : List Term) (memory new : List SymBlock) (a b : SymBlock) (c exists size : TermId) (places : List SymByte) (m n : ℕ) (r : Reading) → Keeps t0 t1 → Keeps t1 t2 → Keeps t2 t3
    → IsTerm t0 1 c → IsSymBlock t0 a → IsSymBlock t0 b → AreAlike a b → AreSymBlocks t0 memory
    → new ≡ memory ++ record { number = a.number; exists = exists; size = size; align = a.align; places = places } ∷ []
    → Makes t1 exists m (λ v. cond (bit_at v t0 c) (term_at v t0 a.exists) (term_at v t0 b.exists))
    → Makes t2 size n (λ v. cond (bit_at v t1 c) (term_at v t1 a.size) (term_at v t1 b.size))
    → places_at r t3 places ≡ cond (bit_at r.v t2 c) (places_at r t2 a.places) (places_at r t2 b.places)
    → memory_at r t3 new ≡ memory_at r t0 memory ++ cond (bit_at r.v t0 c) (part_at r t0 a) (part_at r t0 b)
unfolding block_at
either_stands t0 t1 t2 t3 memory new a b c exists size places m n r k1 k2 k3 hc ha hb alike h is me ms so =
    let x : SymBlock = record { number = a.number; exists = exists; size = size; align = a.align; places = places } in
    let k02 = keeps_trans t0 t1 t2 k1 k2 in
    let C = bit_at r.v t0 c in
    let e_exists : bit_at r.v t3 exists ≡ cond C (bit_at r.v t0 a.exists) (bit_at r.v t0 b.exists) =
    bit-later t1 t3 (keeps_trans t1 t2 t3 k2 k3) r.v exists me.within ∙ (ap truth (me.says r.v) ∙ truth-cond C (term_at r.v t0 a.exists) (term_at r.v t0 b.exists)) in
    let e_size : term_at r.v t3 size ≡ cond C (term_at r.v t0 a.size) (term_at r.v t0 b.size) =
    term-later t2 t3 k3 r.v size ms.within ∙ (ms.says r.v ∙ rw (bit-later t0 t1 k1 r.v c hc.within, term-later t0 t1 k1 r.v a.size ha.size.within, term-later t0 t1 k1 r.v b.size hb.size.within) refl) in
    let e_places : places_at r t3 places ≡ cond C (places_at r t0 a.places) (places_at r t0 b.places) =
    so ∙ rw (bit-later t0 t2 k02 r.v c hc.within, places-later t0 t2 k02 r a.places ha.places, places-later t0 t2 k02 r b.places hb.places) refl in
    let e_block : block_at r t3 x ≡ cond C (block_at r t0 a) (block_at r t0 b) =
    rw (e_size, e_places) (pick-fields C (r.name a.number) (r.name b.number) (term_at r.v t0 a.size) (term_at r.v t0 b.size) a.align b.align (places_at r t0 a.places) (places_at r t0 b.places) (ap r.name alike.number) alike.align) in
    let e_part : part_at r t3 x ≡ cond C (part_at r t0 a) (part_at r t0 b) =
    ap (λ z. cond z (block_at r t3 x ∷ []) []) e_exists ∙ (ap (λ z. cond (cond C (bit_at r.v t0 a.exists) (bit_at r.v t0 b.exists)) (z ∷ []) []) e_block
    ∙ pick-parts C (bit_at r.v t0 a.exists) (bit_at r.v t0 b.exists) (block_at r t0 a) (block_at r t0 b)) in
    ap (memory_at r t3) is ∙ (memory-push r t3 memory x ∙ (ap (λ z. z ++ part_at r t3 x) (memory-later t0 t3 (keeps_trans t0 t2 t3 k02 k3) r memory h) ∙ ap (λ z. memory_at r t0 memory ++ z) e_part))

-- ---- one step

memory-more : (r : Reading) (terms : List Term) (xs : List SymBlock) (i : ℕ) (x : SymBlock) → i < length xs → x ≡ get_or xs i x → memory_at r terms (take (i + 1) xs) ≡ memory_at r terms (take i xs) ++ part_at r terms x
memory-more r terms xs i x lt is = ap (memory_at r terms) (take-push xs i x lt is) ∙ memory-push r terms (take i xs) x

first-more : (c e : Bool) (xs ys zs : List MemoryBlock) → cond c xs ys ++ cond (c && e) zs [] ≡ cond c (xs ++ cond e zs []) ys
first-more true e xs ys zs = refl
first-more false e xs ys zs = append-nil ys

second-more : (c e : Bool) (xs ys zs : List MemoryBlock) → cond c xs ys ++ cond (not c && e) zs [] ≡ cond c xs (ys ++ cond e zs [])
second-more true e xs ys zs = append-nil xs
second-more false e xs ys zs = refl

both-more : (c : Bool) (xs ys zs ws : List MemoryBlock) → cond c xs ys ++ cond c zs ws ≡ cond c (xs ++ zs) (ys ++ ws)
both-more true xs ys zs ws = refl
both-more false xs ys zs ws = refl

pub joined_first : (r : Reading) (old new : List Term) (c : TermId) (a b picked picked' : List SymBlock) (i j : ℕ) (x : SymBlock) → i < length a → x ≡ get_or a i x
    → memory_at r new picked' ≡ memory_at r old picked ++ cond (bit_at r.v old c && bit_at r.v old x.exists) (block_at r old x ∷ []) []
    → IsJoined r old old c a b (record { first = i; second = j }) picked → IsJoined r old new c a b (record { first = i + 1; second = j }) picked'
joined_first r old new c a b picked picked' i j x lt at is so =
    is ∙ rw (so, memory-more r old a i x lt at) (first-more (bit_at r.v old c) (bit_at r.v old x.exists) (memory_at r old (take i a)) (memory_at r old (take j b)) (block_at r old x ∷ []))

pub joined_second : (r : Reading) (old mid new : List Term) (c not_c : TermId) (a b picked picked' : List SymBlock) (i j : ℕ) (x : SymBlock) → Keeps old mid → AreSymBlocks old picked → IsSymBlock old x → j < length b → x ≡ get_or b j x
    → bit_at r.v mid not_c ≡ not (bit_at r.v old c)
    → memory_at r new picked' ≡ memory_at r mid picked ++ cond (bit_at r.v mid not_c && bit_at r.v mid x.exists) (block_at r mid x ∷ []) []
    → IsJoined r old old c a b (record { first = i; second = j }) picked → IsJoined r old new c a b (record { first = i; second = j + 1 }) picked'
joined_second r old mid new c not_c a b picked picked' i j x k hp hx lt at e_not is so =
    is ∙ rw (memory-later old mid k r picked hp, e_not, bit-later old mid k r.v x.exists hx.exists.within, block-later old mid k r x hx, so, memory-more r old b j x lt at)
    (second-more (bit_at r.v old c) (bit_at r.v old x.exists) (memory_at r old (take i a)) (memory_at r old (take j b)) (block_at r old x ∷ []))

pub joined_both : (r : Reading) (old new : List Term) (c : TermId) (a b picked picked' : List SymBlock) (i j : ℕ) (x y : SymBlock) → i < length a → x ≡ get_or a i x → j < length b → y ≡ get_or b j y
    → memory_at r new picked' ≡ memory_at r old picked ++ cond (bit_at r.v old c) (part_at r old x) (part_at r old y)
    → IsJoined r old old c a b (record { first = i; second = j }) picked → IsJoined r old new c a b (record { first = i + 1; second = j + 1 }) picked'
joined_both r old new c a b picked picked' i j x y lt at lt' at' is so =
    is ∙ rw (so, memory-more r old a i x lt at, memory-more r old b j y lt' at')
    (both-more (bit_at r.v old c) (memory_at r old (take i a)) (memory_at r old (take j b)) (part_at r old x) (part_at r old y))

-- ---- all steps

-- what was read under earlier terms is read under later ones
either-later : (r : Reading) (old mid : List Term) (c : TermId) (a b : List SymBlock) (joined : Joined) → Keeps old mid → IsTerm old 1 c → AreSymBlocks old a → AreSymBlocks old b
    → cond (bit_at r.v mid c) (memory_at r mid (take joined.first a)) (memory_at r mid (take joined.second b)) ≡ cond (bit_at r.v old c) (memory_at r old (take joined.first a)) (memory_at r old (take joined.second b))
either-later r old mid c a b joined k hc ha hb =
    rw (bit-later old mid k r.v c hc.within, memory-later old mid k r (take joined.first a) (each-take (IsSymBlock old) a joined.first ha), memory-later old mid k r (take joined.second b) (each-take (IsSymBlock old) b joined.second hb)) refl

pub joined_more : (r : Reading) (old mid new : List Term) (c : TermId) (a b picked picked' : List SymBlock) (joined joined' : Joined) → Keeps old mid → IsTerm old 1 c → AreSymBlocks old a → AreSymBlocks old b
    → (IsJoined r mid mid c a b joined picked → IsJoined r mid new c a b joined' picked') → IsJoined r old mid c a b joined picked → IsJoined r old new c a b joined' picked'
joined_more r old mid new c a b picked picked' joined joined' k hc ha hb step so =
    step (so ∙ sym (either-later r old mid c a b joined k hc ha hb)) ∙ either-later r old mid c a b joined' k hc ha hb
