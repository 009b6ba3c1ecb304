-- Memories made of parts.
use Rattle.access_terms.proofs.Common.{ℕ, ◌≡◌, Bool, true, false, cond, List, [], ◌∷◌, ◌++◌, refl, ap, sym, subst, ◌∙◌, MemoryBlock, Term, TermId, Keeps, bit_at, term_at, SymBlock, Reading, Byte, SymByte, AreSymBlocks, IsSymBlock, block_at, memory_at, places_at, part_at, each-push, memory-later, sym_blocks-later}

cond-front-more : (c : Bool) (x : MemoryBlock) (xs ys : List MemoryBlock) → cond c (x ∷ xs ++ ys) (xs ++ ys) ≡ cond c (x ∷ xs) xs ++ ys
cond-front-more true x xs ys = refl
cond-front-more false x xs ys = refl

pub memory-append : (r : Reading) (terms : List Term) (xs ys : List SymBlock) → memory_at r terms (xs ++ ys) ≡ memory_at r terms xs ++ memory_at r terms ys
unfolding memory_at
memory-append r terms [] ys = refl
memory-append r terms (x ∷ xs) ys = rw (memory-append r terms xs ys) (cond-front-more (bit_at r.v terms x.exists) (block_at r terms x) (memory_at r terms xs) (memory_at r terms ys))

pub memory-push : (r : Reading) (terms : List Term) (xs : List SymBlock) (x : SymBlock) → memory_at r terms (xs ++ x ∷ []) ≡ memory_at r terms xs ++ part_at r terms x
unfolding memory_at
memory-push r terms xs x = memory-append r terms xs (x ∷ [])

-- a block that is there comes last
pub memory-push-there : (r : Reading) (terms : List Term) (xs : List SymBlock) (x : SymBlock) → bit_at r.v terms x.exists ≡ true
    → memory_at r terms (xs ++ x ∷ []) ≡ memory_at r terms xs ++ block_at r terms x ∷ []
memory-push-there r terms xs x e = memory-push r terms xs x ∙ rw e refl

-- ---- one more block

pub pushed_made : (t0 t1 : List Term) (memory new : List SymBlock) (x : SymBlock) → Keeps t0 t1 → AreSymBlocks t0 memory → IsSymBlock t1 x → new ≡ memory ++ x ∷ [] → AreSymBlocks t1 new
pushed_made t0 t1 memory new x k h hx is = subst (AreSymBlocks t1) (sym is) (each-push (IsSymBlock t1) memory x (sym_blocks-later t0 t1 k memory h) hx)

pub alloca_stands : (old new : List Term) (memory memory' : List SymBlock) (x : SymBlock) (r : Reading) → Keeps old new → AreSymBlocks old memory → memory' ≡ memory ++ x ∷ [] → bit_at r.v new x.exists ≡ true
    → (block : MemoryBlock) → block_at r new x ≡ block → memory_at r new memory' ≡ memory_at r old memory ++ block ∷ []
alloca_stands old new memory memory' x r k h is there block e =
    ap (memory_at r new) is ∙ (memory-push-there r new memory x there ∙ rw (memory-later old new k r memory h, e) refl)

pub new_block : (r : Reading) (terms : List Term) (number align n : ℕ) (exists size : TermId) (places : List SymByte) → term_at r.v terms size ≡ n → (bytes : List Byte) → places_at r terms places ≡ bytes
    → block_at r terms (record { number = number; exists = exists; size = size; align = align; places = places }) ≡ record { name = r.name number; size = n; align = align; places = bytes }
unfolding block_at
new_block r terms number align n exists size places e bytes e' = rw (e, e') refl
