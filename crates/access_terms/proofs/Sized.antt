-- The size of the block that a number names.
use Rattle.access_terms.proofs.Common.{ℕ, suc, ◌≡◌, ◌<◌, Bool, true, false, ◌&&◌, cond, List, length, drop, get_or, Option, Some, refl, ap, sym, ◌∙◌, MemoryBlock, block_named, block_size, bytes_named, bytes_or_none, names, TermId, Term, Keeps, IsTerm, Makes, bit_at, term_at, SymBlock, Reading, IsSymBlock, block_at, memory_at, keeps_trans, bit-later, term-later, block-later}
use Rattle.access_terms.proofs.Finding.{block_named-front, memory-front}

cond-numbers : (c c' : Bool) (x x' y y' : ℕ) → c ≡ c' → x ≡ x' → y ≡ y' → cond c x y ≡ cond c' x' y'
cond-numbers c c' x x' y y' e e1 e2 = rw (e, e1, e2) refl

pub size_with_is : (a b d e : List Term) (block : TermId) (x : SymBlock) (named here later id : TermId) (n : ℕ) → Keeps a b → Keeps b d → IsTerm a 64 block → IsSymBlock a x → IsTerm a 64 later → IsTerm b 1 named
    → Makes e id n (λ v. cond (bit_at v d named) (term_at v d here) (term_at v d later)) → (r : Reading)
    → bit_at r.v b named ≡ (bit_at r.v a x.exists && names (r.name (term_at r.v a block)) (block_at r a x))
    → term_at r.v d here ≡ block_size (block_at r b x)
    → term_at r.v e id ≡ cond (bit_at r.v a x.exists && names (r.name (term_at r.v a block)) (block_at r a x)) (block_size (block_at r a x)) (term_at r.v a later)
size_with_is a b d e block x named here later id n kb kd hs hx hl hn m r is there =
    let e_here : term_at r.v d here ≡ block_size (block_at r a x) = there ∙ ap (λ (z : MemoryBlock). block_size z) (block-later a b kb r x hx) in
    m.says r.v ∙ cond-numbers (bit_at r.v d named) _ (term_at r.v d here) _ (term_at r.v d later) _ (bit-later b d kd r.v named hn.within ∙ is) e_here (term-later a d (keeps_trans a b d kb kd) r.v later hl.within)

size-choice : (c : Bool) (block : MemoryBlock) (rest : Option MemoryBlock) → cond c (block_size block) (length (bytes_or_none rest)) ≡ length (bytes_or_none (cond c (Some block) rest))
size-choice true block rest = refl
size-choice false block rest = refl

pub size_front : (old a d : List Term) (id : TermId) (memory : List SymBlock) (n i : ℕ) (b : SymBlock) (x y : TermId) → n ≡ suc i → i < length memory → b ≡ get_or memory i b
    → IsTerm old 64 id → IsSymBlock old b → Keeps old a → (r : Reading)
    → term_at r.v a x ≡ length (bytes_named (memory_at r old (drop n memory)) (r.name (term_at r.v old id)))
    → term_at r.v d y ≡ cond (bit_at r.v a b.exists && names (r.name (term_at r.v a id)) (block_at r a b)) (block_size (block_at r a b)) (term_at r.v a x)
    → term_at r.v d y ≡ length (bytes_named (memory_at r old (drop i memory)) (r.name (term_at r.v old id)))
size_front old a d id memory n i b x y e lt is hs hb k r before after =
    let name = r.name (term_at r.v old id) in
    let rest = memory_at r old (drop n memory) in
    let block = block_at r old b in
    let e_bit = bit-later old a k r.v b.exists hb.exists.within in
    let e_name : r.name (term_at r.v a id) ≡ name = ap r.name (term-later old a k r.v id hs.within) in
    let e_block = block-later old a k r b hb in
    after
    ∙ (rw (e_bit, e_name, e_block, before) (size-choice (bit_at r.v old b.exists && names name block) block (block_named rest name))
    ∙ ap (λ z. length (bytes_or_none z)) (sym (ap (λ z. block_named z name) (memory-front r old memory n i b e lt is) ∙ block_named-front name (bit_at r.v old b.exists) block rest)))
