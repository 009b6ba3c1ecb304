-- The first block that an access names, and its bytes.
use Rattle.access_terms.proofs.Common.{cases_Bool, ℕ, zero, suc, ◌≡◌, ◌<◌, ◌≤◌, Bool, true, false, not, ◌&&◌, cond, List, [], ◌∷◌, length, take, drop, get_or, Option, Some, None, inl, inr, refl, ap, sym, subst, ◌∙◌, arith, BlockName, Byte, Value, MemoryBlock, Access, names, block_bytes, block_named, bytes_named, access_size, value_of_bytes, admits, load_result, TermId, Term, truth, Keeps, IsTerm, Makes, bit_at, term_at, SymByte, SymValue, SymBlock, IsSymValue, Reading, value_at, value_of, AreSymBlocks, AreSymBytes, IsSymBlock, block_at, memory_at, places_at, keeps_trans, bit-later, term-later, block-later, memory-later, places-later, sym_bytes-later, Span, bytes_from, loaded_at, AreSpanBytes, IsSpan, Reads, admits_span, block_of_span, span_name}
use Rattle.memory_access.specs.declared.access_types.Loaded.TheVariants as loaded

-- ---- blocks in order

pub block_named-front : (name : BlockName) (there : Bool) (b : MemoryBlock) (bs : List MemoryBlock)
    → block_named (cond there (b ∷ bs) bs) name ≡ cond (there && names name b) (Some b) (block_named bs name)
block_named-front name false b bs = refl
block_named-front name true b bs = elim (cases_Bool (names name b)) [ inl t ↦ rw t refl | inr f ↦ rw f refl ]

pub drop-front : {A : Type 0} (xs : List A) (n i : ℕ) (x : A) → n ≡ suc i → i < length xs → x ≡ get_or xs i x → drop i xs ≡ x ∷ drop n xs
drop-front [] n i x e lt is = absurd (omega arith)
drop-front (y ∷ ys) n zero x e lt is = rw e (ap (λ z. z ∷ ys) (sym is))
drop-front (y ∷ ys) n (suc i) x e lt is = rw e (drop-front ys (suc i) i x refl (omega arith) is)

pub memory-front : (r : Reading) (terms : List Term) (xs : List SymBlock) (n i : ℕ) (x : SymBlock) → n ≡ suc i → i < length xs → x ≡ get_or xs i x
    → memory_at r terms (drop i xs) ≡ cond (bit_at r.v terms x.exists) (block_at r terms x ∷ memory_at r terms (drop n xs)) (memory_at r terms (drop n xs))
unfolding memory_at
memory-front r terms xs n i x e lt is = rw (drop-front xs n i x e lt is) refl

pub drop_all : {A : Type 0} (xs : List A) (i : ℕ) → length xs ≤ i → drop i xs ≡ []
drop_all [] zero h = refl
drop_all [] (suc i) h = refl
drop_all (x ∷ xs) zero h = absurd (omega arith)
drop_all (x ∷ xs) (suc i) h = drop_all xs i (omega arith)

pub memory-end : (r : Reading) (terms : List Term) (xs : List SymBlock) (i : ℕ) → length xs ≤ i → memory_at r terms (drop i xs) ≡ []
unfolding memory_at
memory-end r terms xs i h = rw (drop_all xs i h) refl

-- ---- spans

pub span_bytes-later : (old new : List Term) → Keeps old new → (s : Span) (found : Option (List SymByte)) → AreSpanBytes old s found → AreSpanBytes new s found
span_bytes-later old new k s None h = tt
span_bytes-later old new k s (Some bytes) h = (sym_bytes-later old new k bytes h.0, h.1)

pub name-later : (old new : List Term) → Keeps old new → (s : Span) → IsSpan old s → (r : Reading) → span_name r new s ≡ span_name r old s
name-later old new k s h r = ap r.name (term-later old new k r.v s.block h.block.within)

-- ---- whether the access is admitted

admits-choice : (c : Bool) (block : MemoryBlock) (rest : Option MemoryBlock) (offset n align : ℕ) → cond c (admits (Some block) offset n align) (admits rest offset n align) ≡ admits (cond c (Some block) rest) offset n align
admits-choice true block rest offset n align = refl
admits-choice false block rest offset n align = refl

pub admits_front : (old a d : List Term) (s : Span) (memory : List SymBlock) (n i : ℕ) (b : SymBlock) (x y : TermId) → n ≡ suc i → i < length memory → b ≡ get_or memory i b
    → IsSpan old s → IsSymBlock old b → Keeps old a → (r : Reading)
    → bit_at r.v a x ≡ admits_span r old s (block_of_span r old s (memory_at r old (drop n memory)))
    → bit_at r.v d y ≡ cond (bit_at r.v a b.exists && names (span_name r a s) (block_at r a b)) (admits_span r a s (Some (block_at r a b))) (bit_at r.v a x)
    → bit_at r.v d y ≡ admits_span r old s (block_of_span r old s (memory_at r old (drop i memory)))
admits_front old a d s memory n i b x y e lt is hs hb k r before after =
    let name = span_name r old s in
    let rest = memory_at r old (drop n memory) in
    let block = block_at r old b in
    let offset = term_at r.v old s.offset in
    let e_bit = bit-later old a k r.v b.exists hb.exists.within in
    let e_name = name-later old a k s hs r in
    let e_block = block-later old a k r b hb in
    let e_offset = term-later old a k r.v s.offset hs.offset.within in
    after
    ∙ (rw (e_bit, e_name, e_block, e_offset, before) (admits-choice (bit_at r.v old b.exists && names name block) block (block_named rest name) offset s.count s.align)
    ∙ ap (λ z. admits z offset s.count s.align) (sym (ap (λ z. block_named z name) (memory-front r old memory n i b e lt is) ∙ block_named-front name (bit_at r.v old b.exists) block rest)))

pub truth-cond : (c : Bool) (x y : ℕ) → truth (cond c x y) ≡ cond c (truth x) (truth y)
truth-cond true x y = refl
truth-cond false x y = refl

cond-same : (c c' x x' y y' : Bool) → c ≡ c' → x ≡ x' → y ≡ y' → cond c x y ≡ cond c' x' y'
cond-same c c' x x' y y' e e1 e2 = rw (e, e1, e2) refl

pub admits_with_is : (a b d e : List Term) (s : Span) (x : SymBlock) (named here later id : TermId) (n : ℕ) → Keeps a b → Keeps b d → IsSpan a s → IsSymBlock a x → IsTerm a 1 later → IsTerm b 1 named
    → Makes e id n (λ v. cond (bit_at v d named) (term_at v d here) (term_at v d later)) → (r : Reading)
    → bit_at r.v b named ≡ (bit_at r.v a x.exists && names (span_name r a s) (block_at r a x))
    → bit_at r.v d here ≡ admits (Some (block_at r b x)) (term_at r.v b s.offset) s.count s.align
    → bit_at r.v e id ≡ cond (bit_at r.v a x.exists && names (span_name r a s) (block_at r a x)) (admits (Some (block_at r a x)) (term_at r.v a s.offset) s.count s.align) (bit_at r.v a later)
admits_with_is a b d e s x named here later id n kb kd hs hx hl hn m r is there =
    let e_block = block-later a b kb r x hx in
    let e_offset = term-later a b kb r.v s.offset hs.offset.within in
    let e_here : bit_at r.v d here ≡ admits (Some (block_at r a x)) (term_at r.v a s.offset) s.count s.align =
    there ∙ (ap (λ (z : MemoryBlock). admits (Some z) (term_at r.v b s.offset) s.count s.align) e_block ∙ ap (λ (o : ℕ). admits (Some (block_at r a x)) o s.count s.align) e_offset) in
    ap truth (m.says r.v) ∙ (truth-cond (bit_at r.v d named) (term_at r.v d here) (term_at r.v d later)
    ∙ cond-same (bit_at r.v d named) _ (bit_at r.v d here) _ (bit_at r.v d later) _ (bit-later b d kd r.v named hn.within ∙ is) e_here (bit-later a d (keeps_trans a b d kb kd) r.v later hl.within))

-- ---- its bytes

-- where no block that is there has the name, what was read stays read
reads-skip : (r : Reading) (terms : List Term) (name : BlockName) (offset n align : ℕ) (there : Bool) (b : MemoryBlock) (memory : List MemoryBlock) (found : Option (List SymByte)) → (there && names name b) ≡ false
    → Reads r terms name offset n align memory found → Reads r terms name offset n align (cond there (b ∷ memory) memory) found
reads-skip r terms name offset n align there b memory None none h = rw (block_named-front name there b memory, none) h
reads-skip r terms name offset n align there b memory (Some bytes) none h = rw (block_named-front name there b memory, none) h

pub reads-later : (old new : List Term) → Keeps old new → (r : Reading) (s : Span) (name : BlockName) (offset n align : ℕ) (memory : List MemoryBlock) (found : Option (List SymByte)) → AreSpanBytes old s found
    → Reads r old name offset n align memory found → Reads r new name offset n align memory found
reads-later old new k r s name offset n align memory None made h = h
reads-later old new k r s name offset n align memory (Some bytes) made h = λ admitted. places-later old new k r bytes made.0 ∙ h admitted

-- the bytes are those of the block if it is the first, and else those of later blocks
reads-here : (r : Reading) (terms : List Term) (name : BlockName) (offset n align : ℕ) (there : Bool) (b : MemoryBlock) (memory : List MemoryBlock) (bytes : List SymByte) (c : Bool) → (there && names name b) ≡ c
    → (c ≡ true → admits (Some b) offset n align ≡ true → places_at r terms bytes ≡ take n (drop offset (block_bytes b)))
    → (c ≡ false → admits (block_named memory name) offset n align ≡ true → places_at r terms bytes ≡ take n (drop offset (bytes_named memory name)))
    → Reads r terms name offset n align (cond there (b ∷ memory) memory) (Some bytes)
reads-here r terms name offset n align there b memory bytes true e first later = rw (block_named-front name there b memory, e) (first refl)
reads-here r terms name offset n align there b memory bytes false e first later = rw (block_named-front name there b memory, e) (later refl)

never : (c : Bool) {P : Type 0} → c ≡ false → c ≡ true → P
never c e e' = absurd (cc)

module _ (a b d : List Term) (s : Span) (x : SymBlock) (named : TermId) (here : List SymByte) (kb : Keeps a b) (kd : Keeps b d) (hs : IsSpan a s) (hx : IsSymBlock a x) (r : Reading)
    (is : bit_at r.v b named ≡ (bit_at r.v a x.exists && names (span_name r a s) (block_at r a x))) where
  -- nothing is named
  pub reads_never : (found : Option (List SymByte)) → AreSpanBytes a s found → bit_at r.v b named ≡ false → (memory : List MemoryBlock) → Reads r a (span_name r a s) (term_at r.v a s.offset) s.count s.align memory found
      → Reads r b (span_name r a s) (term_at r.v a s.offset) s.count s.align (cond (bit_at r.v a x.exists) (block_at r a x ∷ memory) memory) found
  reads_never found made none memory h =
      reads-skip r b (span_name r a s) (term_at r.v a s.offset) s.count s.align (bit_at r.v a x.exists) (block_at r a x) memory found (sym is ∙ none)
      (reads-later a b kb r s (span_name r a s) (term_at r.v a s.offset) s.count s.align memory found made h)

  abbrev HereReads : Type 0
  HereReads = admits (Some (block_at r b x)) (term_at r.v b s.offset) s.count s.align ≡ true → places_at r d here ≡ bytes_from r b x s.offset s.count

  here-old : HereReads → admits (Some (block_at r a x)) (term_at r.v a s.offset) s.count s.align ≡ true → places_at r d here ≡ take s.count (drop (term_at r.v a s.offset) (block_bytes (block_at r a x)))
  here-old h = rw (block-later a b kb r x hx, term-later a b kb r.v s.offset hs.offset.within) at h

  -- it is the first block that may be named
  pub reads_one : HereReads → (memory : List MemoryBlock) → Reads r a (span_name r a s) (term_at r.v a s.offset) s.count s.align memory None
      → Reads r d (span_name r a s) (term_at r.v a s.offset) s.count s.align (cond (bit_at r.v a x.exists) (block_at r a x ∷ memory) memory) (Some here)
  reads_one h memory none =
      reads-here r d (span_name r a s) (term_at r.v a s.offset) s.count s.align (bit_at r.v a x.exists) (block_at r a x) memory here (bit_at r.v b named) (sym is)
      (λ _. here-old h) (λ _ admitted. never (admits (block_named memory (span_name r a s)) (term_at r.v a s.offset) s.count s.align) none admitted)

  -- others may be
  pub reads_either : HereReads → (e : List Term) (picked later : List SymByte) → AreSymBytes a later → named.index < length b → ((r : Reading) → places_at r e picked ≡ cond (bit_at r.v d named) (places_at r d here) (places_at r d later))
      → (memory : List MemoryBlock) → Reads r a (span_name r a s) (term_at r.v a s.offset) s.count s.align memory (Some later)
      → Reads r e (span_name r a s) (term_at r.v a s.offset) s.count s.align (cond (bit_at r.v a x.exists) (block_at r a x ∷ memory) memory) (Some picked)
  reads_either h e picked later hl within picks memory so =
      let same = bit-later b d kd r.v named within in
      reads-here r e (span_name r a s) (term_at r.v a s.offset) s.count s.align (bit_at r.v a x.exists) (block_at r a x) memory picked (bit_at r.v b named) (sym is)
      (λ t admitted. picks r ∙ rw (same, t) (here-old h admitted))
      (λ f admitted. picks r ∙ rw (same, f) (places-later a d (keeps_trans a b d kb kd) r later hl ∙ so admitted))

reads-same : (r : Reading) (terms : List Term) (name name' : BlockName) (offset offset' n align : ℕ) (memory memory' : List MemoryBlock) (found : Option (List SymByte)) → name ≡ name' → offset ≡ offset' → memory ≡ memory'
    → Reads r terms name offset n align memory found → Reads r terms name' offset' n align memory' found
reads-same r terms name name' offset offset' n align memory memory' found e_name e_offset e_memory h =
    subst (λ m. Reads r terms name' offset' n align m found) e_memory (subst (λ o. Reads r terms name' o n align memory found) e_offset (subst (λ x. Reads r terms x offset n align memory found) e_name h))

pub reads_front : (old a d : List Term) (s : Span) (memory : List SymBlock) (n i : ℕ) (b : SymBlock) (found found' : Option (List SymByte)) → n ≡ suc i → i < length memory → b ≡ get_or memory i b
    → IsSpan old s → IsSymBlock old b → Keeps old a → (r : Reading)
    → Reads r a (span_name r old s) (term_at r.v old s.offset) s.count s.align (memory_at r old (drop n memory)) found
    → ((rest : List MemoryBlock) → Reads r a (span_name r a s) (term_at r.v a s.offset) s.count s.align rest found
    → Reads r d (span_name r a s) (term_at r.v a s.offset) s.count s.align (cond (bit_at r.v a b.exists) (block_at r a b ∷ rest) rest) found')
    → Reads r d (span_name r old s) (term_at r.v old s.offset) s.count s.align (memory_at r old (drop i memory)) found'
reads_front old a d s memory n i b found found' e lt is hs hb k r before step =
    let rest = memory_at r old (drop n memory) in
    let e_name = name-later old a k s hs r in
    let e_offset = term-later old a k r.v s.offset hs.offset.within in
    let e_memory : cond (bit_at r.v a b.exists) (block_at r a b ∷ rest) rest ≡ memory_at r old (drop i memory) =
    rw (bit-later old a k r.v b.exists hb.exists.within, block-later old a k r b hb) (sym (memory-front r old memory n i b e lt is)) in
    reads-same r d (span_name r a s) (span_name r old s) (term_at r.v a s.offset) (term_at r.v old s.offset) s.count s.align _ _ found' e_name e_offset e_memory
    (step rest (reads-same r a (span_name r old s) (span_name r a s) (term_at r.v old s.offset) (term_at r.v a s.offset) s.count s.align rest rest found (sym e_name) (sym e_offset) refl before))

-- ---- loads

pub load_is : (p q : Bool) (name : BlockName) (n : ℕ) (memory : List MemoryBlock) (access : Access) (align : ℕ) (defined : Bool) (bytes : List Byte) (v : Value)
    → defined ≡ (not p && (q && admits (block_named memory name) n (access_size access) align))
    → (admits (block_named memory name) n (access_size access) align ≡ true → bytes ≡ take (access_size access) (drop n (bytes_named memory name)))
    → v ≡ value_of_bytes access bytes
    → cond defined (loaded.Done v) loaded.Ub ≡ load_result memory (value_of p q name n) access align
load_is true q name n memory access align defined bytes v e h is = rw e refl
load_is false false name n memory access align defined bytes v e h is = rw e refl
load_is false true name n memory access align defined bytes v e h is =
    elim (cases_Bool (admits (block_named memory name) n (access_size access) align)) [ inl t ↦ rw (e, t, is, h t) refl | inr f ↦ rw (e, f) refl ]

pub load_stands : (t0 t1 t2 t3 t4 : List Term) (memory : List SymBlock) (at : SymValue) (access : Access) (align count : ℕ) (admitted defined : TermId) (bytes : List SymByte) (value : SymValue)
    → Keeps t0 t1 → Keeps t1 t2 → Keeps t2 t3 → Keeps t3 t4 → AreSymBlocks t0 memory → IsSymValue t0 at → IsTerm t2 1 defined → count ≡ access_size access → (r : Reading)
    → bit_at r.v t1 admitted ≡ admits (block_named (memory_at r t0 memory) (r.name (term_at r.v t0 at.block))) (term_at r.v t0 at.number) count align
    → bit_at r.v t2 defined ≡ (not (bit_at r.v t1 at.poison) && (bit_at r.v t1 at.is_pointer && bit_at r.v t1 admitted))
    → (admits (block_named (memory_at r t2 memory) (r.name (term_at r.v t2 at.block))) (term_at r.v t2 at.number) count align ≡ true
    → places_at r t3 bytes ≡ take count (drop (term_at r.v t2 at.number) (bytes_named (memory_at r t2 memory) (r.name (term_at r.v t2 at.block)))))
    → value_at r t4 value ≡ value_of_bytes access (places_at r t3 bytes)
    → loaded_at r t4 (record { is_defined = defined; value = value }) ≡ load_result (memory_at r t0 memory) (value_at r t0 at) access align
unfolding value_at
load_stands t0 t1 t2 t3 t4 memory at access align count admitted defined bytes value k1 k2 k3 k4 hm ha hd e_count r is_admitted is_defined' reads is_value =
    let k02 = keeps_trans t0 t1 t2 k1 k2 in
    let e_memory = memory-later t0 t2 k02 r memory hm in
    let e_block = term-later t0 t2 k02 r.v at.block ha.block.within in
    let e_number = term-later t0 t2 k02 r.v at.number ha.number.within in
    let e_poison = bit-later t0 t1 k1 r.v at.poison ha.poison.within in
    let e_pointer = bit-later t0 t1 k1 r.v at.is_pointer ha.is_pointer.within in
    load_is (bit_at r.v t0 at.poison) (bit_at r.v t0 at.is_pointer) (r.name (term_at r.v t0 at.block)) (term_at r.v t0 at.number) (memory_at r t0 memory) access align (bit_at r.v t4 defined) (places_at r t3 bytes) (value_at r t4 value)
    (bit-later t2 t4 (keeps_trans t2 t3 t4 k3 k4) r.v defined hd.within ∙ (is_defined' ∙ rw (e_poison, e_pointer, is_admitted, e_count) refl))
    (rw (e_count, e_memory, e_block, e_number) at reads) is_value
