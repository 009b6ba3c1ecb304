-- The memory that a store leaves.
use Rattle.access_terms.proofs.Common.{cases_Bool, append-nil, ℕ, zero, suc, ◌≡◌, ◌<◌, ◌≤◌, ◌+◌, Bool, true, false, not, ◌&&◌, cond, List, [], ◌∷◌, ◌++◌, length, take, drop, get_or, slice_get, slice_set, map, Some, Result, Ok, Err, OnOk, inl, inr, refl, ap, sym, ◌∙◌, arith, add-one, append_assoc, BlockName, Byte, MemoryBlock, Value, Access, access_size, value_bytes, names, block_named, admits, after_store, first_changed, overwritten, store_result, TermId, Term, Keeps, IsTerm, bit_at, term_at, SymBlock, SymByte, SymValue, Each, IsSymValue, Reading, value_at, value_of, AreSymBlocks, AreSymBytes, IsSymBlock, block_at, byte_at, memory_at, places_at, map-length, keeps_trans, bit-later, term-later, block-later, memory-later, places-later, value-later, Span, stored_at, IsSpan, admits_span, block_of_span, is_named_by, span_name, not-true}
use Rattle.byte_block.specs.declared.value.BlockName.TheVariants.{Null}
use Rattle.memory_access.specs.declared.access_types.Stored.TheVariants as stored
use Rattle.memory_access.proofs.Values.{length-value_bytes}
use Rattle.byte_terms.proofs.ByteLists.{take_all}
use Rattle.access_terms.proofs.Finding.{block_named-front, memory-end, memory-front, name-later}
use Rattle.access_terms.proofs.Memories.{memory-push}

-- ---- the first that passes a test is changed

-- one block of the rest goes over to what is written
changed-front : (t : MemoryBlock → Bool) (f : MemoryBlock → MemoryBlock) (whole before rest : List MemoryBlock) (first there named : Bool) (b b' : MemoryBlock) → t b ≡ named
    → whole ≡ before ++ cond first (first_changed t f (cond there (b ∷ rest) rest)) (cond there (b ∷ rest) rest)
    → ((first && (there && named)) ≡ false → b' ≡ b) → ((first && (there && named)) ≡ true → b' ≡ f b)
    → whole ≡ (before ++ cond there (b' ∷ []) []) ++ cond (first && not (there && named)) (first_changed t f rest) rest
unfolding first_changed
changed-front t f whole before rest false true named b b' e is stays goes = rw (stays refl, append_assoc before (b ∷ []) rest) is
changed-front t f whole before rest false false named b b' e is stays goes = rw (append_assoc before [] rest) is
changed-front t f whole before rest true false named b b' e is stays goes = rw (append_assoc before [] (first_changed t f rest)) is
changed-front t f whole before rest true true true b b' e is stays goes = rw (goes refl, append_assoc before (f b ∷ []) rest) (rw e at is)
changed-front t f whole before rest true true false b b' e is stays goes = rw (stays refl, append_assoc before (b ∷ []) (first_changed t f rest)) (rw e at is)

-- ---- the blocks up to an index are written

pub record IsWritten (r : Reading) (old new : List Term) (s : Span) (bytes : List Byte) (memory memory' : List SymBlock) (i : ℕ) (first : Bool) : Type 0 where
  pub is : first_changed (names (span_name r old s)) (overwritten bytes (term_at r.v old s.offset)) (memory_at r old memory)
      ≡ memory_at r new (take i memory') ++ cond first (first_changed (names (span_name r old s)) (overwritten bytes (term_at r.v old s.offset)) (memory_at r old (drop i memory))) (memory_at r old (drop i memory))
  pub admitted : first ≡ true → admits_span r old s (block_of_span r old s (memory_at r old (drop i memory))) ≡ true

pub written-none : (r : Reading) (old new : List Term) (s : Span) (bytes : List Byte) (memory : List SymBlock) (first : Bool) → first ≡ true → admits_span r old s (block_of_span r old s (memory_at r old memory)) ≡ true
    → IsWritten r old new s bytes memory memory 0 first
unfolding memory_at
written-none r old new s bytes memory first e h = record { is = rw e refl; admitted = λ _. h }

cond-nil : (c : Bool) (xs ys : List MemoryBlock) → xs ≡ [] → ys ≡ [] → cond c xs ys ≡ []
cond-nil true xs ys e e' = e
cond-nil false xs ys e e' = e'

pub and-left : (a b : Bool) → (a && b) ≡ true → a ≡ true
and-left true b e = refl
and-left false b e = e

pub and-right : (a b : Bool) → (a && b) ≡ true → b ≡ true
and-right true b e = e
and-right false b e = absurd (cc)

pub each-take : {A : Type 0} (P : A → Type 0) (xs : List A) (i : ℕ) → Each P xs → Each P (take i xs)
each-take P xs zero h = tt
each-take P [] (suc i) h = tt
each-take P (x ∷ xs) (suc i) h = (h.0, each-take P xs i h.1)

-- an item that replaces another and keeps what it keeps
pub map-set-same : {A B : Type 0} (f : A → B) (xs : List A) (i : ℕ) (x y : A) → y ≡ get_or xs i y → f x ≡ f y → map f (slice_set xs i x) ≡ map f xs
map-set-same f [] i x y at same = refl
map-set-same f (z ∷ zs) zero x y at same = ap (λ w. w ∷ map f zs) (same ∙ ap f at)
map-set-same f (z ∷ zs) (suc i) x y at same = ap (λ ws. f z ∷ ws) (map-set-same f zs i x y at same)

take-set : (xs : List SymBlock) (i : ℕ) (x : SymBlock) → i < length xs → take (i + 1) (slice_set xs i x) ≡ take i xs ++ x ∷ []
take-set [] i x lt = absurd (omega arith)
take-set (y ∷ ys) zero x lt = refl
take-set (y ∷ ys) (suc i) x lt = rw add-one (ap (λ zs. y ∷ zs) (rw add-one at (take-set ys i x (omega arith))))

pub drop-set : (xs : List SymBlock) (i : ℕ) (x : SymBlock) → drop (i + 1) (slice_set xs i x) ≡ drop (i + 1) xs
drop-set [] i x = refl
drop-set (y ∷ ys) zero x = refl
drop-set (y ∷ ys) (suc i) x = rw add-one (rw add-one at (drop-set ys i x))

pub drop-one : (xs ys : List SymBlock) (i : ℕ) → drop i xs ≡ drop i ys → drop (i + 1) xs ≡ drop (i + 1) ys
drop-one xs ys i e = drop-more xs i ∙ (ap (drop 1) e ∙ sym (drop-more ys i))
  where
    drop-more : (xs : List SymBlock) (i : ℕ) → drop (i + 1) xs ≡ drop 1 (drop i xs)
    drop-more [] zero = refl
    drop-more [] (suc i) = rw add-one refl
    drop-more (x ∷ xs) zero = refl
    drop-more (x ∷ xs) (suc i) = rw add-one (rw add-one at (drop-more xs i))

pub set-length : (xs : List SymBlock) (i : ℕ) (x : SymBlock) → length (slice_set xs i x) ≡ length xs
set-length [] i x = refl
set-length (y ∷ ys) zero x = refl
set-length (y ∷ ys) (suc i) x = ap suc (set-length ys i x)

pub at-slice : (xs : List SymBlock) (i : ℕ) (x : SymBlock) → slice_get xs i ≡ Some x → x ≡ get_or xs i x
at-slice [] i x e = absurd (cc)
at-slice (y ∷ ys) zero x e = cc
at-slice (y ∷ ys) (suc i) x e = at-slice ys i x e

-- an item that two lists have at an index, from their tails
pub front-same : (xs ys : List SymBlock) (i : ℕ) (x : SymBlock) → drop i xs ≡ drop i ys → i < length xs → i < length ys → x ≡ get_or xs i x → x ≡ get_or ys i x
front-same [] ys i x e lx ly is = absurd (omega arith)
front-same (y ∷ xs) [] i x e lx ly is = absurd (omega arith)
front-same (y ∷ xs) (z ∷ ys) zero x e lx ly is = cc
front-same (y ∷ xs) (z ∷ ys) (suc i) x e lx ly is = front-same xs ys i x e (omega arith) (omega arith) is

pub written_more : (r : Reading) (old a d : List Term) (s : Span) (bytes : List SymByte) (memory memory' memory'' : List SymBlock) (i : ℕ) (b b' : SymBlock) (first first' : Bool)
    → IsSpan old s → AreSymBytes old bytes → length bytes ≡ s.count → Keeps old a → Keeps a d → AreSymBlocks a memory' → i < length memory' → IsSymBlock old b → b ≡ get_or memory i b → i < length memory
    → memory'' ≡ slice_set memory' i b' → b'.exists ≡ b.exists
    → first' ≡ (first && not (is_named_by r a s b))
    → ((first && is_named_by r a s b) ≡ false → block_at r d b' ≡ block_at r a b)
    → ((first && is_named_by r a s b) ≡ true → admits (Some (block_at r a b)) (term_at r.v a s.offset) (length bytes) s.align ≡ true
    → block_at r d b' ≡ overwritten (places_at r a bytes) (term_at r.v a s.offset) (block_at r a b))
    → IsWritten r old a s (places_at r old bytes) memory memory' i first → IsWritten r old d s (places_at r old bytes) memory memory'' (i + 1) first'
written_more r old a d s bytes memory memory' memory'' i b b' first first' hs hbytes count ka kd hm' lt' hb at lt set_is e_exists e_first stays stands w =
    let name = span_name r old s in
    let offset = term_at r.v old s.offset in
    let there = bit_at r.v old b.exists in
    let block = block_at r old b in
    let block' = block_at r d b' in
    let rest = memory_at r old (drop (i + 1) memory) in
    let before = memory_at r a (take i memory') in
    let e_bit = bit-later old a ka r.v b.exists hb.exists.within in
    let e_name = name-later old a ka s hs r in
    let e_block = block-later old a ka r b hb in
    let e_offset = term-later old a ka r.v s.offset hs.offset.within in
    let e_bytes = places-later old a ka r bytes hbytes in
    let e_named : is_named_by r a s b ≡ (there && names name block) = rw (e_bit, e_name, e_block) refl in
    let front : memory_at r old (drop i memory) ≡ cond there (block ∷ rest) rest = memory-front r old memory (i + 1) i b (omega arith) lt at in
    let admitted : first ≡ true → admits (cond (there && names name block) (Some block) (block_named rest name)) offset s.count s.align ≡ true =
    λ t. rw (front, block_named-front name there block rest) at (w.admitted t) in
    let here : (first && (there && names name block)) ≡ true → admits (Some block) offset s.count s.align ≡ true =
    λ t. rw (and-right first (there && names name block) t) at (admitted (and-left first (there && names name block) t)) in
    let there' : bit_at r.v d b'.exists ≡ there = ap (bit_at r.v d) e_exists ∙ bit-later old d (keeps_trans old a d ka kd) r.v b.exists hb.exists.within in
    let after : memory_at r d (take (i + 1) memory'') ≡ before ++ cond there (block' ∷ []) [] =
    ap (λ m. memory_at r d (take (i + 1) m)) set_is ∙ (ap (memory_at r d) (take-set memory' i b' lt') ∙ (memory-push r d (take i memory') b' ∙ rw (memory-later a d kd r (take i memory') (each-take (IsSymBlock a) memory' i hm'), there') refl)) in
    record {
      is = rw (after, e_first, e_named) (changed-front (names name) (overwritten (places_at r old bytes) offset) _ before rest first there (names name block) block block' refl (rw front at w.is)
          (λ f. stays (ap (λ z. first && z) e_named ∙ f) ∙ e_block)
          (λ t. stands (ap (λ z. first && z) e_named ∙ t) (rw (e_block, e_offset, count) (here t)) ∙ rw (e_bytes, e_offset, e_block) refl));
      admitted = λ t.
          let t' = sym (e_first ∙ ap (λ z. first && not z) e_named) ∙ t in
          rw (not-true (there && names name block) (and-right first (not (there && names name block)) t')) at (admitted (and-left first (not (there && names name block)) t'));
    }

pub written_whole : (r : Reading) (old new : List Term) (s : Span) (bytes : List Byte) (memory memory' : List SymBlock) (i : ℕ) (first : Bool) → length memory ≤ i → length memory' ≤ i → IsWritten r old new s bytes memory memory' i first
    → memory_at r new memory' ≡ first_changed (names (span_name r old s)) (overwritten bytes (term_at r.v old s.offset)) (memory_at r old memory)
unfolding first_changed
written_whole r old new s bytes memory memory' i first h h' w =
    let none = memory-end r old memory i h in
    let change = overwritten bytes (term_at r.v old s.offset) in
    let test = names (span_name r old s) in
    sym (w.is ∙ (ap (λ m. memory_at r new m ++ cond first (first_changed test change (memory_at r old (drop i memory))) (memory_at r old (drop i memory))) (take_all memory' i h')
    ∙ (ap (λ xs. memory_at r new memory' ++ xs) (cond-nil first (first_changed test change (memory_at r old (drop i memory))) (memory_at r old (drop i memory)) (ap (first_changed test change) none) none) ∙ append-nil (memory_at r new memory'))))

-- ---- one block

pub on_ok_always : {T E P : Type 0} (x : Result T E) → P → OnOk x P
on_ok_always (Ok v) p = p
on_ok_always (Err e) p = tt

module _ (t0 t1 t2 t3 t5 : List Term) (s : Span) (c named here : TermId) (b b' : SymBlock) (bytes : List SymByte) (k1 : Keeps t0 t1) (k2 : Keeps t1 t2) (k5 : Keeps t3 t5)
    (hs : IsSpan t0 s) (hc : IsTerm t0 1 c) (hb : IsSymBlock t0 b) (hb' : IsSymBlock t3 b') (hbytes : AreSymBytes t0 bytes) (r : Reading)
    (is : bit_at r.v t1 named ≡ is_named_by r t0 s b) (here_is : bit_at r.v t2 here ≡ (bit_at r.v t1 c && bit_at r.v t1 named)) where
  k02 : Keeps t0 t2
  k02 = keeps_trans t0 t1 t2 k1 k2

  here_is_named : bit_at r.v t2 here ≡ (bit_at r.v t0 c && is_named_by r t0 s b)
  here_is_named = here_is ∙ rw (bit-later t0 t1 k1 r.v c hc.within, is) refl

  pub block_stays : (bit_at r.v t2 here ≡ false → block_at r t3 b' ≡ block_at r t2 b) → (bit_at r.v t0 c && is_named_by r t0 s b) ≡ false → block_at r t5 b' ≡ block_at r t0 b
  block_stays h f = block-later t3 t5 k5 r b' hb' ∙ (h (here_is_named ∙ f) ∙ block-later t0 t2 k02 r b hb)

  pub block_changes : (bit_at r.v t2 here ≡ true → admits (Some (block_at r t2 b)) (term_at r.v t2 s.offset) (length bytes) s.align ≡ true → block_at r t3 b' ≡ overwritten (places_at r t2 bytes) (term_at r.v t2 s.offset) (block_at r t2 b))
      → (bit_at r.v t0 c && is_named_by r t0 s b) ≡ true → admits (Some (block_at r t0 b)) (term_at r.v t0 s.offset) (length bytes) s.align ≡ true
      → block_at r t5 b' ≡ overwritten (places_at r t0 bytes) (term_at r.v t0 s.offset) (block_at r t0 b)
  block_changes h t admitted =
      let e_block = block-later t0 t2 k02 r b hb in
      let e_offset = term-later t0 t2 k02 r.v s.offset hs.offset.within in
      let e_bytes = places-later t0 t2 k02 r bytes hbytes in
      block-later t3 t5 k5 r b' hb' ∙ (h (here_is_named ∙ t) (rw (e_block, e_offset) admitted) ∙ rw (e_bytes, e_offset, e_block) refl)

pub block_goes : (t0 t1 t3 t4 t5 : List Term) (s : Span) (c named other id : TermId) (b : SymBlock) → Keeps t0 t1 → Keeps t1 t3 → Keeps t3 t4 → IsTerm t0 1 c → named.index < length t1 → (r : Reading)
    → bit_at r.v t1 named ≡ is_named_by r t0 s b → bit_at r.v t4 other ≡ not (bit_at r.v t3 named) → bit_at r.v t5 id ≡ (bit_at r.v t4 c && bit_at r.v t4 other)
    → bit_at r.v t5 id ≡ (bit_at r.v t0 c && not (is_named_by r t0 s b))
block_goes t0 t1 t3 t4 t5 s c named other id b k1 k3 k4 hc hn r is other_is both_is =
    let e_c = bit-later t0 t4 (keeps_trans t0 t1 t4 k1 (keeps_trans t1 t3 t4 k3 k4)) r.v c hc.within in
    let e_named = bit-later t1 t3 k3 r.v named hn ∙ is in
    both_is ∙ rw (e_c, other_is, e_named) refl

-- ---- stores

never : (c : Bool) {P : Type 0} → c ≡ false → c ≡ true → P
never c e e' = absurd (cc)

pub store_is : (p q : Bool) (name : BlockName) (n : ℕ) (memory : List MemoryBlock) (access : Access) (align : ℕ) (defined : Bool)
    → defined ≡ (not p && (q && admits (block_named memory name) n (access_size access) align))
    → cond defined stored.Done stored.Ub ≡ store_result memory access (value_of p q name n) align
store_is true q name n memory access align defined e = rw e refl
store_is false false name n memory access align defined e = rw e refl
store_is false true name n memory access align defined e =
    elim (cases_Bool (admits (block_named memory name) n (access_size access) align)) [ inl t ↦ rw (e, t) refl | inr f ↦ rw (e, f) refl ]

pub after_is : (p q : Bool) (name : BlockName) (n : ℕ) (memory after : List MemoryBlock) (v : Value) (access : Access) (align : ℕ) (defined : Bool)
    → defined ≡ (not p && (q && admits (block_named memory name) n (access_size access) align)) → defined ≡ true
    → (admits (block_named memory name) n (access_size access) align ≡ true → after ≡ first_changed (names name) (overwritten (value_bytes access v) n) memory)
    → after ≡ after_store memory v access (value_of p q name n) align
after_is true q name n memory after v access align defined e t h = never defined e t
after_is false false name n memory after v access align defined e t h = never defined e t
after_is false true name n memory after v access align defined e t h = let admitted = sym e ∙ t in rw admitted (h admitted)

pub some_reading : Reading
some_reading = record { v = λ _ _. 0; name = λ _. Null }

pub stored_count : (terms terms' : List Term) (access : Access) (bytes : List SymByte) (v : SymValue) → ((r : Reading) → places_at r terms bytes ≡ value_bytes access (value_at r terms' v)) → length bytes ≡ access_size access
stored_count terms terms' access bytes v h =
    let same : length (places_at some_reading terms bytes) ≡ access_size access = ap length (h some_reading) ∙ length-value_bytes access (value_at some_reading terms' v) in
    sym (map-length (byte_at some_reading terms) bytes) ∙ same

module _ (t0 t1 t2 : List Term) (memory : List SymBlock) (at : SymValue) (access : Access) (align count : ℕ) (admitted defined : TermId) (k1 : Keeps t0 t1) (k2 : Keeps t1 t2)
    (hm : AreSymBlocks t0 memory) (ha : IsSymValue t0 at) (hd : IsTerm t2 1 defined) (e_count : count ≡ access_size access) (r : Reading)
    (is_admitted : bit_at r.v t1 admitted ≡ admits (block_named (memory_at r t0 memory) (r.name (term_at r.v t0 at.block))) (term_at r.v t0 at.number) count align)
    (is_defined' : bit_at r.v t2 defined ≡ (not (bit_at r.v t1 at.poison) && (bit_at r.v t1 at.is_pointer && bit_at r.v t1 admitted))) where
  pub defined_is : (t4 : List Term) → Keeps t2 t4 → bit_at r.v t4 defined ≡ (not (bit_at r.v t0 at.poison) && (bit_at r.v t0 at.is_pointer && admits (block_named (memory_at r t0 memory) (r.name (term_at r.v t0 at.block))) (term_at r.v t0 at.number) (access_size access) align))
  defined_is t4 k4 =
      let e_poison = bit-later t0 t1 k1 r.v at.poison ha.poison.within in
      let e_pointer = bit-later t0 t1 k1 r.v at.is_pointer ha.is_pointer.within in
      bit-later t2 t4 k4 r.v defined hd.within ∙ (is_defined' ∙ rw (e_poison, e_pointer, is_admitted, e_count) refl)

  pub store_stands : (t4 : List Term) → Keeps t2 t4 → stored_at r t4 defined ≡ store_result (memory_at r t0 memory) access (value_at r t0 at) align
  unfolding value_at
  store_stands t4 k4 =
      store_is (bit_at r.v t0 at.poison) (bit_at r.v t0 at.is_pointer) (r.name (term_at r.v t0 at.block)) (term_at r.v t0 at.number) (memory_at r t0 memory) access align (bit_at r.v t4 defined) (defined_is t4 k4)

  pub after_stands : (t3 t4 : List Term) (value : SymValue) (bytes : List SymByte) (after : List MemoryBlock) → Keeps t2 t3 → Keeps t3 t4 → IsSymValue t0 value
      → places_at r t3 bytes ≡ value_bytes access (value_at r t2 value)
      → (admits (block_named (memory_at r t3 memory) (r.name (term_at r.v t3 at.block))) (term_at r.v t3 at.number) count align ≡ true
      → after ≡ first_changed (names (r.name (term_at r.v t3 at.block))) (overwritten (places_at r t3 bytes) (term_at r.v t3 at.number)) (memory_at r t3 memory))
      → bit_at r.v t4 defined ≡ true → after ≡ after_store (memory_at r t0 memory) (value_at r t0 value) access (value_at r t0 at) align
  unfolding value_at
  after_stands t3 t4 value bytes after k3 k4 hv e_bytes writes holds =
      let k02 = keeps_trans t0 t1 t2 k1 k2 in
      let k03 = keeps_trans t0 t2 t3 k02 k3 in
      let e_memory = memory-later t0 t3 k03 r memory hm in
      let e_block = term-later t0 t3 k03 r.v at.block ha.block.within in
      let e_number = term-later t0 t3 k03 r.v at.number ha.number.within in
      let e_value = e_bytes ∙ ap (value_bytes access) (value-later t0 t2 k02 r value hv) in
      after_is (bit_at r.v t0 at.poison) (bit_at r.v t0 at.is_pointer) (r.name (term_at r.v t0 at.block)) (term_at r.v t0 at.number) (memory_at r t0 memory) after (value_at r t0 value) access align (bit_at r.v t4 defined)
      (defined_is t4 (keeps_trans t2 t3 t4 k3 k4)) holds
      (rw (e_count, e_memory, e_block, e_number, e_value) at writes)
