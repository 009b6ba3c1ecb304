-- Where a getelementptr leads.
use Rattle.access_terms.proofs.Common.{cases_Bool, ℕ, ◌≡◌, ◌<◌, ◌≤◌, ◌+◌, ◌-◌, ◌*◌, ◌%◌, ◌^◌, Bool, true, false, not, ◌&&◌, ◌||◌, nat_eq, nat_lt, List, length, pos, ◌+ℤ◌, inl, inr, refl, ap, sym, ◌∙◌, arith, list_all, list_any, BlockName, MemoryBlock, wrapped, Index, bytes_named, breaks_inbounds, gep_result, is_index, is_negative, is_nonzero, is_outside, last_sum, leaves_block, scaled, extended_signed, width_of, TermId, Term, AreInRange, Keeps, IsTerm, Makes, bit_at, term_at, tree_in, SymValue, SymBlock, IsSymValue, Reading, value_at, value_of, memory_at, term-below, each-weaker, map-same, keeps_trans, bit-later, term-later, is_term-later, SymIndex, AreNumbers, AreSymIndices, IsSymIndex, index_at, indices_at, walked_sum}
use Rattle.access_terms.proofs.Indices.{scaled-is}
use Rattle.access_terms.proofs.Walked.{negative-is, nonzero-is, walked-low, walked-outside}

-- ---- more terms

module _ (old new : List Term) (k : Keeps old new) where
  pub sym_index-later : (x : SymIndex) → IsSymIndex old x → IsSymIndex new x
  sym_index-later x h = record { poison = is_term-later old new k 1 x.poison h.poison; number = is_term-later old new k x.width.bits x.number h.number; scale = h.scale }

  pub sym_indices-later : (xs : List SymIndex) → AreSymIndices old xs → AreSymIndices new xs
  sym_indices-later xs h = each-weaker (IsSymIndex old) (IsSymIndex new) xs sym_index-later h

  pub index-later : (v : ℕ → ℕ → ℕ) (x : SymIndex) → IsSymIndex old x → index_at v new x ≡ index_at v old x
  unfolding index_at
  index-later v x h = rw (bit-later old new k v x.poison h.poison.within, term-later old new k v x.number h.number.within) refl

  pub indices-later : (v : ℕ → ℕ → ℕ) (xs : List SymIndex) → AreSymIndices old xs → indices_at v new xs ≡ indices_at v old xs
  indices-later v xs h = map-same (IsSymIndex old) (index_at v new) (index_at v old) xs (index-later v) h

  pub numbers-later : (v : ℕ → ℕ → ℕ) (xs : List SymIndex) → AreSymIndices old xs → AreNumbers v old xs → AreNumbers v new xs
  numbers-later v xs h numbers = ap (list_all is_index) (indices-later v xs h) ∙ numbers

pub kept_by_4 : (t0 t1 t2 t3 t4 : List Term) → Keeps t0 t1 → Keeps t1 t2 → Keeps t2 t3 → Keeps t3 t4 → Keeps t0 t4
kept_by_4 t0 t1 t2 t3 t4 k1 k2 k3 k4 = keeps_trans t0 t1 t4 k1 (keeps_trans t1 t2 t4 k2 (keeps_trans t2 t3 t4 k3 k4))

-- ---- one index more, in 64 bits

pub offset_next : (v : ℕ → ℕ → ℕ) (t0 a : List Term) (x : SymIndex) (offset next width : ℕ) → AreInRange t0 → Keeps t0 a → IsSymIndex t0 x → 1 ≤ x.width.bits → x.width.bits ≤ 64 → 64 ≤ width → bit_at v t0 x.poison ≡ false
    → next ≡ walked_sum width x.width.bits offset (term_at v a x.number) x.scale % 2 ^ 64
    → next ≡ wrapped 64 (pos offset +ℤ scaled (index_at v t0 x))
offset_next v t0 a x offset next width range k h low most wide number is =
    let below = term-below t0 x.width.bits x.number range h.number v in
    is ∙ (ap (λ z. walked_sum width x.width.bits offset z x.scale % 2 ^ 64) (term-later t0 a k v x.number h.number.within)
    ∙ (walked-low width 64 x.width.bits offset (term_at v t0 x.number) x.scale low (omega (arith, most, wide)) wide below ∙ ap (λ z. wrapped 64 (pos offset +ℤ z)) (sym (scaled-is v t0 x number))))

pub outside_next : (v : ℕ → ℕ → ℕ) (t0 a : List Term) (x : SymIndex) (size offset : ℕ) → AreInRange t0 → Keeps t0 a → IsSymIndex t0 x → 1 ≤ x.width.bits → x.width.bits ≤ 64 → bit_at v t0 x.poison ≡ false → offset < 2 ^ 64 → size < 2 ^ 64
    → nat_lt size (walked_sum 98 x.width.bits offset (term_at v a x.number) x.scale) ≡ is_outside size (pos offset +ℤ scaled (index_at v t0 x))
outside_next v t0 a x size offset range k h low most number small sized =
    let below = term-below t0 x.width.bits x.number range h.number v in
    ap (λ z. nat_lt size (walked_sum 98 x.width.bits offset z x.scale)) (term-later t0 a k v x.number h.number.within)
    ∙ (walked-outside size x.width.bits offset (term_at v t0 x.number) x.scale low most below small h.scale sized ∙ ap (λ z. is_outside size (pos offset +ℤ z)) (sym (scaled-is v t0 x number)))

-- ---- the result

gep_cases : (A B all : Bool) (memory : List MemoryBlock) (name : BlockName) (n : ℕ) (indices : List Index) (inbounds nuw : Bool) (poison : Bool) (offset : ℕ)
    → list_all is_index indices ≡ true
    → (inbounds && breaks_inbounds memory (record { block = name; offset = n }) indices) ≡ A → (nuw && list_any is_negative indices) ≡ B → poison ≡ (A || B) → offset ≡ wrapped 64 (last_sum (pos n) indices)
    → value_of poison true name offset ≡ gep_result memory (value_of false true name n) indices inbounds nuw
gep_cases true B all memory name n indices inbounds nuw poison offset numbers eA eB e is = rw (e, numbers, eA) refl
gep_cases false true all memory name n indices inbounds nuw poison offset numbers eA eB e is = rw (e, numbers, eA, eB) refl
gep_cases false false all memory name n indices inbounds nuw poison offset numbers eA eB e is = rw (e, numbers, eA, eB, is) refl

pub gep_is : (p q : Bool) (name : BlockName) (n : ℕ) (memory : List MemoryBlock) (indices : List Index) (inbounds nuw : Bool) (poison none breaks negative : Bool) (offset : ℕ)
    → poison ≡ ((p || not q) || (none || (breaks || negative)))
    → none ≡ not (list_all is_index indices)
    → (list_all is_index indices ≡ true → breaks ≡ (inbounds && breaks_inbounds memory (record { block = name; offset = n }) indices))
    → (list_all is_index indices ≡ true → negative ≡ (nuw && list_any is_negative indices))
    → (list_all is_index indices ≡ true → offset ≡ wrapped 64 (last_sum (pos n) indices))
    → value_of poison true name offset ≡ gep_result memory (value_of p q name n) indices inbounds nuw
gep_is true q name n memory indices inbounds nuw poison none breaks negative offset e e_none e_breaks e_negative e_offset = rw e refl
gep_is false false name n memory indices inbounds nuw poison none breaks negative offset e e_none e_breaks e_negative e_offset = rw e refl
gep_is false true name n memory indices inbounds nuw poison none breaks negative offset e e_none e_breaks e_negative e_offset =
    elim (cases_Bool (list_all is_index indices)) as (λ _. value_of poison true name offset ≡ gep_result memory (value_of false true name n) indices inbounds nuw) [
      | inl t ↦ gep_cases (inbounds && breaks_inbounds memory (record { block = name; offset = n }) indices) (nuw && list_any is_negative indices) true memory name n indices inbounds nuw poison offset t refl refl
          (e ∙ rw (e_none, t, e_breaks t, e_negative t) refl) (e_offset t)
      | inr f ↦ rw (e, e_none, f) refl
    ]

-- ---- the sum as terms

sum-same : (w w' a a' b b' : ℕ) → w ≡ w' → a ≡ a' → b ≡ b' → (a + b) % 2 ^ w ≡ (a' + b') % 2 ^ w'
sum-same w w' a a' b b' e e1 e2 = rw (e, e1, e2) refl

product-same : (w w' a a' b b' : ℕ) → w ≡ w' → a ≡ a' → b ≡ b' → (a * b) % 2 ^ w ≡ (a' * b') % 2 ^ w'
product-same w w' a a' b b' e e1 e2 = rw (e, e1, e2) refl

pub sum_with_made : (t0 t1 t2 t3 t4 t5 : List Term) (offset index number factor product wide id : TermId) (bits scale width : ℕ) → Keeps t0 t1 → Keeps t1 t2 → Keeps t2 t3 → Keeps t3 t4 → IsTerm t0 64 offset → IsTerm t0 bits index
    → Makes t1 number width (λ v. extended_signed (width_of (tree_in t0 index)) width (term_at v t0 index))
    → Makes t2 factor width (λ _. scale)
    → Makes t3 product (width_of (tree_in t2 number)) (λ v. (term_at v t2 number * term_at v t2 factor) % 2 ^ width_of (tree_in t2 number))
    → Makes t4 wide width (λ v. term_at v t3 offset)
    → Makes t5 id (width_of (tree_in t4 wide)) (λ v. (term_at v t4 wide + term_at v t4 product) % 2 ^ width_of (tree_in t4 wide))
    → Makes t5 id width (λ v. walked_sum width bits (term_at v t0 offset) (term_at v t0 index) scale)
unfolding walked_sum
sum_with_made t0 t1 t2 t3 t4 t5 offset index number factor product wide id bits scale width k1 k2 k3 k4 ho hi m1 m2 m3 m4 m5 =
    let e_width : width_of (tree_in t2 number) ≡ width = (is_term-later t1 t2 k2 width number (record { within = m1.within; wide = m1.wide })).wide in
    record {
      within = m5.within;
      wide = m5.wide ∙ m4.wide;
      says = λ v.
          let e_number : term_at v t2 number ≡ extended_signed bits width (term_at v t0 index) =
          term-later t1 t2 k2 v number m1.within ∙ (m1.says v ∙ ap (λ n. extended_signed n width (term_at v t0 index)) hi.wide) in
          let e_product : term_at v t4 product ≡ (extended_signed bits width (term_at v t0 index) * scale) % 2 ^ width =
          term-later t3 t4 k4 v product m3.within ∙ (m3.says v ∙ product-same (width_of (tree_in t2 number)) width (term_at v t2 number) _ (term_at v t2 factor) scale e_width e_number (m2.says v)) in
          let e_offset : term_at v t4 wide ≡ term_at v t0 offset = m4.says v ∙ term-later t0 t3 (keeps_trans t0 t1 t3 k1 (keeps_trans t1 t2 t3 k2 k3)) v offset ho.within in
          m5.says v ∙ sum-same (width_of (tree_in t4 wide)) width (term_at v t4 wide) (term_at v t0 offset) (term_at v t4 product) _ m4.wide e_offset e_product;
    }

-- ---- the tests

pub nonzero_stands : (v : ℕ → ℕ → ℕ) (t0 t1 : List Term) (x : SymIndex) (zero : TermId) (is_zero answer : Bool) → AreInRange t0 → Keeps t0 t1 → IsSymIndex t0 x → 1 ≤ x.width.bits → bit_at v t0 x.poison ≡ false
    → term_at v t1 zero ≡ 0 → is_zero ≡ nat_eq (term_at v t1 x.number) (term_at v t1 zero) → answer ≡ not is_zero → answer ≡ is_nonzero (index_at v t0 x)
unfolding index_at
nonzero_stands v t0 t1 x zero is_zero answer range k h low number e0 e1 e2 =
    e2 ∙ (ap not e1 ∙ (rw (e0, term-later t0 t1 k v x.number h.number.within) refl ∙ (nonzero-is x.width.bits (term_at v t0 x.number) low (term-below t0 x.width.bits x.number range h.number v) ∙ rw number refl)))

pub negative_stands : (v : ℕ → ℕ → ℕ) (t0 t1 : List Term) (x : SymIndex) (most : TermId) (half : ℕ) (answer : Bool) → AreInRange t0 → Keeps t0 t1 → IsSymIndex t0 x → 1 ≤ x.width.bits → bit_at v t0 x.poison ≡ false
    → half ≡ 2 ^ (x.width.bits - 1) → term_at v t1 most ≡ half - 1 → answer ≡ nat_lt (term_at v t1 most) (term_at v t1 x.number) → answer ≡ is_negative (index_at v t0 x)
unfolding index_at
negative_stands v t0 t1 x most half answer range k h low number e0 e1 e2 =
    e2 ∙ (rw (e1, e0, term-later t0 t1 k v x.number h.number.within) refl ∙ (negative-is x.width.bits (term_at v t0 x.number) low (term-below t0 x.width.bits x.number range h.number v) ∙ rw number refl))

-- ---- the walk from a base

module _ (t0 t1 t2 t3 t4 : List Term) (k1 : Keeps t0 t1) (k2 : Keeps t1 t2) (k3 : Keeps t2 t3) (k4 : Keeps t3 t4) (base : SymValue) (indices : List SymIndex) (hb : IsSymValue t0 base) (hi : AreSymIndices t0 indices) where
  pub walk_offset : (offset : TermId) → offset.index < length t2 → (v : ℕ → ℕ → ℕ)
      → (AreNumbers v t1 indices → term_at v t2 offset ≡ wrapped 64 (last_sum (pos (term_at v t1 base.number)) (indices_at v t1 indices)))
      → AreNumbers v t0 indices → term_at v t4 offset ≡ wrapped 64 (last_sum (pos (term_at v t0 base.number)) (indices_at v t0 indices))
  walk_offset offset within v so numbers =
      let e_number = term-later t0 t1 k1 v base.number hb.number.within in
      let e_indices = indices-later t0 t1 k1 v indices hi in
      term-later t2 t4 (keeps_trans t2 t3 t4 k3 k4) v offset within ∙ (so (numbers-later t0 t1 k1 v indices hi numbers)
      ∙ (ap (λ n. wrapped 64 (last_sum (pos n) (indices_at v t1 indices))) e_number ∙ ap (λ xs. wrapped 64 (last_sum (pos (term_at v t0 base.number)) xs)) e_indices))

  pub walk_leaves : (size walked moved leaves : TermId) (memory : List MemoryBlock) (r : Reading) → walked.index < length t2
      → term_at r.v t1 size ≡ length (bytes_named memory (r.name (term_at r.v t0 base.block)))
      → (AreNumbers r.v t1 indices → bit_at r.v t2 walked ≡ leaves_block (term_at r.v t1 size) (term_at r.v t1 base.number) (indices_at r.v t1 indices))
      → (AreNumbers r.v t2 indices → bit_at r.v t3 moved ≡ list_any is_nonzero (indices_at r.v t2 indices))
      → bit_at r.v t4 leaves ≡ (bit_at r.v t3 moved && bit_at r.v t3 walked)
      → AreNumbers r.v t0 indices → bit_at r.v t4 leaves ≡ breaks_inbounds memory (record { block = r.name (term_at r.v t0 base.block); offset = term_at r.v t0 base.number }) (indices_at r.v t0 indices)
  walk_leaves size walked moved leaves memory r within s_size s_walked s_moved s_both numbers =
      let k02 = keeps_trans t0 t1 t2 k1 k2 in
      let e1 = indices-later t0 t1 k1 r.v indices hi in
      let e2 = indices-later t0 t2 k02 r.v indices hi in
      let e_moved : bit_at r.v t3 moved ≡ list_any is_nonzero (indices_at r.v t0 indices) = s_moved (numbers-later t0 t2 k02 r.v indices hi numbers) ∙ ap (list_any is_nonzero) e2 in
      let e_walked : bit_at r.v t3 walked ≡ leaves_block (length (bytes_named memory (r.name (term_at r.v t0 base.block)))) (term_at r.v t0 base.number) (indices_at r.v t0 indices) =
      bit-later t2 t3 k3 r.v walked within ∙ (s_walked (numbers-later t0 t1 k1 r.v indices hi numbers)
      ∙ (ap (λ s. leaves_block s (term_at r.v t1 base.number) (indices_at r.v t1 indices)) s_size
      ∙ (ap (λ n. leaves_block (length (bytes_named memory (r.name (term_at r.v t0 base.block)))) n (indices_at r.v t1 indices)) (term-later t0 t1 k1 r.v base.number hb.number.within)
      ∙ ap (λ xs. leaves_block (length (bytes_named memory (r.name (term_at r.v t0 base.block)))) (term_at r.v t0 base.number) xs) e1))) in
      s_both ∙ (ap (λ z. z && bit_at r.v t3 walked) e_moved ∙ ap (λ z. list_any is_nonzero (indices_at r.v t0 indices) && z) e_walked)

pub only_if : (c a b : Bool) → c ≡ true → a ≡ b → a ≡ (c && b)
only_if c a b t e = rw t e

-- ---- all of it

or-same : (a a' b b' : Bool) → a ≡ a' → b ≡ b' → (a || b) ≡ (a' || b')
or-same a a' b b' e f = rw (e, f) refl

-- what is negative matters only where no index is poison
negative-same : (none leaves negative nuw_negative : Bool) → (none ≡ true → negative ≡ nuw_negative) → (not none || (leaves || negative)) ≡ (not none || (leaves || nuw_negative))
negative-same true leaves negative nuw_negative h = ap (λ z. leaves || z) (h refl)
negative-same false leaves negative nuw_negative h = refl

pub no_offset_is : (t0 t1 t2 t3 t4 : List Term) (indices : List SymIndex) (leaves broken breaks none id : TermId) (nuw : Bool) (v : ℕ → ℕ → ℕ) → Keeps t0 t1 → Keeps t1 t2 → Keeps t2 t3 → AreSymIndices t0 indices → leaves.index < length t0 → breaks.index < length t2
    → (AreNumbers v t0 indices → bit_at v t1 broken ≡ (nuw && list_any is_negative (indices_at v t0 indices)))
    → bit_at v t2 breaks ≡ (bit_at v t1 leaves || bit_at v t1 broken)
    → bit_at v t3 none ≡ not (list_all is_index (indices_at v t2 indices))
    → bit_at v t4 id ≡ (bit_at v t3 none || bit_at v t3 breaks)
    → bit_at v t4 id ≡ (not (list_all is_index (indices_at v t0 indices)) || (bit_at v t0 leaves || (nuw && list_any is_negative (indices_at v t0 indices))))
no_offset_is t0 t1 t2 t3 t4 indices leaves broken breaks none id nuw v k1 k2 k3 hi w_leaves w_breaks s_broken s_breaks s_none s_id =
    let e_none : bit_at v t3 none ≡ not (list_all is_index (indices_at v t0 indices)) = s_none ∙ ap (λ xs. not (list_all is_index xs)) (indices-later t0 t2 (keeps_trans t0 t1 t2 k1 k2) v indices hi) in
    let e_breaks : bit_at v t3 breaks ≡ (bit_at v t0 leaves || bit_at v t1 broken) = bit-later t2 t3 k3 v breaks w_breaks ∙ (s_breaks ∙ ap (λ z. z || bit_at v t1 broken) (bit-later t0 t1 k1 v leaves w_leaves)) in
    s_id ∙ (or-same (bit_at v t3 none) (not (list_all is_index (indices_at v t0 indices))) (bit_at v t3 breaks) (bit_at v t0 leaves || bit_at v t1 broken) e_none e_breaks
    ∙ negative-same (list_all is_index (indices_at v t0 indices)) (bit_at v t0 leaves) (bit_at v t1 broken) (nuw && list_any is_negative (indices_at v t0 indices)) s_broken)

pub gep_made : (t0 t1 t4 t5 : List Term) (base : SymValue) (offset poison is_pointer : TermId) → Keeps t0 t1 → Keeps t1 t4 → Keeps t4 t5 → IsSymValue t0 base → IsTerm t1 64 offset → IsTerm t4 1 poison → IsTerm t5 1 is_pointer
    → IsSymValue t5 (record { poison = poison; is_pointer = is_pointer; block = base.block; number = offset })
gep_made t0 t1 t4 t5 base offset poison is_pointer k1 k4 k5 hb h_offset h_poison h_pointer =
    let k15 = keeps_trans t1 t4 t5 k4 k5 in
    record {
      poison = is_term-later t4 t5 k5 1 poison h_poison;
      is_pointer = h_pointer;
      block = is_term-later t0 t5 (keeps_trans t0 t1 t5 k1 k15) 64 base.block hb.block;
      number = is_term-later t1 t5 k15 64 offset h_offset;
    }

module _ (t0 t1 t2 t3 t4 t5 : List Term) (k1 : Keeps t0 t1) (k2 : Keeps t1 t2) (k3 : Keeps t2 t3) (k4 : Keeps t3 t4) (k5 : Keeps t4 t5) (memory : List SymBlock) (base : SymValue) (indices : List SymIndex) (inbounds nuw : Bool)
    (leaves offset no_offset no_base poison is_pointer : TermId) (r : Reading) (hb : IsSymValue t0 base) (hi : AreSymIndices t0 indices)
    (w_offset : offset.index < length t1) (w_no_offset : no_offset.index < length t2) (w_poison : poison.index < length t4) where
  pub gep_stands : (AreNumbers r.v t0 indices → bit_at r.v t1 leaves ≡ (inbounds && breaks_inbounds (memory_at r t0 memory) (record { block = r.name (term_at r.v t0 base.block); offset = term_at r.v t0 base.number }) (indices_at r.v t0 indices)))
      → (AreNumbers r.v t0 indices → term_at r.v t1 offset ≡ wrapped 64 (last_sum (pos (term_at r.v t0 base.number)) (indices_at r.v t0 indices)))
      → bit_at r.v t2 no_offset ≡ (not (list_all is_index (indices_at r.v t1 indices)) || (bit_at r.v t1 leaves || (nuw && list_any is_negative (indices_at r.v t1 indices))))
      → bit_at r.v t3 no_base ≡ (bit_at r.v t2 base.poison || not (bit_at r.v t2 base.is_pointer))
      → bit_at r.v t4 poison ≡ (bit_at r.v t3 no_base || bit_at r.v t3 no_offset)
      → bit_at r.v t5 is_pointer ≡ true
      → value_at r t5 (record { poison = poison; is_pointer = is_pointer; block = base.block; number = offset }) ≡ gep_result (memory_at r t0 memory) (value_at r t0 base) (indices_at r.v t0 indices) inbounds nuw
  unfolding value_at
  gep_stands s_leaves s_offset s_no_offset s_no_base s_poison s_pointer =
      let k02 = keeps_trans t0 t1 t2 k1 k2 in
      let k25 = keeps_trans t2 t3 t5 k3 (keeps_trans t3 t4 t5 k4 k5) in
      let p = bit_at r.v t0 base.poison in
      let q = bit_at r.v t0 base.is_pointer in
      let xs = indices_at r.v t0 indices in
      let e_indices = indices-later t0 t1 k1 r.v indices hi in
      let e_base : bit_at r.v t3 no_base ≡ (p || not q) = s_no_base ∙ or-same (bit_at r.v t2 base.poison) p (not (bit_at r.v t2 base.is_pointer)) (not q) (bit-later t0 t2 k02 r.v base.poison hb.poison.within)
      (ap not (bit-later t0 t2 k02 r.v base.is_pointer hb.is_pointer.within)) in
      let e_offset : bit_at r.v t3 no_offset ≡ (not (list_all is_index xs) || (bit_at r.v t1 leaves || (nuw && list_any is_negative xs))) =
      bit-later t2 t3 k3 r.v no_offset w_no_offset ∙ (s_no_offset ∙ ap (λ (ys : List Index). not (list_all is_index ys) || (bit_at r.v t1 leaves || (nuw && list_any is_negative ys))) e_indices) in
      let e_poison : bit_at r.v t5 poison ≡ ((p || not q) || (not (list_all is_index xs) || (bit_at r.v t1 leaves || (nuw && list_any is_negative xs)))) =
      bit-later t4 t5 k5 r.v poison w_poison ∙ (s_poison ∙ or-same (bit_at r.v t3 no_base) (p || not q) (bit_at r.v t3 no_offset) (not (list_all is_index xs) || (bit_at r.v t1 leaves || (nuw && list_any is_negative xs))) e_base e_offset) in
      let e_block = term-later t0 t5 (keeps_trans t0 t2 t5 k02 k25) r.v base.block hb.block.within in
      rw (s_pointer, e_block)
      (gep_is p q (r.name (term_at r.v t0 base.block)) (term_at r.v t0 base.number) (memory_at r t0 memory) xs inbounds nuw (bit_at r.v t5 poison) (not (list_all is_index xs)) (bit_at r.v t1 leaves) (nuw && list_any is_negative xs) (term_at r.v t5 offset)
      e_poison refl s_leaves (λ numbers. refl) (λ numbers. term-later t1 t5 (keeps_trans t1 t2 t5 k2 k25) r.v offset w_offset ∙ s_offset numbers))
