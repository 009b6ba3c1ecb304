-- How many bytes a block has, and which accesses it admits.
use Rattle.access_terms.proofs.Common.{ℕ, ◌≡◌, ◌<◌, ◌≤◌, ◌+◌, ◌-◌, ◌%◌, min, Bool, true, false, cond, not, ◌&&◌, ◌||◌, nat_eq, nat_lt, nat_le, List, length, take, drop, Some, refl, ap, sym, ◌∙◌, inl, inr, arith, eqb-true, cases_eq, eq-eqb, le-leb, le-ltb, leb-true, lt-ltb, ltb-true, ne_eqb, nat_tests, drop-take, length-take, take-take, Byte, TermId, Term, width_of, IsTerm, Keeps, Makes, Tests, bit_at, term_at, tree_in, admits, overwritten, block_size, SymByte, SymBlock, Reading, IsSymBlock, block_at, byte_at, places_at, map-length, bit-later, block-later, keeps_trans, term-later, small_mod, bytes_from, written}
use Rattle.byte_terms.proofs.Bools.{and-false, and-left, and-right, and-true, both-true, or-false}

lesser : (m n : ℕ) → cond (nat_lt m n) m n ≡ min m n
lesser m n = grind (arith, nat_tests)

pub size_is : (r : Reading) (terms : List Term) (b : SymBlock) → block_size (block_at r terms b) ≡ min (term_at r.v terms b.size) (length b.places)
unfolding block_at
size_is r terms b = length-take (term_at r.v terms b.size) (block_at r terms b).places ∙ ap (min (term_at r.v terms b.size)) (map-length (byte_at r terms) b.places)

pub size_stands : (old a b c : List Term) (most is_short size : TermId) (block : SymBlock) → IsSymBlock old block
    → Keeps old a → Makes a most 64 (λ _. length block.places) → Keeps a b → Tests b is_short (λ v. nat_lt (term_at v a block.size) (term_at v a most))
    → Makes c size (width_of (tree_in b block.size)) (λ v. cond (bit_at v b is_short) (term_at v b block.size) (term_at v b most))
    → (r : Reading) → term_at r.v c size ≡ block_size (block_at r old block)
size_stands old a b c most is_short size block h k1 m1 k2 t2 m3 r =
    m3.says r.v
    ∙ rw (t2.says r.v, term-later old b (keeps_trans old a b k1 k2) r.v block.size h.size.within, term-later old a k1 r.v block.size h.size.within, term-later a b k2 r.v most m1.within, m1.says r.v)
    (lesser (term_at r.v old block.size) (length block.places) ∙ sym (size_is r old block))

-- ---- what a block admits

-- there are enough bytes from the offset on, and it and the block are aligned
abbrev pub has_room : (size places end : ℕ) → (align block_align offset : ℕ) → Bool
has_room size places end align block_align offset = nat_le end (min size places) && nat_le align block_align && nat_eq (offset % align) 0

pub admits_is : (r : Reading) (terms : List Term) (b : SymBlock) (offset n align : ℕ) → admits (Some (block_at r terms b)) offset n align ≡ has_room (term_at r.v terms b.size) (length b.places) (offset + n) align b.align offset
unfolding block_at
admits_is r terms b offset n align = ap (λ m. nat_le (offset + n) m && nat_le align b.align && nat_eq (offset % align) 0) (size_is r terms b)

room_of : (size places end align block_align offset : ℕ) → has_room size places end align block_align offset ≡ true → end ≤ min size places
room_of size places end align block_align offset e = grind (arith, nat_tests)

aligned_of : (size places end align block_align offset : ℕ) → has_room size places end align block_align offset ≡ true → nat_eq (offset % align) 0 ≡ true
aligned_of size places end align block_align offset e = grind (arith, nat_tests)

pub admitted_room : (r : Reading) (terms : List Term) (b : SymBlock) (offset n align : ℕ) → admits (Some (block_at r terms b)) offset n align ≡ true → offset + n ≤ min (term_at r.v terms b.size) (length b.places)
admitted_room r terms b offset n align e = room_of (term_at r.v terms b.size) (length b.places) (offset + n) align b.align offset (sym (admits_is r terms b offset n align) ∙ e)

pub admitted_aligned : (r : Reading) (terms : List Term) (b : SymBlock) (offset n align : ℕ) → admits (Some (block_at r terms b)) offset n align ≡ true → nat_eq (offset % align) 0 ≡ true
admitted_aligned r terms b offset n align e = aligned_of (term_at r.v terms b.size) (length b.places) (offset + n) align b.align offset (sym (admits_is r terms b offset n align) ∙ e)

-- ---- at one offset

never-aligned : (e : Bool) (size places end align block_align offset : ℕ) → (nat_le align block_align && nat_eq (offset % align) 0) ≡ false → false ≡ (e && has_room size places end align block_align offset)
never-aligned e size places end align block_align offset never = grind (arith, nat_tests)

pub unaligned_stands : (r : Reading) (old new : List Term) (never : TermId) (b : SymBlock) (e : Bool) (place n align : ℕ) → Tests new never (λ v. false) → (nat_le align b.align && nat_eq (place % align) 0) ≡ false
    → bit_at r.v new never ≡ (e && admits (Some (block_at r old b)) place n align)
unaligned_stands r old new never b e place n align t unaligned =
    t.says r.v ∙ rw (admits_is r old b place n align) (never-aligned e (term_at r.v old b.size) (length b.places) (place + n) align b.align place unaligned)

pub elsewhere_stands : (x : Bool) (y z : Bool) → x ≡ y → x ≡ false → x ≡ (y && z)
elsewhere_stands x true z same never = absurd (cc)
elsewhere_stands x false z same never = never

fits-aligned : (e : Bool) (size places end align block_align offset : ℕ) → end ≤ places → (nat_le align block_align && nat_eq (offset % align) 0) ≡ true → (e && not (nat_lt size end)) ≡ (e && has_room size places end align block_align offset)
fits-aligned e size places end align block_align offset room aligned = grind (arith, nat_tests)

pub fits_stands : (old a b c d f : List Term) (offset here end is_short fits id : TermId) (block : SymBlock) (place n align : ℕ) → IsSymBlock old block → place + n ≤ length block.places → (nat_le align block.align && nat_eq (place % align) 0) ≡ true
    → Keeps old a → Tests a here (λ v. nat_eq (term_at v old offset) place) → Keeps a b → Makes b end 64 (λ _. place + n) → Keeps b c → Tests c is_short (λ v. nat_lt (term_at v b block.size) (term_at v b end)) → Keeps c d → Tests d fits (λ v. not (bit_at v c is_short))
    → Tests f id (λ v. bit_at v d here && bit_at v d fits)
    → (r : Reading) → bit_at r.v f id ≡ (nat_eq (term_at r.v old offset) place && admits (Some (block_at r old block)) place n align)
fits_stands old a b c d f offset here end is_short fits id block place n align hb room aligned k1 t1 k2 m2 k3 t3 k4 t4 t5 r =
    let kad = keeps_trans a c d (keeps_trans a b c k2 k3) k4 in
    t5.says r.v
    ∙ rw (bit-later a d kad r.v here t1.within, t1.says r.v, t4.says r.v, t3.says r.v, term-later old b (keeps_trans old a b k1 k2) r.v block.size hb.size.within, m2.says r.v, admits_is r old block place n align)
    (fits-aligned (nat_eq (term_at r.v old offset) place) (term_at r.v old block.size) (length block.places) (place + n) align block.align place room aligned)

-- ---- at each of several offsets

more-places : (o p : ℕ) (test : ℕ → Bool) → (nat_lt o p && test o || nat_eq o p && test p) ≡ (nat_lt o (p + 1) && test o)
more-places o p test =
    elim (cases_eq o p) as (λ _. (nat_lt o p && test o || nat_eq o p && test p) ≡ (nat_lt o (p + 1) && test o)) [
      | inl e ↦ rw (e, le-ltb p p (omega arith), lt-ltb p (p + 1) (omega arith), eq-eqb p p refl) refl
      | inr other ↦ let same : nat_lt o (p + 1) ≡ nat_lt o p = grind (arith, nat_tests) in rw (ne_eqb o p other, same) (or-false (nat_lt o p && test o))
    ]

-- offsets up to one, and that one
pub admitted_more : (old a b c : List Term) (k : Keeps old a) (admitted here either : TermId) (block : SymBlock) (offset : TermId) (place n align : ℕ) → IsSymBlock old block → offset.index < length old → IsTerm a 1 admitted → Keeps a b
    → Tests c either (λ v. bit_at v b admitted || bit_at v b here) → (r : Reading)
    → bit_at r.v a admitted ≡ (nat_lt (term_at r.v old offset) place && admits (Some (block_at r old block)) (term_at r.v old offset) n align)
    → bit_at r.v b here ≡ (nat_eq (term_at r.v a offset) place && admits (Some (block_at r a block)) place n align)
    → bit_at r.v c either ≡ (nat_lt (term_at r.v old offset) (place + 1) && admits (Some (block_at r old block)) (term_at r.v old offset) n align)
admitted_more old a b c k admitted here either block offset place n align hb ho ha kb t r before now =
    let now' : bit_at r.v b here ≡ (nat_eq (term_at r.v old offset) place && admits (Some (block_at r old block)) place n align) =
    rw (← term-later old a k r.v offset ho, ← block-later old a k r block hb) now in
    t.says r.v ∙ rw (bit-later a b kb r.v admitted ha.within, before, now') (more-places (term_at r.v old offset) place (λ o. admits (Some (block_at r old block)) o n align))

-- no block admits an offset past these
pub all_admitted : (r : Reading) (terms : List Term) (b : SymBlock) (x : Bool) (o p n align : ℕ) → length b.places + 1 - n ≤ p → x ≡ (nat_lt o p && admits (Some (block_at r terms b)) o n align) → x ≡ admits (Some (block_at r terms b)) o n align
all_admitted r terms b x o p n align past is =
    is ∙ and-true (nat_lt o p) (admits (Some (block_at r terms b)) o n align) (λ e. lt-ltb o p (let room = admitted_room r terms b o n align e in omega (arith, room, past)))

-- ---- the bytes of a block

part-of : (size o n : ℕ) (xs : List Byte) → o + n ≤ min size (length xs) → take n (drop o (take size xs)) ≡ take n (drop o xs)
part-of size o n xs room =
    let split : size ≡ o + (size - o) = omega (arith, room) in
    ap (λ m. take n (drop o (take m xs))) split ∙ ap (take n) (drop-take o (size - o) xs) ∙ take-take n (size - o) (drop o xs) (omega (arith, room))

pub bytes_are : (r : Reading) (terms : List Term) (b : SymBlock) (offset : TermId) (n align : ℕ) → admits (Some (block_at r terms b)) (term_at r.v terms offset) n align ≡ true → bytes_from r terms b offset n ≡ take n (drop (term_at r.v terms offset) (places_at r terms b.places))
unfolding block_at
bytes_are r terms b offset n align e =
    let room = admitted_room r terms b (term_at r.v terms offset) n align e in
    let long = map-length (byte_at r terms) b.places in
    part-of (term_at r.v terms b.size) (term_at r.v terms offset) n (places_at r terms b.places) (omega (arith, room, long))

-- ---- a block whose bytes are overwritten

abbrev with_places : SymBlock → List SymByte → SymBlock
with_places b places = record { number = b.number; exists = b.exists; size = b.size; align = b.align; places = places }

pub overwrite_stays : (old new : List Term) (k : Keeps old new) (b : SymBlock) (now : List SymByte) (r : Reading) (c x : Bool) (others : List Byte) → IsSymBlock old b → c ≡ false
    → places_at r new now ≡ cond (c && x) others (places_at r old b.places) → block_at r new (with_places b now) ≡ block_at r old b
unfolding block_at
overwrite_stays old new k b now r c x others h never so =
    let same : places_at r new now ≡ places_at r old b.places = rw (and-false c x never) at so in
    rw (term-later old new k r.v b.size h.size.within, same) refl

pub overwrite_stands : (old new : List Term) (k : Keeps old new) (b : SymBlock) (now bytes : List SymByte) (r : Reading) (c : Bool) (o n align : ℕ) → IsSymBlock old b → c ≡ true → admits (Some (block_at r old b)) o n align ≡ true
    → places_at r new now ≡ cond (c && (nat_le (o + n) (length b.places) && nat_eq (o % align) 0)) (written (places_at r old bytes) o (places_at r old b.places)) (places_at r old b.places)
    → block_at r new (with_places b now) ≡ overwritten (places_at r old bytes) o (block_at r old b)
unfolding block_at
overwrite_stands old new k b now bytes r c o n align h chosen admitted so =
    let room = admitted_room r old b o n align admitted in
    let test = both-true c (nat_le (o + n) (length b.places)) (nat_eq (o % align) 0) chosen (le-leb (o + n) (length b.places) (omega (arith, room))) (admitted_aligned r old b o n align admitted) in
    let same : places_at r new now ≡ written (places_at r old bytes) o (places_at r old b.places) = rw test at so in
    rw (term-later old new k r.v b.size h.size.within, same) refl

first-alone : (o n places align : ℕ) → (nat_le n places && nat_lt (places - n) align) ≡ true → o + n ≤ places → nat_eq (o % align) 0 ≡ true → o ≡ 0
first-alone o n places align alone room aligned =
    let few : places - n < align = ltb-true (places - n) align (and-right (nat_le n places) (nat_lt (places - n) align) alone) in
    sym (small_mod o align (omega (arith, few, room))) ∙ eqb-true (o % align) 0 aligned

pub first_room : (n places align : ℕ) → (nat_le n places && nat_lt (places - n) align) ≡ true → n ≤ places
first_room n places align alone = leb-true n places (and-left (nat_le n places) (nat_lt (places - n) align) alone)

pub first_stays : (old new : List Term) (k : Keeps old new) (b : SymBlock) (now : List SymByte) (r : Reading) (c : Bool) (others : List Byte) → IsSymBlock old b → c ≡ false
    → places_at r new now ≡ cond c others (places_at r old b.places) → block_at r new (with_places b now) ≡ block_at r old b
unfolding block_at
first_stays old new k b now r c others h never so =
    let same : places_at r new now ≡ places_at r old b.places = rw never at so in
    rw (term-later old new k r.v b.size h.size.within, same) refl

pub first_stands : (old new : List Term) (k : Keeps old new) (b : SymBlock) (now bytes : List SymByte) (r : Reading) (c : Bool) (o n align : ℕ) → IsSymBlock old b → (nat_le n (length b.places) && nat_lt (length b.places - n) align) ≡ true
    → c ≡ true → admits (Some (block_at r old b)) o n align ≡ true
    → places_at r new now ≡ cond c (written (places_at r old bytes) 0 (places_at r old b.places)) (places_at r old b.places)
    → block_at r new (with_places b now) ≡ overwritten (places_at r old bytes) o (block_at r old b)
unfolding block_at
first_stands old new k b now bytes r c o n align h alone chosen admitted so =
    let room = admitted_room r old b o n align admitted in
    let none = first-alone o n (length b.places) align alone (omega (arith, room)) (admitted_aligned r old b o n align admitted) in
    let same : places_at r new now ≡ written (places_at r old bytes) 0 (places_at r old b.places) = rw chosen at so in
    rw (term-later old new k r.v b.size h.size.within, same, none) refl
