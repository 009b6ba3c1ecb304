-- Pointers as bytes, and bytes as pointers.
use Rattle.byte_terms.proofs.Common.{ℕ, zero, suc, ◌≡◌, ◌<◌, ◌≤◌, ◌+◌, Bool, true, false, cond, not, ◌&&◌, nat_eq, List, [], ◌∷◌, ◌++◌, length, take, drop, replicate, get_or, Some, refl, ap, sym, ◌∙◌, inl, inr, arith, slice_get, cases_Bool, at_drop_all, at_drop_more, BlockName, Ptr, Byte, Bits, Part, Pointer, equal_pointers, are_parts, is_part_of, parts_from, poison_bytes, pointer_or_poison, value_bytes, parts_from-get, defined-zero, TermId, Term, IsTerm, Keeps, Makes, Tests, bit_at, term_at, SymByte, SymValue, IsNaming, IsSymValue, Reading, value_at, value_of, AreSymBytes, IsSymByte, byte_at, byte_of, places_at, each-at, map-push, bit-later, keeps_trans, places-later, term-later}
use Rattle.byte_terms.proofs.Naming.{equal_numbers}
use Rattle.byte_terms.proofs.Digits.{front_all, front_more}
use Rattle.byte_terms.proofs.ByteLists.{length-replicate, replicate-get}
use Rattle.byte_terms.proofs.Bools.{and-thrice, and-yes}

-- the pointer that two terms denote
abbrev pub pointer_at : Reading → List Term → (block offset : TermId) → Ptr
pointer_at r terms block offset = record { block = r.name (term_at r.v terms block); offset = term_at r.v terms offset }

pointer-later : (old new : List Term) (k : Keeps old new) (r : Reading) (block offset : TermId) → block.index < length old → offset.index < length old → pointer_at r new block offset ≡ pointer_at r old block offset
pointer-later old new k r block offset hb ho = rw (term-later old new k r.v block hb, term-later old new k r.v offset ho) refl

-- ---- a pointer's parts

part-or-poison : (c : Bool) (m n k : ℕ) (p : Ptr) (part : ℕ) → m ≡ 255 → n ≡ 0 → k ≡ part → byte_of c m n p k ≡ cond c (Part p part) (Bits 0 255)
part-or-poison true m n k p part all none is = ap (Part p) is
part-or-poison false m n k p part all none is = rw (all, none) (ap (λ x. Bits x 255) (defined-zero 255))

pub pointer_part_stands : (old a b c : List Term) (is_part mask number block offset part : TermId) (place : ℕ) → IsTerm old 1 is_part → IsTerm old 64 block → IsTerm old 64 offset
    → Keeps old a → Makes a mask 8 (λ _. 255) → Keeps a b → Makes b number 8 (λ _. 0) → Keeps b c → Makes c part 3 (λ _. place) → (r : Reading)
    → byte_at r c (record { is_part = is_part; mask = mask; number = number; block = block; offset = offset; part = part }) ≡ cond (bit_at r.v old is_part) (Part (pointer_at r old block offset) place) (Bits 0 255)
unfolding byte_at
pointer_part_stands old a b c is_part mask number block offset part place hp hb ho k1 m1 k2 m2 k3 m3 r =
    let k = keeps_trans old b c (keeps_trans old a b k1 k2) k3 in
    rw (bit-later old c k r.v is_part hp.within, term-later old c k r.v block hb.within, term-later old c k r.v offset ho.within)
    (part-or-poison (bit_at r.v old is_part) (term_at r.v c mask) (term_at r.v c number) (term_at r.v c part) (pointer_at r old block offset) place
    (term-later a c (keeps_trans a b c k2 k3) r.v mask m1.within ∙ m1.says r.v) (term-later b c k3 r.v number m2.within ∙ m2.says r.v) (m3.says r.v))

length-parts_from : (p : Ptr) (i n : ℕ) → length (parts_from p i n) ≡ n
unfolding parts_from
length-parts_from p i zero = refl
length-parts_from p i (suc n) = ap suc (length-parts_from p (i + 1) n)

part-get : (p : Ptr) (k : ℕ) → k < 8 → slice_get (parts_from p 0 8) k ≡ Some (Part p k)
part-get p k lt = let e : 0 + k ≡ k = omega arith in parts_from-get p 0 8 k lt ∙ ap (λ j. Some (Part p j)) e

pub parts_more : (old a b : List Term) (ka : Keeps old a) (kb : Keeps a b) (is_part block offset : TermId) (now : List SymByte) (byte : SymByte) (i : ℕ) → IsTerm old 1 is_part → IsTerm old 64 block → IsTerm old 64 offset → AreSymBytes a now → i < 8 → (r : Reading)
    → places_at r a now ≡ cond (bit_at r.v old is_part) (take i (parts_from (pointer_at r old block offset) 0 8)) (take i (replicate 8 (Bits 0 255)))
    → byte_at r b byte ≡ cond (bit_at r.v a is_part) (Part (pointer_at r a block offset) i) (Bits 0 255)
    → places_at r b (now ++ byte ∷ []) ≡ cond (bit_at r.v old is_part) (take (i + 1) (parts_from (pointer_at r old block offset) 0 8)) (take (i + 1) (replicate 8 (Bits 0 255)))
parts_more old a b ka kb is_part block offset now byte i hp hb ho hnow lt r before one =
    let p = pointer_at r old block offset in
    let is : byte_at r b byte ≡ cond (bit_at r.v old is_part) (Part p i) (Bits 0 255) =
    one ∙ (ap (λ c. cond c (Part (pointer_at r a block offset) i) (Bits 0 255)) (bit-later old a ka r.v is_part hp.within)
    ∙ ap (λ q. cond (bit_at r.v old is_part) (Part q i) (Bits 0 255)) (pointer-later old a ka r block offset hb.within ho.within)) in
    map-push (byte_at r b) now byte
    ∙ rw (places-later a b kb r now hnow, before, is)
    (front_more (bit_at r.v old is_part) (parts_from p 0 8) (replicate 8 (Bits 0 255)) i (Part p i) (Bits 0 255) (part-get p i lt) (replicate-get 8 (Bits 0 255) i lt))

pub parts_all : (r : Reading) (old new : List Term) (is_part block offset : TermId) (now : List SymByte) (i : ℕ) → 8 ≤ i
    → places_at r new now ≡ cond (bit_at r.v old is_part) (take i (parts_from (pointer_at r old block offset) 0 8)) (take i (replicate 8 (Bits 0 255)))
    → places_at r new now ≡ cond (bit_at r.v old is_part) (parts_from (pointer_at r old block offset) 0 8) (replicate 8 (Bits 0 255))
parts_all r old new is_part block offset now i past so =
    front_all (bit_at r.v old is_part) (parts_from (pointer_at r old block offset) 0 8) (replicate 8 (Bits 0 255)) (places_at r new now) i 8
    (length-parts_from (pointer_at r old block offset) 0 8) (length-replicate 8 (Bits 0 255)) past so

stored-parts : (p q : Bool) (b : BlockName) (x : ℕ) → cond (not p && q) (parts_from (record { block = b; offset = x }) 0 8) (replicate 8 (Bits 0 255)) ≡ value_bytes Pointer (value_of p q b x)
unfolding poison_bytes
stored-parts true q b x = refl
stored-parts false true b x = refl
stored-parts false false b x = refl

pub pointer_bytes_stand : (old a b c : List Term) (s : SymValue) (is_defined is_part : TermId) (bytes : List SymByte) → IsSymValue old s
    → Keeps old a → Tests a is_defined (λ v. not (bit_at v old s.poison)) → Keeps a b → Tests b is_part (λ v. bit_at v a is_defined && bit_at v a s.is_pointer)
    → (r : Reading) → places_at r c bytes ≡ cond (bit_at r.v b is_part) (parts_from (pointer_at r b s.block s.number) 0 8) (replicate 8 (Bits 0 255))
    → places_at r c bytes ≡ value_bytes Pointer (value_at r old s)
unfolding value_at
pointer_bytes_stand old a b c s is_defined is_part bytes h k1 t1 k2 t2 r so =
    let k = keeps_trans old a b k1 k2 in
    let part_is : bit_at r.v b is_part ≡ (not (bit_at r.v old s.poison) && bit_at r.v old s.is_pointer) = t2.says r.v ∙ rw (bit-later old a k1 r.v s.is_pointer h.is_pointer.within, t1.says r.v) refl in
    so ∙ rw (part_is, term-later old b k r.v s.block h.block.within, term-later old b k r.v s.number h.number.within)
    (stored-parts (bit_at r.v old s.poison) (bit_at r.v old s.is_pointer) (r.name (term_at r.v old s.block)) (term_at r.v old s.number))

-- ---- one part

part-of-byte : (p q : Ptr) (k : Bool) (m n j i : ℕ) → (k && (equal_pointers p q && nat_eq j i)) ≡ is_part_of p i (byte_of k m n q j)
part-of-byte p q true m n j i = refl
part-of-byte p q false m n j i = refl

pub is_part_stands : (old a b c d : List Term) (block offset : TermId) (byte : SymByte) (place : ℕ) (same_pointer same_place is_same id : TermId) → IsSymByte old byte
    → Keeps old a → Tests a same_pointer (λ v. nat_eq (term_at v old block) (term_at v old byte.block) && nat_eq (term_at v old offset) (term_at v old byte.offset)) → Keeps a b → Tests b same_place (λ v. nat_eq (term_at v a byte.part) place)
    → Keeps b c → Tests c is_same (λ v. bit_at v b same_pointer && bit_at v b same_place) → Tests d id (λ v. bit_at v c byte.is_part && bit_at v c is_same)
    → (r : Reading) → IsNaming r.name → bit_at r.v d id ≡ is_part_of (pointer_at r old block offset) place (byte_at r old byte)
unfolding byte_at
is_part_stands old a b c d block offset byte place same_pointer same_place is_same id h k1 t1 k2 t2 k3 t3 t4 r hn =
    let kac = keeps_trans old b c (keeps_trans old a b k1 k2) k3 in
    let names = equal_numbers r.name hn (term_at r.v old block) (term_at r.v old byte.block) in
    let pointer_is : bit_at r.v b same_pointer ≡ equal_pointers (pointer_at r old block offset) (pointer_at r old byte.block byte.offset) =
    bit-later a b k2 r.v same_pointer t1.within ∙ (t1.says r.v ∙ rw (← names) refl) in
    let place_is : bit_at r.v b same_place ≡ nat_eq (term_at r.v old byte.part) place = t2.says r.v ∙ ap (λ n. nat_eq n place) (term-later old a k1 r.v byte.part h.part.within) in
    t4.says r.v ∙ rw (bit-later old c kac r.v byte.is_part h.is_part.within, t3.says r.v, pointer_is, place_is)
    (part-of-byte (pointer_at r old block offset) (pointer_at r old byte.block byte.offset) (bit_at r.v old byte.is_part) (term_at r.v old byte.mask) (term_at r.v old byte.number) (term_at r.v old byte.part) place)

-- ---- all parts

pub are_parts_more : (old a b c : List Term) (k : Keeps old a) (block offset : TermId) (bytes : List SymByte) (i : ℕ) (byte : SymByte) (all here both : TermId) → AreSymBytes old bytes → i < length bytes → byte ≡ get_or bytes i byte
    → IsTerm old 64 block → IsTerm old 64 offset → IsTerm a 1 all → Keeps a b → Tests c both (λ v. bit_at v b all && bit_at v b here) → (r : Reading)
    → bit_at r.v b here ≡ is_part_of (pointer_at r a block offset) i (byte_at r a byte) → byte_at r a byte ≡ byte_at r old byte
    → (bit_at r.v a all && are_parts (pointer_at r old block offset) i (places_at r old (drop i bytes))) ≡ are_parts (pointer_at r old block offset) 0 (places_at r old bytes)
    → (bit_at r.v c both && are_parts (pointer_at r old block offset) (i + 1) (places_at r old (drop (i + 1) bytes))) ≡ are_parts (pointer_at r old block offset) 0 (places_at r old bytes)
unfolding are_parts
are_parts_more old a b c k block offset bytes i byte all here both h lt is hb ho ha kb t r one same before =
    let p = pointer_at r old block offset in
    let first : are_parts p i (places_at r old (drop i bytes)) ≡ (is_part_of p i (byte_at r old byte) && are_parts p (i + 1) (places_at r old (drop (i + 1) bytes))) =
    at_drop_more (λ bs. are_parts p i (places_at r old bs)) bytes i byte lt ∙ ap (λ x. is_part_of p i (byte_at r old x) && are_parts p (i + 1) (places_at r old (drop (i + 1) bytes))) (sym is) in
    let now : bit_at r.v b here ≡ is_part_of p i (byte_at r old byte) = one ∙ (ap (λ q. is_part_of q i (byte_at r a byte)) (pointer-later old a k r block offset hb.within ho.within) ∙ ap (is_part_of p i) same) in
    rw (t.says r.v, bit-later a b kb r.v all ha.within, now)
    (and-thrice (bit_at r.v a all) (is_part_of p i (byte_at r old byte)) (are_parts p (i + 1) (places_at r old (drop (i + 1) bytes))) (are_parts p 0 (places_at r old bytes))
    (ap (λ x. bit_at r.v a all && x) (sym first) ∙ before))

pub are_parts_all : (r : Reading) (old : List Term) (p : Ptr) (x : Bool) (bytes : List SymByte) (i : ℕ) → length bytes ≡ 8 → 8 ≤ i → i ≤ 8
    → (x && are_parts p i (places_at r old (drop i bytes))) ≡ are_parts p 0 (places_at r old bytes) → x ≡ are_parts p 0 (places_at r old bytes)
unfolding are_parts
are_parts_all r old p x bytes i long past within so =
    let e : i ≡ 8 = omega (arith, past, within) in
    and-yes x (are_parts p i (places_at r old (drop i bytes))) (are_parts p 0 (places_at r old bytes)) (at_drop_all (λ bs. are_parts p i (places_at r old bs)) bytes i (omega (arith, long, past)) ∙ ap (λ j. nat_eq j 8) e) so

-- ---- the pointer that bytes are read as

read-pointer : (k : Bool) (m n j : ℕ) (p : Ptr) (bytes : List Byte) → value_of (not (are_parts p 0 (byte_of k m n p j ∷ bytes))) true p.block p.offset ≡ pointer_or_poison (byte_of k m n p j ∷ bytes)
unfolding are_parts
read-pointer true m n j p bytes =
    elim (cases_Bool (are_parts p 0 (Part p j ∷ bytes))) as (λ _. value_of (not (are_parts p 0 (Part p j ∷ bytes))) true p.block p.offset ≡ pointer_or_poison (Part p j ∷ bytes)) [
      | inl g ↦ rw g refl
      | inr g ↦ rw g refl
    ]
read-pointer false m n j p bytes = refl

first-byte : (bytes : List SymByte) (byte : SymByte) → 0 < length bytes → byte ≡ get_or bytes 0 byte → bytes ≡ byte ∷ drop 1 bytes
first-byte [] byte lt is = absurd (omega arith)
first-byte (b ∷ bytes) byte lt is = ap (λ x. x ∷ bytes) (sym is)

pub pointer_of_bytes_stands : (old a b c : List Term) (bytes : List SymByte) (first : SymByte) (all poison is_pointer : TermId) → AreSymBytes old bytes → 0 < length bytes → first ≡ get_or bytes 0 first
    → Keeps old a → Keeps a b → Tests b poison (λ v. not (bit_at v a all)) → Keeps b c → Tests c is_pointer (λ v. true) → (r : Reading)
    → bit_at r.v a all ≡ are_parts (pointer_at r old first.block first.offset) 0 (places_at r old bytes)
    → value_at r c (record { poison = poison; is_pointer = is_pointer; block = first.block; number = first.offset }) ≡ pointer_or_poison (places_at r old bytes)
unfolding value_at byte_at
pointer_of_bytes_stands old a b c bytes first all poison is_pointer h lt is k1 k2 t2 k3 t3 r all_is =
    let item = each-at (IsSymByte old) bytes 0 first h lt is in
    let k = keeps_trans old b c (keeps_trans old a b k1 k2) k3 in
    let p = pointer_at r old first.block first.offset in
    let front = first-byte bytes first lt is in
    rw (bit-later b c k3 r.v poison t2.within, t2.says r.v, all_is, t3.says r.v, term-later old c k r.v first.block item.block.within, term-later old c k r.v first.offset item.offset.within)
    (ap (λ bs. value_of (not (are_parts p 0 (places_at r old bs))) true p.block p.offset) front
    ∙ read-pointer (bit_at r.v old first.is_part) (term_at r.v old first.mask) (term_at r.v old first.number) (term_at r.v old first.part) p (places_at r old (drop 1 bytes))
    ∙ ap (λ bs. pointer_or_poison (places_at r old bs)) (sym front))
