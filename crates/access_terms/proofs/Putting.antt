-- Bytes that replace others, one by one and where the offset is one of several.
use Rattle.access_terms.proofs.Common.{ℕ, zero, suc, ◌≡◌, ◌<◌, ◌≤◌, ◌+◌, ◌-◌, ◌%◌, Bool, true, false, cond, ◌&&◌, nat_eq, nat_lt, List, [], ◌∷◌, ◌++◌, length, map, take, drop, get_or, refl, ap, sym, ◌∙◌, inl, inr, arith, paste, cases_eq, eq-eqb, le-ltb, lt-ltb, ne_eqb, nat_tests, append-nil, drop_all, drop-map, length-drop, length-take, set-get_or, take-map, Byte, Bits, TermId, Term, IsTerm, Keeps, Tests, bit_at, term_at, SymByte, Each, Reading, AreSymBytes, IsSymByte, byte_at, places_at, each-at, map-at, map-length, map-set, bit-later, byte-later, places-later, term-later, written}
use Rattle.std.specs.Prelude.{slice_set}
use Rattle.std.proofs.Math.ListN.{set}
use Rattle.std.proofs.lemmas.List.Edits.{paste_more, paste_all}

-- ---- the first bytes

pub first_places : (r : Reading) (terms : List Term) (places bytes : List SymByte) (count : ℕ) → bytes ≡ take count places → places_at r terms bytes ≡ take count (places_at r terms places)
first_places r terms places bytes count is = ap (places_at r terms) is ∙ sym (take-map (byte_at r terms) count places)

pub first_taken : (o count : ℕ) (places now : List Byte) → o < 1 → now ≡ take count places → now ≡ take count (drop o places)
first_taken o count places now none is = let e : 0 ≡ o = omega (arith, none) in is ∙ ap (λ n. take count (drop n places)) e

-- ---- byte by byte

put-one : (c : Bool) (places bytes : List Byte) (from i : ℕ) (x y d : Byte) → from + i < length places → i < length bytes → get_or bytes i d ≡ x
    → get_or (cond c (paste places from bytes i) places) (from + i) d ≡ y
    → slice_set (cond c (paste places from bytes i) places) (from + i) (cond c x y) ≡ cond c (paste places from bytes (i + 1)) places
put-one true places bytes from i x y d room within is was = ap (set (paste places from bytes i) (from + i)) (sym is) ∙ paste_more places from bytes i d room within
put-one false places bytes from i x y d room within is was = ap (set places (from + i)) (sym was) ∙ set-get_or places (from + i) d

pub put_more : (old a b : List Term) (c : TermId) (bytes places now : List SymByte) (from i : ℕ) (byte before picked : SymByte)
    → IsTerm old 1 c → AreSymBytes old bytes → from + length bytes ≤ length places → length now ≡ length places
    → i < length bytes → byte ≡ get_or bytes i byte → before ≡ get_or now (from + i) before
    → Keeps old a → AreSymBytes a now
    → ((r : Reading) → places_at r a now ≡ cond (bit_at r.v old c) (paste (places_at r old places) from (places_at r old bytes) i) (places_at r old places))
    → Keeps a b → ((r : Reading) → byte_at r b picked ≡ cond (bit_at r.v a c) (byte_at r a byte) (byte_at r a before))
    → (r : Reading) → places_at r b (slice_set now (from + i) picked) ≡ cond (bit_at r.v old c) (paste (places_at r old places) from (places_at r old bytes) (i + 1)) (places_at r old places)
put_more old a b c bytes places now from i byte before picked hc hbytes room count within is was ka hnow so kb stands r =
    let item = each-at (IsSymByte old) bytes i byte hbytes within is in
    let value : byte_at r b picked ≡ cond (bit_at r.v old c) (byte_at r old byte) (byte_at r a before) = rw (← bit-later old a ka r.v c hc.within, ← byte-later old a ka r byte item) (stands r) in
    let long = map-length (byte_at r old) places in
    let short = map-length (byte_at r old) bytes in
    let byte_is = map-at (byte_at r old) bytes i byte (Bits 0 0) within is in
    let before_is = map-at (byte_at r a) now (from + i) before (Bits 0 0) (omega (arith, room, count, within)) was in
    map-set (byte_at r b) now (from + i) picked
    ∙ rw (places-later a b kb r now hnow, value, so r)
    (put-one (bit_at r.v old c) (places_at r old places) (places_at r old bytes) from i (byte_at r old byte) (byte_at r a before) (Bits 0 0)
    (omega (arith, room, long, within)) (omega (arith, short, within)) byte_is (rw (← so r) before_is))

-- all are put
pub put_all : (c : Bool) (places bytes now : List Byte) (from i : ℕ) → i ≡ length bytes → now ≡ cond c (paste places from bytes i) places → now ≡ cond c (written bytes from places) places
put_all c places bytes now from i all so =
    so ∙ ap (λ (ys : List Byte). cond c ys places) (paste_all places from bytes i all ∙ ap (λ n. take from places ++ (bytes ++ drop (from + n) places)) all)

-- ---- at one offset

pub each-part : {A : Type 0} (P : A → Type 0) (n m : ℕ) (xs : List A) → Each P xs → Each P (take n (drop m xs))
each-part P zero m xs h = tt
each-part P (suc n) zero [] h = tt
each-part P (suc n) zero (x ∷ xs) h = (h.0, each-part P n zero xs h.1)
each-part P (suc n) (suc m) [] h = tt
each-part P (suc n) (suc m) (x ∷ xs) h = each-part P (suc n) m xs h.1

map-part : {A B : Type 0} (f : A → B) (n m : ℕ) (xs : List A) → map f (take n (drop m xs)) ≡ take n (drop m (map f xs))
map-part f n m xs = sym (take-map f n (drop m xs)) ∙ ap (take n) (sym (drop-map f m xs))

written_whole : (bytes places : List Byte) → length bytes ≡ length places → written bytes 0 places ≡ bytes
written_whole bytes places same = ap (λ ys. bytes ++ ys) (drop_all (0 + length bytes) places (omega (arith, same))) ∙ append-nil bytes

pub chosen_says : (old a b : List Term) (c here chosen offset : TermId) (place : ℕ) → IsTerm old 1 c → Keeps old a → Tests a here (λ v. nat_eq (term_at v old offset) place) → Tests b chosen (λ v. bit_at v a c && bit_at v a here)
    → (v : ℕ → ℕ → ℕ) → bit_at v b chosen ≡ (bit_at v old c && nat_eq (term_at v old offset) place)
chosen_says old a b c here chosen offset place hc k t1 t2 v = t2.says v ∙ rw (bit-later old a k v c hc.within, t1.says v) refl

-- nothing is put where the condition is false
pub never_put : (old new : List Term) → Keeps old new → (places : List SymByte) → AreSymBytes old places → (r : Reading) (c : Bool) (others : List Byte) → c ≡ false → places_at r new places ≡ cond c others (places_at r old places)
never_put old new k places h r c others never = rw never (places-later old new k r places h)

-- what a condition puts, an equal one puts
pub chosen_put : (old a b : List Term) (k : Keeps old a) (bytes places now : List SymByte) → AreSymBytes old bytes → AreSymBytes old places → (r : Reading) (place : ℕ) (c d : Bool) → c ≡ d
    → places_at r b now ≡ cond c (written (places_at r a bytes) place (places_at r a places)) (places_at r a places)
    → places_at r b now ≡ cond d (written (places_at r old bytes) place (places_at r old places)) (places_at r old places)
chosen_put old a b k bytes places now hb hp r place c d same so = rw (← same, ← places-later old a k r bytes hb, ← places-later old a k r places hp) so

-- bytes that are put over the same number of others
pub taken : (old a b : List Term) (k : Keeps old a) (places bytes now : List SymByte) → AreSymBytes old places → AreSymBytes old bytes → (r : Reading) (place n : ℕ) (c d : Bool) → c ≡ d
    → n ≡ length bytes → place + length bytes ≤ length places
    → places_at r b now ≡ cond c (written (places_at r a (take n (drop place places))) 0 (places_at r a bytes)) (places_at r a bytes)
    → places_at r b now ≡ cond d (take (length bytes) (drop place (places_at r old places))) (places_at r old bytes)
taken old a b k places bytes now hp hb r place n c d same count room so =
    let part = take n (drop place places) in
    let some : places_at r a part ≡ take (length bytes) (drop place (places_at r old places)) =
    places-later old a k r part (each-part (IsSymByte old) n place places hp) ∙ (map-part (byte_at r old) n place places ∙ ap (λ m. take m (drop place (places_at r old places))) count) in
    let short = length-take n (drop place places) in
    let rest = length-drop place places in
    let long = map-length (byte_at r a) part in
    let other = map-length (byte_at r a) bytes in
    let whole = written_whole (places_at r a part) (places_at r a bytes) (omega (arith, short, rest, long, other, count, room)) in
    rw (← same, ← some, ← places-later old a k r bytes hb) (so ∙ ap (λ (ys : List Byte). cond c ys (places_at r a bytes)) whole)

-- ---- at each of several offsets

taken-next : (o p : ℕ) (ys zs now : List Byte) → o < p + 1 → (o ≡ p → ys ≡ zs) → (o < p → now ≡ zs) → cond (nat_eq o p) ys now ≡ zs
taken-next o p ys zs now below here before =
    elim (cases_eq o p) as (λ _. cond (nat_eq o p) ys now ≡ zs) [
      | inl e ↦ rw (eq-eqb o p e) (here e)
      | inr other ↦ rw (ne_eqb o p other) (before (omega (arith, below, other)))
    ]

-- the bytes at an offset that was looked at
pub taken_more : (old a b : List Term) (k : Keeps old a) (places now next : List SymByte) (offset : TermId) (place count : ℕ) → AreSymBytes old places → offset.index < length old → length now ≡ count → (r : Reading)
    → (term_at r.v old offset < place → places_at r a now ≡ take count (drop (term_at r.v old offset) (places_at r old places)))
    → places_at r b next ≡ cond (nat_eq (term_at r.v a offset) place) (take (length now) (drop place (places_at r a places))) (places_at r a now)
    → term_at r.v old offset < place + 1 → places_at r b next ≡ take count (drop (term_at r.v old offset) (places_at r old places))
taken_more old a b k places now next offset place count hp ho is r before so below =
    let so' : places_at r b next ≡ cond (nat_eq (term_at r.v old offset) place) (take count (drop place (places_at r old places))) (places_at r a now) =
    rw (← is, ← term-later old a k r.v offset ho, ← places-later old a k r places hp) so in
    so' ∙ taken-next (term_at r.v old offset) place (take count (drop place (places_at r old places))) (take count (drop (term_at r.v old offset) (places_at r old places))) (places_at r a now) below
    (λ e. ap (λ o. take count (drop o (places_at r old places))) (sym e)) before

put-next : (c : Bool) (o p align : ℕ) (bytes places now : List Byte) → nat_eq (p % align) 0 ≡ true
    → now ≡ cond (c && (nat_lt o p && nat_eq (o % align) 0)) (written bytes o places) places
    → cond (c && nat_eq o p) (written bytes p now) now ≡ cond (c && (nat_lt o (p + 1) && nat_eq (o % align) 0)) (written bytes o places) places
put-next false o p align bytes places now aligned so = so
put-next true o p align bytes places now aligned so =
    elim (cases_eq o p) as (λ _. cond (nat_eq o p) (written bytes p now) now ≡ cond (nat_lt o (p + 1) && nat_eq (o % align) 0) (written bytes o places) places) [
      | inl e ↦
          let is : now ≡ places = rw (e, le-ltb p p (omega arith)) at so in
          rw (e, eq-eqb p p refl, lt-ltb p (p + 1) (omega arith), aligned, is) refl
      | inr other ↦
          let same : nat_lt o (p + 1) ≡ nat_lt o p = grind (arith, nat_tests) in
          rw (ne_eqb o p other, same) so
    ]

-- the bytes after one more that the offset may be
pub put_next : (old a b : List Term) (k : Keeps old a) (c offset : TermId) (bytes places now next : List SymByte) (place align : ℕ) → IsTerm old 1 c → offset.index < length old → AreSymBytes old bytes → nat_eq (place % align) 0 ≡ true → (r : Reading)
    → places_at r a now ≡ cond (bit_at r.v old c && (nat_lt (term_at r.v old offset) place && nat_eq (term_at r.v old offset % align) 0)) (written (places_at r old bytes) (term_at r.v old offset) (places_at r old places)) (places_at r old places)
    → places_at r b next ≡ cond (bit_at r.v a c && nat_eq (term_at r.v a offset) place) (written (places_at r a bytes) place (places_at r a now)) (places_at r a now)
    → places_at r b next ≡ cond (bit_at r.v old c && (nat_lt (term_at r.v old offset) (place + 1) && nat_eq (term_at r.v old offset % align) 0)) (written (places_at r old bytes) (term_at r.v old offset) (places_at r old places)) (places_at r old places)
put_next old a b k c offset bytes places now next place align hc ho hb aligned r before so =
    let so' : places_at r b next ≡ cond (bit_at r.v old c && nat_eq (term_at r.v old offset) place) (written (places_at r old bytes) place (places_at r a now)) (places_at r a now) =
    rw (← bit-later old a k r.v c hc.within, ← term-later old a k r.v offset ho, ← places-later old a k r bytes hb) so in
    so' ∙ put-next (bit_at r.v old c) (term_at r.v old offset) place align (places_at r old bytes) (places_at r old places) (places_at r a now) aligned before
