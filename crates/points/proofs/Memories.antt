-- The next contents of the given blocks, and their next sizes.
use Rattle.points.proofs.Common.{◌≡◌, inl, inr, ℕ, zero, suc, ◌+◌, ◌-◌, ◌*◌, ◌^◌, ◌<◌, ◌≤◌, List, [], ◌∷◌, length, refl, sym, ap, ◌∙◌, arith, slice_get, Some, add-one, set, flat_map, cases_eq, set-get_or, get_or_from_slice_get, Given, Byte, MemoryBlock, Layout, number_of, IsGivenBlock, BlocksFit, byte_code, places_code, AreSizes, PlacesFit, IsNextPlaces, IsLastPlaces, sizes_in, memory_number, IsNextMemory, IsLastMemory, IsNextSizes, AreLastSizes, AreLeastBlocks, from_place, zero_byte, zero_places, zero_size}
use Rattle.points.proofs.Same.{bytes_digits}
use Rattle.points.proofs.Rows.{zero_number, RowFits, AreThings, IsNextThing, IsLastThing, AreLastFrom, raised, raised_is, raised_fits, last_row, next_row, last_more}
use Rattle.points.proofs.Places.{zeros_fit, zeros_number}
use Rattle.points.proofs.Args.{none_past}

-- ---- contents

-- the block with other contents
pub record IsLike (layout : Layout) (k b : MemoryBlock) : Type 0 where
  pub name : b.name ≡ k.name
  pub size : b.size ≡ k.size
  pub align : b.align ≡ k.align
  pub places : PlacesFit layout layout.bytes k.size b.places

pub blocks_are : (layout : Layout) → layout.blocks < 2 ^ 64 → AreThings (IsLike layout) (places_code layout) (layout.bytes * 6) zero_places
blocks_are layout few = record {
  digits = λ k x like. (let h = bytes_digits layout x.places few like.places.fit in rw like.places.room at h);
  fits = λ k x like. record { name = like.name; size = like.size; align = like.align; places = zeros_fit layout layout.bytes k.size x.places like.places.room };
  least = λ k x like. zeros_number layout x.places;
}

places_of : (layout : Layout) (number : ℕ) (b : MemoryBlock) → IsGivenBlock layout number b → PlacesFit layout layout.bytes b.size b.places
places_of layout number b given = record { room = given.room; past = given.past; fit = given.fit }

pub row_of_blocks : (layout : Layout) (number : ℕ) (ks bs : List MemoryBlock) → BlocksFit layout number ks → BlocksFit layout number bs → sizes_in bs ≡ sizes_in ks → RowFits (IsLike layout) ks bs
row_of_blocks layout number [] [] fits fits' sizes = tt
row_of_blocks layout number (k ∷ ks) (b ∷ bs) fits fits' sizes =
    let size : b.size ≡ k.size = cc in
    let more : sizes_in bs ≡ sizes_in ks = cc in
    let places = places_of layout number b fits'.0 in
    (record { name = fits'.0.named ∙ sym fits.0.named; size = size; align = fits'.0.aligned ∙ sym fits.0.aligned; places = rw size at places }, row_of_blocks layout (number + 1) ks bs fits.1 fits'.1 more)
row_of_blocks layout number [] (b ∷ bs) fits fits' sizes = absurd (let l : length (sizes_in (b ∷ bs)) ≡ length (sizes_in []) = ap length sizes in omega (arith, l))
row_of_blocks layout number (k ∷ ks) [] fits fits' sizes = absurd (let l : length (sizes_in []) ≡ length (sizes_in (k ∷ ks)) = ap length sizes in omega (arith, l))

given_like : (layout : Layout) (number : ℕ) (k b : MemoryBlock) → IsGivenBlock layout number k → IsLike layout k b → IsGivenBlock layout number b
given_like layout number k b given like = record {
  named = like.name ∙ given.named;
  aligned = like.align ∙ given.aligned;
  small = rw like.size given.small;
  room = like.places.room;
  past = rw like.size like.places.past;
  fit = like.places.fit;
}

pub blocks_of_row : (layout : Layout) (number : ℕ) (ks bs : List MemoryBlock) → BlocksFit layout number ks → RowFits (IsLike layout) ks bs → BlocksFit layout number bs × (sizes_in bs ≡ sizes_in ks)
blocks_of_row layout number [] [] fits row = (fits, refl)
blocks_of_row layout number (k ∷ ks) (b ∷ bs) fits row =
    let rest = blocks_of_row layout (number + 1) ks bs fits.1 row.1 in
    let size = row.0.size in
    let sizes = rest.1 in
    ((given_like layout number k b fits.0 row.0, rest.0), cc)
blocks_of_row layout number [] (b ∷ bs) fits row = absurd row
blocks_of_row layout number (k ∷ ks) [] fits row = absurd row

abbrev pub PlacesAreLast : Layout → List MemoryBlock → List MemoryBlock → ℕ → Type 0
PlacesAreLast layout ks bs i = AreLastFrom (IsLike layout) (places_code layout) ks bs i

-- ---- sizes

-- the sizes from the index on are the greatest
abbrev pub AreFullFrom : Layout → List MemoryBlock → ℕ → Type 0
AreFullFrom layout bs i = (j : ℕ) (b : MemoryBlock) → i ≤ j → slice_get bs j ≡ Some b → layout.bytes ≤ b.size

-- ---- the loop over contents

pub record IsGivenAt (layout : Layout) (b : MemoryBlock) : Type 0 where
  pub number : ℕ
  pub given : IsGivenBlock layout number b

pub given_at : (layout : Layout) (number : ℕ) (bs : List MemoryBlock) (i : ℕ) (b : MemoryBlock) → BlocksFit layout number bs → slice_get bs i ≡ Some b → IsGivenAt layout b
given_at layout number [] i b fits e = absurd (cc)
given_at layout number (b' ∷ bs) zero b fits e = let same : b' ≡ b = cc in rw (← same) (record { number = number; given = fits.0 })
given_at layout number (b' ∷ bs) (suc i) b fits e = given_at layout (number + 1) bs i b fits.1 e

pub size_fits : (layout : Layout) (bs : List MemoryBlock) (i : ℕ) (b : MemoryBlock) → BlocksFit layout 1 bs → slice_get bs i ≡ Some b → b.size ≤ length b.places
size_fits layout bs i b fits e =
    let given = given_at layout 1 bs i b fits e in
    let small = given.given.small in let room = given.given.room in
    omega (arith, small, room)

pub places_fit : (layout : Layout) (bs : List MemoryBlock) (i : ℕ) (b : MemoryBlock) → BlocksFit layout 1 bs → slice_get bs i ≡ Some b → PlacesFit layout (length b.places) b.size b.places
places_fit layout bs i b fits e =
    let given = given_at layout 1 bs i b fits e in
    let places = places_of layout given.number b given.given in
    rw given.given.room places

next_block : (layout : Layout) (b : MemoryBlock) (places : List Byte) → length b.places ≡ layout.bytes → IsNextPlaces layout (length b.places) b.size b.places places → IsNextThing (IsLike layout) (places_code layout) b b (record b { places = places })
next_block layout b places room step =
    let step' = rw room at step in
    record {
      fits = record { name = refl; size = refl; align = refl; places = step'.fits };
      later = step'.later;
      no_gap = λ z like less. step'.no_gap z.places like.places less;
    }

pub next_memory_is : (layout : Layout) (bs old set_bs result : List MemoryBlock) (i : ℕ) (b : MemoryBlock) (places : List Byte) → layout.blocks < 2 ^ 64 → BlocksFit layout 1 old → bs ≡ old → slice_get bs i ≡ Some b → IsNextPlaces layout (length b.places) b.size b.places places → PlacesAreLast layout old bs (i + 1) → set_bs ≡ set bs i (record b { places = places }) → result ≡ from_place zero_places (i + 1) set_bs → IsNextMemory layout old result
next_memory_is layout bs old set_bs result i b places few fits same here step last raise zeros =
    let things = blocks_are layout few in
    let here' = rw same at here in
    let last' = rw (same, add-one) at last in
    let row = row_of_blocks layout 1 old old fits fits refl in
    let given = given_at layout 1 old i b fits here' in
    let thing = next_block layout b places given.given.room step in
    let is : result ≡ raised zero_places old i (record b { places = places }) = zeros ∙ rw (raise, same) (raised_is zero_places old i (record b { places = places })) in
    let code = next_row (IsLike layout) (places_code layout) (layout.bytes * 6) zero_places things old old i b b (record b { places = places }) row here' here' thing last' in
    let whole = blocks_of_row layout 1 old (raised zero_places old i (record b { places = places })) fits (raised_fits (IsLike layout) (places_code layout) (layout.bytes * 6) zero_places things old old i b (record b { places = places }) row here' thing.fits) in
    rw is (record {
      fits = whole.0;
      sizes = whole.1;
      later = code.later;
      no_gap = λ other other_fits sizes less. code.no_gap (flat_map (places_code layout) other) (record { things = other; is = refl; fits = row_of_blocks layout 1 old other fits other_fits sizes }) less;
    })

pub last_memory_is : (layout : Layout) (bs old : List MemoryBlock) (i : ℕ) → layout.blocks < 2 ^ 64 → BlocksFit layout 1 old → bs ≡ old → PlacesAreLast layout old bs i → i ≤ 0 → IsLastMemory layout old
last_memory_is layout bs old i few fits same last none = λ other other_fits sizes.
    let last' = rw same at last in
    last_row (IsLike layout) (places_code layout) (layout.bytes * 6) zero_places (blocks_are layout few) old old (row_of_blocks layout 1 old old fits fits refl)
    (λ j k x from e e'. last' j k x (omega arith) e e')
    (flat_map (places_code layout) other) (record { things = other; is = refl; fits = row_of_blocks layout 1 old other fits other_fits sizes })

pub none_past_blocks : (layout : Layout) (bs : List MemoryBlock) → PlacesAreLast layout bs bs (length bs)
none_past_blocks layout bs = λ j k x from e e'. absurd (none_past bs j k from e)

last_block : (layout : Layout) (b : MemoryBlock) → length b.places ≡ layout.bytes → IsLastPlaces layout (length b.places) b.size b.places → IsLastThing (IsLike layout) (places_code layout) b b
last_block layout b room last = let last' = rw room at last in λ z like. last' z.places like.places

pub set_again : {A : Type 0} (xs : List A) (i : ℕ) (x y : A) → slice_get xs i ≡ Some x → y ≡ x → set xs i y ≡ xs
set_again xs i x y here same = rw same (ap (λ z. set xs i z) (sym (get_or_from_slice_get xs i x x here)) ∙ set-get_or xs i x)

pub places_last_more : (layout : Layout) (bs old : List MemoryBlock) (i : ℕ) (b : MemoryBlock) → BlocksFit layout 1 old → bs ≡ old → 0 < i → PlacesAreLast layout old bs i → slice_get bs (i - 1) ≡ Some b → IsLastPlaces layout (length b.places) b.size b.places → PlacesAreLast layout old bs (i - 1)
places_last_more layout bs old i b fits same positive last here last_here =
    let here' = rw same at here in
    let given = given_at layout 1 old (i - 1) b fits here' in
    last_more (IsLike layout) (places_code layout) old bs i b b positive last here' here (last_block layout b given.given.room last_here)

-- ---- a row of sizes

abbrev pub IsSize : Layout → ℕ → ℕ → Type 0
IsSize layout k size = size ≤ layout.bytes

abbrev pub one : ℕ → List ℕ
one x = x ∷ []

abbrev pub to_zero : ℕ → ℕ
to_zero x = 0

one_number : (x : ℕ) → number_of (one x) ≡ x
unfolding number_of
one_number x = omega arith

singles : (xs : List ℕ) → flat_map one xs ≡ xs
singles [] = refl
singles (x ∷ xs) = ap (λ ys. x ∷ ys) (singles xs)

sizes_are : (layout : Layout) → layout.bytes < 2 ^ 64 → AreThings (IsSize layout) one 1 to_zero
sizes_are layout short = record {
  digits = λ k x small. (omega (arith, small), tt);
  fits = λ k x small. omega arith;
  least = λ k x small. one_number 0;
}

sizes_row : (layout : Layout) (n : ℕ) (ks sizes : List ℕ) → length ks ≡ n → AreSizes layout n sizes → RowFits (IsSize layout) ks sizes
sizes_row layout zero [] [] long small = tt
sizes_row layout (suc n) (k ∷ ks) (size ∷ sizes) long small = (small.0, sizes_row layout n ks sizes (omega (arith, long)) small.1)
sizes_row layout zero (k ∷ ks) sizes long small = absurd (omega (arith, long))
sizes_row layout (suc n) [] sizes long small = absurd (omega (arith, long))
sizes_row layout zero [] (size ∷ sizes) long small = absurd small
sizes_row layout (suc n) (k ∷ ks) [] long small = absurd small

own_sizes : (layout : Layout) (number : ℕ) (bs : List MemoryBlock) → BlocksFit layout number bs → RowFits (IsSize layout) (sizes_in bs) (sizes_in bs)
own_sizes layout number [] fits = tt
own_sizes layout number (b ∷ bs) fits = (fits.0.small, own_sizes layout (number + 1) bs fits.1)

length-sizes : (bs : List MemoryBlock) → length (sizes_in bs) ≡ length bs
length-sizes [] = refl
length-sizes (b ∷ bs) = ap suc (length-sizes bs)

size_here : (bs : List MemoryBlock) (i : ℕ) (b : MemoryBlock) → slice_get bs i ≡ Some b → slice_get (sizes_in bs) i ≡ Some b.size
size_here [] i b e = absurd (cc)
size_here (b' ∷ bs) zero b e = let same : b' ≡ b = cc in rw same refl
size_here (b' ∷ bs) (suc i) b e = size_here bs i b e

record HasSize (bs : List MemoryBlock) (i x : ℕ) : Type 0 where
  pub block : MemoryBlock
  pub here : slice_get bs i ≡ Some block
  pub size : block.size ≡ x

block_with_size : (bs : List MemoryBlock) (i x : ℕ) → slice_get (sizes_in bs) i ≡ Some x → HasSize bs i x
block_with_size [] i x e = absurd (cc)
block_with_size (b ∷ bs) zero x e = record { block = b; here = refl; size = cc }
block_with_size (b ∷ bs) (suc i) x e = let rest = block_with_size bs i x e in record { block = rest.block; here = rest.here; size = rest.size }

last_sizes_from : (layout : Layout) (bs : List MemoryBlock) (i : ℕ) → AreFullFrom layout bs i → AreLastFrom (IsSize layout) one (sizes_in bs) (sizes_in bs) i
last_sizes_from layout bs i full = λ j k x from e e'.
    let has = block_with_size bs j x e' in
    let great = full j has.block from has.here in
    let size = has.size in
    λ z small. rw (one_number z, one_number x) (omega (arith, small, great, size))

next_size : (layout : Layout) (k x : ℕ) → x < layout.bytes → IsNextThing (IsSize layout) one k x (x + 1)
next_size layout k x room = record {
  fits = omega arith;
  later = rw (one_number x, one_number (x + 1)) (omega arith);
  no_gap = λ z small less. (let less' = rw (one_number z, one_number (x + 1)) at less in rw (one_number z, one_number x) (omega (arith, less')));
}

-- ---- blocks with room, whatever is in it

pub record IsRoomy (layout : Layout) (number : ℕ) (b : MemoryBlock) : Type 0 where
  pub named : b.name ≡ Given number
  pub aligned : b.align ≡ 16
  pub small : b.size ≤ layout.bytes
  pub room : length b.places ≡ layout.bytes

abbrev pub AreRoomy : Layout → ℕ → List MemoryBlock → Type 0
AreRoomy layout number [] = number ≡ layout.blocks + 1
AreRoomy layout number (b ∷ bs) = IsRoomy layout number b × AreRoomy layout (number + 1) bs

pub roomy : (layout : Layout) (number : ℕ) (bs : List MemoryBlock) → BlocksFit layout number bs → AreRoomy layout number bs
roomy layout number [] fits = fits
roomy layout number (b ∷ bs) fits = (record { named = fits.0.named; aligned = fits.0.aligned; small = fits.0.small; room = fits.0.room }, roomy layout (number + 1) bs fits.1)

roomy_set : (layout : Layout) (number : ℕ) (bs : List MemoryBlock) (i size : ℕ) (b : MemoryBlock) → AreRoomy layout number bs → slice_get bs i ≡ Some b → size ≤ layout.bytes → AreRoomy layout number (set bs i (record b { size = size }))
roomy_set layout number [] i size b r e small = absurd (cc)
roomy_set layout number (b' ∷ bs) zero size b r e small =
    let same : b ≡ b' = cc in
    rw same (record { named = r.0.named; aligned = r.0.aligned; small = small; room = r.0.room }, r.1)
roomy_set layout number (b' ∷ bs) (suc i) size b r e small = (r.0, roomy_set layout (number + 1) bs i size b r.1 e small)

pub roomy_zero : (layout : Layout) (number i : ℕ) (bs : List MemoryBlock) → AreRoomy layout number bs → AreRoomy layout number (from_place zero_size i bs)
roomy_zero layout number i [] r = r
roomy_zero layout number zero (b ∷ bs) r = (record { named = r.0.named; aligned = r.0.aligned; small = omega arith; room = r.0.room }, roomy_zero layout (number + 1) zero bs r.1)
roomy_zero layout number (suc i) (b ∷ bs) r = (r.0, roomy_zero layout (number + 1) i bs r.1)

pub cleared_fit : (layout : Layout) (number : ℕ) (bs : List MemoryBlock) → AreRoomy layout number bs → BlocksFit layout number (from_place zero_places 0 bs)
cleared_fit layout number [] r = r
cleared_fit layout number (b ∷ bs) r =
    let zeros = zeros_fit layout layout.bytes b.size b.places r.0.room in
    (record { named = r.0.named; aligned = r.0.aligned; small = r.0.small; room = zeros.room; past = zeros.past; fit = zeros.fit }, cleared_fit layout (number + 1) bs r.1)

pub cleared_number : (layout : Layout) (bs : List MemoryBlock) → memory_number layout (from_place zero_places 0 bs) ≡ 0
unfolding number_of
cleared_number layout [] = refl
cleared_number layout (b ∷ bs) = zero_number (flat_map (byte_code layout) (from_place zero_byte 0 b.places)) (flat_map (places_code layout) (from_place zero_places 0 bs)) (zeros_number layout b.places) (cleared_number layout bs)

pub cleared_sizes : (i : ℕ) (bs : List MemoryBlock) → sizes_in (from_place zero_places i bs) ≡ sizes_in bs
cleared_sizes i [] = refl
cleared_sizes zero (b ∷ bs) = ap (λ ns. b.size ∷ ns) (cleared_sizes zero bs)
cleared_sizes (suc i) (b ∷ bs) = ap (λ ns. b.size ∷ ns) (cleared_sizes i bs)

pub zeroed_sizes : (i : ℕ) (bs : List MemoryBlock) → sizes_in (from_place zero_size i bs) ≡ from_place to_zero i (sizes_in bs)
zeroed_sizes i [] = refl
zeroed_sizes zero (b ∷ bs) = ap (λ ns. 0 ∷ ns) (zeroed_sizes zero bs)
zeroed_sizes (suc i) (b ∷ bs) = ap (λ ns. b.size ∷ ns) (zeroed_sizes i bs)

set_size : (bs : List MemoryBlock) (i size : ℕ) (b : MemoryBlock) → sizes_in (set bs i (record b { size = size })) ≡ set (sizes_in bs) i size
set_size [] i size b = refl
set_size (b' ∷ bs) zero size b = refl
set_size (b' ∷ bs) (suc i) size b = ap (λ ns. b'.size ∷ ns) (set_size bs i size b)

pub next_sizes_is : (layout : Layout) (bs old raised_bs cut_bs result : List MemoryBlock) (i : ℕ) (b : MemoryBlock) → layout.bytes < 2 ^ 64 → BlocksFit layout 1 old → bs ≡ old → slice_get bs i ≡ Some b → b.size < layout.bytes → AreFullFrom layout bs (i + 1) → raised_bs ≡ set bs i (record b { size = b.size + 1 }) → cut_bs ≡ from_place zero_size (i + 1) raised_bs → result ≡ from_place zero_places 0 cut_bs → IsNextSizes layout old result
next_sizes_is layout bs old raised_bs cut_bs result i b short fits same here room full raise cut clear =
    let here' = rw same at here in
    let full' = rw (same, add-one) at full in
    let things = sizes_are layout short in
    let row = own_sizes layout 1 old fits in
    let at_place = size_here old i b here' in
    let code = next_row (IsSize layout) one 1 to_zero things (sizes_in old) (sizes_in old) i b.size b.size (b.size + 1) row at_place at_place (next_size layout b.size b.size room) (last_sizes_from layout old (suc i) full') in
    let is : sizes_in result ≡ raised to_zero (sizes_in old) i (b.size + 1) =
    ap sizes_in clear ∙ cleared_sizes 0 cut_bs ∙ ap sizes_in cut ∙ zeroed_sizes (i + 1) raised_bs
    ∙ ap (λ cs. from_place to_zero (i + 1) (sizes_in cs)) (raise ∙ ap (λ cs. set cs i (record b { size = b.size + 1 })) same)
    ∙ ap (λ ns. from_place to_zero (i + 1) ns) (set_size old i (b.size + 1) b)
    ∙ raised_is to_zero (sizes_in old) i (b.size + 1) in
    let loose : AreRoomy layout 1 cut_bs = rw (cut, raise, same) (roomy_zero layout 1 (i + 1) (set old i (record b { size = b.size + 1 })) (roomy_set layout 1 old i (b.size + 1) b (roomy layout 1 old fits) here' (omega (arith, room)))) in
    let later = rw (singles (sizes_in old), singles (raised to_zero (sizes_in old) i (b.size + 1))) at code.later in
    record {
      fits = rw clear (cleared_fit layout 1 cut_bs loose);
      later = rw is later;
      no_gap = λ sizes small less.
          let less' = rw is at less in
          let gap = code.no_gap sizes (record { things = sizes; is = sym (singles sizes); fits = sizes_row layout (length old) (sizes_in old) sizes (length-sizes old) small }) (rw (singles (raised to_zero (sizes_in old) i (b.size + 1))) less') in
          rw (singles (sizes_in old)) at gap;
      least = rw clear (cleared_number layout cut_bs);
    }

pub last_sizes_are : (layout : Layout) (bs old : List MemoryBlock) (i : ℕ) → layout.bytes < 2 ^ 64 → BlocksFit layout 1 old → bs ≡ old → AreFullFrom layout bs i → i ≤ 0 → AreLastSizes layout old
last_sizes_are layout bs old i short fits same full none = λ sizes small.
    let full' = rw same at full in
    let row = own_sizes layout 1 old fits in
    let gap = last_row (IsSize layout) one 1 to_zero (sizes_are layout short) (sizes_in old) (sizes_in old) row
    (λ j k x from e e'. last_sizes_from layout old i full' j k x (omega arith) e e') sizes (record { things = sizes; is = sym (singles sizes); fits = sizes_row layout (length old) (sizes_in old) sizes (length-sizes old) small }) in
    rw (singles (sizes_in old)) at gap

pub full_more : (layout : Layout) (bs : List MemoryBlock) (i : ℕ) (b : MemoryBlock) → 0 < i → AreFullFrom layout bs i → slice_get bs (i - 1) ≡ Some b → layout.bytes ≤ b.size → AreFullFrom layout bs (i - 1)
full_more layout bs i b positive full here great = λ j b' from e.
    elim (cases_eq j (i - 1)) as (λ _. layout.bytes ≤ b'.size) [
      | inl same ↦
          let g = rw same at e in
          let same_b : b ≡ b' = cc in
          rw (← same_b) great
      | inr apart ↦ full j b' (omega (arith, apart)) e
    ]

pub none_full_past : (layout : Layout) (bs : List MemoryBlock) → AreFullFrom layout bs (length bs)
none_full_past layout bs = λ j b from e. absurd (none_past bs j b from e)

all_zeros : (ns : List ℕ) → number_of (from_place to_zero 0 ns) ≡ 0
unfolding number_of
all_zeros [] = refl
all_zeros (n ∷ ns) = let rest = all_zeros ns in omega (arith, rest)

pub least_blocks_are : (layout : Layout) (old cut_bs result : List MemoryBlock) → BlocksFit layout 1 old → cut_bs ≡ from_place zero_size 0 old → result ≡ from_place zero_places 0 cut_bs → AreLeastBlocks layout result
least_blocks_are layout old cut_bs result fits cut clear =
    let loose : AreRoomy layout 1 cut_bs = rw cut (roomy_zero layout 1 0 old (roomy layout 1 old fits)) in
    let sizes : sizes_in result ≡ from_place to_zero 0 (sizes_in old) = ap sizes_in clear ∙ cleared_sizes 0 cut_bs ∙ ap sizes_in cut ∙ zeroed_sizes 0 old in
    record {
      fits = rw clear (cleared_fit layout 1 cut_bs loose);
      sizes = rw sizes (all_zeros (sizes_in old));
      places = rw clear (cleared_number layout cut_bs);
    }
