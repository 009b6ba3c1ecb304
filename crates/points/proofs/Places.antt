-- The next contents of a block: what is before its size is a row of bytes, and the rest a row of zeros.
use Rattle.points.proofs.Common.{◌≡◌, ℕ, zero, suc, ◌+◌, ◌-◌, ◌^◌, ◌<◌, ◌≤◌, Bool, true, false, List, [], ◌∷◌, length, drop, replicate, refl, ap, ◌∙◌, arith, slice_get, Some, add-one, set, flat_map, Byte, Bits, Layout, number_of, ByteFits, BytesFit, byte_code, byte_number, IsNextByte, IsLastByte, PlacesFit, places_number, IsNextPlaces, IsLastPlaces, from_place, zero_byte}
use Rattle.points.proofs.ByteOrder.{zero_fits}
use Rattle.points.proofs.Order.{Digits}
use Rattle.points.proofs.Same.{byte_digits}
use Rattle.points.proofs.Rows.{RowFits, AreThings, IsNextThing, AreLastFrom, raised, raised_is, raised_fits, last_row, next_row, last_more, row_at}

-- a byte where the offset is live, and else the number 0
abbrev pub ByteIf : Layout → Bool → Byte → Type 0
ByteIf layout true b = ByteFits layout b
ByteIf layout false b = b ≡ Bits 0 0

-- which offsets of a block are live
abbrev pub lives : ℕ → ℕ → List Bool
lives size zero = []
lives zero (suc n) = false ∷ lives zero n
lives (suc size) (suc n) = true ∷ lives size n

zero_least : (layout : Layout) → byte_number layout (Bits 0 0) ≡ 0
unfolding number_of
zero_least layout = omega arith

pub bytes_are : (layout : Layout) → layout.blocks < 2 ^ 64 → AreThings (ByteIf layout) (byte_code layout) 6 zero_byte
bytes_are layout few = record {
  digits = λ k x fits. digits k x fits;
  fits = λ k x fits. zeros k;
  least = λ k x fits. zero_least layout;
}
  where
    digits : (k : Bool) (x : Byte) → ByteIf layout k x → Digits 6 (byte_code layout x)
    digits true x fits = byte_digits layout x few fits
    digits false x fits = rw fits (byte_digits layout (Bits 0 0) few (zero_fits layout))

    zeros : (k : Bool) → ByteIf layout k (Bits 0 0)
    zeros true = zero_fits layout
    zeros false = refl

row_from : (layout : Layout) (size k : ℕ) (bs : List Byte) → k + size ≡ length bs → drop size bs ≡ replicate k (Bits 0 0) → BytesFit layout bs → RowFits (ByteIf layout) (lives size (length bs)) bs
row_from layout size k [] long past fit = tt
row_from layout zero zero (b ∷ bs) long past fit = absurd (omega (arith, long))
row_from layout zero (suc k) (b ∷ bs) long past fit =
    let here : b ≡ Bits 0 0 = cc in
    let rest : bs ≡ replicate k (Bits 0 0) = cc in
    (here, row_from layout zero k bs (omega (arith, long)) rest fit.1)
row_from layout (suc size) k (b ∷ bs) long past fit = (fit.0, row_from layout size k bs (omega (arith, long)) past fit.1)

pub row_of_places : (layout : Layout) (bytes size : ℕ) (bs : List Byte) → size ≤ bytes → PlacesFit layout bytes size bs → RowFits (ByteIf layout) (lives size bytes) bs
row_of_places layout bytes size bs small fits =
    let room = fits.room in
    let row = row_from layout size (bytes - size) bs (omega (arith, room, small)) fits.past fits.fit in
    rw room at row

no_more : (size : ℕ) → 0 - size ≡ 0
no_more size = omega arith

pub places_of_row : (layout : Layout) (bytes size : ℕ) (bs : List Byte) → RowFits (ByteIf layout) (lives size bytes) bs → PlacesFit layout bytes size bs
places_of_row layout zero zero [] row = record { room = refl; past = refl; fit = tt }
places_of_row layout zero (suc size) [] row = record { room = refl; past = rw (no_more (suc size)) refl; fit = tt }
places_of_row layout zero size (b ∷ bs) row = absurd row
places_of_row layout (suc bytes) zero [] row = absurd row
places_of_row layout (suc bytes) (suc size) [] row = absurd row
places_of_row layout (suc bytes) zero (b ∷ bs) row =
    let rest = places_of_row layout bytes zero bs row.1 in
    let here = row.0 in
    let few : suc bytes - 0 ≡ suc (bytes - 0) = omega arith in
    let past : b ∷ bs ≡ Bits 0 0 ∷ replicate (bytes - 0) (Bits 0 0) = (let more = rest.past in cc) in
    record { room = ap suc rest.room; past = rw few past; fit = (rw here (zero_fits layout), rest.fit) }
places_of_row layout (suc bytes) (suc size) (b ∷ bs) row =
    let rest = places_of_row layout bytes size bs row.1 in
    record { room = ap suc rest.room; past = rest.past ∙ ap (λ n. replicate n (Bits 0 0)) (omega arith); fit = (row.0, rest.fit) }

live_at : (size bytes i : ℕ) → i < size → size ≤ bytes → slice_get (lives size bytes) i ≡ Some true
live_at zero bytes i below small = absurd (omega (arith, below))
live_at (suc size) zero i below small = absurd (omega (arith, small))
live_at (suc size) (suc bytes) zero below small = refl
live_at (suc size) (suc bytes) (suc i) below small = live_at size bytes i (omega (arith, below)) (omega (arith, small))

dead_at : (size bytes j : ℕ) (k : Bool) → size ≤ j → slice_get (lives size bytes) j ≡ Some k → k ≡ false
dead_at size zero j k past e = absurd (cc)
dead_at zero (suc bytes) zero k past e = cc
dead_at zero (suc bytes) (suc j) k past e = dead_at zero bytes j k (omega arith) e
dead_at (suc size) (suc bytes) zero k past e = absurd (omega (arith, past))
dead_at (suc size) (suc bytes) (suc j) k past e = dead_at size bytes j k (omega (arith, past)) e

-- ---- the loop

abbrev pub BytesAreLast : Layout → ℕ → ℕ → List Byte → ℕ → Type 0
BytesAreLast layout bytes size places i = AreLastFrom (ByteIf layout) (byte_code layout) (lives size bytes) places i

pub bytes_last_past : (layout : Layout) (bytes size : ℕ) (places : List Byte) → BytesAreLast layout bytes size places size
bytes_last_past layout bytes size places = λ j k x from e e'.
    let dead = dead_at size bytes j k from e in
    rw dead (λ z fit. rw (fit, zero_least layout) (omega arith))

pub byte_fits_at : (layout : Layout) (bytes size : ℕ) (places : List Byte) (i : ℕ) (b : Byte) → size ≤ bytes → PlacesFit layout bytes size places → i < size → slice_get places i ≡ Some b → ByteFits layout b
byte_fits_at layout bytes size places i b small fits below here = row_at (ByteIf layout) (lives size bytes) places i true b (row_of_places layout bytes size places small fits) (live_at size bytes i below small) here

pub bytes_last_more : (layout : Layout) (bytes size : ℕ) (places : List Byte) (i : ℕ) (b : Byte) → size ≤ bytes → 0 < i → i ≤ size → BytesAreLast layout bytes size places i → slice_get places (i - 1) ≡ Some b → IsLastByte layout b → BytesAreLast layout bytes size places (i - 1)
bytes_last_more layout bytes size places i b small positive within last here last_here = last_more (ByteIf layout) (byte_code layout) (lives size bytes) places i true b positive last (live_at size bytes (i - 1) (omega arith) small) here last_here

pub next_bytes_is : (layout : Layout) (bytes size : ℕ) (places old set_places result : List Byte) (i : ℕ) (b next : Byte) → layout.blocks < 2 ^ 64 → size ≤ bytes → PlacesFit layout bytes size old → places ≡ old → i < size → slice_get places i ≡ Some b → IsNextByte layout b next → BytesAreLast layout bytes size places (i + 1) → set_places ≡ set places i next → result ≡ from_place zero_byte (i + 1) set_places → IsNextPlaces layout bytes size old result
next_bytes_is layout bytes size places old set_places result i b next few small fits same below here step last raise zeros =
    let things = bytes_are layout few in
    let here' = rw same at here in
    let last' = rw (same, add-one) at last in
    let row = row_of_places layout bytes size old small fits in
    let live = live_at size bytes i below small in
    let is : result ≡ raised zero_byte old i next = zeros ∙ rw (raise, same) (raised_is zero_byte old i next) in
    let thing : IsNextThing (ByteIf layout) (byte_code layout) true b next = record { fits = step.fits; later = step.later; no_gap = step.no_gap } in
    let code = next_row (ByteIf layout) (byte_code layout) 6 zero_byte things (lives size bytes) old i true b next row live here' thing last' in
    rw is (record {
      fits = places_of_row layout bytes size (raised zero_byte old i next) (raised_fits (ByteIf layout) (byte_code layout) 6 zero_byte things (lives size bytes) old i true next row live step.fits);
      later = code.later;
      no_gap = λ other other_fits less. code.no_gap (flat_map (byte_code layout) other) (record { things = other; is = refl; fits = row_of_places layout bytes size other small other_fits }) less;
    })

pub last_bytes_is : (layout : Layout) (bytes size : ℕ) (places old : List Byte) (i : ℕ) → layout.blocks < 2 ^ 64 → size ≤ bytes → PlacesFit layout bytes size old → places ≡ old → BytesAreLast layout bytes size places i → i ≤ 0 → IsLastPlaces layout bytes size old
last_bytes_is layout bytes size places old i few small fits same last none = λ other other_fits.
    let last' = rw same at last in
    last_row (ByteIf layout) (byte_code layout) 6 zero_byte (bytes_are layout few) (lives size bytes) old (row_of_places layout bytes size old small fits)
    (λ j k x from e e'. last' j k x (omega arith) e e')
    (flat_map (byte_code layout) other) (record { things = other; is = refl; fits = row_of_places layout bytes size other small other_fits })

-- ---- all zeros

pub zeros_fit : (layout : Layout) (bytes size : ℕ) (places : List Byte) → length places ≡ bytes → PlacesFit layout bytes size (from_place zero_byte 0 places)
zeros_fit layout bytes size places long = places_of_row layout bytes size (from_place zero_byte 0 places) (zeros_row size bytes places long)
  where
    zeros_row : (size bytes : ℕ) (bs : List Byte) → length bs ≡ bytes → RowFits (ByteIf layout) (lives size bytes) (from_place zero_byte 0 bs)
    zeros_row size zero [] long = tt
    zeros_row size (suc bytes) [] long = absurd (omega (arith, long))
    zeros_row size zero (b ∷ bs) long = absurd (omega (arith, long))
    zeros_row zero (suc bytes) (b ∷ bs) long = (refl, zeros_row zero bytes bs (omega (arith, long)))
    zeros_row (suc size) (suc bytes) (b ∷ bs) long = (zero_fits layout, zeros_row size bytes bs (omega (arith, long)))

pub zeros_number : (layout : Layout) (places : List Byte) → places_number layout (from_place zero_byte 0 places) ≡ 0
unfolding number_of
zeros_number layout [] = refl
zeros_number layout (b ∷ bs) = let rest = zeros_number layout bs in omega (arith, rest)
