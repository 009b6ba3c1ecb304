-- The next point: its tape, then the contents, then the sizes, then the arguments.
use Rattle.points.proofs.Common.{◌≡◌, ℕ, zero, suc, ◌+◌, ◌-◌, ◌*◌, ◌^◌, ◌<◌, List, [], ◌∷◌, ◌++◌, length, take, replicate, refl, ap, ◌∙◌, arith, append_assoc, flat_map, Value, MemoryBlock, Layout, Point, Shape, number_of, BlocksFit, WordsFit, IsOfShape, args_code, places_code, code_of, IsChain, AreSizes, IsNextWords, IsLastWords, IsNextArgs, IsLastArgs, sizes_in, IsNextMemory, IsLastMemory, IsNextSizes, AreLastSizes, AreLeastBlocks, IsNextPoint, IsLastPoint}
use Rattle.points.proofs.Order.{Digits, IsNextIn, IsLastIn, IsFirstIn, HaveDigits, next_in_back, next_in_front, last_in_both}
use Rattle.points.proofs.Words.{WordsFit-length, WordsFit-digits, zeros_fit, number_of-zeros}
use Rattle.points.proofs.Args.{digits_of, args_digits, Digits-append}
use Rattle.points.proofs.Same.{places_digits, blocks_count}
use Rattle.points.proofs.Rows.{zero_number}
use Rattle.points.proofs.Values.{IsArgsOf}
use Rattle.points.proofs.Coded.{sizes_coded}
use Rattle.points.proofs.Decoded.{minus_zero}

-- ---- the parts of a point's code

record IsPlacesOf (layout : Layout) (sizes ds : List ℕ) : Type 0 where
  pub memory : List MemoryBlock
  pub is : ds ≡ flat_map (places_code layout) memory
  pub fits : BlocksFit layout 1 memory
  pub same_sizes : sizes_in memory ≡ sizes

abbrev Tape : Shape → List ℕ → List ℕ → Type 0
Tape s places ds = WordsFit s.word_width.bits s.words ds

abbrev FromPlaces : Shape → List ℕ → List ℕ → Type 0
FromPlaces s sizes ds = IsChain (IsPlacesOf s.layout sizes) (Tape s) ds

abbrev FromSizes : Shape → List ℕ → List ℕ → Type 0
FromSizes s args ds = IsChain (AreSizes s.layout s.layout.blocks) (FromPlaces s) ds

abbrev IsPointCode : Shape → List ℕ → Type 0
IsPointCode s ds = IsChain (IsArgsOf s.layout s.parameters) (FromSizes s) ds

abbrev place_digits : Shape → ℕ
place_digits s = s.layout.blocks * (s.layout.bytes * 6)

-- the numbers of a shape's blocks and bytes fit a word
pub record IsNarrow (s : Shape) : Type 0 where
  pub few : s.layout.blocks < 2 ^ 64
  pub short : s.layout.bytes < 2 ^ 64

chain_digits : (P : List ℕ → Type 0) (Q : List ℕ → List ℕ → Type 0) (n m : ℕ) → HaveDigits P Q n m → (ds : List ℕ) → IsChain P Q ds → Digits (n + m) ds
chain_digits P Q n m d ds h = rw h.whole (Digits-append n m h.front h.back (d.front h.front h.in_front) (d.back h.front h.back h.in_back))

size_digits : (layout : Layout) (n : ℕ) (sizes : List ℕ) → layout.bytes < 2 ^ 64 → AreSizes layout n sizes → Digits n sizes
size_digits layout zero [] short small = tt
size_digits layout (suc n) (size ∷ sizes) short small = ((let here = small.0 in omega (arith, here, short)), size_digits layout n sizes short small.1)
size_digits layout zero (size ∷ sizes) short small = absurd small
size_digits layout (suc n) [] short small = absurd small

digits_3 : (s : Shape) → IsNarrow s → (sizes : List ℕ) → HaveDigits (IsPlacesOf s.layout sizes) (Tape s) (place_digits s) s.words
digits_3 s narrow sizes = record {
  front = λ xs h. (let count = blocks_count s.layout h.memory h.fits in let digits = places_digits s.layout 1 h.memory narrow.few h.fits in rw h.is (rw count at digits));
  back = λ xs ys h. WordsFit-digits s.word_width.bits s.words ys s.word_width.at_most_64 h;
}

digits_2 : (s : Shape) → IsNarrow s → HaveDigits (AreSizes s.layout s.layout.blocks) (FromPlaces s) s.layout.blocks (place_digits s + s.words)
digits_2 s narrow = record {
  front = λ xs h. size_digits s.layout s.layout.blocks xs narrow.short h;
  back = λ xs ys h. chain_digits (IsPlacesOf s.layout xs) (Tape s) (place_digits s) s.words (digits_3 s narrow xs) ys h;
}

digits_1 : (s : Shape) → IsNarrow s → HaveDigits (IsArgsOf s.layout s.parameters) (FromSizes s) (digits_of s.parameters) (s.layout.blocks + (place_digits s + s.words))
digits_1 s narrow = record {
  front = λ xs h. rw h.is (args_digits s.layout s.parameters h.args narrow.few h.fits);
  back = λ xs ys h. chain_digits (AreSizes s.layout s.layout.blocks) (FromPlaces s) s.layout.blocks (place_digits s + s.words) (digits_2 s narrow) ys h;
}

abbrev args_in : Shape → Point → List ℕ
args_in s p = args_code s.layout s.parameters p.input.args

abbrev sizes_at : Point → List ℕ
sizes_at p = sizes_in p.input.blocks

abbrev places_in : Shape → Point → List ℕ
places_in s p = flat_map (places_code s.layout) p.input.blocks

-- the code with its parts apart
abbrev pub parted : Shape → Point → List ℕ
parted s p = args_in s p ++ (sizes_at p ++ (places_in s p ++ p.tape))

parted_is : (s : Shape) (p : Point) → code_of s.layout s.parameters p ≡ parted s p
parted_is s p = ap (λ ds. args_in s p ++ ds) (append_assoc (sizes_at p) (places_in s p) p.tape)

is_args : (s : Shape) (p : Point) → IsOfShape s p → IsArgsOf s.layout s.parameters (args_in s p)
is_args s p fits = record { args = p.input.args; is = refl; fits = fits.args }

are_sizes : (s : Shape) (p : Point) → IsOfShape s p → AreSizes s.layout s.layout.blocks (sizes_at p)
are_sizes s p fits = let sizes = sizes_coded s.layout 1 p.input.blocks fits.given in rw (blocks_count s.layout p.input.blocks fits.given) at sizes

is_places : (s : Shape) (p : Point) → IsOfShape s p → IsPlacesOf s.layout (sizes_at p) (places_in s p)
is_places s p fits = record { memory = p.input.blocks; is = refl; fits = fits.given; same_sizes = refl }

from_places : (s : Shape) (p : Point) → IsOfShape s p → FromPlaces s (sizes_at p) (places_in s p ++ p.tape)
from_places s p fits = record { front = places_in s p; back = p.tape; whole = refl; in_front = is_places s p fits; in_back = fits.tape }

from_sizes : (s : Shape) (p : Point) → IsOfShape s p → FromSizes s (args_in s p) (sizes_at p ++ (places_in s p ++ p.tape))
from_sizes s p fits = record { front = sizes_at p; back = places_in s p ++ p.tape; whole = refl; in_front = are_sizes s p fits; in_back = from_places s p fits }

point_code : (s : Shape) (p : Point) → IsOfShape s p → IsPointCode s (parted s p)
point_code s p fits = record { front = args_in s p; back = sizes_at p ++ (places_in s p ++ p.tape); whole = refl; in_front = is_args s p fits; in_back = from_sizes s p fits }

-- ---- from codes to points

next_point_is : (s : Shape) (old new : Point) → IsOfShape s new → IsNextIn (IsPointCode s) (parted s old) (parted s new) → IsNextPoint s old new
next_point_is s old new fits next =
    let o = ap number_of (parted_is s old) in
    let n = ap number_of (parted_is s new) in
    record {
      fits = fits;
      later = (let later = next.later in omega (arith, o, n, later));
      no_gap = λ q q_fits less.
          let m = ap number_of (parted_is s q) in
          let gap = next.no_gap (parted s q) (point_code s q q_fits) (omega (arith, n, m, less)) in
          omega (arith, o, m, gap);
    }

last_point_is : (s : Shape) (old : Point) → IsLastIn (IsPointCode s) (parted s old) → IsLastPoint s old
last_point_is s old last = λ q q_fits.
    let o = ap number_of (parted_is s old) in
    let m = ap number_of (parted_is s q) in
    let gap = last (parted s q) (point_code s q q_fits) in
    omega (arith, o, m, gap)

-- ---- the parts' last and next

last_tape : (s : Shape) (old : Point) → IsOfShape s old → IsLastWords s.word_width.bits old.tape → IsLastIn (Tape s (places_in s old)) old.tape
last_tape s old fits last = let long = WordsFit-length s.word_width.bits s.words old.tape fits.tape in rw long at last

last_places : (s : Shape) (old : Point) → IsLastMemory s.layout old.input.blocks → IsLastIn (IsPlacesOf s.layout (sizes_at old)) (places_in s old)
last_places s old last = λ ds h. rw h.is (last h.memory h.fits h.same_sizes)

last_sizes : (s : Shape) (old : Point) → IsOfShape s old → AreLastSizes s.layout old.input.blocks → IsLastIn (AreSizes s.layout s.layout.blocks) (sizes_at old)
last_sizes s old fits last = λ sizes small. last sizes (rw (blocks_count s.layout old.input.blocks fits.given) small)

last_args : (s : Shape) (old : Point) → IsLastArgs s.layout s.parameters old.input.args → IsLastIn (IsArgsOf s.layout s.parameters) (args_in s old)
last_args s old last = λ ds h. rw h.is (last h.args h.fits)

next_of_args : (s : Shape) (old : Point) (args : List Value) → IsNextArgs s.layout s.parameters old.input.args args → IsNextIn (IsArgsOf s.layout s.parameters) (args_in s old) (args_code s.layout s.parameters args)
next_of_args s old args next = record {
  later = next.later;
  no_gap = λ ds h less. (let less' = rw h.is at less in rw h.is (next.no_gap h.args h.fits less'));
}

-- a tape of zeros
pub record IsZeroTape (s : Shape) (tape : List ℕ) : Type 0 where
  pub fits : WordsFit s.word_width.bits s.words tape
  pub number : number_of tape ≡ 0

pub zero_tape : (s : Shape) (old before tape : List ℕ) → WordsFit s.word_width.bits s.words old → before ≡ old → tape ≡ take 0 before ++ replicate (length before - 0) 0 → IsZeroTape s tape
zero_tape s old before tape fits same zeros =
    let long = WordsFit-length s.word_width.bits s.words old fits in
    let is : tape ≡ replicate s.words 0 = zeros ∙ ap (λ n. replicate n 0) (minus_zero (length before) ∙ ap length same ∙ long) in
    rw is (record { fits = zeros_fit s.word_width.bits s.words; number = number_of-zeros s.words })

first_of_zero : (P : List ℕ → Type 0) (ds : List ℕ) → number_of ds ≡ 0 → IsFirstIn P ds
first_of_zero P ds none = λ zs h. omega (arith, none)

-- ---- the four steps

pub tape_moves : (s : Shape) (old : Point) (tape : List ℕ) → IsNarrow s → IsOfShape s old → IsNextWords s.word_width.bits old.tape tape → IsNextPoint s old (record old { tape = tape })
tape_moves s old tape narrow fits next =
    let long = WordsFit-length s.word_width.bits s.words old.tape fits.tape in
    let new : Point = record old { tape = tape } in
    let new_fits : IsOfShape s new = record { args = fits.args; given = fits.given; tape = rw long at next.fits } in
    let words : IsNextIn (Tape s (places_in s old)) old.tape tape = record { later = next.later; no_gap = λ ws h less. next.no_gap ws (rw long h) less } in
    let third = next_in_back (IsPlacesOf s.layout (sizes_at old)) (Tape s) (place_digits s) s.words (places_in s old) old.tape tape (digits_3 s narrow (sizes_at old)) (is_places s old fits) fits.tape new_fits.tape words in
    let second = next_in_back (AreSizes s.layout s.layout.blocks) (FromPlaces s) s.layout.blocks (place_digits s + s.words) (sizes_at old) (places_in s old ++ old.tape) (places_in s old ++ tape) (digits_2 s narrow) (are_sizes s old fits) (from_places s old fits) (from_places s new new_fits) third in
    let first = next_in_back (IsArgsOf s.layout s.parameters) (FromSizes s) (digits_of s.parameters) (s.layout.blocks + (place_digits s + s.words)) (args_in s old) (sizes_at old ++ (places_in s old ++ old.tape)) (sizes_at old ++ (places_in s old ++ tape)) (digits_1 s narrow) (is_args s old fits) (from_sizes s old fits) (from_sizes s new new_fits) second in
    next_point_is s old new new_fits first

pub places_move : (s : Shape) (old : Point) (memory : List MemoryBlock) (tape : List ℕ) → IsNarrow s → IsOfShape s old → IsLastWords s.word_width.bits old.tape → IsNextMemory s.layout old.input.blocks memory → IsZeroTape s tape → IsNextPoint s old (record { input = record { args = old.input.args; blocks = memory }; tape = tape })
places_move s old memory tape narrow fits last next zeros =
    let new : Point = record { input = record { args = old.input.args; blocks = memory }; tape = tape } in
    let new_fits : IsOfShape s new = record { args = fits.args; given = next.fits; tape = zeros.fits } in
    let sizes = next.sizes in
    let new_places : IsPlacesOf s.layout (sizes_at old) (places_in s new) = record { memory = memory; is = refl; fits = next.fits; same_sizes = sizes } in
    let new_chain : FromPlaces s (sizes_at old) (places_in s new ++ tape) = record { front = places_in s new; back = tape; whole = refl; in_front = new_places; in_back = zeros.fits } in
    let new_sizes : FromSizes s (args_in s old) (sizes_at old ++ (places_in s new ++ tape)) = record { front = sizes_at old; back = places_in s new ++ tape; whole = refl; in_front = are_sizes s old fits; in_back = new_chain } in
    let step : IsNextIn (IsPlacesOf s.layout (sizes_at old)) (places_in s old) (places_in s new) = record { later = next.later; no_gap = λ ds h less. (let less' = rw h.is at less in rw h.is (next.no_gap h.memory h.fits h.same_sizes less')) } in
    let third = next_in_front (IsPlacesOf s.layout (sizes_at old)) (Tape s) (place_digits s) s.words (places_in s old) (places_in s new) old.tape tape (digits_3 s narrow (sizes_at old)) (is_places s old fits) new_places fits.tape zeros.fits step (last_tape s old fits last) (first_of_zero (Tape s (places_in s new)) tape zeros.number) in
    let second = next_in_back (AreSizes s.layout s.layout.blocks) (FromPlaces s) s.layout.blocks (place_digits s + s.words) (sizes_at old) (places_in s old ++ old.tape) (places_in s new ++ tape) (digits_2 s narrow) (are_sizes s old fits) (from_places s old fits) new_chain third in
    let first = next_in_back (IsArgsOf s.layout s.parameters) (FromSizes s) (digits_of s.parameters) (s.layout.blocks + (place_digits s + s.words)) (args_in s old) (sizes_at old ++ (places_in s old ++ old.tape)) (sizes_at old ++ (places_in s new ++ tape)) (digits_1 s narrow) (is_args s old fits) (from_sizes s old fits) new_sizes second in
    next_point_is s old new new_fits (rw sizes first)

pub sizes_move : (s : Shape) (old : Point) (memory : List MemoryBlock) (tape : List ℕ) → IsNarrow s → IsOfShape s old → IsLastWords s.word_width.bits old.tape → IsLastMemory s.layout old.input.blocks → IsNextSizes s.layout old.input.blocks memory → IsZeroTape s tape → IsNextPoint s old (record { input = record { args = old.input.args; blocks = memory }; tape = tape })
sizes_move s old memory tape narrow fits last last_memory next zeros =
    let new : Point = record { input = record { args = old.input.args; blocks = memory }; tape = tape } in
    let new_fits : IsOfShape s new = record { args = fits.args; given = next.fits; tape = zeros.fits } in
    let count = blocks_count s.layout old.input.blocks fits.given in
    let step : IsNextIn (AreSizes s.layout s.layout.blocks) (sizes_at old) (sizes_at new) = record { later = next.later; no_gap = λ sizes small less. next.no_gap sizes (rw count small) less } in
    let last_rest = last_in_both (IsPlacesOf s.layout (sizes_at old)) (Tape s) (place_digits s) s.words (places_in s old) old.tape (digits_3 s narrow (sizes_at old)) (is_places s old fits) fits.tape (last_places s old last_memory) (last_tape s old fits last) in
    let none = zero_number (places_in s new) tape next.least zeros.number in
    let second = next_in_front (AreSizes s.layout s.layout.blocks) (FromPlaces s) s.layout.blocks (place_digits s + s.words) (sizes_at old) (sizes_at new) (places_in s old ++ old.tape) (places_in s new ++ tape) (digits_2 s narrow) (are_sizes s old fits) (are_sizes s new new_fits) (from_places s old fits) (from_places s new new_fits) step last_rest (first_of_zero (FromPlaces s (sizes_at new)) (places_in s new ++ tape) none) in
    let first = next_in_back (IsArgsOf s.layout s.parameters) (FromSizes s) (digits_of s.parameters) (s.layout.blocks + (place_digits s + s.words)) (args_in s old) (sizes_at old ++ (places_in s old ++ old.tape)) (sizes_at new ++ (places_in s new ++ tape)) (digits_1 s narrow) (is_args s old fits) (from_sizes s old fits) (from_sizes s new new_fits) second in
    next_point_is s old new new_fits first

last_behind_args : (s : Shape) (old : Point) → IsNarrow s → IsOfShape s old → IsLastWords s.word_width.bits old.tape → IsLastMemory s.layout old.input.blocks → AreLastSizes s.layout old.input.blocks → IsLastIn (FromSizes s (args_in s old)) (sizes_at old ++ (places_in s old ++ old.tape))
last_behind_args s old narrow fits last last_memory greatest =
    let last_rest = last_in_both (IsPlacesOf s.layout (sizes_at old)) (Tape s) (place_digits s) s.words (places_in s old) old.tape (digits_3 s narrow (sizes_at old)) (is_places s old fits) fits.tape (last_places s old last_memory) (last_tape s old fits last) in
    last_in_both (AreSizes s.layout s.layout.blocks) (FromPlaces s) s.layout.blocks (place_digits s + s.words) (sizes_at old) (places_in s old ++ old.tape) (digits_2 s narrow) (are_sizes s old fits) (from_places s old fits) (last_sizes s old fits greatest) last_rest

pub args_move : (s : Shape) (old : Point) (args : List Value) (memory : List MemoryBlock) (tape : List ℕ) → IsNarrow s → IsOfShape s old → IsLastWords s.word_width.bits old.tape → IsLastMemory s.layout old.input.blocks → AreLastSizes s.layout old.input.blocks → IsNextArgs s.layout s.parameters old.input.args args → AreLeastBlocks s.layout memory → IsZeroTape s tape → IsNextPoint s old (record { input = record { args = args; blocks = memory }; tape = tape })
args_move s old args memory tape narrow fits last last_memory greatest next least zeros =
    let new : Point = record { input = record { args = args; blocks = memory }; tape = tape } in
    let new_fits : IsOfShape s new = record { args = next.fits; given = least.fits; tape = zeros.fits } in
    let none = zero_number (sizes_at new) (places_in s new ++ tape) least.sizes (zero_number (places_in s new) tape least.places zeros.number) in
    let first = next_in_front (IsArgsOf s.layout s.parameters) (FromSizes s) (digits_of s.parameters) (s.layout.blocks + (place_digits s + s.words)) (args_in s old) (args_in s new) (sizes_at old ++ (places_in s old ++ old.tape)) (sizes_at new ++ (places_in s new ++ tape)) (digits_1 s narrow) (is_args s old fits) (is_args s new new_fits) (from_sizes s old fits) (from_sizes s new new_fits) (next_of_args s old args next) (last_behind_args s old narrow fits last last_memory greatest) (first_of_zero (FromSizes s (args_in s new)) (sizes_at new ++ (places_in s new ++ tape)) none) in
    next_point_is s old new new_fits first

pub none_moves : (s : Shape) (old : Point) → IsNarrow s → IsOfShape s old → IsLastWords s.word_width.bits old.tape → IsLastMemory s.layout old.input.blocks → AreLastSizes s.layout old.input.blocks → IsLastArgs s.layout s.parameters old.input.args → IsLastPoint s old
none_moves s old narrow fits last last_memory greatest last_of_args =
    last_point_is s old (last_in_both (IsArgsOf s.layout s.parameters) (FromSizes s) (digits_of s.parameters) (s.layout.blocks + (place_digits s + s.words)) (args_in s old) (sizes_at old ++ (places_in s old ++ old.tape)) (digits_1 s narrow) (is_args s old fits) (from_sizes s old fits) (last_args s old last_of_args) (last_behind_args s old narrow fits last last_memory greatest))
