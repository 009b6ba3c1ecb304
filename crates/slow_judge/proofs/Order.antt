-- Cells one after another: the tape counts least, then the arguments; the blocks are the same in all.
use Rattle.slow_judge.proofs.Common.{◌≡◌, ℕ, zero, suc, ◌+◌, ◌-◌, ◌*◌, ◌^◌, ◌<◌, ◌≤◌, List, [], ◌∷◌, ◌++◌, length, map, replicate, refl, sym, ap, ◌∙◌, arith, add-one, zero-add, append_assoc, append-nil, flat_map, length-replicate, Parameter, AreIntegers, MemoryBlock, Bounds, Point, RunPair, layout_of, no_blocks, number_of, ValueFits, ArgsFit, BytesFit, BlocksFit, WordsFit, value_code, args_code, byte_code, places_code, blocks_code, code_of, IsNextWords, IsLastWords, IsNextArgs, IsLastArgs, least_value, need_of, widest_choice, place_in, Digits, IsNextIn, IsLastIn, HaveDigits, next_in_back, next_in_front, last_in_both, at_most_by_back, number_of-below, WordsFit-digits, WordsFit-length, number_of-zeros, IsArgsCode, args_digits, digits_of, Digits-append, any_blocks, any_code, Fits, blocks_digits, code_length, code_digits, same_point, widest_small, AreSmall, empty_block, first_empty, empty_blocks, least_args, IsCell, IsNextCell, IsLastCell}
use Rattle.std.proofs.lemmas.Nat.{pow_pos}
use Rattle.ir_tree.specs.declared.tree.IrType.{IrType}
use Rattle.ir_tree.specs.declared.tree.IrType.TheVariants as type
use Rattle.byte_block.specs.declared.value.Value.{Value}
use Rattle.byte_block.specs.declared.value.Byte.TheVariants as byte
use Rattle.points.specs.declared.point.Layout.{Layout}
use Rattle.points.specs.Codes.{IsChain}
use Rattle.points.proofs.Words as words

-- ---- empty blocks fit

empty_bytes_fit : (layout : Layout) (n : ℕ) → BytesFit layout (replicate n (byte.Bits 0 0))
empty_bytes_fit layout zero = tt
empty_bytes_fit layout (suc n) = ((omega arith, omega arith, refl), empty_bytes_fit layout n)

bytes_less_0 : (n : ℕ) → n ≡ n - 0
bytes_less_0 n = omega arith

-- the first blocks fit where those after them do
fit_before : (layout : Layout) (n : ℕ) (rest : List MemoryBlock) → BlocksFit layout (n + 1) rest → BlocksFit layout 1 (first_empty layout n ++ rest)
unfolding first_empty
fit_before layout zero rest h = rw (← zero-add 1) h
fit_before layout (suc n) rest h =
    rw append_assoc
    (fit_before layout n (empty_block layout (n + 1) ∷ rest) (record { named = refl; aligned = refl; small = omega arith; room = length-replicate layout.bytes (byte.Bits 0 0); past = ap (λ k. replicate k (byte.Bits 0 0)) (bytes_less_0 layout.bytes); fit = empty_bytes_fit layout layout.bytes }, (let e : suc n + 1 ≡ n + 1 + 1 = omega arith in rw e at h)))

pub empty_fit : (layout : Layout) → BlocksFit layout 1 (empty_blocks layout)
empty_fit layout = let e = fit_before layout layout.blocks [] refl in rw append-nil at e

pub empty_none : (layout : Layout) → first_empty layout 0 ≡ []
unfolding first_empty
empty_none layout = refl

pub empty_more : (layout : Layout) (n : ℕ) → first_empty layout (n + 1) ≡ first_empty layout n ++ empty_block layout (n + 1) ∷ []
unfolding first_empty
empty_more layout n = ap (first_empty layout) (add-one n)

-- ---- their codes are zeros

abbrev pub Zeros : List ℕ → Type 0
Zeros [] = Unit {0}
Zeros (d ∷ ds) = (d ≡ 0) × Zeros ds

pub number_of-Zeros : (ds : List ℕ) → Zeros ds → number_of ds ≡ 0
unfolding number_of
number_of-Zeros [] h = refl
number_of-Zeros (d ∷ ds) h = let rest = number_of-Zeros ds h.1 in rw (h.0, rest) (omega arith)

Zeros-append : (xs ys : List ℕ) → Zeros xs → Zeros ys → Zeros (xs ++ ys)
Zeros-append [] ys h h' = h'
Zeros-append (x ∷ xs) ys h h' = (h.0, Zeros-append xs ys h.1 h')

replicate_zero : (n : ℕ) → Zeros (replicate n 0)
replicate_zero zero = tt
replicate_zero (suc n) = (refl, replicate_zero n)

bytes_zero : (layout : Layout) (n : ℕ) → Zeros (flat_map (byte_code layout) (replicate n (byte.Bits 0 0)))
bytes_zero layout zero = tt
bytes_zero layout (suc n) = (refl, (refl, (refl, (refl, (refl, (refl, bytes_zero layout n))))))

-- the sizes are zeros, and so are the contents
record AreZeros (layout : Layout) (bs : List MemoryBlock) : Type 0 where
  sizes : Zeros (map (λ (b : MemoryBlock). b.size) bs)
  places : Zeros (flat_map (places_code layout) bs)

zeros_append : (layout : Layout) (xs ys : List MemoryBlock) → AreZeros layout xs → AreZeros layout ys → AreZeros layout (xs ++ ys)
zeros_append layout [] ys h h' = h'
zeros_append layout (x ∷ xs) ys h h' =
    let rest = zeros_append layout xs ys (record { sizes = h.sizes.1; places = behind (places_code layout x) (flat_map (places_code layout) xs) h.places }) h' in
    record {
      sizes = (h.sizes.0, rest.sizes);
      places = Zeros-append (places_code layout x) (flat_map (places_code layout) (xs ++ ys)) (before (places_code layout x) (flat_map (places_code layout) xs) h.places) rest.places;
    }
  where
    behind : (a b : List ℕ) → Zeros (a ++ b) → Zeros b
    behind [] b h = h
    behind (x ∷ a) b h = behind a b h.1

    before : (a b : List ℕ) → Zeros (a ++ b) → Zeros a
    before [] b h = tt
    before (x ∷ a) b h = (h.0, before a b h.1)

empty_zeros : (layout : Layout) (n : ℕ) → AreZeros layout (first_empty layout n)
unfolding first_empty
empty_zeros layout zero = record { sizes = tt; places = tt }
empty_zeros layout (suc n) = zeros_append layout (first_empty layout n) (empty_block layout (n + 1) ∷ []) (empty_zeros layout n) (record { sizes = (refl, tt); places = Zeros-append (places_code layout (empty_block layout (n + 1))) [] (bytes_zero layout layout.bytes) tt })

pub middle_zeros : (layout : Layout) → Zeros (blocks_code layout (empty_blocks layout))
middle_zeros layout = let zeros = empty_zeros layout layout.blocks in Zeros-append (map (λ (b : MemoryBlock). b.size) (empty_blocks layout)) (flat_map (places_code layout) (empty_blocks layout)) zeros.sizes zeros.places

-- ---- a cell's code

abbrev pub middle_of : RunPair → Bounds → List ℕ
middle_of pair bounds = blocks_code (layout_of pair bounds) (empty_blocks (layout_of pair bounds))

abbrev pub middle_count : RunPair → Bounds → ℕ
middle_count pair bounds = (layout_of pair bounds).blocks + (layout_of pair bounds).blocks * ((layout_of pair bounds).bytes * 6)

pub few : (bounds : Bounds) → AreSmall bounds → bounds.blocks < 2 ^ 64
few bounds small = let most = small.blocks in omega (arith, most)

pub short : (bounds : Bounds) → AreSmall bounds → bounds.bytes < 2 ^ 64
short bounds small = let most = small.bytes in omega (arith, most)

middle_digits : (pair : RunPair) (bounds : Bounds) → AreSmall bounds → Digits (middle_count pair bounds) (middle_of pair bounds)
middle_digits pair bounds small = blocks_digits (layout_of pair bounds) (empty_blocks (layout_of pair bounds)) (few bounds small) (short bounds small) (empty_fit (layout_of pair bounds))

-- arguments, blocks and a tape as a point of the pair has them
abbrev pub IsFit : RunPair → Bounds → Point → Type 0
IsFit pair bounds p = Fits (layout_of pair bounds) (need_of bounds.turns pair.target) (widest_choice pair.target) pair.target.parameters p

pub cell_fits : (pair : RunPair) (bounds : Bounds) (p : Point) → IsCell pair bounds p → IsFit pair bounds p
cell_fits pair bounds p cell = record { args = cell.args; given = rw cell.blocks (empty_fit (layout_of pair bounds)); tape = cell.tape }

pub same_place : (pair : RunPair) (bounds : Bounds) (p q : Point) → AreSmall bounds → IsFit pair bounds p → IsFit pair bounds q → place_in pair bounds p ≡ place_in pair bounds q → p ≡ q
same_place pair bounds p q small fits fits' e = same_point (layout_of pair bounds) (need_of bounds.turns pair.target) (widest_choice pair.target) pair.target.parameters p q (few bounds small) (short bounds small) (widest_small pair.target) fits fits' e

-- no position of a point is as great
abbrev pub places_in : RunPair → Bounds → ℕ
places_in pair bounds = (2 ^ 64) ^ code_length (layout_of pair bounds) (need_of bounds.turns pair.target) pair.target.parameters

pub within_places : (pair : RunPair) (bounds : Bounds) (p : Point) → AreSmall bounds → IsFit pair bounds p → place_in pair bounds p < places_in pair bounds
within_places pair bounds p small fits = number_of-below (code_length (layout_of pair bounds) (need_of bounds.turns pair.target) pair.target.parameters) (code_of (layout_of pair bounds) pair.target.parameters p) (code_digits (layout_of pair bounds) (need_of bounds.turns pair.target) (widest_choice pair.target) pair.target.parameters p (few bounds small) (short bounds small) (widest_small pair.target) fits)

code_is : (pair : RunPair) (bounds : Bounds) (p : Point) → AreIntegers pair.target.parameters → IsCell pair bounds p → code_of (layout_of pair bounds) pair.target.parameters p ≡ args_code no_blocks pair.target.parameters p.input.args ++ (middle_of pair bounds ++ p.tape)
code_is pair bounds p int cell =
    ap (λ (xs : List ℕ). xs ++ (blocks_code (layout_of pair bounds) p.input.blocks ++ p.tape)) (any_code (layout_of pair bounds) no_blocks pair.target.parameters p.input.args int cell.args)
    ∙ ap (λ (bs : List MemoryBlock). args_code no_blocks pair.target.parameters p.input.args ++ (blocks_code (layout_of pair bounds) bs ++ p.tape)) cell.blocks

-- ---- chains

-- the middle stays, and words follow
abbrev IsMiddle : List ℕ → List ℕ → Type 0
IsMiddle middle xs = xs ≡ middle

abbrev Tape : ℕ → ℕ → List ℕ → List ℕ → Type 0
Tape width n front ws = WordsFit width n ws

abbrev Rest : List ℕ → ℕ → ℕ → List ℕ → List ℕ → Type 0
Rest middle width n front ds = IsChain (IsMiddle middle) (Tape width n) ds

tape_digits : (middle : List ℕ) (k width n : ℕ) → width ≤ 64 → Digits k middle → HaveDigits (IsMiddle middle) (Tape width n) k n
tape_digits middle k width n small digits = record { front = λ xs h. rw h digits; back = λ xs ys h. WordsFit-digits width n ys small h }

rest_digits : (ps : List Parameter) (middle : List ℕ) (k width n : ℕ) → width ≤ 64 → Digits k middle → HaveDigits (IsArgsCode ps) (Rest middle width n) (digits_of ps) (k + n)
rest_digits ps middle k width n small digits = record {
  front = λ xs h. rw h.is (args_digits no_blocks ps h.args (omega arith) h.fits);
  back = λ xs ys h. rw h.whole (rw h.in_front (Digits-append k n middle h.back digits (WordsFit-digits width n h.back small h.in_back)));
}

abbrev IsCellCode : List Parameter → List ℕ → ℕ → ℕ → List ℕ → Type 0
IsCellCode ps middle width n ds = IsChain (IsArgsCode ps) (Rest middle width n) ds

record Parts (ps : List Parameter) (middle : List ℕ) (width n : ℕ) (vs : List Value) (ws : List ℕ) : Type 0 where
  front : IsArgsCode ps (args_code no_blocks ps vs)
  back : Rest middle width n (args_code no_blocks ps vs) (middle ++ ws)

parts : (ps : List Parameter) (middle : List ℕ) (width n : ℕ) (vs : List Value) (ws : List ℕ) → ArgsFit no_blocks ps vs → WordsFit width n ws → Parts ps middle width n vs ws
parts ps middle width n vs ws fits words_fit = record { front = record { args = vs; is = refl; fits = fits }; back = record { front = middle; back = ws; whole = refl; in_front = refl; in_back = words_fit } }

next_words_in : (width n : ℕ) (old new : List ℕ) → n ≡ length old → IsNextWords width old new → IsNextIn (WordsFit width n) old new
next_words_in width n old new e next = record { later = next.later; no_gap = λ ws fits less. next.no_gap ws (rw (← e) fits) less }

next_tape_in : (ps : List Parameter) (middle : List ℕ) (k width n : ℕ) (vs : List Value) (ws ws' : List ℕ) → width ≤ 64 → Digits k middle → ArgsFit no_blocks ps vs → WordsFit width n ws → WordsFit width n ws' → IsNextWords width ws ws' → IsNextIn (IsCellCode ps middle width n) (args_code no_blocks ps vs ++ (middle ++ ws)) (args_code no_blocks ps vs ++ (middle ++ ws'))
next_tape_in ps middle k width n vs ws ws' small digits fits old new next =
    let len : n ≡ length ws = sym (WordsFit-length width n ws old) in
    let inner = next_in_back (IsMiddle middle) (Tape width n) k n middle ws ws' (tape_digits middle k width n small digits) refl old new (next_words_in width n ws ws' len next) in
    let a = parts ps middle width n vs ws fits old in
    let b = parts ps middle width n vs ws' fits new in
    next_in_back (IsArgsCode ps) (Rest middle width n) (digits_of ps) (k + n) (args_code no_blocks ps vs) (middle ++ ws) (middle ++ ws') (rest_digits ps middle k width n small digits) a.front a.back b.back inner

last_rest : (ps : List Parameter) (middle : List ℕ) (k width n : ℕ) (front : List ℕ) (ws : List ℕ) → width ≤ 64 → Digits k middle → WordsFit width n ws → IsLastWords width ws → IsLastIn (Rest middle width n front) (middle ++ ws)
last_rest ps middle k width n front ws small digits fits last =
    let len : n ≡ length ws = sym (WordsFit-length width n ws fits) in
    last_in_both (IsMiddle middle) (Tape width n) k n middle ws (tape_digits middle k width n small digits) refl fits
    (λ ys is. rw is (omega arith)) (λ vs fits'. last vs (rw (← len) fits'))

next_args_in : (ps : List Parameter) (middle : List ℕ) (k width n : ℕ) (vs vs' : List Value) (ws ws' : List ℕ) → width ≤ 64 → Digits k middle → ArgsFit no_blocks ps vs → WordsFit width n ws → WordsFit width n ws' → IsLastWords width ws → number_of ws' ≡ 0 → IsNextArgs no_blocks ps vs vs' → IsNextIn (IsCellCode ps middle width n) (args_code no_blocks ps vs ++ (middle ++ ws)) (args_code no_blocks ps vs' ++ (middle ++ ws'))
next_args_in ps middle k width n vs vs' ws ws' small digits fits old new last zeros next =
    let a = parts ps middle width n vs ws fits old in
    let b = parts ps middle width n vs' ws' next.fits new in
    next_in_front (IsArgsCode ps) (Rest middle width n) (digits_of ps) (k + n) (args_code no_blocks ps vs) (args_code no_blocks ps vs') (middle ++ ws) (middle ++ ws') (rest_digits ps middle k width n small digits) a.front b.front a.back b.back
    (record { later = next.later; no_gap = λ ds code less. let less' = rw code.is at less in rw code.is (next.no_gap code.args code.fits less') })
    (last_rest ps middle k width n (args_code no_blocks ps vs) ws small digits old last)
    (λ ds chain. rw (chain.whole, chain.in_front) (at_most_by_back n middle ws' chain.back (WordsFit-digits width n ws' small new) (WordsFit-digits width n chain.back small chain.in_back) (rw zeros (omega arith))))

last_of_all : (ps : List Parameter) (middle : List ℕ) (k width n : ℕ) (vs : List Value) (ws : List ℕ) → width ≤ 64 → Digits k middle → ArgsFit no_blocks ps vs → WordsFit width n ws → IsLastWords width ws → IsLastArgs no_blocks ps vs → IsLastIn (IsCellCode ps middle width n) (args_code no_blocks ps vs ++ (middle ++ ws))
last_of_all ps middle k width n vs ws small digits fits old last last' =
    let a = parts ps middle width n vs ws fits old in
    last_in_both (IsArgsCode ps) (Rest middle width n) (digits_of ps) (k + n) (args_code no_blocks ps vs) (middle ++ ws) (rest_digits ps middle k width n small digits) a.front a.back
    (λ ds code. rw code.is (last' code.args code.fits)) (last_rest ps middle k width n (args_code no_blocks ps vs) ws small digits old last)

-- ---- cells

chain_of_cell : (pair : RunPair) (bounds : Bounds) (q : Point) → AreIntegers pair.target.parameters → IsCell pair bounds q → IsCellCode pair.target.parameters (middle_of pair bounds) (widest_choice pair.target) (need_of bounds.turns pair.target) (code_of (layout_of pair bounds) pair.target.parameters q)
chain_of_cell pair bounds q int cell = record {
  front = args_code no_blocks pair.target.parameters q.input.args;
  back = middle_of pair bounds ++ q.tape;
  whole = code_is pair bounds q int cell;
  in_front = record { args = q.input.args; is = refl; fits = any_blocks (layout_of pair bounds) no_blocks pair.target.parameters q.input.args int cell.args };
  in_back = record { front = middle_of pair bounds; back = q.tape; whole = refl; in_front = refl; in_back = cell.tape };
}

less_at : (a a' b b' : ℕ) → a ≡ a' → b ≡ b' → a' < b' → a < b
less_at a a' b b' e f h = omega (arith, e, f, h)

cell_next : (pair : RunPair) (bounds : Bounds) (old new : Point) → AreIntegers pair.target.parameters → IsCell pair bounds old → IsCell pair bounds new
    → IsNextIn (IsCellCode pair.target.parameters (middle_of pair bounds) (widest_choice pair.target) (need_of bounds.turns pair.target)) (args_code no_blocks pair.target.parameters old.input.args ++ (middle_of pair bounds ++ old.tape)) (args_code no_blocks pair.target.parameters new.input.args ++ (middle_of pair bounds ++ new.tape))
    → IsNextCell pair bounds old new
cell_next pair bounds old new int cell cell' next =
    let e = ap number_of (code_is pair bounds old int cell) in
    let f = ap number_of (code_is pair bounds new int cell') in
    record {
      among = cell';
      later = less_at (place_in pair bounds old) _ (place_in pair bounds new) _ e f next.later;
      no_gap = λ q q_cell less.
          let less' = less_at _ (place_in pair bounds q) _ (place_in pair bounds new) refl (sym f) less in
          let most = next.no_gap (code_of (layout_of pair bounds) pair.target.parameters q) (chain_of_cell pair bounds q int q_cell) less' in
          omega (arith, e, most);
    }

pub next_by_tape : (pair : RunPair) (bounds : Bounds) (old new : Point) → AreSmall bounds → AreIntegers pair.target.parameters → IsCell pair bounds old → new.input.args ≡ old.input.args → new.input.blocks ≡ old.input.blocks → IsNextWords (widest_choice pair.target) old.tape new.tape → IsNextCell pair bounds old new
next_by_tape pair bounds old new small int cell same_args same_blocks next =
    let n = need_of bounds.turns pair.target in
    let width = widest_choice pair.target in
    let len : n ≡ length old.tape = sym (WordsFit-length width n old.tape cell.tape) in
    let fits : WordsFit width n new.tape = rw len next.fits in
    let cell' : IsCell pair bounds new = record { args = rw same_args cell.args; blocks = same_blocks ∙ cell.blocks; tape = fits } in
    let chain = next_tape_in pair.target.parameters (middle_of pair bounds) (middle_count pair bounds) width n old.input.args old.tape new.tape (widest_small pair.target) (middle_digits pair bounds small) (any_blocks (layout_of pair bounds) no_blocks pair.target.parameters old.input.args int cell.args) cell.tape fits next in
    cell_next pair bounds old new int cell cell' (rw same_args chain)

pub next_by_args : (pair : RunPair) (bounds : Bounds) (old new : Point) → AreSmall bounds → AreIntegers pair.target.parameters → IsCell pair bounds old → new.input.blocks ≡ old.input.blocks → IsLastWords (widest_choice pair.target) old.tape → IsNextArgs no_blocks pair.target.parameters old.input.args new.input.args → new.tape ≡ replicate (length old.tape) 0 → IsNextCell pair bounds old new
next_by_args pair bounds old new small int cell same_blocks last next zeros =
    let n = need_of bounds.turns pair.target in
    let width = widest_choice pair.target in
    let len : length old.tape ≡ n = WordsFit-length width n old.tape cell.tape in
    let is : new.tape ≡ replicate n 0 = zeros ∙ ap (λ k. replicate k 0) len in
    let fits : WordsFit width n new.tape = rw is (words.zeros_fit width n) in
    let zero_number : number_of new.tape ≡ 0 = ap number_of is ∙ number_of-zeros n in
    let cell' : IsCell pair bounds new = record { args = any_blocks no_blocks (layout_of pair bounds) pair.target.parameters new.input.args int next.fits; blocks = same_blocks ∙ cell.blocks; tape = fits } in
    cell_next pair bounds old new int cell cell'
    (next_args_in pair.target.parameters (middle_of pair bounds) (middle_count pair bounds) width n old.input.args new.input.args old.tape new.tape (widest_small pair.target) (middle_digits pair bounds small) (any_blocks (layout_of pair bounds) no_blocks pair.target.parameters old.input.args int cell.args) cell.tape fits last zero_number next)

pub last_by_both : (pair : RunPair) (bounds : Bounds) (p : Point) → AreSmall bounds → AreIntegers pair.target.parameters → IsCell pair bounds p → IsLastWords (widest_choice pair.target) p.tape → IsLastArgs no_blocks pair.target.parameters p.input.args → IsLastCell pair bounds p
last_by_both pair bounds p small int cell last last' = λ q q_cell.
    let e = ap number_of (code_is pair bounds p int cell) in
    let most = last_of_all pair.target.parameters (middle_of pair bounds) (middle_count pair bounds) (widest_choice pair.target) (need_of bounds.turns pair.target) p.input.args p.tape (widest_small pair.target) (middle_digits pair bounds small) (any_blocks (layout_of pair bounds) no_blocks pair.target.parameters p.input.args int cell.args) cell.tape last last' (code_of (layout_of pair bounds) pair.target.parameters q) (chain_of_cell pair bounds q int q_cell) in
    omega (arith, e, most)

-- ---- the first one

least_value_fits : (layout : Layout) (t : IrType) → ValueFits layout t (least_value t)
least_value_fits layout (type.Int width) = pow_pos width.bits
least_value_fits layout type.Ptr = record { block = tt; offset = omega arith }

least_value_zeros : (layout : Layout) (t : IrType) → Zeros (value_code layout t (least_value t))
least_value_zeros layout (type.Int width) = (refl, (refl, tt))
least_value_zeros layout type.Ptr = (refl, (refl, (refl, tt)))

least_args_fit : (layout : Layout) (ps : List Parameter) → ArgsFit layout ps (least_args ps)
least_args_fit layout [] = tt
least_args_fit layout (p ∷ ps) = (least_value_fits layout p.of_type, least_args_fit layout ps)

least_args_zeros : (layout : Layout) (ps : List Parameter) → Zeros (args_code layout ps (least_args ps))
least_args_zeros layout [] = tt
least_args_zeros layout (p ∷ ps) = Zeros-append (value_code layout p.of_type (least_value p.of_type)) (args_code layout ps (least_args ps)) (least_value_zeros layout p.of_type) (least_args_zeros layout ps)

pub first_cell : (pair : RunPair) (bounds : Bounds) (p : Point) → p.input.args ≡ least_args pair.target.parameters → p.input.blocks ≡ empty_blocks (layout_of pair bounds) → p.tape ≡ replicate (need_of bounds.turns pair.target) 0 → IsCell pair bounds p
first_cell pair bounds p e f g = record {
  args = rw e (least_args_fit (layout_of pair bounds) pair.target.parameters);
  blocks = f;
  tape = rw g (words.zeros_fit (widest_choice pair.target) (need_of bounds.turns pair.target));
}

pub first_place : (pair : RunPair) (bounds : Bounds) (p : Point) → p.input.args ≡ least_args pair.target.parameters → p.input.blocks ≡ empty_blocks (layout_of pair bounds) → p.tape ≡ replicate (need_of bounds.turns pair.target) 0 → place_in pair bounds p ≡ 0
first_place pair bounds p e f g =
    let ps = pair.target.parameters in
    let args : Zeros (args_code (layout_of pair bounds) ps p.input.args) = rw e (least_args_zeros (layout_of pair bounds) ps) in
    let blocks : Zeros (blocks_code (layout_of pair bounds) p.input.blocks) = rw f (middle_zeros (layout_of pair bounds)) in
    let tape : Zeros p.tape = rw g (replicate_zero (need_of bounds.turns pair.target)) in
    number_of-Zeros (code_of (layout_of pair bounds) ps p) (Zeros-append (args_code (layout_of pair bounds) ps p.input.args) (blocks_code (layout_of pair bounds) p.input.blocks ++ p.tape) args (Zeros-append (blocks_code (layout_of pair bounds) p.input.blocks) p.tape blocks tape))
