-- Two points of one shape at one position in the order are one point.
use Rattle.points.proofs.Common.{◌≡◌, ℕ, zero, suc, ◌+◌, ◌*◌, ◌^◌, ◌<◌, ◌≤◌, nat_eq, Bool, true, false, if◌then◌else◌, List, [], ◌∷◌, ◌++◌, length, map, refl, sym, ap, ◌∙◌, arith, append_assoc, add-zero, flat_map, IrType, Int, Parameter, BlockName, Null, Given, Local, Ptr, Value, Num, Poison, Byte, Bits, Part, MemoryBlock, Layout, Point, BlockFits, PointerFits, ValueFits, ArgsFit, ByteFits, BytesFit, IsGivenBlock, BlocksFit, WordsFit, name_digit, value_code, args_code, byte_code, places_code, blocks_code, code_of, place_of, PlacesTellPoints}
use Rattle.ir_tree.specs.declared.tree.IrType.TheVariants as type
use Rattle.byte_block.specs.declared.value.Value.TheVariants as value
use Rattle.points.proofs.Order.{Digits, digits_as, number_of-same}
use Rattle.points.proofs.Words.{WordsFit-digits}
use Rattle.points.proofs.Args.{digits_of, args_digits, name_small, Digits-append}

-- ---- one thing and a rest

record Both {A : Type 0} (x y : A) (ms ns : List ℕ) : Type 0 where
  pub one : x ≡ y
  pub rest : ms ≡ ns

same_block : (layout : Layout) (a b : BlockName) → BlockFits layout a → BlockFits layout b → name_digit layout a ≡ name_digit layout b → a ≡ b
same_block layout Null Null fits fits' e = refl
same_block layout Null (Given i) fits fits' e = absurd (let low = fits'.0 in omega (arith, e, low))
same_block layout (Given i) Null fits fits' e = absurd (let low = fits.0 in omega (arith, e, low))
same_block layout (Given i) (Given j) fits fits' e = ap Given e
same_block layout (Local t p) b fits fits' e = absurd fits
same_block layout Null (Local t p) fits fits' e = absurd fits'
same_block layout (Given i) (Local t p) fits fits' e = absurd fits'

same_pointer : (layout : Layout) (p q : Ptr) → PointerFits layout p → PointerFits layout q → name_digit layout p.block ≡ name_digit layout q.block → p.offset ≡ q.offset → p ≡ q
same_pointer layout p q fits fits' e f = let b = same_block layout p.block q.block fits.block fits'.block e in λ i. record { block = b i; offset = f i }

zero_not_one : {A : Type 0} → ◌≡◌ {A = ℕ} 0 1 → A
zero_not_one e = absurd (omega (arith, e))

same_value : (layout : Layout) (t : IrType) (v v' : Value) (rest rest' : List ℕ) → ValueFits layout t v → ValueFits layout t v' → value_code layout t v ++ rest ≡ value_code layout t v' ++ rest' → Both v v' rest rest'
same_value layout (Int w) (Num a) (Num b) rest rest' fits fits' e = let n : a ≡ b = cc in record { one = ap Num n; rest = cc }
same_value layout (Int w) Poison Poison rest rest' fits fits' e = record { one = refl; rest = cc }
same_value layout (Int w) (Num a) Poison rest rest' fits fits' e = let f : ◌≡◌ {A = ℕ} 0 1 = cc in zero_not_one f
same_value layout (Int w) Poison (Num b) rest rest' fits fits' e = let f : ◌≡◌ {A = ℕ} 0 1 = cc in zero_not_one f
same_value layout (Int w) (value.Ptr p) v' rest rest' fits fits' e = absurd fits
same_value layout (Int w) (Num a) (value.Ptr p) rest rest' fits fits' e = absurd fits'
same_value layout (Int w) Poison (value.Ptr p) rest rest' fits fits' e = absurd fits'
same_value layout type.Ptr (value.Ptr p) (value.Ptr q) rest rest' fits fits' e =
    let b : name_digit layout p.block ≡ name_digit layout q.block = cc in
    let o : p.offset ≡ q.offset = cc in
    record { one = ap value.Ptr (same_pointer layout p q fits fits' b o); rest = cc }
same_value layout type.Ptr Poison Poison rest rest' fits fits' e = record { one = refl; rest = cc }
same_value layout type.Ptr (value.Ptr p) Poison rest rest' fits fits' e = let f : ◌≡◌ {A = ℕ} 0 1 = cc in zero_not_one f
same_value layout type.Ptr Poison (value.Ptr q) rest rest' fits fits' e = let f : ◌≡◌ {A = ℕ} 0 1 = cc in zero_not_one f
same_value layout type.Ptr (Num a) v' rest rest' fits fits' e = absurd fits
same_value layout type.Ptr (value.Ptr p) (Num b) rest rest' fits fits' e = absurd fits'
same_value layout type.Ptr Poison (Num b) rest rest' fits fits' e = absurd fits'

both_cons : {A : Type 0} (x y : A) (xs ys : List A) (rest rest' : List ℕ) → x ≡ y → Both xs ys rest rest' → Both (x ∷ xs) (y ∷ ys) rest rest'
both_cons x y xs ys rest rest' e b = let f = b.one in record { one = cc; rest = b.rest }

same_args : (layout : Layout) (ps : List Parameter) (vs vs' : List Value) (rest rest' : List ℕ) → ArgsFit layout ps vs → ArgsFit layout ps vs' → args_code layout ps vs ++ rest ≡ args_code layout ps vs' ++ rest' → Both vs vs' rest rest'
same_args layout [] [] [] rest rest' fits fits' e = record { one = refl; rest = e }
same_args layout (p ∷ ps) (v ∷ vs) (v' ∷ vs') rest rest' fits fits' e =
    let e' : value_code layout p.of_type v ++ (args_code layout ps vs ++ rest) ≡ value_code layout p.of_type v' ++ (args_code layout ps vs' ++ rest') = sym (append_assoc (value_code layout p.of_type v) (args_code layout ps vs) rest) ∙ e ∙ append_assoc (value_code layout p.of_type v') (args_code layout ps vs') rest' in
    let first = same_value layout p.of_type v v' (args_code layout ps vs ++ rest) (args_code layout ps vs' ++ rest') fits.0 fits'.0 e' in
    both_cons v v' vs vs' rest rest' first.one (same_args layout ps vs vs' rest rest' fits.1 fits'.1 first.rest)
same_args layout [] (v ∷ vs) vs' rest rest' fits fits' e = absurd fits
same_args layout [] [] (v ∷ vs') rest rest' fits fits' e = absurd fits'
same_args layout (p ∷ ps) [] vs' rest rest' fits fits' e = absurd fits
same_args layout (p ∷ ps) (v ∷ vs) [] rest rest' fits fits' e = absurd fits'

-- ---- bytes

same_byte : (layout : Layout) (b b' : Byte) (rest rest' : List ℕ) → ByteFits layout b → ByteFits layout b' → byte_code layout b ++ rest ≡ byte_code layout b' ++ rest' → Both b b' rest rest'
same_byte layout (Bits n m) (Bits n' m') rest rest' fits fits' e =
    let number : n ≡ n' = cc in
    let mask : m ≡ m' = cc in
    record { one = λ x. Bits (number x) (mask x); rest = cc }
same_byte layout (Part p i) (Part q j) rest rest' fits fits' e =
    let b : name_digit layout p.block ≡ name_digit layout q.block = cc in
    let o : p.offset ≡ q.offset = cc in
    let k : i ≡ j = cc in
    let s = same_pointer layout p q fits.0 fits'.0 b o in
    record { one = λ x. Part (s x) (k x); rest = cc }
same_byte layout (Bits n zero) (Part q j) rest rest' fits fits' e = let f : ◌≡◌ {A = ℕ} 0 1 = cc in zero_not_one f
same_byte layout (Bits n (suc m)) (Part q j) rest rest' fits fits' e = absurd (let f : suc m ≡ 0 = cc in omega (arith, f))
same_byte layout (Part p i) (Bits n zero) rest rest' fits fits' e = let f : ◌≡◌ {A = ℕ} 0 1 = cc in zero_not_one f
same_byte layout (Part p i) (Bits n (suc m)) rest rest' fits fits' e = absurd (let f : suc m ≡ 0 = cc in omega (arith, f))

same_bytes : (layout : Layout) (bs bs' : List Byte) (rest rest' : List ℕ) → BytesFit layout bs → BytesFit layout bs' → length bs ≡ length bs' → flat_map (byte_code layout) bs ++ rest ≡ flat_map (byte_code layout) bs' ++ rest' → Both bs bs' rest rest'
same_bytes layout [] [] rest rest' fits fits' long e = record { one = refl; rest = e }
same_bytes layout (b ∷ bs) (b' ∷ bs') rest rest' fits fits' long e =
    let e' : byte_code layout b ++ (flat_map (byte_code layout) bs ++ rest) ≡ byte_code layout b' ++ (flat_map (byte_code layout) bs' ++ rest') = sym (append_assoc (byte_code layout b) (flat_map (byte_code layout) bs) rest) ∙ e ∙ append_assoc (byte_code layout b') (flat_map (byte_code layout) bs') rest' in
    let first = same_byte layout b b' (flat_map (byte_code layout) bs ++ rest) (flat_map (byte_code layout) bs' ++ rest') fits.0 fits'.0 e' in
    both_cons b b' bs bs' rest rest' first.one (same_bytes layout bs bs' rest rest' fits.1 fits'.1 (omega (arith, long)) first.rest)
same_bytes layout [] (b ∷ bs) rest rest' fits fits' long e = absurd (omega (arith, long))
same_bytes layout (b ∷ bs) [] rest rest' fits fits' long e = absurd (omega (arith, long))

-- ---- blocks

abbrev pub sizes_of : List MemoryBlock → List ℕ
sizes_of bs = map (λ (b : MemoryBlock). b.size) bs

same_sizes : (bs bs' : List MemoryBlock) (rest rest' : List ℕ) → length bs ≡ length bs' → sizes_of bs ++ rest ≡ sizes_of bs' ++ rest' → Both (sizes_of bs) (sizes_of bs') rest rest'
same_sizes [] [] rest rest' long e = record { one = refl; rest = e }
same_sizes (b ∷ bs) (b' ∷ bs') rest rest' long e =
    let n : b.size ≡ b'.size = cc in
    let tail : sizes_of bs ++ rest ≡ sizes_of bs' ++ rest' = cc in
    both_cons b.size b'.size (sizes_of bs) (sizes_of bs') rest rest' n (same_sizes bs bs' rest rest' (omega (arith, long)) tail)
same_sizes [] (b ∷ bs) rest rest' long e = absurd (omega (arith, long))
same_sizes (b ∷ bs) [] rest rest' long e = absurd (omega (arith, long))

one_block : (layout : Layout) (number : ℕ) (b b' : MemoryBlock) → IsGivenBlock layout number b → IsGivenBlock layout number b' → b.size ≡ b'.size → b.places ≡ b'.places → b ≡ b'
one_block layout number b b' given given' e f =
    let n : b.name ≡ b'.name = given.named ∙ sym given'.named in
    let a : b.align ≡ b'.align = given.aligned ∙ sym given'.aligned in
    λ i. record { name = n i; size = e i; align = a i; places = f i }

same_blocks : (layout : Layout) (number : ℕ) (bs bs' : List MemoryBlock) (rest rest' : List ℕ) → BlocksFit layout number bs → BlocksFit layout number bs' → sizes_of bs ≡ sizes_of bs' → flat_map (places_code layout) bs ++ rest ≡ flat_map (places_code layout) bs' ++ rest' → Both bs bs' rest rest'
same_blocks layout number [] [] rest rest' fits fits' sizes e = record { one = refl; rest = e }
same_blocks layout number (b ∷ bs) (b' ∷ bs') rest rest' fits fits' sizes e =
    let n : b.size ≡ b'.size = cc in
    let more : sizes_of bs ≡ sizes_of bs' = cc in
    let e' : places_code layout b ++ (flat_map (places_code layout) bs ++ rest) ≡ places_code layout b' ++ (flat_map (places_code layout) bs' ++ rest') = sym (append_assoc (places_code layout b) (flat_map (places_code layout) bs) rest) ∙ e ∙ append_assoc (places_code layout b') (flat_map (places_code layout) bs') rest' in
    let first = same_bytes layout b.places b'.places (flat_map (places_code layout) bs ++ rest) (flat_map (places_code layout) bs' ++ rest') fits.0.fit fits'.0.fit (fits.0.room ∙ sym fits'.0.room) e' in
    both_cons b b' bs bs' rest rest' (one_block layout number b b' fits.0 fits'.0 n first.one) (same_blocks layout (number + 1) bs bs' rest rest' fits.1 fits'.1 more first.rest)
same_blocks layout number [] (b ∷ bs) rest rest' fits fits' sizes e = absurd (let l : length (sizes_of []) ≡ length (sizes_of (b ∷ bs)) = ap length sizes in omega (arith, l))
same_blocks layout number (b ∷ bs) [] rest rest' fits fits' sizes e = absurd (let l : length (sizes_of (b ∷ bs)) ≡ length (sizes_of []) = ap length sizes in omega (arith, l))

pub BlocksFit-length : (layout : Layout) (number : ℕ) (bs : List MemoryBlock) → BlocksFit layout number bs → number + length bs ≡ layout.blocks + 1
BlocksFit-length layout number [] h = rw add-zero h
BlocksFit-length layout number (b ∷ bs) h = let rest = BlocksFit-length layout (number + 1) bs h.1 in omega (arith, rest)

pub blocks_count : (layout : Layout) (bs : List MemoryBlock) → BlocksFit layout 1 bs → length bs ≡ layout.blocks
blocks_count layout bs h = let e = BlocksFit-length layout 1 bs h in omega (arith, e)

-- ---- digits

pub byte_digits : (layout : Layout) (b : Byte) → layout.blocks < 2 ^ 64 → ByteFits layout b → Digits 6 (byte_code layout b)
byte_digits layout (Bits n m) few fits = (kind_small (nat_eq m 0), ((let mask = fits.1 in omega (arith, mask)), ((let number = fits.0 in omega (arith, number)), (omega arith, (omega arith, (omega arith, tt))))))
  where
    kind_small : (none : Bool) → (if none then 0 else 2) < 2 ^ 64
    kind_small true = omega arith
    kind_small false = omega arith
byte_digits layout (Part p i) few fits = (omega arith, (omega arith, (omega arith, (name_small layout p.block few fits.0.block, (fits.0.offset, ((let part = fits.1 in omega (arith, part)), tt))))))

pub bytes_digits : (layout : Layout) (bs : List Byte) → layout.blocks < 2 ^ 64 → BytesFit layout bs → Digits (length bs * 6) (flat_map (byte_code layout) bs)
bytes_digits layout [] few fits = digits_as (0 * 6) 0 [] (omega arith) tt
bytes_digits layout (b ∷ bs) few fits = digits_as (suc (length bs) * 6) (6 + length bs * 6) (flat_map (byte_code layout) (b ∷ bs)) (omega arith) (Digits-append 6 (length bs * 6) (byte_code layout b) (flat_map (byte_code layout) bs) (byte_digits layout b few fits.0) (bytes_digits layout bs few fits.1))

pub sizes_digits : (layout : Layout) (number : ℕ) (bs : List MemoryBlock) → layout.bytes < 2 ^ 64 → BlocksFit layout number bs → Digits (length bs) (sizes_of bs)
sizes_digits layout number [] short fits = tt
sizes_digits layout number (b ∷ bs) short fits = ((let small = fits.0.small in omega (arith, small, short)), sizes_digits layout (number + 1) bs short fits.1)

pub places_digits : (layout : Layout) (number : ℕ) (bs : List MemoryBlock) → layout.blocks < 2 ^ 64 → BlocksFit layout number bs → Digits (length bs * (layout.bytes * 6)) (flat_map (places_code layout) bs)
places_digits layout number [] few fits = digits_as (0 * (layout.bytes * 6)) 0 [] (omega arith) tt
places_digits layout number (b ∷ bs) few fits =
    let here : Digits (length b.places * 6) (places_code layout b) = bytes_digits layout b.places few fits.0.fit in
    let here' = rw fits.0.room at here in
    digits_as (suc (length bs) * (layout.bytes * 6)) (layout.bytes * 6 + length bs * (layout.bytes * 6)) (flat_map (places_code layout) (b ∷ bs)) (omega arith) (Digits-append (layout.bytes * 6) (length bs * (layout.bytes * 6)) (places_code layout b) (flat_map (places_code layout) bs) here' (places_digits layout (number + 1) bs few fits.1))

pub blocks_digits : (layout : Layout) (bs : List MemoryBlock) → layout.blocks < 2 ^ 64 → layout.bytes < 2 ^ 64 → BlocksFit layout 1 bs → Digits (layout.blocks + layout.blocks * (layout.bytes * 6)) (blocks_code layout bs)
blocks_digits layout bs few short fits =
    let count = blocks_count layout bs fits in
    let sizes = sizes_digits layout 1 bs short fits in
    let places = places_digits layout 1 bs few fits in
    Digits-append layout.blocks (layout.blocks * (layout.bytes * 6)) (sizes_of bs) (flat_map (places_code layout) bs) (rw (← count) sizes) (rw (← count) places)

-- ---- points

-- what a point of a shape has, by the numbers of the shape
pub record Fits (layout : Layout) (words width : ℕ) (ps : List Parameter) (p : Point) : Type 0 where
  pub args : ArgsFit layout ps p.input.args
  pub given : BlocksFit layout 1 p.input.blocks
  pub tape : WordsFit width words p.tape

abbrev pub code_length : Layout → ℕ → List Parameter → ℕ
code_length layout words ps = digits_of ps + (layout.blocks + layout.blocks * (layout.bytes * 6) + words)

pub code_digits : (layout : Layout) (words width : ℕ) (ps : List Parameter) (p : Point) → layout.blocks < 2 ^ 64 → layout.bytes < 2 ^ 64 → width ≤ 64 → Fits layout words width ps p → Digits (code_length layout words ps) (code_of layout ps p)
code_digits layout words width ps p few short narrow fits =
    Digits-append (digits_of ps) (layout.blocks + layout.blocks * (layout.bytes * 6) + words) (args_code layout ps p.input.args) (blocks_code layout p.input.blocks ++ p.tape)
    (args_digits layout ps p.input.args few fits.args)
    (Digits-append (layout.blocks + layout.blocks * (layout.bytes * 6)) words (blocks_code layout p.input.blocks) p.tape (blocks_digits layout p.input.blocks few short fits.given) (WordsFit-digits width words p.tape narrow fits.tape))

pub same_coded : (layout : Layout) (ps : List Parameter) (p q : Point) → ArgsFit layout ps p.input.args → ArgsFit layout ps q.input.args → BlocksFit layout 1 p.input.blocks → BlocksFit layout 1 q.input.blocks → code_of layout ps p ≡ code_of layout ps q → p ≡ q
same_coded layout ps p q fit fit' given given' codes =
    let args = same_args layout ps p.input.args q.input.args (blocks_code layout p.input.blocks ++ p.tape) (blocks_code layout q.input.blocks ++ q.tape) fit fit' codes in
    let long : length p.input.blocks ≡ length q.input.blocks = blocks_count layout p.input.blocks given ∙ sym (blocks_count layout q.input.blocks given') in
    let rest : sizes_of p.input.blocks ++ (flat_map (places_code layout) p.input.blocks ++ p.tape) ≡ sizes_of q.input.blocks ++ (flat_map (places_code layout) q.input.blocks ++ q.tape) =
    sym (append_assoc (sizes_of p.input.blocks) (flat_map (places_code layout) p.input.blocks) p.tape) ∙ args.rest ∙ append_assoc (sizes_of q.input.blocks) (flat_map (places_code layout) q.input.blocks) q.tape in
    let sizes = same_sizes p.input.blocks q.input.blocks (flat_map (places_code layout) p.input.blocks ++ p.tape) (flat_map (places_code layout) q.input.blocks ++ q.tape) long rest in
    let both = same_blocks layout 1 p.input.blocks q.input.blocks p.tape q.tape given given' sizes.one sizes.rest in
    let a = args.one in let b = both.one in let t = both.rest in
    λ i. record { input = record { args = a i; blocks = b i }; tape = t i }

pub same_point : (layout : Layout) (words width : ℕ) (ps : List Parameter) (p q : Point) → layout.blocks < 2 ^ 64 → layout.bytes < 2 ^ 64 → width ≤ 64 → Fits layout words width ps p → Fits layout words width ps q → place_of layout ps p ≡ place_of layout ps q → p ≡ q
same_point layout words width ps p q few short narrow fits fits' e =
    let n = code_length layout words ps in
    let codes : code_of layout ps p ≡ code_of layout ps q = number_of-same n (code_of layout ps p) (code_of layout ps q) (code_digits layout words width ps p few short narrow fits) (code_digits layout words width ps q few short narrow fits') e in
    same_coded layout ps p q fits.args fits'.args fits.given fits'.given codes

pub places_tell_points : PlacesTellPoints
places_tell_points = λ s p q few short fits fits' e.
    same_point s.layout s.words s.word_width.bits s.parameters p q few short s.word_width.at_most_64
    (record { args = fits.args; given = fits.given; tape = fits.tape }) (record { args = fits'.args; given = fits'.given; tape = fits'.tape }) e
