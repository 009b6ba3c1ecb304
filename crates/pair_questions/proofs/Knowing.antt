-- Known inputs denote what they were made of.
use Rattle.pair_questions.proofs.Common.{ℕ, zero, suc, ◌≡◌, ◌<◌, ◌≤◌, ◌+◌, Bool, true, false, nat_eq, List, [], ◌∷◌, ◌++◌, length, map, take, get_or, All, refl, ap, sym, subst, ◌∙◌, arith, length-append, take_more, IrType, Parameter, BlockName, Null, Given, Local, Ptr, Value, Byte, MemoryBlock, Layout, Input, Point, Shape, BlockFits, PointerFits, ValueFits, ArgsFit, ByteFits, BytesFit, BlocksFit, IsOfShape, name_digit, block_number, blocks_count, TermId, Term, IsTerm, Keeps, Makes, term_at, ArgTerms, ByteTerms, Each, Reading, block_name, reading, value_of, byte_of, defined_bits, defined-apart, AreArgs, IsBlockTerms, arg_at, args_at, given_block_at, given_blocks_at, given_byte_at, input_at, map-push, map-same, args-later, args_at-later, keeps_trans, sizes-later, term-later, given_named, IsInputOf}
use Rattle.ir_tree.specs.declared.tree.IrType.TheVariants as type
use Rattle.byte_block.specs.declared.value.Value.TheVariants as value
use Rattle.byte_block.specs.declared.value.Byte.TheVariants as byte
use Rattle.pair_questions.proofs.Decoded.{name_decoded, block_is, named_within}

-- ---- what a builder made stays

made_is : (t new : List Term) → Keeps t new → (id : TermId) (n x : ℕ) → Makes t id n (λ _. x) → (v : ℕ → ℕ → ℕ) → term_at v new id ≡ x
made_is t new k id n x m v = term-later t new k v id m.within ∙ m.says v

-- ---- pointers

number_digit : (layout : Layout) (b : BlockName) → name_digit layout b ≡ block_number b
number_digit layout Null = refl
number_digit layout (Given n) = refl
number_digit layout (Local t p) = refl

-- the number of a block among `blocks` names it
pub name_known : (layout : Layout) (b : BlockName) → BlockFits layout b → block_name layout.blocks (block_number b) ≡ b
name_known layout b fits = sym (name_decoded layout b (block_number b) fits (number_digit layout b))

pointer_known : (layout : Layout) (p : Ptr) → PointerFits layout p → record { block = block_name layout.blocks (block_number p.block); offset = p.offset } ≡ p
pointer_known layout p fits = let same = name_known layout p.block fits.block in λ i. record { block = same i; offset = p.offset }

-- ---- arguments

-- a pointer that fits is the one of its block's number and its offset
pub pointer_value : (layout : Layout) (t : IrType) (x : Value) (p : Ptr) → t ≡ type.Ptr → x ≡ value.Ptr p → ValueFits layout t x
    → (poison : Bool) (block offset : ℕ) → poison ≡ false → block ≡ block_number p.block → offset ≡ p.offset → value_of poison true (block_name layout.blocks block) offset ≡ x
pointer_value layout t x p et ex fits poison block offset ep eb eo =
    let here : PointerFits layout p = subst (λ (s : IrType). ValueFits layout s (value.Ptr p)) et (subst (λ (y : Value). ValueFits layout t y) ex fits) in
    rw (ep, eb, eo) (ap (λ (q : Ptr). value.Ptr q) (pointer_known layout p here) ∙ sym ex)

pub fit_count : (layout : Layout) (ps : List Parameter) (xs : List Value) → ArgsFit layout ps xs → length xs ≡ length ps
fit_count layout [] [] h = omega arith
fit_count layout (p ∷ ps) (x ∷ xs) h = let more = fit_count layout ps xs h.1 in omega (arith, more)
fit_count layout [] (x ∷ xs) h = absurd h
fit_count layout (p ∷ ps) [] h = absurd h

pub fit_at : (layout : Layout) (ps : List Parameter) (xs : List Value) (i : ℕ) (d : Parameter) (e : Value) → ArgsFit layout ps xs → i < length ps → ValueFits layout (get_or ps i d).of_type (get_or xs i e)
fit_at layout [] xs i d e h lt = absurd (omega arith)
fit_at layout (p ∷ ps) (x ∷ xs) zero d e h lt = h.0
fit_at layout (p ∷ ps) (x ∷ xs) (suc i) d e h lt = fit_at layout ps xs i d e h.1 (omega arith)
fit_at layout (p ∷ ps) [] i d e h lt = absurd h

-- one item more
pub map_more : {A B : Type 0} (f : A → B) (known more : List A) (a : A) (xs : List B) (i : ℕ) (d : B) → more ≡ known ++ a ∷ [] → i < length xs → map f known ≡ take i xs → f a ≡ get_or xs i d → map f more ≡ take (i + 1) xs
map_more f known more a xs i d e lt so here = ap (map f) e ∙ (map-push f known a ∙ (rw (so, here, take_more xs i d lt) refl))

-- one for each item so far
pub count_more : {A B : Type 0} (known more : List A) (a : A) (xs : List B) (i : ℕ) → length known ≡ length (take i xs) → more ≡ known ++ a ∷ [] → i < length xs → length more ≡ length (take (i + 1) xs)
count_more known more a [] i n e lt = absurd (omega arith)
count_more known more a (x ∷ xs) i n e lt = ap length e ∙ (length-append known (a ∷ []) ∙ (ap (λ m. m + 1) n ∙ (sym (length-append (take i (x ∷ xs)) (get_or (x ∷ xs) i x ∷ [])) ∙ ap length (sym (take_more (x ∷ xs) i x lt)))))

-- one item more, of which another is the image
pub images_more : {A B C : Type 0} (f : A → C) (g : B → C) (known more : List A) (a : A) (xs : List B) (i : ℕ) (x : B) → more ≡ known ++ a ∷ [] → i < length xs → x ≡ get_or xs i x → map f known ≡ map g (take i xs) → f a ≡ g x
    → map f more ≡ map g (take (i + 1) xs)
images_more f g known more a xs i x e lt is so here =
    let last : f a ≡ g (get_or xs i x) = here ∙ ap g is in
    ap (map f) e ∙ (map-push f known a ∙ (rw (so, last) (sym (map-push g (take i xs) (get_or xs i x)) ∙ ap (map g) (sym (take_more xs i x lt)))))

pub made_size : {t : List Term} {id : TermId} {x : ℕ} → Makes t id 6 (λ _. x) → IsTerm t 6 id
made_size m = record { within = m.within; wide = m.wide }

pub block_counted : (terms : List Term) (bytes n : ℕ) (places : List ByteTerms) → n ≡ bytes → IsBlockTerms n terms places → IsBlockTerms bytes terms places
block_counted terms bytes n places e h = record { count = h.count ∙ e; are = h.are }

-- one value more
pub args_stand : (old new : List Term) (ps : List Parameter) (args more : List ArgTerms) (a : ArgTerms) (xs : List Value) (i : ℕ) (d : Value) → Keeps old new → AreArgs old ps args → i < length xs → more ≡ args ++ a ∷ [] → (r : Reading)
    → args_at r old args ≡ take i xs → arg_at r new a ≡ get_or xs i d → args_at r new more ≡ take (i + 1) xs
args_stand old new ps args more a xs i d k are lt e r so here = map_more (arg_at r new) args more a xs i d e lt (args_at-later old new k r ps args are ∙ so) here

-- ---- bytes

-- six known terms
pub six_known : (t0 t1 t2 t3 t4 new : List Term) (b : ByteTerms) (kind mask number block offset part : ℕ) → Keeps t0 new → Keeps t1 new → Keeps t2 new → Keeps t3 new → Keeps t4 new
    → Makes t0 b.kind 2 (λ _. kind) → Makes t1 b.mask 8 (λ _. mask) → Makes t2 b.number 8 (λ _. number) → Makes t3 b.block 3 (λ _. block) → Makes t4 b.offset 64 (λ _. offset) → Makes new b.part 3 (λ _. part)
    → (r : Reading) → given_byte_at r new b ≡ byte_of (nat_eq kind 1) mask number (record { block = r.name block; offset = offset }) part
unfolding given_byte_at
six_known t0 t1 t2 t3 t4 new b kind mask number block offset part k0 k1 k2 k3 k4 m0 m1 m2 m3 m4 m5 r =
    rw (
      made_is t0 new k0 b.kind 2 kind m0 r.v,
      made_is t1 new k1 b.mask 8 mask m1 r.v,
      made_is t2 new k2 b.number 8 number m2 r.v,
      made_is t3 new k3 b.block 3 block m3 r.v,
      made_is t4 new k4 b.offset 64 offset m4 r.v,
      m5.says r.v,
    ) refl

-- the byte of a kind, a mask, a number, a pointer by its block's number, and a part
abbrev pub byte_read : Layout → ℕ × ℕ × ℕ × Ptr × ℕ → Byte
byte_read layout t = byte_of (nat_eq t.0 1) t.1 t.2 (record { block = block_name layout.blocks (block_number t.3.block); offset = t.3.offset }) t.4

-- bits that fit have no bit of their mask
pub bits_value : (layout : Layout) (b : Byte) (n m k : ℕ) → b ≡ byte.Bits n m → m ≡ k → ByteFits layout b → byte.Bits (defined_bits n k) k ≡ b
bits_value layout b n m k is same fits =
    let h : ByteFits layout (byte.Bits n m) = subst (ByteFits layout) is fits in
    rw (← same) (ap (λ x. byte.Bits x m) (defined-apart n m h.0 h.1 h.2) ∙ sym is)

-- a part of a pointer that fits is the one of its block's number
pub part_value : (layout : Layout) (p : Ptr) (i : ℕ) → ByteFits layout (byte.Part p i) → byte.Part (record { block = block_name layout.blocks (block_number p.block); offset = p.offset }) i ≡ byte.Part p i
part_value layout p i fits = ap (λ (q : Ptr). byte.Part q i) (pointer_known layout p fits.0)

pub bytes_at : (layout : Layout) (bs : List Byte) (i : ℕ) (d : Byte) → BytesFit layout bs → i < length bs → ByteFits layout (get_or bs i d)
bytes_at layout [] i d h lt = absurd (omega arith)
bytes_at layout (b ∷ bs) zero d h lt = h.0
bytes_at layout (b ∷ bs) (suc i) d h lt = bytes_at layout bs i d h.1 (omega arith)

-- ---- blocks

pub block_fits_more : (b : BlockName) (few many : Layout) → few.blocks ≤ many.blocks → BlockFits few b → BlockFits many b
block_fits_more Null few many le fits = tt
block_fits_more (Given n) few many le fits = (fits.0, omega (arith, le, fits.1))
block_fits_more (Local t p) few many le fits = absurd fits

pointer_fits_more : (p : Ptr) (few many : Layout) → few.blocks ≤ many.blocks → PointerFits few p → PointerFits many p
pointer_fits_more p few many le fits = record { block = block_fits_more p.block few many le fits.block; offset = fits.offset }

value_fits_more : (t : IrType) (x : Value) (few many : Layout) → few.blocks ≤ many.blocks → ValueFits few t x → ValueFits many t x
value_fits_more (type.Int w) (value.Num n) few many le fits = fits
value_fits_more (type.Int w) value.Poison few many le fits = tt
value_fits_more (type.Int w) (value.Ptr p) few many le fits = absurd fits
value_fits_more type.Ptr (value.Num n) few many le fits = absurd fits
value_fits_more type.Ptr value.Poison few many le fits = tt
value_fits_more type.Ptr (value.Ptr p) few many le fits = pointer_fits_more p few many le fits

pub args_fit_more : (ps : List Parameter) (xs : List Value) (few many : Layout) → few.blocks ≤ many.blocks → ArgsFit few ps xs → ArgsFit many ps xs
args_fit_more [] [] few many le fits = tt
args_fit_more (p ∷ ps) (x ∷ xs) few many le fits = (value_fits_more p.of_type x few many le fits.0, args_fit_more ps xs few many le fits.1)
args_fit_more [] (x ∷ xs) few many le fits = absurd fits
args_fit_more (p ∷ ps) [] few many le fits = absurd fits

byte_fits_more : (b : Byte) (few many : Layout) → few.blocks ≤ many.blocks → ByteFits few b → ByteFits many b
byte_fits_more (byte.Bits n m) few many le fits = fits
byte_fits_more (byte.Part p i) few many le fits = (pointer_fits_more p few many le fits.0, fits.1)

pub bytes_fit_more : (bs : List Byte) (few many : Layout) → few.blocks ≤ many.blocks → BytesFit few bs → BytesFit many bs
bytes_fit_more [] few many le fits = tt
bytes_fit_more (b ∷ bs) few many le fits = (byte_fits_more b few many le fits.0, bytes_fit_more bs few many le fits.1)

-- what holds of each given block
pub each_given : (P : MemoryBlock → Type 0) (layout : Layout) (number : ℕ) (bs : List MemoryBlock) → ((b : MemoryBlock) → (b.size ≤ layout.bytes) × ((length b.places ≡ layout.bytes) × BytesFit layout b.places) → P b) → BlocksFit layout number bs → All P bs
each_given P layout number [] f h k d lt = absurd (omega arith)
each_given P layout number (b ∷ bs) f h zero d lt = f b (h.0.small, (h.0.room, h.0.fit))
each_given P layout number (b ∷ bs) f h (suc k) d lt = each_given P layout (number + 1) bs f h.1 k d (omega arith)

-- blocks with these sizes and contents, from a number on
pub blocks_known : (r : Reading) (terms : List Term) (layout : Layout) (number : ℕ) (bs : List MemoryBlock) (sizes : List TermId) (places : List (List ByteTerms)) → ((k : ℕ) → 0 < k → k ≤ layout.blocks → r.name k ≡ Given k) → 0 < number → BlocksFit layout number bs
    → map (term_at r.v terms) sizes ≡ map (λ (b : MemoryBlock). b.size) bs → map (λ (bytes : List ByteTerms). map (given_byte_at r terms) bytes) places ≡ map (λ (b : MemoryBlock). b.places) bs
    → given_blocks_at r terms number sizes places ≡ bs
blocks_known r terms layout number [] [] [] named low h s p = refl
blocks_known r terms layout number (b ∷ bs) (z ∷ zs) (x ∷ xs) named low h s p =
    let size : b.size ≡ term_at r.v terms z = cc in
    let places : b.places ≡ map (given_byte_at r terms) x = cc in
    let s' : map (term_at r.v terms) zs ≡ map (λ (b : MemoryBlock). b.size) bs = cc in
    let p' : map (λ (bytes : List ByteTerms). map (given_byte_at r terms) bytes) xs ≡ map (λ (b : MemoryBlock). b.places) bs = cc in
    let last = named_within layout number (b ∷ bs) h in
    let name : b.name ≡ r.name number = h.0.named ∙ sym (named number low (omega (arith, last))) in
    let here : b ≡ given_block_at r terms number z x = block_is b (r.name number) (term_at r.v terms z) (map (given_byte_at r terms) x) name size h.0.aligned places in
    let behind = blocks_known r terms layout (number + 1) bs zs xs named (omega arith) h.1 s' p' in
    rw behind (ap (λ (c : MemoryBlock). c ∷ bs) (sym here))
blocks_known r terms layout number [] (z ∷ zs) places named low h s p = absurd (let x : ⊥ = cc in x)
blocks_known r terms layout number (b ∷ bs) [] places named low h s p = absurd (let x : ⊥ = cc in x)
blocks_known r terms layout number [] [] (x ∷ xs) named low h s p = absurd (let x : ⊥ = cc in x)
blocks_known r terms layout number (b ∷ bs) (z ∷ zs) [] named low h s p = absurd (let x : ⊥ = cc in x)

pub input_is : (p : Input) (args : List Value) (blocks : List MemoryBlock) → args ≡ p.args → blocks ≡ p.blocks → record { args = args; blocks = blocks } ≡ p
input_is p args blocks e f = λ i. record { args = e i; blocks = f i }

-- ---- the whole

pub known_is : (one two three : List Term) (s : Shape) (bs : List MemoryBlock) (args : List ArgTerms) (sizes : List TermId) (places : List (List ByteTerms)) → Keeps one two → Keeps two three → BlocksFit s.layout 1 bs
    → AreArgs one s.parameters args → length sizes ≡ length bs → Each (IsTerm two 6) sizes → length places ≡ length bs → ((bytes : ℕ) → All (λ (b : MemoryBlock). length b.places ≡ bytes) bs → Each (IsBlockTerms bytes three) places)
    → IsInputOf s three (record { args = args; sizes = sizes; places = places })
known_is one two three s bs args sizes places k k' fits are count sizes_are count' places_are =
    let given = blocks_count s.layout bs fits in
    record {
      args = args-later one three (keeps_trans one two three k k') s.parameters args are;
      size_count = count ∙ given;
      sizes = sizes-later two three k' sizes sizes_are;
      block_count = count' ∙ given;
      places = places_are s.layout.bytes (each_given (λ (b : MemoryBlock). length b.places ≡ s.layout.bytes) s.layout 1 bs (λ b h. h.1.0) fits);
    }

pub input_stands : (one two three : List Term) (v : ℕ → ℕ → ℕ) (s : Shape) (p : Point) (args : List ArgTerms) (sizes : List TermId) (places : List (List ByteTerms)) → Keeps one two → Keeps two three → IsOfShape s p → AreArgs one s.parameters args → Each (IsTerm two 6) sizes
    → args_at (reading s.layout.blocks v) one args ≡ p.input.args → map (term_at v two) sizes ≡ map (λ (b : MemoryBlock). b.size) p.input.blocks
    → (All (λ (b : MemoryBlock). BytesFit s.layout b.places) p.input.blocks → map (λ (bytes : List ByteTerms). map (given_byte_at (reading s.layout.blocks v) three) bytes) places ≡ map (λ (b : MemoryBlock). b.places) p.input.blocks)
    → input_at (reading s.layout.blocks v) three (record { args = args; sizes = sizes; places = places }) ≡ p.input
input_stands one two three v s p args sizes places k k' of are sizes_are args_is sizes_is places_is =
    let bs = p.input.blocks in
    let r = reading s.layout.blocks v in
    let same = map-same (IsTerm two 6) (term_at v three) (term_at v two) sizes (λ a t. term-later two three k' v a t.within) sizes_are in
    let bytes = each_given (λ (b : MemoryBlock). BytesFit s.layout b.places) s.layout 1 bs (λ b h. h.1.1) of.given in
    input_is p.input (args_at r three args) (given_blocks_at r three 1 sizes places) (args_at-later one three (keeps_trans one two three k k') r s.parameters args are ∙ args_is)
    (blocks_known r three s.layout 1 bs sizes places (given_named s.layout.blocks) (omega arith) of.given (same ∙ sizes_is) (places_is bytes))
