-- Numbers that are the code of a point give its input and its tape back.
use Rattle.pair_questions.proofs.Common.{ℕ, zero, suc, ◌≡◌, ◌+◌, ◌≤◌, true, false, nat_eq, if◌then◌else◌, List, [], ◌∷◌, ◌++◌, length, map, refl, ap, sym, ◌∙◌, arith, append_assoc, flat_map, map-append, IrType, Parameter, BlockName, Null, Given, Local, Ptr, Value, Byte, MemoryBlock, Layout, Input, Point, Shape, BlockFits, PointerFits, ValueFits, ArgsFit, ByteFits, BytesFit, BlocksFit, IsOfShape, name_digit, value_code, args_code, byte_code, places_code, blocks_code, code_of, blocks_count, sizes_of, TermId, Term, truth, term_at, ArgTerms, ByteTerms, InputTerms, TapeTerms, Each, block_name, reading, value_from, value_of, byte_of, IsArg, AreArgs, IsBlockTerms, arg_at, args_at, given_block_at, given_blocks_at, given_byte_at, input_at, words_at, defined-apart, map-length, given_named, IsInputOf, arg_numbers, byte_numbers, block_numbers, numbers_at, arg_ids, byte_ids, input_ids, integer, integers, integer_at, integers_at}
use Rattle.std.proofs.Math.Dec.{eqb-suc-zero}
use Rattle.ir_tree.specs.declared.tree.IrType.TheVariants as type
use Rattle.ir_tree.specs.Pointers.{IsInteger}
use Rattle.byte_block.specs.declared.value.Value.TheVariants as value
use Rattle.byte_block.specs.declared.value.Byte.TheVariants as byte
use Rattle.mem_terms.specs.declared.inputs.ArgTerms.TheVariants as arg

-- ---- lists in two parts

same_front : (a b c d : List ℕ) → length a ≡ length c → (a ++ b) ≡ (c ++ d) → (a ≡ c) × (b ≡ d)
same_front [] b [] d l e = (refl, e)
same_front [] b (y ∷ c) d l e = absurd (omega (arith, l))
same_front (x ∷ a) b [] d l e = absurd (omega (arith, l))
same_front (x ∷ a) b (y ∷ c) d l e =
    let h : x ≡ y = cc in
    let t : (a ++ b) ≡ (c ++ d) = cc in
    let r = same_front a b c d (omega (arith, l)) t in
    ((rw (h, r.0) refl), r.1)

regrouped : (a b c d e f : List ℕ) → ((a ++ b) ++ c) ≡ ((d ++ e) ++ f) → (a ++ (b ++ c)) ≡ (d ++ (e ++ f))
regrouped a b c d e f h = sym (append_assoc a b c) ∙ (h ∙ append_assoc d e f)

-- a thing is read, and what is after it is the same
abbrev Reads : {A : Type 0} → (x y : A) → (ms ns : List ℕ) → Type 0
Reads x y ms ns = (x ≡ y) × (ms ≡ ns)

-- ---- pointers

pub name_decoded : (layout : Layout) (b : BlockName) (n : ℕ) → BlockFits layout b → name_digit layout b ≡ n → b ≡ block_name layout.blocks n
name_decoded layout Null n fits e = rw (sym e) refl
name_decoded layout (Given k) n fits e = rw (sym e) (sym (given_named layout.blocks k (omega (arith, fits.0)) fits.1))
name_decoded layout (Local t p) n fits e = absurd fits

ptr_is : (p : Ptr) (b : BlockName) (n : ℕ) → p.block ≡ b → p.offset ≡ n → p ≡ record { block = b; offset = n }
ptr_is p b n e f = λ i. record { block = e i; offset = f i }

pointer_decoded : (layout : Layout) (p : Ptr) (block offset : ℕ) → PointerFits layout p → name_digit layout p.block ≡ block → p.offset ≡ offset → p ≡ record { block = block_name layout.blocks block; offset = offset }
pointer_decoded layout p block offset fits e f = ptr_is p (block_name layout.blocks block) offset (name_decoded layout p.block block fits.block e) f

-- ---- arguments

int_decoded : (layout : Layout) (t : IrType) (x : Value) (flag number : ℕ) (rest others : List ℕ) → IsInteger t → ValueFits layout t x → (value_code layout t x ++ rest) ≡ (flag ∷ number ∷ others)
    → Reads x (value_from (truth flag) number) rest others
int_decoded layout (type.Int w) (value.Num n) flag number rest others i h e =
    let f : flag ≡ 0 = cc in
    let m : number ≡ n = cc in
    let r : rest ≡ others = cc in
    ((rw (f, m) refl), r)
int_decoded layout (type.Int w) value.Poison flag number rest others i h e =
    let f : flag ≡ 1 = cc in
    let r : rest ≡ others = cc in
    ((rw f refl), r)
int_decoded layout (type.Int w) (value.Ptr p) flag number rest others i h e = absurd h
int_decoded layout type.Ptr x flag number rest others i h e = absurd i

ptr_decoded : (layout : Layout) (x : Value) (flag block offset : ℕ) (rest others : List ℕ) → ValueFits layout type.Ptr x → (value_code layout type.Ptr x ++ rest) ≡ (flag ∷ block ∷ offset ∷ others)
    → Reads x (value_of (truth flag) true (block_name layout.blocks block) offset) rest others
ptr_decoded layout (value.Ptr p) flag block offset rest others h e =
    let f : flag ≡ 0 = cc in
    let b : name_digit layout p.block ≡ block = cc in
    let o : p.offset ≡ offset = cc in
    let r : rest ≡ others = cc in
    ((rw f (ap value.Ptr (pointer_decoded layout p block offset h b o))), r)
ptr_decoded layout value.Poison flag block offset rest others h e =
    let f : flag ≡ 1 = cc in
    let r : rest ≡ others = cc in
    ((rw f refl), r)
ptr_decoded layout (value.Num n) flag block offset rest others h e = absurd h

pair_of : {A : Type 0} (x y : A) (xs ys : List A) → x ≡ y → xs ≡ ys → (x ∷ xs) ≡ (y ∷ ys)
pair_of x y xs ys e f = cc

module _ (v : ℕ → ℕ → ℕ) (terms : List Term) (layout : Layout) where
  arg_decoded : (t : IrType) (x : Value) (a : ArgTerms) (rest others : List ℕ) → ValueFits layout t x → IsArg terms t a → (value_code layout t x ++ rest) ≡ (arg_numbers v terms a ++ others) → Reads x (arg_at (reading layout.blocks v) terms a) rest others
  arg_decoded (type.Int w) x (arg.Int flag number) rest others h is e = int_decoded layout (type.Int w) x (term_at v terms flag) (term_at v terms number) rest others tt h e
  arg_decoded type.Ptr x (arg.Ptr flag block offset) rest others h is e = ptr_decoded layout x (term_at v terms flag) (term_at v terms block) (term_at v terms offset) rest others h e
  arg_decoded (type.Int w) x (arg.Ptr flag block offset) rest others h is e = absurd is
  arg_decoded type.Ptr x (arg.Int flag number) rest others h is e = absurd is

  args_decoded : (ps : List Parameter) (xs : List Value) (args : List ArgTerms) (rest others : List ℕ) → ArgsFit layout ps xs → AreArgs terms ps args → (args_code layout ps xs ++ rest) ≡ (flat_map (arg_numbers v terms) args ++ others)
      → Reads xs (args_at (reading layout.blocks v) terms args) rest others
  args_decoded [] [] [] rest others h are e = (refl, e)
  args_decoded (p ∷ ps) (x ∷ xs) (a ∷ more) rest others h are e =
      let e' = regrouped (value_code layout p.of_type x) (args_code layout ps xs) rest (arg_numbers v terms a) (flat_map (arg_numbers v terms) more) others e in
      let here = arg_decoded p.of_type x a (args_code layout ps xs ++ rest) (flat_map (arg_numbers v terms) more ++ others) h.0 are.0 e' in
      let behind = args_decoded ps xs more rest others h.1 are.1 here.1 in
      (pair_of x (arg_at (reading layout.blocks v) terms a) xs (args_at (reading layout.blocks v) terms more) here.0 behind.0, behind.1)
  args_decoded [] (x ∷ xs) args rest others h are e = absurd h
  args_decoded (p ∷ ps) [] args rest others h are e = absurd h
  args_decoded [] [] (a ∷ more) rest others h are e = absurd are
  args_decoded (p ∷ ps) (x ∷ xs) [] rest others h are e = absurd are

-- ---- the numbers of the integer arguments

int_number : (layout : Layout) (t : IrType) (x : Value) (flag number : ℕ) (rest others : List ℕ) → IsInteger t → ValueFits layout t x → (value_code layout t x ++ rest) ≡ (flag ∷ number ∷ others) → (integer t x ≡ number ∷ []) × (rest ≡ others)
int_number layout (type.Int w) (value.Num n) flag number rest others i h e =
    let m : n ≡ number = cc in
    let r : rest ≡ others = cc in
    ((rw m refl), r)
int_number layout (type.Int w) value.Poison flag number rest others i h e =
    let m : 0 ≡ number = cc in
    let r : rest ≡ others = cc in
    ((rw m refl), r)
int_number layout (type.Int w) (value.Ptr p) flag number rest others i h e = absurd h
int_number layout type.Ptr x flag number rest others i h e = absurd i

ptr_number : (layout : Layout) (x : Value) (flag block offset : ℕ) (rest others : List ℕ) → ValueFits layout type.Ptr x → (value_code layout type.Ptr x ++ rest) ≡ (flag ∷ block ∷ offset ∷ others) → (integer type.Ptr x ≡ []) × (rest ≡ others)
ptr_number layout (value.Ptr p) flag block offset rest others h e = let r : rest ≡ others = cc in (refl, r)
ptr_number layout value.Poison flag block offset rest others h e = let r : rest ≡ others = cc in (refl, r)
ptr_number layout (value.Num n) flag block offset rest others h e = absurd h

joined : (a b c d : List ℕ) → a ≡ b → c ≡ d → a ++ c ≡ b ++ d
joined a b c d e f = rw (e, f) refl

module _ (v : ℕ → ℕ → ℕ) (terms : List Term) (layout : Layout) where
  arg_number : (t : IrType) (x : Value) (a : ArgTerms) (rest others : List ℕ) → ValueFits layout t x → IsArg terms t a → (value_code layout t x ++ rest) ≡ (arg_numbers v terms a ++ others) → (integer t x ≡ integer_at v terms a) × (rest ≡ others)
  arg_number (type.Int w) x (arg.Int flag number) rest others h is e = int_number layout (type.Int w) x (term_at v terms flag) (term_at v terms number) rest others tt h e
  arg_number type.Ptr x (arg.Ptr flag block offset) rest others h is e = ptr_number layout x (term_at v terms flag) (term_at v terms block) (term_at v terms offset) rest others h e
  arg_number (type.Int w) x (arg.Ptr flag block offset) rest others h is e = absurd is
  arg_number type.Ptr x (arg.Int flag number) rest others h is e = absurd is

  args_integers : (ps : List Parameter) (xs : List Value) (args : List ArgTerms) (rest others : List ℕ) → ArgsFit layout ps xs → AreArgs terms ps args → (args_code layout ps xs ++ rest) ≡ (flat_map (arg_numbers v terms) args ++ others)
      → integers ps xs ≡ integers_at v terms args
  unfolding integers
  args_integers [] [] [] rest others h are e = refl
  args_integers (p ∷ ps) (x ∷ xs) (a ∷ more) rest others h are e =
      let e' = regrouped (value_code layout p.of_type x) (args_code layout ps xs) rest (arg_numbers v terms a) (flat_map (arg_numbers v terms) more) others e in
      let here = arg_number p.of_type x a (args_code layout ps xs ++ rest) (flat_map (arg_numbers v terms) more ++ others) h.0 are.0 e' in
      joined (integer p.of_type x) (integer_at v terms a) (integers ps xs) (integers_at v terms more) here.0 (args_integers ps xs more rest others h.1 are.1 here.1)
  args_integers [] (x ∷ xs) args rest others h are e = absurd h
  args_integers (p ∷ ps) [] args rest others h are e = absurd h
  args_integers [] [] (a ∷ more) rest others h are e = absurd are
  args_integers (p ∷ ps) (x ∷ xs) [] rest others h are e = absurd are

-- of a point whose code the terms denote
pub integers_decoded : (v : ℕ → ℕ → ℕ) (terms : List Term) (s : Shape) (input : InputTerms) (tape : TapeTerms) (p : Point) → IsInputOf s terms input → IsOfShape s p
    → code_of s.layout s.parameters p ≡ numbers_at v terms input tape → integers s.parameters p.input.args ≡ integers_at v terms input.args
integers_decoded v terms s input tape p h of_shape e =
    let sizes = map (term_at v terms) input.sizes in
    let places = flat_map (block_numbers v terms) input.places in
    args_integers v terms s.layout s.parameters p.input.args input.args (blocks_code s.layout p.input.blocks ++ p.tape) (sizes ++ (places ++ words_at v terms tape.words)) of_shape.args h.args e

-- ---- bytes

two : {A B C : Type 0} (f : A → B → C) {x x' : A} {y y' : B} → x ≡ x' → y ≡ y' → f x y ≡ f x' y'
two f e g = cc

not_part : (m : ℕ) → nat_eq (if nat_eq m 0 then 0 else 2) 1 ≡ false
not_part zero = refl
not_part (suc m) = rw (eqb-suc-zero m) refl

byte_decoded : (layout : Layout) (b : Byte) (kind mask number block offset part : ℕ) (rest others : List ℕ) → ByteFits layout b → (byte_code layout b ++ rest) ≡ (kind ∷ mask ∷ number ∷ block ∷ offset ∷ part ∷ others)
    → Reads b (byte_of (nat_eq kind 1) mask number (record { block = block_name layout.blocks block; offset = offset }) part) rest others
byte_decoded layout (byte.Bits n m) kind mask number block offset part rest others h e =
    let k : kind ≡ (if nat_eq m 0 then 0 else 2) = cc in
    let p : mask ≡ m = cc in
    let q : number ≡ n = cc in
    let r : rest ≡ others = cc in
    ((rw (k, not_part m, p, q) (ap (λ x. byte.Bits x m) (sym (defined-apart n m h.0 h.1 h.2)))), r)
byte_decoded layout (byte.Part p i) kind mask number block offset part rest others h e =
    let k : kind ≡ 1 = cc in
    let b : name_digit layout p.block ≡ block = cc in
    let o : p.offset ≡ offset = cc in
    let q : i ≡ part = cc in
    let r : rest ≡ others = cc in
    let whole : p ≡ record { block = block_name layout.blocks block; offset = offset } = pointer_decoded layout p block offset h.0 b o in
    ((rw k (two byte.Part whole q)), r)

module _ (v : ℕ → ℕ → ℕ) (terms : List Term) (layout : Layout) where
  place_decoded : (b : Byte) (place : ByteTerms) (rest others : List ℕ) → ByteFits layout b → (byte_code layout b ++ rest) ≡ (byte_numbers v terms place ++ others) → Reads b (given_byte_at (reading layout.blocks v) terms place) rest others
  unfolding given_byte_at
  place_decoded b place rest others h e =
      byte_decoded layout b (term_at v terms place.kind) (term_at v terms place.mask) (term_at v terms place.number) (term_at v terms place.block) (term_at v terms place.offset) (term_at v terms place.part) rest others h e

  bytes_decoded : (bs : List Byte) (places : List ByteTerms) (rest others : List ℕ) → length bs ≡ length places → BytesFit layout bs → (flat_map (byte_code layout) bs ++ rest) ≡ (block_numbers v terms places ++ others)
      → Reads bs (map (given_byte_at (reading layout.blocks v) terms) places) rest others
  bytes_decoded [] [] rest others long h e = (refl, e)
  bytes_decoded (b ∷ bs) (p ∷ ps) rest others long h e =
      let e' = regrouped (byte_code layout b) (flat_map (byte_code layout) bs) rest (byte_numbers v terms p) (block_numbers v terms ps) others e in
      let here = place_decoded b p (flat_map (byte_code layout) bs ++ rest) (block_numbers v terms ps ++ others) h.0 e' in
      let behind = bytes_decoded bs ps rest others (omega (arith, long)) h.1 here.1 in
      (pair_of b (given_byte_at (reading layout.blocks v) terms p) bs (map (given_byte_at (reading layout.blocks v) terms) ps) here.0 behind.0, behind.1)
  bytes_decoded [] (p ∷ ps) rest others long h e = absurd (omega (arith, long))
  bytes_decoded (b ∷ bs) [] rest others long h e = absurd (omega (arith, long))

-- ---- blocks

-- the last of them has the last number
pub named_within : (layout : Layout) (number : ℕ) (bs : List MemoryBlock) → BlocksFit layout number bs → number + length bs ≡ layout.blocks + 1
named_within layout number [] h = omega (arith, h)
named_within layout number (b ∷ bs) h = let more = named_within layout (number + 1) bs h.1 in omega (arith, more)

pub block_is : (b : MemoryBlock) (name : BlockName) (size : ℕ) (places : List Byte) → b.name ≡ name → b.size ≡ size → b.align ≡ 16 → b.places ≡ places → b ≡ record { name = name; size = size; align = 16; places = places }
block_is b name size places e f g h = λ i. record { name = e i; size = f i; align = g i; places = h i }

module _ (v : ℕ → ℕ → ℕ) (terms : List Term) (layout : Layout) where
  blocks_decoded : (number : ℕ) (bs : List MemoryBlock) (sizes : List TermId) (places : List (List ByteTerms)) (rest others : List ℕ) → BlocksFit layout number bs → 1 ≤ number → sizes_of bs ≡ map (term_at v terms) sizes → length bs ≡ length places
      → Each (IsBlockTerms layout.bytes terms) places → (flat_map (places_code layout) bs ++ rest) ≡ (flat_map (block_numbers v terms) places ++ others)
      → Reads bs (given_blocks_at (reading layout.blocks v) terms number sizes places) rest others
  blocks_decoded number [] [] [] rest others h low s long are e = (refl, e)
  blocks_decoded number (b ∷ bs) (z ∷ zs) (p ∷ ps) rest others h low s long are e =
      let e' = regrouped (places_code layout b) (flat_map (places_code layout) bs) rest (block_numbers v terms p) (flat_map (block_numbers v terms) ps) others e in
      let here = bytes_decoded v terms layout b.places p (flat_map (places_code layout) bs ++ rest) (flat_map (block_numbers v terms) ps ++ others) (h.0.room ∙ sym are.0.count) h.0.fit e' in
      let size : b.size ≡ term_at v terms z = cc in
      let sizes : sizes_of bs ≡ map (term_at v terms) zs = cc in
      let last = named_within layout number (b ∷ bs) h in
      let name : b.name ≡ block_name layout.blocks number = h.0.named ∙ sym (given_named layout.blocks number (omega (arith, low)) (omega (arith, last))) in
      let behind = blocks_decoded (number + 1) bs zs ps rest others h.1 (omega arith) sizes (omega (arith, long)) are.1 here.1 in (
        pair_of b (given_block_at (reading layout.blocks v) terms number z p) bs (given_blocks_at (reading layout.blocks v) terms (number + 1) zs ps)
            (block_is b (block_name layout.blocks number) (term_at v terms z) (map (given_byte_at (reading layout.blocks v) terms) p) name size h.0.aligned here.0) behind.0,
        behind.1,
      )
  blocks_decoded number [] (z ∷ zs) places rest others h low s long are e = absurd (let x : ⊥ = cc in x)
  blocks_decoded number (b ∷ bs) [] places rest others h low s long are e = absurd (let x : ⊥ = cc in x)
  blocks_decoded number [] [] (p ∷ ps) rest others h low s long are e = absurd (omega (arith, long))
  blocks_decoded number (b ∷ bs) (z ∷ zs) [] rest others h low s long are e = absurd (omega (arith, long))

-- ---- points

input_is : (p : Input) (args : List Value) (blocks : List MemoryBlock) → p.args ≡ args → p.blocks ≡ blocks → p ≡ record { args = args; blocks = blocks }
input_is p args blocks e f = λ i. record { args = e i; blocks = f i }

pub decoded : (v : ℕ → ℕ → ℕ) (terms : List Term) (s : Shape) (input : InputTerms) (tape : TapeTerms) (p : Point) → IsInputOf s terms input → IsOfShape s p
    → code_of s.layout s.parameters p ≡ numbers_at v terms input tape → (p.input ≡ input_at (reading s.layout.blocks v) terms input) × (p.tape ≡ words_at v terms tape.words)
decoded v terms s input tape p h of_shape e =
    let bs = p.input.blocks in
    let sizes = map (term_at v terms) input.sizes in
    let places = flat_map (block_numbers v terms) input.places in
    let words = words_at v terms tape.words in
    let count = blocks_count s.layout bs of_shape.given in
    let args = args_decoded v terms s.layout s.parameters p.input.args input.args (blocks_code s.layout bs ++ p.tape) (sizes ++ (places ++ words)) of_shape.args h.args e in
    let long : length (sizes_of bs) ≡ length sizes = map-length (λ (b : MemoryBlock). b.size) bs ∙ (count ∙ (sym h.size_count ∙ sym (map-length (term_at v terms) input.sizes))) in
    let parts = same_front (sizes_of bs) (flat_map (places_code s.layout) bs ++ p.tape) sizes (places ++ words) long (sym (append_assoc (sizes_of bs) (flat_map (places_code s.layout) bs) p.tape) ∙ args.1) in
    let blocks = blocks_decoded v terms s.layout 1 bs input.sizes input.places p.tape words of_shape.given (omega arith) parts.0 (count ∙ sym h.block_count) h.places parts.1 in
    (input_is p.input (args_at (reading s.layout.blocks v) terms input.args) (given_blocks_at (reading s.layout.blocks v) terms 1 input.sizes input.places) args.0 blocks.0, blocks.1)

-- ---- the numbers are those of the terms in order

args_numbered : (v : ℕ → ℕ → ℕ) (terms : List Term) (args : List ArgTerms) → map (term_at v terms) (flat_map arg_ids args) ≡ flat_map (arg_numbers v terms) args
args_numbered v terms [] = refl
args_numbered v terms (arg.Int flag number ∷ rest) = ap (λ ns. term_at v terms flag ∷ term_at v terms number ∷ ns) (args_numbered v terms rest)
args_numbered v terms (arg.Ptr flag block offset ∷ rest) = ap (λ ns. term_at v terms flag ∷ term_at v terms block ∷ term_at v terms offset ∷ ns) (args_numbered v terms rest)

block_numbered : (v : ℕ → ℕ → ℕ) (terms : List Term) (places : List ByteTerms) → map (term_at v terms) (flat_map byte_ids places) ≡ block_numbers v terms places
block_numbered v terms [] = refl
block_numbered v terms (b ∷ rest) =
    ap (λ ns. term_at v terms b.kind ∷ term_at v terms b.mask ∷ term_at v terms b.number ∷ term_at v terms b.block ∷ term_at v terms b.offset ∷ term_at v terms b.part ∷ ns) (block_numbered v terms rest)

blocks_numbered : (v : ℕ → ℕ → ℕ) (terms : List Term) (places : List (List ByteTerms)) → map (term_at v terms) (flat_map (flat_map byte_ids) places) ≡ flat_map (block_numbers v terms) places
blocks_numbered v terms [] = refl
blocks_numbered v terms (x ∷ rest) =
    map-append (term_at v terms) (flat_map byte_ids x) (flat_map (flat_map byte_ids) rest)
    ∙ joined (map (term_at v terms) (flat_map byte_ids x)) (block_numbers v terms x) (map (term_at v terms) (flat_map (flat_map byte_ids) rest)) (flat_map (block_numbers v terms) rest)
    (block_numbered v terms x) (blocks_numbered v terms rest)

pub numbers_in_order : (v : ℕ → ℕ → ℕ) (terms : List Term) (input : InputTerms) (tape : TapeTerms) → map (term_at v terms) (input_ids input ++ tape.words) ≡ numbers_at v terms input tape
numbers_in_order v terms input tape =
    let args = flat_map arg_ids input.args in
    let places = flat_map (flat_map byte_ids) input.places in
    let f : TermId → ℕ = term_at v terms in
    map-append f (args ++ (input.sizes ++ places)) tape.words
    ∙ (ap (λ ns. ns ++ map f tape.words) (map-append f args (input.sizes ++ places) ∙ joined (map f args) (flat_map (arg_numbers v terms) input.args) (map f (input.sizes ++ places)) (map f input.sizes ++ flat_map (block_numbers v terms) input.places)
    (args_numbered v terms input.args) (map-append f input.sizes places ∙ ap (λ ns. map f input.sizes ++ ns) (blocks_numbered v terms input.places)))
    ∙ (append_assoc (flat_map (arg_numbers v terms) input.args) (map f input.sizes ++ flat_map (block_numbers v terms) input.places) (map f tape.words)
    ∙ ap (λ ns. flat_map (arg_numbers v terms) input.args ++ ns) (append_assoc (map f input.sizes) (flat_map (block_numbers v terms) input.places) (map f tape.words))))
