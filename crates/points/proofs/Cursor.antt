-- A loop that reads a code from the start, and the parts of a code.
use Rattle.points.proofs.Common.{◌≡◌, inl, inr, ℕ, zero, suc, ◌+◌, ◌*◌, ◌<◌, ◌≤◌, List, [], ◌∷◌, ◌++◌, length, take, drop, refl, sym, ap, ◌∙◌, arith, append_assoc, append-nil, length-append, sum_by-cons, Parameter, Byte, Layout, Shape, WordsFit, IsCodeOfArgs, AreSizes, IsCodeOfByte, IsCodeOfPlaces, IsCodeOfBlocks, IsCode, value_length, args_length, byte_from, places_from, HasByte, HaveBytes, HaveBlocks}
use Rattle.points.proofs.Words.{WordsFit-length}
use Rattle.points.proofs.Decoded.{read_value, read_byte, read_places, drop_front}

-- ---- bytes

-- how many bytes are left to read, and that with them the contents are whole
pub record AreToRead (room i : ℕ) (places : List Byte) (rest digits : List ℕ) : Type 0 where
  pub left : ℕ
  pub count : left + i ≡ room
  pub enough : HaveBytes left rest
  pub read : places ++ places_from left rest ≡ places_from room digits

pub byte_here : (room i : ℕ) (places : List Byte) (rest digits : List ℕ) → AreToRead room i places rest digits → i < room → HasByte rest
byte_here room i places rest digits h below = here h.left (let count = h.count in omega (arith, count, below)) h.enough
  where
    here : (left : ℕ) → 0 < left → HaveBytes left rest → HasByte rest
    here zero some enough = absurd (omega (arith, some))
    here (suc left) some enough = enough.0

pub read_more : (room i : ℕ) (places more : List Byte) (rest behind digits : List ℕ) (b : Byte) → AreToRead room i places rest digits → i < room → more ≡ places ++ b ∷ [] → b ≡ byte_from rest → behind ≡ drop 6 rest → AreToRead room (i + 1) more behind digits
read_more room i places more rest behind digits b h below push is skip = next h.left h.count h.enough h.read
  where
    next : (left : ℕ) → left + i ≡ room → HaveBytes left rest → places ++ places_from left rest ≡ places_from room digits → AreToRead room (i + 1) more behind digits
    next zero count enough read = absurd (omega (arith, count, below))
    next (suc left) count enough read = record {
      left = left;
      count = omega (arith, count);
      enough = rw skip enough.1;
      read = rw (push, is, skip, append_assoc) read;
    }

pub all_read : (room i : ℕ) (places : List Byte) (rest digits : List ℕ) → AreToRead room i places rest digits → room ≤ i → places ≡ places_from room digits
all_read room i places rest digits h past = end h.left (let count = h.count in omega (arith, count, past)) h.read
  where
    end : (left : ℕ) → left ≡ 0 → places ++ places_from left rest ≡ places_from room digits → places ≡ places_from room digits
    end zero none read = sym (append-nil places) ∙ read
    end (suc left) none read = absurd (omega (arith, none))

-- ---- what a code has to read

small_bytes : (layout : Layout) (front back : List ℕ) → IsCodeOfByte layout front → HasByte (front ++ back)
small_bytes layout front back h = elim h as (λ _. HasByte (front ++ back)) [
  | inl n ↦ rw n.is (record { six = omega arith; mask = omega arith; number = n.small; part = omega arith })
  | inr other ↦ elim other as (λ _. HasByte (front ++ back)) [
    | inl p ↦ (let part = p.of_eight in rw p.is (record { six = omega arith; mask = omega arith; number = omega arith; part = omega (arith, part) }))
    | inr b ↦ rw b.is (record { six = omega arith; mask = b.within; number = b.small; part = omega arith })
  ]
]

have_bytes : (layout : Layout) (room size : ℕ) (front back : List ℕ) → IsCodeOfPlaces layout room size front → HaveBytes room (front ++ back)
have_bytes layout zero size front back h = tt
have_bytes layout (suc room) zero front back h =
    let rest = have_bytes layout room zero h.back back h.in_back in
    rw (h.whole, h.in_front) (record { six = omega arith; mask = omega arith; number = omega arith; part = omega arith }, rest)
have_bytes layout (suc room) (suc size) front back h =
    let first = small_bytes layout h.front (h.back ++ back) h.in_front in
    let reads = read_byte layout h.front (h.back ++ back) h.in_front in
    let rest = have_bytes layout room size h.back back h.in_back in
    rw (h.whole) (rw (append_assoc h.front h.back back) (first, rw reads.rest rest))

pub have_blocks : (layout : Layout) (n : ℕ) (sizes ds : List ℕ) → AreSizes layout n sizes → IsCodeOfBlocks layout sizes ds → HaveBlocks layout sizes ds
have_blocks layout n [] ds small h = tt
have_blocks layout (suc n) (size ∷ sizes) ds small h =
    let reads = read_places layout layout.bytes size h.front h.back small.0 h.in_front in
    let long = reads.length in
    let rest = have_blocks layout n sizes h.back small.1 h.in_back in
    rw (h.whole) (record { enough = rw (length-append) (omega (arith, long)); are_bytes = have_bytes layout layout.bytes size h.front h.back h.in_front }, rw (drop_front h.front h.back (layout.bytes * 6) long) rest)
have_blocks layout zero (size ∷ sizes) ds small h = absurd small

-- ---- the parts of a code

pub args_count : (layout : Layout) (ps : List Parameter) (ds : List ℕ) → IsCodeOfArgs layout ps ds → length ds ≡ args_length ps
args_count layout [] ds h = rw h refl
args_count layout (p ∷ ps) ds h =
    let first = read_value layout p.of_type h.front h.back h.in_front in
    let long = first.length in
    let rest = args_count layout ps h.back h.in_back in
    let sum = sum_by-cons (λ (q : Parameter). value_length q.of_type) p ps in
    rw (h.whole, length-append) (omega (arith, long, rest, sum))

sizes_count : (layout : Layout) (n : ℕ) (sizes : List ℕ) → AreSizes layout n sizes → length sizes ≡ n
sizes_count layout zero [] h = refl
sizes_count layout (suc n) (size ∷ sizes) h = ap suc (sizes_count layout n sizes h.1)
sizes_count layout zero (size ∷ sizes) h = absurd h
sizes_count layout (suc n) [] h = absurd h

-- how long the parts are
pub record IsLong (s : Shape) (code : List ℕ) : Type 0 where
  pub places : ℕ
  pub count : args_length s.parameters + (s.layout.blocks + (places + s.words)) ≡ length code

pub code_count : (s : Shape) (code : List ℕ) → IsCode s code → IsLong s code
code_count s code h =
    let a = args_count s.layout s.parameters h.front h.in_front in
    let b = sizes_count s.layout s.layout.blocks h.in_back.front h.in_back.in_front in
    let d = WordsFit-length s.word_width.bits s.words h.in_back.in_back.back h.in_back.in_back.in_back in
    record {
      places = length h.in_back.in_back.front;
      count = sym (ap length (h.whole ∙ ap (λ ds. h.front ++ ds) (h.in_back.whole ∙ ap (λ ds. h.in_back.front ++ ds) h.in_back.in_back.whole))
          ∙ rw (length-append, length-append, length-append, a, b, d) refl);
    }

take_front : (front back : List ℕ) (n : ℕ) → length front ≡ n → take n (front ++ back) ≡ front
take_front [] back zero long = refl
take_front [] back (suc n) long = absurd (omega (arith, long))
take_front (d ∷ front) back zero long = absurd (omega (arith, long))
take_front (d ∷ front) back (suc n) long = ap (λ ds. d ∷ ds) (take_front front back n (omega (arith, long)))

record IsCut (front back ds es : List ℕ) : Type 0 where
  pub in_front : ds ≡ front
  pub behind : es ≡ back

cut : (n : ℕ) (whole front back ds es : List ℕ) → whole ≡ front ++ back → length front ≡ n → ds ≡ take n whole → es ≡ drop n whole → IsCut front back ds es
cut n whole front back ds es e long first rest = record {
  in_front = first ∙ ap (take n) e ∙ take_front front back n long;
  behind = rest ∙ ap (drop n) e ∙ drop_front front back n long;
}

-- the parts that are cut out are the parts of the code
pub record AreParts (s : Shape) (code args sizes places tape : List ℕ) : Type 0 where
  pub whole : code ≡ args ++ (sizes ++ (places ++ tape))
  pub are_args : IsCodeOfArgs s.layout s.parameters args
  pub are_sizes : AreSizes s.layout s.layout.blocks sizes
  pub are_places : IsCodeOfBlocks s.layout sizes places
  pub are_words : WordsFit s.word_width.bits s.words tape

pub parts_are : (s : Shape) (code front tape args rest sizes places : List ℕ) (n m : ℕ) → IsCode s code → n + s.words ≡ length code → front ≡ take n code → tape ≡ drop n code → m ≡ args_length s.parameters → args ≡ take m front → rest ≡ drop m front → sizes ≡ take s.layout.blocks rest → places ≡ drop s.layout.blocks rest → AreParts s code args sizes places tape
parts_are s code front tape args rest sizes places n m h long f t count a r z p =
    let hs = h.front in let zs = h.in_back.front in let ps = h.in_back.in_back.front in let ts = h.in_back.in_back.back in
    let whole : code ≡ hs ++ (zs ++ (ps ++ ts)) = h.whole ∙ ap (λ ds. hs ++ ds) (h.in_back.whole ∙ ap (λ ds. zs ++ ds) h.in_back.in_back.whole) in
    let again : code ≡ (hs ++ (zs ++ ps)) ++ ts = whole ∙ ap (λ ds. hs ++ ds) (sym (append_assoc zs ps ts)) ∙ sym (append_assoc hs (zs ++ ps) ts) in
    let la = args_count s.layout s.parameters hs h.in_front in
    let lz = sizes_count s.layout s.layout.blocks zs h.in_back.in_front in
    let lt = WordsFit-length s.word_width.bits s.words ts h.in_back.in_back.in_back in
    let lw : length code ≡ length (hs ++ (zs ++ ps)) + length ts = ap length again ∙ length-append (hs ++ (zs ++ ps)) ts in
    let first = cut n code (hs ++ (zs ++ ps)) ts front tape again (omega (arith, long, lt, lw)) f t in
    let second = cut m front hs (zs ++ ps) args rest first.in_front (la ∙ sym count) a r in
    let third = cut s.layout.blocks rest zs ps sizes places second.behind lz z p in
    rw (second.in_front, third.in_front, third.behind, first.behind) (record { whole = whole; are_args = h.in_front; are_sizes = h.in_back.in_front; are_places = h.in_back.in_back.in_front; are_words = h.in_back.in_back.in_back })
