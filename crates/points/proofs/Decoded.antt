-- Each code of a shape is the code of exactly one point.
use Rattle.points.proofs.Common.{◌≡◌, inl, inr, ℕ, zero, suc, ◌+◌, ◌-◌, ◌*◌, ◌≤◌, List, [], ◌∷◌, ◌++◌, length, drop, replicate, refl, sym, ap, ◌∙◌, arith, append_assoc, length-append, and_zero_r, flat_map, IrType, Int, Parameter, Bits, Layout, Point, Shape, BlockFits, ValueFits, ArgsFit, ByteFits, BytesFit, BlocksFit, WordsFit, IsOfShape, name_digit, value_code, args_code, byte_code, places_code, code_of, IsCodeOfValue, IsCodeOfArgs, AreSizes, IsCodeOfByte, IsCodeOfPlaces, IsCodeOfBlocks, IsCode, value_length, name_from, value_from, args_from, byte_from, places_from, blocks_from, IsPointWith, CodesTellPoints}
use Rattle.ir_tree.specs.declared.tree.IrType.TheVariants as type
use Rattle.points.proofs.Same.{sizes_of, same_coded}
use Rattle.points.proofs.ByteOrder.{zero_fits, poison_code}
use Rattle.points.proofs.Coded.{point_coded}

both : {a b c d : List ℕ} → a ≡ b → c ≡ d → a ++ c ≡ b ++ d
both e f = cc

record ReadsName (layout : Layout) (block : ℕ) : Type 0 where
  pub fits : BlockFits layout (name_from block)
  pub code : name_digit layout (name_from block) ≡ block

read_name : (layout : Layout) (block : ℕ) → block ≤ layout.blocks → ReadsName layout block
read_name layout zero given = record { fits = tt; code = refl }
read_name layout (suc n) given = record { fits = (omega arith, given); code = refl }

-- ---- arguments

-- the value that is read where its numbers come before others
pub record ReadsValue (layout : Layout) (t : IrType) (front back : List ℕ) : Type 0 where
  pub fits : ValueFits layout t (value_from t (front ++ back))
  pub code : value_code layout t (value_from t (front ++ back)) ≡ front
  pub length : length front ≡ value_length t
  pub rest : drop (value_length t) (front ++ back) ≡ back

pub read_value : (layout : Layout) (t : IrType) (front back : List ℕ) → IsCodeOfValue layout t front → ReadsValue layout t front back
read_value layout (Int w) front back h = elim h as (λ _. ReadsValue layout (Int w) front back) [
  | inl n ↦ rw n.is (record { fits = n.small; code = refl; length = refl; rest = refl })
  | inr e ↦ rw e (record { fits = tt; code = refl; length = refl; rest = refl })
]
read_value layout type.Ptr front back h = elim h as (λ _. ReadsValue layout type.Ptr front back) [
  | inl p ↦
      let name = read_name layout p.block p.given in
      rw p.is (record { fits = record { block = name.fits; offset = p.small }; code = ap (λ b. 0 ∷ b ∷ p.offset ∷ []) name.code; length = refl; rest = refl })
  | inr e ↦ rw e (record { fits = tt; code = refl; length = refl; rest = refl })
]

pub record ReadsArgs (layout : Layout) (ps : List Parameter) (ds : List ℕ) : Type 0 where
  pub fits : ArgsFit layout ps (args_from ps ds)
  pub code : args_code layout ps (args_from ps ds) ≡ ds

pub read_args : (layout : Layout) (ps : List Parameter) (ds : List ℕ) → IsCodeOfArgs layout ps ds → ReadsArgs layout ps ds
read_args layout [] ds h = rw h (record { fits = tt; code = refl })
read_args layout (p ∷ ps) ds h =
    let first = read_value layout p.of_type h.front h.back h.in_front in
    let rest = read_args layout ps h.back h.in_back in
    rw (h.whole) (record {
      fits = (first.fits, rw first.rest rest.fits);
      code = both first.code (rw first.rest rest.code);
    })

-- ---- bytes

pub record ReadsByte (layout : Layout) (front back : List ℕ) : Type 0 where
  pub fits : ByteFits layout (byte_from (front ++ back))
  pub code : byte_code layout (byte_from (front ++ back)) ≡ front
  pub length : length front ≡ 6
  pub rest : drop 6 (front ++ back) ≡ back

pub read_byte : (layout : Layout) (front back : List ℕ) → IsCodeOfByte layout front → ReadsByte layout front back
read_byte layout front back h = elim h as (λ _. ReadsByte layout front back) [
  | inl n ↦ rw n.is (record { fits = (n.small, omega arith, and_zero_r n.number); code = refl; length = refl; rest = refl })
  | inr other ↦ elim other as (λ _. ReadsByte layout front back) [
    | inl p ↦
        let name = read_name layout p.block p.given in
        rw p.is (record { fits = (record { block = name.fits; offset = p.small }, p.of_eight); code = ap (λ b. 1 ∷ 0 ∷ 0 ∷ b ∷ p.offset ∷ p.part ∷ []) name.code; length = refl; rest = refl })
    | inr b ↦ rw b.is (record { fits = (b.small, b.within, b.apart); code = poison_code layout b.number b.mask b.some; length = refl; rest = refl })
  ]
]

-- the contents that are read
pub record ReadsPlaces (layout : Layout) (room size : ℕ) (front back : List ℕ) : Type 0 where
  pub count : length (places_from room (front ++ back)) ≡ room
  pub fit : BytesFit layout (places_from room (front ++ back))
  pub code : flat_map (byte_code layout) (places_from room (front ++ back)) ≡ front
  pub past : drop size (places_from room (front ++ back)) ≡ replicate (room - size) (Bits 0 0)
  pub length : length front ≡ room * 6

record AreUnused (room : ℕ) (front back : List ℕ) : Type 0 where
  pub places : places_from room (front ++ back) ≡ replicate room (Bits 0 0)

read_unused : (layout : Layout) (room : ℕ) (front back : List ℕ) → IsCodeOfPlaces layout room zero front → AreUnused room front back
read_unused layout zero front back h = record { places = refl }
read_unused layout (suc room) front back h =
    let rest = read_unused layout room h.back back h.in_back in
    rw (h.whole, h.in_front) (record { places = ap (λ bs. Bits 0 0 ∷ bs) rest.places })

pub minus_zero : (n : ℕ) → n - 0 ≡ n
minus_zero n = omega arith

pub read_places : (layout : Layout) (room size : ℕ) (front back : List ℕ) → size ≤ room → IsCodeOfPlaces layout room size front → ReadsPlaces layout room size front back
read_places layout zero zero front back small h = rw h (record { count = refl; fit = tt; code = refl; past = refl; length = refl })
read_places layout zero (suc size) front back small h = absurd (omega (arith, small))
read_places layout (suc room) zero front back small h =
    let rest = read_places layout room zero h.back back (omega arith) h.in_back in
    let unused = read_unused layout room h.back back h.in_back in
    rw (h.whole, h.in_front) (record {
      count = ap suc rest.count;
      fit = (zero_fits layout, rest.fit);
      code = ap (λ ds. 0 ∷ 0 ∷ 0 ∷ 0 ∷ 0 ∷ 0 ∷ ds) rest.code;
      past = rw minus_zero (ap (λ bs. Bits 0 0 ∷ bs) unused.places);
      length = (let long = rest.length in omega (arith, long));
    })
read_places layout (suc room) (suc size) front back small h =
    let first = read_byte layout h.front (h.back ++ back) h.in_front in
    let rest = read_places layout room size h.back back (omega (arith, small)) h.in_back in
    let again = append_assoc h.front h.back back in
    rw (h.whole) (record {
      count = rw again (ap suc (rw first.rest rest.count));
      fit = rw again (first.fits, rw first.rest rest.fit);
      code = rw again (both first.code (rw first.rest rest.code));
      past = rw again (rw first.rest (rest.past ∙ ap (λ n. replicate n (Bits 0 0)) (omega arith)));
      length = rw (length-append) (let long = rest.length in let six = first.length in omega (arith, long, six));
    })

-- ---- blocks

pub drop_front : (front back : List ℕ) (n : ℕ) → length front ≡ n → drop n (front ++ back) ≡ back
drop_front [] back zero long = refl
drop_front [] back (suc n) long = absurd (omega (arith, long))
drop_front (d ∷ front) back zero long = absurd (omega (arith, long))
drop_front (d ∷ front) back (suc n) long = drop_front front back n (omega (arith, long))

pub record ReadsBlocks (layout : Layout) (number : ℕ) (sizes ds : List ℕ) : Type 0 where
  pub fits : BlocksFit layout number (blocks_from layout number sizes ds)
  pub same_sizes : sizes_of (blocks_from layout number sizes ds) ≡ sizes
  pub places : flat_map (places_code layout) (blocks_from layout number sizes ds) ≡ ds

pub read_blocks : (layout : Layout) (number n : ℕ) (sizes ds : List ℕ) → number + n ≡ layout.blocks + 1 → AreSizes layout n sizes → IsCodeOfBlocks layout sizes ds → ReadsBlocks layout number sizes ds
read_blocks layout number zero [] ds count small h = rw h (record { fits = omega (arith, count); same_sizes = refl; places = refl })
read_blocks layout number (suc n) (size ∷ sizes) ds count small h =
    let here = read_places layout layout.bytes size h.front h.back small.0 h.in_front in
    let rest = read_blocks layout (number + 1) n sizes h.back (omega (arith, count)) small.1 h.in_back in
    let behind = drop_front h.front h.back (layout.bytes * 6) here.length in
    rw (h.whole) (record {
      fits = (record { named = refl; aligned = refl; small = small.0; room = here.count; past = here.past; fit = here.fit }, rw behind rest.fits);
      same_sizes = ap (λ ns. size ∷ ns) (rw behind rest.same_sizes);
      places = both here.code (rw behind rest.places);
    })
read_blocks layout number zero (size ∷ sizes) ds count small h = absurd small
read_blocks layout number (suc n) [] ds count small h = absurd small

-- ---- the whole

-- the point that is read from the parts of a code
abbrev pub point_from : Shape → List ℕ → List ℕ → List ℕ → List ℕ → Point
point_from s args sizes places tape = record { input = record { args = args_from s.parameters args; blocks = blocks_from s.layout 1 sizes places }; tape = tape }

pub record ReadsPoint (s : Shape) (args sizes places tape : List ℕ) : Type 0 where
  pub fits : IsOfShape s (point_from s args sizes places tape)
  pub code : code_of s.layout s.parameters (point_from s args sizes places tape) ≡ args ++ (sizes ++ (places ++ tape))

pub read_point : (s : Shape) (args sizes places tape : List ℕ) → IsCodeOfArgs s.layout s.parameters args → AreSizes s.layout s.layout.blocks sizes → IsCodeOfBlocks s.layout sizes places → WordsFit s.word_width.bits s.words tape → ReadsPoint s args sizes places tape
read_point s args sizes places tape h h' h'' words =
    let a = read_args s.layout s.parameters args h in
    let b = read_blocks s.layout 1 s.layout.blocks sizes places (omega arith) h' h'' in
    record {
      fits = record { args = a.fits; given = b.fits; tape = words };
      code = both a.code (ap (λ ds. ds ++ tape) (both b.same_sizes b.places) ∙ append_assoc sizes places tape);
    }

point_with : (s : Shape) (ds : List ℕ) → IsCode s ds → (p : Point) × IsPointWith s ds p
point_with s ds h =
    let args = h.front in
    let sizes = h.in_back.front in
    let places = h.in_back.in_back.front in
    let tape = h.in_back.in_back.back in
    let reads = read_point s args sizes places tape h.in_front h.in_back.in_front h.in_back.in_back.in_front h.in_back.in_back.in_back in
    let whole : ds ≡ args ++ (sizes ++ (places ++ tape)) = h.whole ∙ ap (λ rest. args ++ rest) (h.in_back.whole ∙ ap (λ rest. sizes ++ rest) h.in_back.in_back.whole) in
    let code : code_of s.layout s.parameters (point_from s args sizes places tape) ≡ ds = reads.code ∙ sym whole in (
      point_from s args sizes places tape,
      record {
        of_shape = reads.fits;
        code = code;
        only = λ q fits e. same_coded s.layout s.parameters q (point_from s args sizes places tape) fits.args reads.fits.args fits.given reads.fits.given (e ∙ sym code);
      },
    )

pub codes_tell_points : CodesTellPoints
codes_tell_points = λ s. record { codes = point_coded s; points = point_with s }
