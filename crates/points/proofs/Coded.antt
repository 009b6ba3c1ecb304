-- The code of a point is a code of its shape.
use Rattle.points.proofs.Common.{◌≡◌, inl, inr, ℕ, zero, suc, ◌+◌, ◌-◌, List, [], ◌∷◌, ◌++◌, length, drop, replicate, refl, arith, append_assoc, flat_map, IrType, Int, Parameter, Value, Num, Poison, Byte, Bits, Part, MemoryBlock, Layout, Point, Shape, ValueFits, ArgsFit, ByteFits, BytesFit, IsGivenBlock, BlocksFit, IsOfShape, name_digit, value_code, args_code, byte_code, places_code, blocks_code, code_of, IsCodeOfValue, IsCodeOfArgs, AreSizes, IsCodeOfByte, IsCodeOfPlaces, IsCodeOfBlocks, IsCode}
use Rattle.ir_tree.specs.declared.tree.IrType.TheVariants as type
use Rattle.byte_block.specs.declared.value.Value.TheVariants as value
use Rattle.points.proofs.ByteOrder.{name_at_most, poison_code}
use Rattle.points.proofs.Same.{sizes_of, blocks_count}

value_coded : (layout : Layout) (t : IrType) (v : Value) → ValueFits layout t v → IsCodeOfValue layout t (value_code layout t v)
value_coded layout (Int w) (Num n) fits = inl (record { number = n; is = refl; small = fits })
value_coded layout (Int w) Poison fits = inr refl
value_coded layout (Int w) (value.Ptr p) fits = absurd fits
value_coded layout type.Ptr (Num n) fits = absurd fits
value_coded layout type.Ptr Poison fits = inr refl
value_coded layout type.Ptr (value.Ptr p) fits = inl (record { block = name_digit layout p.block; offset = p.offset; is = refl; given = name_at_most layout p.block fits.block; small = fits.offset })

args_coded : (layout : Layout) (ps : List Parameter) (vs : List Value) → ArgsFit layout ps vs → IsCodeOfArgs layout ps (args_code layout ps vs)
args_coded layout [] [] fits = refl
args_coded layout (p ∷ ps) (v ∷ vs) fits = record { front = value_code layout p.of_type v; back = args_code layout ps vs; whole = refl; in_front = value_coded layout p.of_type v fits.0; in_back = args_coded layout ps vs fits.1 }
args_coded layout [] (v ∷ vs) fits = absurd fits
args_coded layout (p ∷ ps) [] fits = absurd fits

pub sizes_coded : (layout : Layout) (number : ℕ) (bs : List MemoryBlock) → BlocksFit layout number bs → AreSizes layout (length bs) (sizes_of bs)
sizes_coded layout number [] fits = tt
sizes_coded layout number (b ∷ bs) fits = (fits.0.small, sizes_coded layout (number + 1) bs fits.1)

byte_coded : (layout : Layout) (b : Byte) → ByteFits layout b → IsCodeOfByte layout (byte_code layout b)
byte_coded layout (Bits n zero) fits = inl (record { number = n; is = refl; small = fits.0 })
byte_coded layout (Part p i) fits = inr (inl (record { block = name_digit layout p.block; offset = p.offset; part = i; is = refl; given = name_at_most layout p.block fits.0.block; small = fits.0.offset; of_eight = fits.1 }))
byte_coded layout (Bits n (suc m)) fits = inr (inr (record {
  mask = suc m;
  number = n;
  is = poison_code layout n (suc m) (omega arith);
  some = omega arith;
  within = fits.1;
  small = fits.0;
  apart = fits.2;
}))

places_coded : (layout : Layout) (size k : ℕ) (bs : List Byte) → k + size ≡ length bs → drop size bs ≡ replicate k (Bits 0 0) → BytesFit layout bs → IsCodeOfPlaces layout (length bs) size (flat_map (byte_code layout) bs)
places_coded layout size k [] long past fit = refl
places_coded layout zero zero (b ∷ bs) long past fit = absurd (omega (arith, long))
places_coded layout zero (suc k) (b ∷ bs) long past fit =
    let here : b ≡ Bits 0 0 = cc in
    let rest : bs ≡ replicate k (Bits 0 0) = cc in
    record { front = byte_code layout b; back = flat_map (byte_code layout) bs; whole = refl; in_front = rw here refl; in_back = places_coded layout zero k bs (omega (arith, long)) rest fit.1 }
places_coded layout (suc size) k (b ∷ bs) long past fit =
    record { front = byte_code layout b; back = flat_map (byte_code layout) bs; whole = refl; in_front = byte_coded layout b fit.0; in_back = places_coded layout size k bs (omega (arith, long)) past fit.1 }

block_coded : (layout : Layout) (number : ℕ) (b : MemoryBlock) → IsGivenBlock layout number b → IsCodeOfPlaces layout layout.bytes b.size (places_code layout b)
block_coded layout number b given =
    let small = given.small in
    let room = given.room in
    let whole = places_coded layout b.size (layout.bytes - b.size) b.places (omega (arith, small, room)) given.past given.fit in
    rw room at whole

blocks_coded : (layout : Layout) (number : ℕ) (bs : List MemoryBlock) → BlocksFit layout number bs → IsCodeOfBlocks layout (sizes_of bs) (flat_map (places_code layout) bs)
blocks_coded layout number [] fits = refl
blocks_coded layout number (b ∷ bs) fits = record { front = places_code layout b; back = flat_map (places_code layout) bs; whole = refl; in_front = block_coded layout number b fits.0; in_back = blocks_coded layout (number + 1) bs fits.1 }

pub point_coded : (s : Shape) (p : Point) → IsOfShape s p → IsCode s (code_of s.layout s.parameters p)
point_coded s p fits =
    let sizes = sizes_coded s.layout 1 p.input.blocks fits.given in
    record {
      front = args_code s.layout s.parameters p.input.args;
      back = blocks_code s.layout p.input.blocks ++ p.tape;
      whole = refl;
      in_front = args_coded s.layout s.parameters p.input.args fits.args;
      in_back = record {
        front = sizes_of p.input.blocks;
        back = flat_map (places_code s.layout) p.input.blocks ++ p.tape;
        whole = append_assoc (sizes_of p.input.blocks) (flat_map (places_code s.layout) p.input.blocks) p.tape;
        in_front = rw (blocks_count s.layout p.input.blocks fits.given) at sizes;
        in_back = record { front = flat_map (places_code s.layout) p.input.blocks; back = p.tape; whole = refl; in_front = blocks_coded s.layout 1 p.input.blocks fits.given; in_back = fits.tape };
      };
    }
