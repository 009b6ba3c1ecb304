-- Codes of three small shapes, for the tests.
use Rattle.std.proofs.Common.{◌≡◌, inl, inr, ℕ, ◌^◌, ◌<◌, ◌≤◌, false, [], ◌∷◌, refl, sym, subst, arith}
use Rattle.std.specs.Prelude.{bit_and}
use Rattle.tv_num.specs.declared.Width.{Width}
use Rattle.ir_tree.specs.declared.tree.IrType.TheVariants.{Int, Ptr}
use Rattle.ir_tree.specs.declared.tree.Parameter.{Parameter}
use Rattle.points.specs.declared.point.Layout.{Layout}
use Rattle.points.specs.declared.point.Shape.{Shape}
use Rattle.points.specs.Codes.{IsCodeOfValue, IsCodeOfPlaces, IsCode}

abbrev pub bit : Width → Parameter
bit w = record { of_type = Int w; no_undef = false; non_null = false; name = 0 }

pub one_of_each : (s : Shape) (w : Width) (flag n size kind mask m block offset part word : ℕ) → w.bits ≡ 1 → s.parameters ≡ bit w ∷ [] → s.layout.blocks ≡ 1 → s.layout.bytes ≡ 1 → s.words ≡ 1 → s.word_width.bits ≡ 1 → IsCodeOfValue s.layout (Int w) (flag ∷ n ∷ []) → size ≤ 1 → IsCodeOfPlaces s.layout 1 size (kind ∷ mask ∷ m ∷ block ∷ offset ∷ part ∷ []) → word < 2 → IsCode s (flag ∷ n ∷ size ∷ kind ∷ mask ∷ m ∷ block ∷ offset ∷ part ∷ word ∷ [])
one_of_each s w flag n size kind mask m block offset part word bits parameters blocks bytes words width value small places low =
    let fits : size ≤ s.layout.bytes = omega (arith, small, bytes) in
    let contents : IsCodeOfPlaces s.layout s.layout.bytes size (kind ∷ mask ∷ m ∷ block ∷ offset ∷ part ∷ []) = subst (λ room. IsCodeOfPlaces s.layout room size (kind ∷ mask ∷ m ∷ block ∷ offset ∷ part ∷ [])) (sym bytes) places in
    record {
      front = flag ∷ n ∷ [];
      back = size ∷ kind ∷ mask ∷ m ∷ block ∷ offset ∷ part ∷ word ∷ [];
      whole = refl;
      in_front = rw parameters (record { front = flag ∷ n ∷ []; back = []; whole = refl; in_front = value; in_back = refl });
      in_back = record {
        front = size ∷ [];
        back = kind ∷ mask ∷ m ∷ block ∷ offset ∷ part ∷ word ∷ [];
        whole = refl;
        in_front = rw blocks (fits, tt);
        in_back = record {
          front = kind ∷ mask ∷ m ∷ block ∷ offset ∷ part ∷ [];
          back = word ∷ [];
          whole = refl;
          in_front = record { front = kind ∷ mask ∷ m ∷ block ∷ offset ∷ part ∷ []; back = []; whole = refl; in_front = contents; in_back = refl };
          in_back = rw (words, width) (low, tt);
        };
      };
    }

pub zero_bit : (layout : Layout) (w : Width) → w.bits ≡ 1 → IsCodeOfValue layout (Int w) (0 ∷ 0 ∷ [])
zero_bit layout w bits = inl (record { number = 0; is = refl; small = rw bits (omega arith) })

pub one_bit : (layout : Layout) (w : Width) → w.bits ≡ 1 → IsCodeOfValue layout (Int w) (0 ∷ 1 ∷ [])
one_bit layout w bits = inl (record { number = 1; is = refl; small = rw bits (omega arith) })

pub number_place : (layout : Layout) (m : ℕ) → m < 2 ^ 8 → IsCodeOfPlaces layout 1 1 (0 ∷ 0 ∷ m ∷ 0 ∷ 0 ∷ 0 ∷ [])
number_place layout m small = record { front = 0 ∷ 0 ∷ m ∷ 0 ∷ 0 ∷ 0 ∷ []; back = []; whole = refl; in_front = inl (record { number = m; is = refl; small = small }); in_back = refl }

pub part_place : (layout : Layout) (block offset part : ℕ) → layout.blocks ≡ 1 → block ≤ 1 → offset < 2 ^ 64 → part ≤ 7 → IsCodeOfPlaces layout 1 1 (1 ∷ 0 ∷ 0 ∷ block ∷ offset ∷ part ∷ [])
part_place layout block offset part blocks given small of_eight = record { front = 1 ∷ 0 ∷ 0 ∷ block ∷ offset ∷ part ∷ []; back = []; whole = refl; in_front = inr (inl (record { block = block; offset = offset; part = part; is = refl; given = rw blocks given; small = small; of_eight = of_eight })); in_back = refl }

pub poison_place : (layout : Layout) (mask m : ℕ) → 0 < mask → mask < 2 ^ 8 → m < 2 ^ 8 → bit_and m mask ≡ 0 → IsCodeOfPlaces layout 1 1 (2 ∷ mask ∷ m ∷ 0 ∷ 0 ∷ 0 ∷ [])
poison_place layout mask m some within small apart = record {
  front = 2 ∷ mask ∷ m ∷ 0 ∷ 0 ∷ 0 ∷ [];
  back = [];
  whole = refl;
  in_front = inr (inr (record { mask = mask; number = m; is = refl; some = some; within = within; small = small; apart = apart }));
  in_back = refl;
}

pub no_place : (layout : Layout) → IsCodeOfPlaces layout 1 0 (0 ∷ 0 ∷ 0 ∷ 0 ∷ 0 ∷ 0 ∷ [])
no_place layout = record { front = 0 ∷ 0 ∷ 0 ∷ 0 ∷ 0 ∷ 0 ∷ []; back = []; whole = refl; in_front = refl; in_back = refl }

pub without_bytes : (s : Shape) (w : Width) → w.bits ≡ 1 → s.parameters ≡ bit w ∷ bit w ∷ [] → s.layout.blocks ≡ 1 → s.layout.bytes ≡ 0 → s.words ≡ 2 → s.word_width.bits ≡ 1 → IsCode s (0 ∷ 0 ∷ 0 ∷ 0 ∷ 0 ∷ 0 ∷ 0 ∷ [])
without_bytes s w bits parameters blocks bytes words width = record {
  front = 0 ∷ 0 ∷ 0 ∷ 0 ∷ [];
  back = 0 ∷ 0 ∷ 0 ∷ [];
  whole = refl;
  in_front = rw parameters (record { front = 0 ∷ 0 ∷ []; back = 0 ∷ 0 ∷ []; whole = refl; in_front = zero_bit s.layout w bits; in_back = record { front = 0 ∷ 0 ∷ []; back = []; whole = refl; in_front = zero_bit s.layout w bits; in_back = refl } });
  in_back = record {
    front = 0 ∷ [];
    back = 0 ∷ 0 ∷ [];
    whole = refl;
    in_front = rw blocks (rw bytes (omega arith), tt);
    in_back = record {
      front = [];
      back = 0 ∷ 0 ∷ [];
      whole = refl;
      in_front = record { front = []; back = []; whole = refl; in_front = rw bytes refl; in_back = refl };
      in_back = rw (words, width) (omega arith, (omega arith, tt));
    };
  };
}

pub one_pointer : (s : Shape) (flag block offset : ℕ) → s.parameters ≡ record { of_type = Ptr; no_undef = false; non_null = false; name = 0 } ∷ [] → s.layout.blocks ≡ 1 → s.layout.bytes ≡ 0 → s.words ≡ 0 → IsCodeOfValue s.layout Ptr (flag ∷ block ∷ offset ∷ []) → IsCode s (flag ∷ block ∷ offset ∷ 0 ∷ [])
one_pointer s flag block offset parameters blocks bytes words value = record {
  front = flag ∷ block ∷ offset ∷ [];
  back = 0 ∷ [];
  whole = refl;
  in_front = rw parameters (record { front = flag ∷ block ∷ offset ∷ []; back = []; whole = refl; in_front = value; in_back = refl });
  in_back = record {
    front = 0 ∷ [];
    back = [];
    whole = refl;
    in_front = rw blocks (rw bytes (omega arith), tt);
    in_back = record {
      front = [];
      back = [];
      whole = refl;
      in_front = record { front = []; back = []; whole = refl; in_front = rw bytes refl; in_back = refl };
      in_back = rw words tt;
    };
  };
}

pub pointer_to : (layout : Layout) (block offset : ℕ) → layout.blocks ≡ 1 → block ≤ 1 → offset < 2 ^ 64 → IsCodeOfValue layout Ptr (0 ∷ block ∷ offset ∷ [])
pointer_to layout block offset blocks given small = inl (record { block = block; offset = offset; is = refl; given = rw blocks given; small = small })
