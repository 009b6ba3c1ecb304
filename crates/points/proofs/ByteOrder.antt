-- The next byte: bits without poison, then parts of pointers, then bits with poison, by their masks.
use Rattle.points.proofs.Common.{◌≡◌, ◌≢◌, ℕ, inl, inr, zero, suc, ◌+◌, ◌*◌, ◌^◌, ◌<◌, ◌≤◌, [], ◌∷◌, refl, ap, sym, ◌∙◌, arith, cases_eq, cases_lt, ne_eqb, bit_and, and_zero_l, and_zero_r, BlockName, Null, Given, Local, Ptr, Byte, Bits, Part, Layout, number_of, BlockFits, PointerFits, ByteFits, name_digit, byte_code, byte_number, pointer_number, IsNextByte, IsLastByte}

pub name_at_most : (layout : Layout) (name : BlockName) → BlockFits layout name → name_digit layout name ≤ layout.blocks
name_at_most layout Null fits = omega arith
name_at_most layout (Given i) fits = fits.1
name_at_most layout (Local turn place) fits = absurd fits

-- ---- numbers of bytes

part_number : (layout : Layout) (p : Ptr) (i : ℕ) → byte_number layout (Part p i) ≡ 2 ^ 320 + pointer_number layout p * 2 ^ 64 + i
unfolding number_of
part_number layout p i = omega arith

number_number : (layout : Layout) (n : ℕ) → byte_number layout (Bits n 0) ≡ n * 2 ^ 192
unfolding number_of
number_number layout n = omega arith

pub poison_code : (layout : Layout) (n m : ℕ) → 0 < m → byte_code layout (Bits n m) ≡ 2 ∷ m ∷ n ∷ 0 ∷ 0 ∷ 0 ∷ []
poison_code layout n m some = rw (ne_eqb m 0 (λ e. omega (arith, e, some))) refl

poison_number : (layout : Layout) (n m : ℕ) → 0 < m → byte_number layout (Bits n m) ≡ 2 * 2 ^ 320 + m * 2 ^ 256 + n * 2 ^ 192
unfolding number_of
poison_number layout n m some = rw (ne_eqb m 0 (λ e. omega (arith, e, some))) (omega arith)

pub pointer_at_most : (layout : Layout) (p : Ptr) → PointerFits layout p → pointer_number layout p < (layout.blocks + 1) * 2 ^ 64
pointer_at_most layout p fits = let name = name_at_most layout p.block fits.block in let small = fits.offset in omega (arith, name, small)

part_at_most : (layout : Layout) (p : Ptr) (i : ℕ) → layout.blocks < 2 ^ 64 → PointerFits layout p → i ≤ 7 → byte_number layout (Part p i) < 2 * 2 ^ 320
part_at_most layout p i few fits of_eight = let most = pointer_at_most layout p fits in let e = part_number layout p i in omega (arith, most, e)

-- ---- bits without poison

pub zero_fits : (layout : Layout) → ByteFits layout (Bits 0 0)
zero_fits layout = (omega arith, omega arith, and_zero_l 0)

pub number_next : (layout : Layout) (n : ℕ) → n + 1 < 2 ^ 8 → IsNextByte layout (Bits n 0) (Bits (n + 1) 0)
number_next layout n room = record {
  fits = (room, omega arith, and_zero_r (n + 1));
  later = (let e = number_number layout n in let f = number_number layout (n + 1) in omega (arith, e, f));
  no_gap = no_gap;
}
  where
    no_gap : (b : Byte) → ByteFits layout b → byte_number layout b < byte_number layout (Bits (n + 1) 0) → byte_number layout b ≤ byte_number layout (Bits n 0)
    no_gap (Bits k zero) fits less = let e = number_number layout n in let f = number_number layout (n + 1) in let g = number_number layout k in omega (arith, e, f, g, less)
    no_gap (Bits k (suc j)) fits less = absurd (let f = number_number layout (n + 1) in let g = poison_number layout k (suc j) (omega arith) in omega (arith, f, g, less))
    no_gap (Part p i) fits less = absurd (let f = number_number layout (n + 1) in let g = part_number layout p i in omega (arith, f, g, less))

abbrev first_part : Byte
first_part = Part (record { block = Null; offset = 0 }) 0

pub part_first : (layout : Layout) (n : ℕ) → 2 ^ 8 ≤ n + 1 → n < 2 ^ 8 → IsNextByte layout (Bits n 0) first_part
part_first layout n full small = record {
  fits = (record { block = tt; offset = omega arith }, omega arith);
  later = (let e = number_number layout n in let f = part_number layout (record { block = Null; offset = 0 }) 0 in omega (arith, e, f));
  no_gap = no_gap;
}
  where
    no_gap : (b : Byte) → ByteFits layout b → byte_number layout b < byte_number layout first_part → byte_number layout b ≤ byte_number layout (Bits n 0)
    no_gap (Bits k zero) fits less = let e = number_number layout n in let g = number_number layout k in let few = fits.0 in omega (arith, e, g, few)
    no_gap (Bits k (suc j)) fits less = absurd (let f = part_number layout (record { block = Null; offset = 0 }) 0 in let g = poison_number layout k (suc j) (omega arith) in omega (arith, f, g, less))
    no_gap (Part p i) fits less = absurd (let f = part_number layout (record { block = Null; offset = 0 }) 0 in let g = part_number layout p i in omega (arith, f, g, less))

-- ---- parts of pointers

pub part_next : (layout : Layout) (p : Ptr) (i : ℕ) → PointerFits layout p × (i ≤ 7) → i < 7 → IsNextByte layout (Part p i) (Part p (i + 1))
part_next layout p i fit below = record {
  fits = (fit.0, omega arith);
  later = (let e = part_number layout p i in let f = part_number layout p (i + 1) in omega (arith, e, f));
  no_gap = λ b fits less. (let e = part_number layout p i in let f = part_number layout p (i + 1) in omega (arith, e, f, less));
}

pub pointer_next : (layout : Layout) (p q : Ptr) (i : ℕ) → layout.blocks < 2 ^ 64 → i ≤ 7 → 7 ≤ i → PointerFits layout q → pointer_number layout q ≡ pointer_number layout p + 1 → IsNextByte layout (Part p i) (Part q 0)
pointer_next layout p q i few of_eight last fit one_more = record {
  fits = (fit, omega arith);
  later = (let e = part_number layout p i in let f = part_number layout q 0 in omega (arith, e, f, one_more));
  no_gap = no_gap;
}
  where
    no_gap : (b : Byte) → ByteFits layout b → byte_number layout b < byte_number layout (Part q 0) → byte_number layout b ≤ byte_number layout (Part p i)
    no_gap (Bits k zero) fits less = let e = part_number layout p i in let g = number_number layout k in let small = fits.0 in omega (arith, e, g, small)
    no_gap (Bits k (suc j)) fits less = absurd (let g = poison_number layout k (suc j) (omega arith) in let most = part_at_most layout q 0 few fit (omega arith) in omega (arith, g, most, less))
    no_gap (Part r j) fits less = let e = part_number layout p i in let f = part_number layout q 0 in let g = part_number layout r j in let small = fits.1 in omega (arith, e, f, g, less, small, one_more)

pub poison_next : (layout : Layout) (p : Ptr) (i : ℕ) → layout.blocks < 2 ^ 64 → i ≤ 7 → 7 ≤ i → PointerFits layout p → pointer_number layout p + 1 ≡ (layout.blocks + 1) * 2 ^ 64 → IsNextByte layout (Part p i) (Bits 0 1)
poison_next layout p i few of_eight last fit all = record {
  fits = (omega arith, omega arith, and_zero_l 1);
  later = (let most = part_at_most layout p i few fit of_eight in let g = poison_number layout 0 1 (omega arith) in omega (arith, most, g));
  no_gap = no_gap;
}
  where
    no_gap : (b : Byte) → ByteFits layout b → byte_number layout b < byte_number layout (Bits 0 1) → byte_number layout b ≤ byte_number layout (Part p i)
    no_gap (Bits k zero) fits less = let e = part_number layout p i in let g = number_number layout k in let small = fits.0 in omega (arith, e, g, small)
    no_gap (Bits k (suc j)) fits less = absurd (let f = poison_number layout 0 1 (omega arith) in let g = poison_number layout k (suc j) (omega arith) in omega (arith, f, g, less))
    no_gap (Part r j) fits less = let e = part_number layout p i in let g = part_number layout r j in let most = pointer_at_most layout r fits.0 in let small = fits.1 in omega (arith, e, g, most, small, all)

-- ---- bits with poison

-- no number from this one on to the end has only bits that are not in the mask
abbrev pub AreNotApart : ℕ → ℕ → ℕ → Type 0
AreNotApart number mask end = (n : ℕ) → number < n → n < end → bit_and n mask ≡ 0 → ⊥

pub none_more : (number mask end : ℕ) → AreNotApart number mask end → bit_and end mask ≢ 0 → AreNotApart number mask (end + 1)
none_more number mask end none has n more below apart = elim (cases_eq n end) as (λ _. ⊥) [
  | inl same ↦ has (ap (λ k. bit_and k mask) (sym same) ∙ apart)
  | inr other ↦ none n more (omega (arith, below, other)) apart
]

at_most : (number mask end n : ℕ) → AreNotApart number mask end → n < end → bit_and n mask ≡ 0 → n ≤ number
at_most number mask end n none below apart = elim (cases_lt number n) as (λ _. n ≤ number) [
  | inl less ↦ absurd (none n less below apart)
  | inr not ↦ not
]

-- the bytes below this mask and top, where the byte has the last number below the top without a bit of the mask
before : (layout : Layout) (n m top : ℕ) (b : Byte) → layout.blocks < 2 ^ 64 → 0 < m → top ≤ 2 ^ 64 → ((k : ℕ) → k < 2 ^ 8 → k < top → bit_and k m ≡ 0 → k ≤ n) → ByteFits layout b → byte_number layout b < 2 * 2 ^ 320 + m * 2 ^ 256 + top * 2 ^ 192 → byte_number layout b ≤ byte_number layout (Bits n m)
before layout n m top (Bits k zero) few some small last fits less = let e = poison_number layout n m some in let g = number_number layout k in let low = fits.0 in omega (arith, e, g, low)
before layout n m top (Part p i) few some small last fits less = let e = poison_number layout n m some in let most = part_at_most layout p i few fits.0 fits.1 in omega (arith, e, most)
before layout n m top (Bits k (suc j)) few some small last fits less = elim (cases_eq (suc j) m) as (λ _. byte_number layout (Bits k (suc j)) ≤ byte_number layout (Bits n m)) [
  | inl same ↦
      let e = poison_number layout n m some in
      let g = poison_number layout k (suc j) (omega arith) in
      let most = last k fits.0 (omega (arith, g, less, same)) (rw same at fits.2) in
      omega (arith, e, g, same, most)
  | inr other ↦ (let e = poison_number layout n m some in let g = poison_number layout k (suc j) (omega arith) in let low = fits.0 in omega (arith, e, g, low, less, small, other))
]

pub poison_more : (layout : Layout) (n m next : ℕ) → layout.blocks < 2 ^ 64 → 0 < m → m < 2 ^ 8 → n < next → next < 2 ^ 8 → bit_and next m ≡ 0 → AreNotApart n m next → IsNextByte layout (Bits n m) (Bits next m)
poison_more layout n m next few some small more room apart none =
    let e = poison_number layout n m some in
    let f = poison_number layout next m some in
    record {
      fits = (room, small, apart);
      later = omega (arith, e, f, more);
      no_gap = λ b fits less. before layout n m next b few some (omega (arith, room)) (λ k low. at_most n m next k none) fits (omega (arith, f, less));
    }

pub mask_next : (layout : Layout) (n m : ℕ) → layout.blocks < 2 ^ 64 → 0 < m → m + 1 < 2 ^ 8 → n < 2 ^ 8 → AreNotApart n m (2 ^ 8) → IsNextByte layout (Bits n m) (Bits 0 (m + 1))
mask_next layout n m few some room small none =
    let e = poison_number layout n m some in
    let f = poison_number layout 0 (m + 1) (omega arith) in
    record {
      fits = (omega arith, room, and_zero_l (m + 1));
      later = omega (arith, e, f, small);
      no_gap = λ b fits less. before layout n m (2 ^ 64) b few some (omega arith) (λ k low below. at_most n m (2 ^ 8) k none low) fits (omega (arith, f, less));
    }

pub poison_last : (layout : Layout) (n m : ℕ) → layout.blocks < 2 ^ 64 → 2 ^ 8 ≤ m + 1 → AreNotApart n m (2 ^ 8) → IsLastByte layout (Bits n m)
poison_last layout n m few full none = λ b fits. before layout n m (2 ^ 8) b few (omega (arith, full)) (omega arith) (λ k low. at_most n m (2 ^ 8) k none) fits (at_end b fits)
  where
    at_end : (b : Byte) → ByteFits layout b → byte_number layout b < 2 * 2 ^ 320 + m * 2 ^ 256 + 2 ^ 8 * 2 ^ 192
    at_end (Bits k zero) fits = let g = number_number layout k in let low = fits.0 in omega (arith, g, low)
    at_end (Bits k (suc j)) fits = let g = poison_number layout k (suc j) (omega arith) in let low = fits.0 in let within = fits.1 in omega (arith, g, low, within, full)
    at_end (Part p i) fits = let most = part_at_most layout p i few fits.0 fits.1 in omega (arith, most)
