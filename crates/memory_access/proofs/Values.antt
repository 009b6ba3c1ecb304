-- Values and their bytes are inverse to each other.
use Rattle.memory_access.proofs.Common.{◌≡◌, ℕ, zero, suc, ◌+◌, ◌*◌, ◌/◌, ◌%◌, ◌^◌, ◌<◌, ◌≤◌, true, nat_eq, List, [], ◌∷◌, length, Option, Some, None, refl, sym, ap, ap₂, ◌∙◌, arith, All, nat_tests, All-head, All-tail, pow-add, pow-suc, pow-le-pow_right, mod-add-div, add-mul-mod_self_left, div-lt_iff_lt-mul, mod-eq_of_lt, BlockName, Null, Given, Local, min, ◌-◌, Ptr, Value, Byte, Bits, Part, Access, Int, Pointer, equal_names, access_size, number_bytes, poison_bytes, parts_from, number_of_bytes, number_or_poison, is_part_of, are_parts, pointer_or_poison, value_bytes, value_of_bytes, IsByte, Fits}
use Rattle.std.specs.Option.{option_map}
use Rattle.byte_block.specs.declared.value.Value.TheVariants as value

-- ---- lengths

length-number_bytes : (n a : ℕ) → length (number_bytes n a) ≡ n
unfolding number_bytes
length-number_bytes zero a = refl
length-number_bytes (suc n) a = ap suc (length-number_bytes n (a / 256))

length-parts_from : (p : Ptr) (i n : ℕ) → length (parts_from p i n) ≡ n
unfolding parts_from
length-parts_from p i zero = refl
length-parts_from p i (suc n) = ap suc (length-parts_from p (i + 1) n)

length-poison_bytes : (n w : ℕ) → length (poison_bytes n w) ≡ n
unfolding poison_bytes
length-poison_bytes zero w = refl
length-poison_bytes (suc n) w = ap suc (length-poison_bytes n (w - 8))

pub length-value_bytes : (access : Access) (v : Value) → length (value_bytes access v) ≡ access_size access
length-value_bytes (Int w) (value.Num a) = length-number_bytes (access_size (Int w)) a
length-value_bytes (Int w) value.Poison = length-poison_bytes (access_size (Int w)) w.bits
length-value_bytes (Int w) (value.Ptr p) = length-poison_bytes (access_size (Int w)) w.bits
length-value_bytes Pointer (value.Num a) = length-poison_bytes 8 64
length-value_bytes Pointer value.Poison = length-poison_bytes 8 64
length-value_bytes Pointer (value.Ptr p) = length-parts_from p 0 8

-- ---- numbers

split_256 : (a : ℕ) → a % 256 + 256 * (a / 256) ≡ a
split_256 a = mod-add-div a 256

pub number_of-number_bytes : (n a : ℕ) → a < 256 ^ n → number_of_bytes (number_bytes n a) ≡ Some a
unfolding number_of_bytes number_bytes
number_of-number_bytes zero a small = let e : 0 ≡ a = omega (arith, small) in ap Some e
number_of-number_bytes (suc n) a small =
    let less : a < 256 ^ n * 256 = rw (← pow-suc 256 n) small in
    let rest : number_of_bytes (number_bytes n (a / 256)) ≡ Some (a / 256) = number_of-number_bytes n (a / 256) ((div-lt_iff_lt-mul {k = 256} {x = a} {y = 256 ^ n} (let h : 0 < 256 = omega arith in h)).1 less) in
    ap (option_map (λ m. a % 256 + 256 * m)) rest ∙ ap Some (split_256 a)

-- what a number is made of
record Splits (b : ℕ) (bytes : List Byte) (a : ℕ) : Type 0 where
  rest : ℕ
  number : number_of_bytes bytes ≡ Some rest
  is : a ≡ b + 256 * rest

splits-by : (b : ℕ) (bytes : List Byte) (a : ℕ) (o : Option ℕ) → number_of_bytes bytes ≡ o → option_map (λ m. b + 256 * m) o ≡ Some a → Splits b bytes a
splits-by b bytes a (Some m) e is = record { rest = m; number = e; is = let h : b + 256 * m ≡ a = cc in sym h }
splits-by b bytes a None e is = absurd (cc)

low-byte : (b m : ℕ) → b < 256 → (b + 256 * m) % 256 ≡ b
low-byte b m small = add-mul-mod_self_left b 256 m ∙ mod-eq_of_lt small

high-bytes : (b m : ℕ) → b < 256 → (b + 256 * m) / 256 ≡ m
high-bytes b m small = omega (arith, small)

pub number_bytes-number_of : (bytes : List Byte) (a : ℕ) → All IsByte bytes → number_of_bytes bytes ≡ Some a → number_bytes (length bytes) a ≡ bytes
unfolding number_of_bytes number_bytes
number_bytes-number_of [] a fit e = refl
number_bytes-number_of (Bits b zero ∷ bytes) a fit e =
    let s = splits-by b bytes a (number_of_bytes bytes) refl e in
    let small : b < 256 = All-head IsByte (Bits b 0) bytes fit in
    let rest = number_bytes-number_of bytes s.rest (All-tail IsByte (Bits b 0) bytes fit) s.number in
    let low : a % 256 ≡ b = ap (λ n. n % 256) s.is ∙ low-byte b s.rest small in
    let high : a / 256 ≡ s.rest = ap (λ n. n / 256) s.is ∙ high-bytes b s.rest small in
    ap₂ (λ x ys. Bits x 0 ∷ ys) low (ap (number_bytes (length bytes)) high ∙ rest)
number_bytes-number_of (Part p i ∷ bytes) a fit e = absurd (cc)
number_bytes-number_of (Bits b (suc m) ∷ bytes) a fit e = absurd (cc)

-- ---- pointers

equal_names-same : (n : BlockName) → equal_names n n ≡ true
equal_names-same Null = refl
equal_names-same (Given i) = grind (arith, nat_tests)
equal_names-same (Local turn place) = grind (arith, nat_tests)

same-offset : (n : ℕ) → nat_eq n n ≡ true
same-offset n = grind (arith, nat_tests)

is_part_of-itself : (p : Ptr) (i : ℕ) → is_part_of p i (Part p i) ≡ true
is_part_of-itself p i = rw (equal_names-same p.block, same-offset p.offset, same-offset i) refl

are_parts-parts_from : (p : Ptr) (i n : ℕ) → i + n ≡ 8 → are_parts p i (parts_from p i n) ≡ true
unfolding are_parts parts_from
are_parts-parts_from p i zero e = let h : i ≡ 8 = omega arith in ap (λ j. nat_eq j 8) h ∙ same-offset 8
are_parts-parts_from p i (suc n) e = rw (is_part_of-itself p i) (are_parts-parts_from p (i + 1) n (omega arith))

pointer-whole : (p : Ptr) → pointer_or_poison (parts_from p 0 8) ≡ value.Ptr p
unfolding parts_from
pointer-whole p = let whole : are_parts p 0 (parts_from p 0 8) ≡ true = are_parts-parts_from p 0 8 refl in rw whole refl

-- ---- values

bits_of_bytes : (w : ℕ) → w ≤ 8 * ((w + 7) / 8)
bits_of_bytes w = omega arith

pow-256 : (n : ℕ) → 256 ^ n ≡ 2 ^ (8 * n)
pow-256 zero = refl
pow-256 (suc n) = let e : 8 * suc n ≡ 8 * n + 8 = omega arith in pow-suc 256 n ∙ ap (λ m. m * 256) (pow-256 n) ∙ sym (ap (λ k. 2 ^ k) e ∙ pow-add 2 (8 * n) 8)

number-fits : (w a : ℕ) → a < 2 ^ w → a < 256 ^ ((w + 7) / 8)
number-fits w a small =
    let wide : 2 ^ w ≤ 2 ^ (8 * ((w + 7) / 8)) = pow-le-pow_right (let h : 0 < 2 = omega arith in h) (bits_of_bytes w) in
    rw (pow-256 ((w + 7) / 8)) (omega (arith, wide, small))

number_or_poison-fits : (w a : ℕ) → a < 2 ^ w → number_or_poison w (Some a) ≡ value.Num a
number_or_poison-fits w a small = grind (arith, nat_tests)

number_of-some : (b m : ℕ) (bytes : List Byte) → 0 < m → number_of_bytes (Bits b m ∷ bytes) ≡ None
unfolding number_of_bytes
number_of-some b zero bytes some = absurd (omega arith)
number_of-some b (suc m) bytes some = refl

-- a mask of one bit or more isn't 0
some-mask : (k : ℕ) → 1 ≤ k → 0 < 2 ^ k - 1
some-mask k some = let least : 2 ^ 1 ≤ 2 ^ k = pow-le-pow_right (let h : 0 < 2 = omega arith in h) some in omega (arith, least)

number_of-poison : (n w : ℕ) → 0 < n → 1 ≤ w → number_of_bytes (poison_bytes n w) ≡ None
unfolding poison_bytes
number_of-poison zero w some bits = absurd (omega arith)
number_of-poison (suc n) w some bits = number_of-some 0 (2 ^ min w 8 - 1) (poison_bytes n (w - 8)) (some-mask (min w 8) (omega arith))

some-bytes : (w : ℕ) → 1 ≤ w → 0 < (w + 7) / 8
some-bytes w some = omega arith

pointer-poison : pointer_or_poison (poison_bytes 8 64) ≡ value.Poison
unfolding poison_bytes
pointer-poison = refl

pub value_of_bytes-value_bytes : (access : Access) (v : Value) → Fits access v → value_of_bytes access (value_bytes access v) ≡ v
value_of_bytes-value_bytes (Int w) (value.Num a) fits = ap (number_or_poison w.bits) (number_of-number_bytes (access_size (Int w)) a (number-fits w.bits a fits)) ∙ number_or_poison-fits w.bits a fits
value_of_bytes-value_bytes (Int w) value.Poison fits = ap (number_or_poison w.bits) (number_of-poison (access_size (Int w)) w.bits (some-bytes w.bits w.at_least_1) w.at_least_1)
value_of_bytes-value_bytes (Int w) (value.Ptr p) fits = absurd fits
value_of_bytes-value_bytes Pointer (value.Num a) fits = absurd fits
value_of_bytes-value_bytes Pointer value.Poison fits = pointer-poison
value_of_bytes-value_bytes Pointer (value.Ptr p) fits = pointer-whole p
