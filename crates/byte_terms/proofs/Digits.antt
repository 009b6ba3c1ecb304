-- Numbers as bytes, and bytes as numbers.
use Rattle.byte_terms.proofs.Common.{ℕ, zero, suc, ◌≡◌, ◌<◌, ◌≤◌, ◌+◌, ◌-◌, ◌*◌, ◌/◌, ◌%◌, ◌^◌, Bool, true, false, cond, not, ◌&&◌, ◌||◌, nat_eq, nat_lt, min, List, [], ◌∷◌, ◌++◌, length, take, drop, get_or, Option, Some, None, refl, ap, ap₂, sym, subst, ◌∙◌, inl, inr, arith, eqb-true, slice_get, is_some, option_map, cases_Bool, eq-eqb, lt-ltb, ltb-true, at_drop_all, at_drop_more, take_all, take_more, BlockName, Ptr, Byte, Bits, Int, defined_bits, number_bytes, number_of_bytes, number_or_poison, poison_bytes, value_bytes, value_of_bytes, number_bytes-get, poison_bytes-get, defined-all, defined-zero, defined-none, TermId, Term, width_of, AreInRange, IsTerm, Keeps, Makes, Tests, bit_at, term_at, tree_in, SymByte, SymValue, IsSymValue, Reading, number_at, value_at, value_from, value_of, AreSymBytes, IsSymByte, byte_at, byte_of, places_at, each-at, map-push, bit-later, keeps_trans, places-later, term-later, same_Some}
use Rattle.std.proofs.lemmas.Nat.{pow-add, pow_pos}
use Rattle.std.proofs.lemmas.Option.{get_or_from_slice_get, slice_get_within}
use Rattle.std.proofs.Math.Dec.{eqb-suc-zero}
use Rattle.std.proofs.Math.Nat.{div-lt_iff_lt-mul, mul_assoc, mul-add, mul_comm}
use Rattle.tv_num.specs.declared.Width.{Width}
use Rattle.mem_terms.proofs.Bits.{term-below}
use Rattle.mem_terms.proofs.Made.{small_mod}
use Rattle.byte_terms.proofs.Bools.{and-thrice, and-yes, both_ways}

-- ---- one of two lists

pub front_more : (c : Bool) (xs ys : List Byte) (i : ℕ) (x y : Byte) → slice_get xs i ≡ Some x → slice_get ys i ≡ Some y
    → cond c (take i xs) (take i ys) ++ cond c x y ∷ [] ≡ cond c (take (i + 1) xs) (take (i + 1) ys)
front_more true xs ys i x y hx hy = ap (λ z. take i xs ++ z ∷ []) (sym (get_or_from_slice_get xs i x x hx)) ∙ sym (take_more xs i x (slice_get_within xs i x hx))
front_more false xs ys i x y hx hy = ap (λ z. take i ys ++ z ∷ []) (sym (get_or_from_slice_get ys i y y hy)) ∙ sym (take_more ys i y (slice_get_within ys i y hy))

pub front_all : (c : Bool) (xs ys now : List Byte) (i n : ℕ) → length xs ≡ n → length ys ≡ n → n ≤ i → now ≡ cond c (take i xs) (take i ys) → now ≡ cond c xs ys
front_all c xs ys now i n hx hy past so = so ∙ ap₂ (cond c) (take_all i xs (omega (arith, hx, past))) (take_all i ys (omega (arith, hy, past)))

-- ---- a number's bytes

-- the digits as they are where each of their bits is poison or none is
pub digits_kept : (c : Bool) (x m : ℕ) → x < 256 → m ≡ 255 → defined_bits x (cond c m 0) ≡ cond c 0 x
digits_kept true x m small all = ap (defined_bits x) all ∙ defined-none x
digits_kept false x m small all = defined-all x small

pub digits_picked : (c : Bool) (n x m : ℕ) → x < 256 → n ≡ cond c 0 x → defined_bits n (cond c m 0) ≡ cond c 0 x
digits_picked true n x m small is = ap (λ k. defined_bits k m) is ∙ defined-zero m
digits_picked false n x m small is = ap (λ k. defined_bits k 0) is ∙ defined-all x small

bits-either : (c : Bool) (n m k x : ℕ) → k ≡ cond c m 0 → defined_bits n (cond c m 0) ≡ cond c 0 x → Bits (defined_bits n k) k ≡ cond c (Bits 0 m) (Bits x 0)
bits-either true n m k x mask is = rw mask (ap (λ y. Bits y m) is)
bits-either false n m k x mask is = rw mask (ap (λ y. Bits y 0) is)

pub number_byte_stands : (old c d e f : List Term) (is_poison value is_part mask digits number zero' part : TermId) (place m w : ℕ) → IsTerm old 1 is_poison → IsTerm old 64 value → Keeps old c → Tests c is_part (λ _. false) → m ≡ 2 ^ min (w - 8 * place) 8 - 1
    → Keeps c d → Makes d mask 8 (λ v. cond (bit_at v c is_poison) m 0) → Keeps d e → Makes e digits 8 (λ v. term_at v d value / 2 ^ (8 * place) % 2 ^ 8)
    → Keeps e f → ((v : ℕ → ℕ → ℕ) → defined_bits (term_at v f number) (cond (bit_at v e is_poison) m 0) ≡ cond (bit_at v e is_poison) 0 (term_at v e digits)) → (r : Reading)
    → byte_at r f (record { is_part = is_part; mask = mask; number = number; block = zero'; offset = zero'; part = part })
    ≡ cond (bit_at r.v old is_poison) (Bits 0 (2 ^ min (w - 8 * place) 8 - 1)) (Bits (term_at r.v old value / 2 ^ (8 * place) % 256) 0)
unfolding byte_at
number_byte_stands old c d e f is_poison value is_part mask digits number zero' part place m w hp hv k1 t1 few k2 m2 k3 m3 k4 so r =
    let kod = keeps_trans old c d k1 k2 in
    let kcf = keeps_trans c e f (keeps_trans c d e k2 k3) k4 in
    let poison_e : bit_at r.v e is_poison ≡ bit_at r.v old is_poison = bit-later old e (keeps_trans old d e kod k3) r.v is_poison hp.within in
    let mask_is : term_at r.v f mask ≡ cond (bit_at r.v old is_poison) m 0 =
    term-later d f (keeps_trans d e f k3 k4) r.v mask m2.within ∙ (m2.says r.v ∙ ap (λ x. cond x m 0) (bit-later old c k1 r.v is_poison hp.within)) in
    let digits_are : term_at r.v e digits ≡ term_at r.v old value / 2 ^ (8 * place) % 256 = m3.says r.v ∙ ap (λ x. x / 2 ^ (8 * place) % 256) (term-later old d kod r.v value hv.within) in
    rw (bit-later c f kcf r.v is_part t1.within, t1.says r.v, ← few)
    (bits-either (bit_at r.v old is_poison) (term_at r.v f number) m (term_at r.v f mask) (term_at r.v old value / 2 ^ (8 * place) % 256) mask_is (rw (← poison_e, ← digits_are) (so r.v)))

length-number_bytes : (n a : ℕ) → length (number_bytes n a) ≡ n
unfolding number_bytes
length-number_bytes zero a = refl
length-number_bytes (suc n) a = ap suc (length-number_bytes n (a / 256))

length-poison_bytes : (n w : ℕ) → length (poison_bytes n w) ≡ n
unfolding poison_bytes
length-poison_bytes zero w = refl
length-poison_bytes (suc n) w = ap suc (length-poison_bytes n (w - 8))

pub digits_more : (old a b : List Term) (ka : Keeps old a) (kb : Keeps a b) (is_poison value : TermId) (now : List SymByte) (byte : SymByte) (i n w : ℕ) → IsTerm old 1 is_poison → IsTerm old 64 value → AreSymBytes a now → i < n → (r : Reading)
    → places_at r a now ≡ cond (bit_at r.v old is_poison) (take i (poison_bytes n w)) (take i (number_bytes n (term_at r.v old value)))
    → byte_at r b byte ≡ cond (bit_at r.v a is_poison) (Bits 0 (2 ^ min (w - 8 * i) 8 - 1)) (Bits (term_at r.v a value / 2 ^ (8 * i) % 256) 0)
    → places_at r b (now ++ byte ∷ []) ≡ cond (bit_at r.v old is_poison) (take (i + 1) (poison_bytes n w)) (take (i + 1) (number_bytes n (term_at r.v old value)))
digits_more old a b ka kb is_poison value now byte i n w hp hv hnow lt r before one =
    let is : byte_at r b byte ≡ cond (bit_at r.v old is_poison) (Bits 0 (2 ^ min (w - 8 * i) 8 - 1)) (Bits (term_at r.v old value / 2 ^ (8 * i) % 256) 0) =
    one ∙ rw (bit-later old a ka r.v is_poison hp.within, term-later old a ka r.v value hv.within) refl in
    map-push (byte_at r b) now byte
    ∙ rw (places-later a b kb r now hnow, before, is)
    (front_more (bit_at r.v old is_poison) (poison_bytes n w) (number_bytes n (term_at r.v old value)) i (Bits 0 (2 ^ min (w - 8 * i) 8 - 1)) (Bits (term_at r.v old value / 2 ^ (8 * i) % 256) 0)
    (poison_bytes-get n w i lt) (number_bytes-get n (term_at r.v old value) i lt))

pub digits_all : (r : Reading) (old new : List Term) (is_poison value : TermId) (now : List SymByte) (i n w : ℕ) → n ≤ i
    → places_at r new now ≡ cond (bit_at r.v old is_poison) (take i (poison_bytes n w)) (take i (number_bytes n (term_at r.v old value)))
    → places_at r new now ≡ cond (bit_at r.v old is_poison) (poison_bytes n w) (number_bytes n (term_at r.v old value))
digits_all r old new is_poison value now i n w past so =
    front_all (bit_at r.v old is_poison) (poison_bytes n w) (number_bytes n (term_at r.v old value)) (places_at r new now) i n (length-poison_bytes n w) (length-number_bytes n (term_at r.v old value)) past so

stored-digits : (w : Width) (p q : Bool) (b : BlockName) (x : ℕ) → cond (p || q) (poison_bytes ((w.bits + 7) / 8) w.bits) (number_bytes ((w.bits + 7) / 8) x) ≡ value_bytes (Int w) (value_of p q b x)
stored-digits w true q b x = refl
stored-digits w false true b x = refl
stored-digits w false false b x = refl

pub integer_bytes_stand : (old a b : List Term) (w : Width) (s : SymValue) (is_poison : TermId) (bytes : List SymByte) → IsSymValue old s
    → Keeps old a → Tests a is_poison (λ v. bit_at v old s.poison || bit_at v old s.is_pointer) → (r : Reading)
    → places_at r b bytes ≡ cond (bit_at r.v a is_poison) (poison_bytes ((w.bits + 7) / 8) w.bits) (number_bytes ((w.bits + 7) / 8) (term_at r.v a s.number))
    → places_at r b bytes ≡ value_bytes (Int w) (value_at r old s)
unfolding value_at
integer_bytes_stand old a b w s is_poison bytes h k1 t1 r so =
    so ∙ rw (t1.says r.v, term-later old a k1 r.v s.number h.number.within)
    (stored-digits w (bit_at r.v old s.poison) (bit_at r.v old s.is_pointer) (r.name (term_at r.v old s.block)) (term_at r.v old s.number))

-- ---- whether all bytes are numbers

some-mapped : (f : ℕ → ℕ) (o : Option ℕ) → is_some (option_map f o) ≡ is_some o
some-mapped f None = refl
some-mapped f (Some x) = refl

numbers-first : (k : Bool) (m n : ℕ) (p : Ptr) (part : ℕ) (bytes : List Byte) → is_some (number_of_bytes (byte_of k m n p part ∷ bytes)) ≡ ((not k && nat_eq m 0) && is_some (number_of_bytes bytes))
unfolding number_of_bytes
numbers-first true m n p part bytes = refl
numbers-first false zero n p part bytes = some-mapped (λ a. defined_bits n 0 + 256 * a) (number_of_bytes bytes)
numbers-first false (suc m) n p part bytes = rw (eqb-suc-zero m) refl

pub numbers_more : (old a b c : List Term) (k : Keeps old a) (bytes : List SymByte) (i : ℕ) (byte : SymByte) (all here both : TermId) → AreSymBytes old bytes → i < length bytes → byte ≡ get_or bytes i byte → IsTerm a 1 all → Keeps a b
    → Tests b here (λ v. not (bit_at v a byte.is_part) && nat_eq (term_at v a byte.mask) 0) → Tests c both (λ v. bit_at v b all && bit_at v b here) → (r : Reading)
    → (bit_at r.v a all && is_some (number_of_bytes (places_at r old (drop i bytes)))) ≡ is_some (number_of_bytes (places_at r old bytes))
    → (bit_at r.v c both && is_some (number_of_bytes (places_at r old (drop (i + 1) bytes)))) ≡ is_some (number_of_bytes (places_at r old bytes))
unfolding byte_at
numbers_more old a b c k bytes i byte all here both h lt is ha kb t1 t2 r before =
    let item = each-at (IsSymByte old) bytes i byte h lt is in
    let first : is_some (number_of_bytes (places_at r old (drop i bytes))) ≡ is_some (number_of_bytes (byte_at r old byte ∷ places_at r old (drop (i + 1) bytes))) =
    at_drop_more (λ bs. is_some (number_of_bytes (places_at r old bs))) bytes i byte lt ∙ ap (λ x. is_some (number_of_bytes (byte_at r old x ∷ places_at r old (drop (i + 1) bytes)))) (sym is) in
    let split = numbers-first (bit_at r.v old byte.is_part) (term_at r.v old byte.mask) (term_at r.v old byte.number) (record { block = r.name (term_at r.v old byte.block); offset = term_at r.v old byte.offset }) (term_at r.v old byte.part) (places_at r old (drop (i + 1) bytes)) in
    rw (t2.says r.v, bit-later a b kb r.v all ha.within, t1.says r.v, bit-later old a k r.v byte.is_part item.is_part.within, term-later old a k r.v byte.mask item.mask.within)
    (and-thrice (bit_at r.v a all) (not (bit_at r.v old byte.is_part) && nat_eq (term_at r.v old byte.mask) 0) (is_some (number_of_bytes (places_at r old (drop (i + 1) bytes)))) (is_some (number_of_bytes (places_at r old bytes)))
    (ap (λ x. bit_at r.v a all && x) (sym (first ∙ split)) ∙ before))

pub numbers_all : (r : Reading) (old : List Term) (x : Bool) (bytes : List SymByte) (i : ℕ) → length bytes ≤ i → (x && is_some (number_of_bytes (places_at r old (drop i bytes)))) ≡ is_some (number_of_bytes (places_at r old bytes)) → x ≡ is_some (number_of_bytes (places_at r old bytes))
unfolding number_of_bytes
numbers_all r old x bytes i past so =
    and-yes x (is_some (number_of_bytes (places_at r old (drop i bytes)))) (is_some (number_of_bytes (places_at r old bytes))) (at_drop_all (λ bs. is_some (number_of_bytes (places_at r old bs))) bytes i past) so

-- ---- the number of bytes

-- what is left of a number after its first bytes
pub record Left (bytes : List Byte) (a low i : ℕ) : Type 0 where
  pub high : ℕ
  pub is : number_of_bytes bytes ≡ Some high
  pub sum : a ≡ low + 2 ^ (8 * i) * high

mapped-some : (f : ℕ → ℕ) (o : Option ℕ) (a : ℕ) → option_map f o ≡ Some a → (x : ℕ) × (o ≡ Some x) × (f x ≡ a)
mapped-some f None a e = absurd (cc)
mapped-some f (Some x) a e = (x, refl, same_Some (f x) a e)

none_isn't : (a : ℕ) {P : Type 0} → None ≡ Some a → P
none_isn't a e = absurd (cc)

first-number : (k : Bool) (m n : ℕ) (p : Ptr) (part : ℕ) (bytes : List Byte) (a : ℕ) → n < 256 → number_of_bytes (byte_of k m n p part ∷ bytes) ≡ Some a → (x : ℕ) × (number_of_bytes bytes ≡ Some x) × (n + 256 * x ≡ a)
unfolding number_of_bytes
first-number true m n p part bytes a small e = none_isn't a e
first-number false zero n p part bytes a small e = mapped-some (λ x. n + 256 * x) (number_of_bytes bytes) a (rw (defined-all n small) at e)
first-number false (suc m) n p part bytes a small e = none_isn't a e

next-sum : (a low high n x i : ℕ) → a ≡ low + 2 ^ (8 * i) * high → n + 256 * x ≡ high → a ≡ n * 2 ^ (8 * i) + low + 2 ^ (8 * (i + 1)) * x
next-sum a low high n x i sum split =
    let m = 2 ^ (8 * i) in
    let one : 2 ^ (8 * i + 8) ≡ m * 2 ^ 8 = pow-add 2 (8 * i) 8 in
    let at : 8 * (i + 1) ≡ 8 * i + 8 = omega arith in
    let top : 2 ^ (8 * (i + 1)) * x ≡ m * (256 * x) = ap (λ j. 2 ^ j * x) at ∙ (ap (λ y. y * x) one ∙ mul_assoc m 256 x) in
    let whole : m * high ≡ m * n + m * (256 * x) = ap (λ y. m * y) (sym split) ∙ mul-add m n (256 * x) in
    let turn : m * n ≡ n * m = mul_comm m n in
    omega (arith, sum, top, whole, turn)

front-byte : (r : Reading) (old : List Term) (bytes : List SymByte) (i : ℕ) (byte : SymByte) (high : ℕ) → term_at r.v old byte.number < 256 → i < length bytes → byte ≡ get_or bytes i byte → number_of_bytes (places_at r old (drop i bytes)) ≡ Some high
    → (x : ℕ) × (number_of_bytes (places_at r old (drop (i + 1) bytes)) ≡ Some x) × (term_at r.v old byte.number + 256 * x ≡ high)
unfolding byte_at
front-byte r old bytes i byte high small lt is so =
    let first : number_of_bytes (places_at r old (drop i bytes)) ≡ number_of_bytes (byte_at r old byte ∷ places_at r old (drop (i + 1) bytes)) =
    at_drop_more (λ bs. number_of_bytes (places_at r old bs)) bytes i byte lt ∙ ap (λ x. number_of_bytes (byte_at r old x ∷ places_at r old (drop (i + 1) bytes))) (sym is) in
    first-number (bit_at r.v old byte.is_part) (term_at r.v old byte.mask) (term_at r.v old byte.number) (record { block = r.name (term_at r.v old byte.block); offset = term_at r.v old byte.offset }) (term_at r.v old byte.part) (places_at r old (drop (i + 1) bytes)) high small (sym first ∙ so)

pub joined_first : (r : Reading) (old : List Term) (bytes : List SymByte) (byte : SymByte) (a : ℕ) → AreInRange old → IsSymByte old byte → 0 < length bytes → byte ≡ get_or bytes 0 byte → number_of_bytes (places_at r old bytes) ≡ Some a → Left (places_at r old (drop 1 bytes)) a (term_at r.v old byte.number) 1
joined_first r old bytes byte a range item lt is so =
    let f = front-byte r old bytes 0 byte a (term-below old 8 byte.number range item.number r.v) lt is so in
    record { high = f.0; is = f.1; sum = sym f.2 }

pub joined_more : (r : Reading) (old a b : List Term) (k : Keeps old a) (bytes : List SymByte) (i : ℕ) (byte : SymByte) (low next : TermId) (n : ℕ) → AreInRange old → AreSymBytes old bytes → i < length bytes → byte ≡ get_or bytes i byte → IsTerm a (8 * i) low
    → Makes b next (width_of (tree_in a byte.number) + width_of (tree_in a low)) (λ v. term_at v a byte.number * 2 ^ width_of (tree_in a low) + term_at v a low)
    → Left (places_at r old (drop i bytes)) n (term_at r.v a low) i → Left (places_at r old (drop (i + 1) bytes)) n (term_at r.v b next) (i + 1)
joined_more r old a b k bytes i byte low next n range h lt is ha m left =
    let item = each-at (IsSymByte old) bytes i byte h lt is in
    let f = front-byte r old bytes i byte left.high (term-below old 8 byte.number range item.number r.v) lt is left.is in
    let now : term_at r.v b next ≡ term_at r.v old byte.number * 2 ^ (8 * i) + term_at r.v a low =
    m.says r.v ∙ rw (ha.wide, term-later old a k r.v byte.number item.number.within) refl in
    record { high = f.0; is = f.1; sum = rw now (next-sum n (term_at r.v a low) left.high (term_at r.v old byte.number) f.0 i left.sum f.2) }

pub joined_wide : (a b : List Term) (i : ℕ) (high low next : TermId) → width_of (tree_in a high) ≡ 8 → IsTerm a (8 * i) low → (v : (ℕ → ℕ → ℕ) → ℕ) → Makes b next (width_of (tree_in a high) + width_of (tree_in a low)) v → IsTerm b (8 * (i + 1)) next
joined_wide a b i high low next eight h v m = record { within = m.within; wide = let e = h.wide in let w = m.wide in omega (arith, e, eight, w) }

pub joined_all : (r : Reading) (old : List Term) (bytes : List SymByte) (i n low : ℕ) → length bytes ≤ i → Left (places_at r old (drop i bytes)) n low i → low ≡ n
unfolding number_of_bytes
joined_all r old bytes i n low past left =
    let none : Some 0 ≡ Some left.high = sym (at_drop_all (λ bs. number_of_bytes (places_at r old bs)) bytes i past) ∙ left.is in
    let e : 0 ≡ left.high = same_Some 0 left.high none in
    let none_left : 2 ^ (8 * i) * 0 ≡ 0 = omega arith in
    let zero' : 2 ^ (8 * i) * left.high ≡ 0 = ap (λ x. 2 ^ (8 * i) * x) (sym e) ∙ none_left in
    let sum = left.sum in
    omega (arith, sum, zero')

-- ---- numbers of a width

high-digits : (x b : ℕ) → b < 64 → x < 2 ^ 64 → nat_eq (x / 2 ^ b % 2 ^ (64 - b)) 0 ≡ nat_lt x (2 ^ b)
high-digits x b lt small =
    let at : 64 - b + b ≡ 64 = omega (arith, lt) in
    let whole : 2 ^ 64 ≡ 2 ^ (64 - b) * 2 ^ b = ap (λ j. 2 ^ j) (sym at) ∙ pow-add 2 (64 - b) b in
    let part : x / 2 ^ b < 2 ^ (64 - b) = (div-lt_iff_lt-mul {k = 2 ^ b} {x = x} {y = 2 ^ (64 - b)} (pow_pos b)).1 (subst (λ m. x < m) whole small) in
    let one : 1 * 2 ^ b ≡ 2 ^ b = omega arith in
    let less = div-lt_iff_lt-mul {k = 2 ^ b} {x = x} {y = 1} (pow_pos b) in
    rw (small_mod (x / 2 ^ b) (2 ^ (64 - b)) part)
    (both_ways (nat_eq (x / 2 ^ b) 0) (nat_lt x (2 ^ b))
    (λ e. lt-ltb x (2 ^ b) (subst (λ m. x < m) one (less.0 (let z = eqb-true (x / 2 ^ b) 0 e in omega (arith, z)))))
    (λ e. eq-eqb (x / 2 ^ b) 0 (let z = less.1 (subst (λ m. x < m) (sym one) (ltb-true x (2 ^ b) e)) in omega (arith, z))))

pub has_width_stands : (old a b c : List Term) (value above zero' id : TermId) (low bits : ℕ) → AreInRange old → IsTerm old 64 value → low ≡ bits → low < 64
    → Makes a above (64 - low) (λ v. term_at v old value / 2 ^ low % 2 ^ (64 - low)) → Keeps a b → Makes b zero' (64 - low) (λ _. 0) → Tests c id (λ v. nat_eq (term_at v b above) (term_at v b zero'))
    → Tests c id (λ v. nat_lt (term_at v old value) (2 ^ bits))
has_width_stands old a b c value above zero' id low bits range h same few m1 k m2 t = record {
  within = t.within;
  wide = t.wide;
  says = λ v. t.says v ∙ rw (term-later a b k v above m1.within, m1.says v, m2.says v, ← same) (high-digits (term_at v old value) low few (term-below old 64 value range h v));
}

-- ---- the value that bytes are read as

read-number : (n : ℕ) (o : Option ℕ) (x : ℕ) → ((a : ℕ) → o ≡ Some a → x ≡ a) → value_from (not (is_some o && nat_lt x (2 ^ n))) x ≡ number_or_poison n o
read-number n None x e = refl
read-number n (Some a) x e =
    rw (e a refl)
    (elim (cases_Bool (nat_lt a (2 ^ n))) as (λ _. value_from (not (nat_lt a (2 ^ n))) a ≡ number_or_poison n (Some a)) [
      | inl f ↦ rw f refl
      | inr f ↦ rw f refl
    ])

pub integer_of_bytes_stands : (old a b c d e f g : List Term) (w : Width) (bytes : List SymByte) (all digits value is_small is_number poison : TermId) (s : SymValue) → AreSymBytes old bytes
    → Keeps old a → IsTerm a 1 all → Keeps a b → Makes c value 64 (λ v. term_at v b digits) → Keeps b c → Tests d is_small (λ v. nat_lt (term_at v c value) (2 ^ w.bits)) → Keeps c d
    → Tests e is_number (λ v. bit_at v d all && bit_at v d is_small) → Keeps d e → Tests f poison (λ v. not (bit_at v e is_number)) → Keeps e f → (r : Reading)
    → bit_at r.v a all ≡ is_some (number_of_bytes (places_at r old bytes))
    → ((n : ℕ) → number_of_bytes (places_at r a bytes) ≡ Some n → term_at r.v b digits ≡ n)
    → value_at r g s ≡ number_at r.v f (record { poison = poison; number = value })
    → value_at r g s ≡ value_of_bytes (Int w) (places_at r old bytes)
unfolding number_at
integer_of_bytes_stands old a b c d e f g w bytes all digits value is_small is_number poison s h k1 ha k2 m3 k3 t4 k4 t5 k5 t6 k6 r all_is digits_are so =
    let kad = keeps_trans a c d (keeps_trans a b c k2 k3) k4 in
    let kcf = keeps_trans c e f (keeps_trans c d e k4 k5) k6 in
    so ∙ rw (t6.says r.v, t5.says r.v, bit-later a d kad r.v all ha.within, all_is, t4.says r.v, term-later c f kcf r.v value m3.within, m3.says r.v)
    (read-number w.bits (number_of_bytes (places_at r old bytes)) (term_at r.v b digits) (λ n is. digits_are n (ap number_of_bytes (places-later old a k1 r bytes h) ∙ is)))
