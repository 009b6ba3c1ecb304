-- The bytes of values, and walks over bytes.
use Rattle.memory_access.proofs.Common.{◌≡◌, ℕ, zero, suc, ◌+◌, ◌*◌, ◌/◌, ◌%◌, ◌^◌, ◌<◌, ◌≤◌, List, [], ◌∷◌, ◌++◌, length, get_or, take, drop, Some, None, refl, sym, ap, ◌∙◌, arith, slice_get, at_drop_more, shr-shr, set, paste, pow-suc, pow-le-pow_right, mul-le-mul_right, min, ◌-◌, Ptr, Byte, Bits, Part, number_bytes, poison_bytes, parts_from, number_of_bytes}
use Rattle.std.proofs.lemmas.List.Edits.{paste_more, paste_all}
use Rattle.std.proofs.lemmas.Option.{slice_get_within, get_or_from_slice_get}

-- ---- one byte of a value

least : (a : ℕ) → a / 2 ^ (8 * 0) % 256 ≡ a % 256
least a = let e : a / 1 ≡ a = omega arith in ap (λ n. n % 256) e

next : (a k : ℕ) → a / 256 / 2 ^ (8 * k) ≡ a / 2 ^ (8 * suc k)
next a k = let e : 8 + 8 * k ≡ 8 * suc k = omega arith in shr-shr a 8 (8 * k) ∙ ap (λ n. a / 2 ^ n) e

pub number_bytes-get : (n a k : ℕ) → k < n → slice_get (number_bytes n a) k ≡ Some (Bits (a / 2 ^ (8 * k) % 256) 0)
unfolding number_bytes
number_bytes-get zero a k within = absurd (omega arith)
number_bytes-get (suc n) a zero within = ap (λ b. Some (Bits b 0)) (sym (least a))
number_bytes-get (suc n) a (suc k) within = number_bytes-get n (a / 256) k (omega arith) ∙ ap (λ b. Some (Bits (b % 256) 0)) (next a k)

pub parts_from-get : (p : Ptr) (i n k : ℕ) → k < n → slice_get (parts_from p i n) k ≡ Some (Part p (i + k))
unfolding parts_from
parts_from-get p i zero k within = absurd (omega arith)
parts_from-get p i (suc n) zero within = let e : i ≡ i + 0 = omega arith in ap (λ j. Some (Part p j)) e
parts_from-get p i (suc n) (suc k) within = let e : i + 1 + k ≡ i + suc k = omega arith in parts_from-get p (i + 1) n k (omega arith) ∙ ap (λ j. Some (Part p j)) e

pub poison_bytes-get : (n w k : ℕ) → k < n → slice_get (poison_bytes n w) k ≡ Some (Bits 0 (2 ^ min (w - 8 * k) 8 - 1))
unfolding poison_bytes
poison_bytes-get zero w k within = absurd (omega arith)
poison_bytes-get (suc n) w zero within = let e : w ≡ w - 8 * 0 = omega arith in ap (λ left. Some (Bits 0 (2 ^ min left 8 - 1))) e
poison_bytes-get (suc n) w (suc k) within =
    let e : w - 8 - 8 * k ≡ w - 8 * suc k = omega arith in
    poison_bytes-get n (w - 8) k (omega arith) ∙ ap (λ left. Some (Bits 0 (2 ^ min left 8 - 1))) e

-- ---- a walk over the bytes of a number, from the last one on

pub number_of-more : (bytes : List Byte) (i b m a : ℕ) → i < length bytes → get_or bytes i (Bits 0 0) ≡ Bits b m → m ≡ 0 → number_of_bytes (drop (i + 1) bytes) ≡ Some a → number_of_bytes (drop i bytes) ≡ Some (b + 256 * a)
unfolding number_of_bytes
number_of-more bytes i b m a within is none rest = at_drop_more number_of_bytes bytes i (Bits 0 0) within ∙ rw (is, none, rest) refl

pub number_of-part : (bytes : List Byte) (i : ℕ) (p : Ptr) (j : ℕ) → i < length bytes → get_or bytes i (Bits 0 0) ≡ Part p j → number_of_bytes (drop i bytes) ≡ None
unfolding number_of_bytes
number_of-part bytes i p j within is = at_drop_more number_of_bytes bytes i (Bits 0 0) within ∙ rw is refl

with-poison : (b m : ℕ) (bytes : List Byte) → (m ≡ 0 → ⊥) → number_of_bytes (Bits b m ∷ bytes) ≡ None
unfolding number_of_bytes
with-poison b zero bytes some = absurd (some refl)
with-poison b (suc m) bytes some = refl

pub number_of-poison : (bytes : List Byte) (i b m : ℕ) → i < length bytes → get_or bytes i (Bits 0 0) ≡ Bits b m → (m ≡ 0 → ⊥) → number_of_bytes (drop i bytes) ≡ None
number_of-poison bytes i b m within is some = at_drop_more number_of_bytes bytes i (Bits 0 0) within ∙ rw is (with-poison b m (drop (i + 1) bytes) some)

-- a byte that is no number, at an index or later, is met from the start too
pub number_of-none : (bytes : List Byte) (i : ℕ) → number_of_bytes (drop i bytes) ≡ None → number_of_bytes bytes ≡ None
unfolding number_of_bytes
number_of-none bytes zero none = none
number_of-none [] (suc i) none = none
number_of-none (Bits b zero ∷ bytes) (suc i) none = rw (number_of-none bytes i none) refl
number_of-none (Bits b (suc m) ∷ bytes) (suc i) none = refl
number_of-none (Part p j ∷ bytes) (suc i) none = refl

-- ---- how large the number gets

pub number-below : (b a k : ℕ) → b < 256 → a < 256 ^ k → b + 256 * a < 256 ^ suc k
number-below b a k byte small =
    let whole : 256 ^ suc k ≡ 256 ^ k * 256 = pow-suc 256 k in
    let more : (a + 1) * 256 ≤ 256 ^ k * 256 = mul-le-mul_right 256 (let h : a + 1 ≤ 256 ^ k = omega arith in h) in
    omega (arith, whole, more)

pub number-room : (a k : ℕ) → a < 256 ^ k → k ≤ 7 → 256 * a + 255 < 2 ^ 64
number-room a k small few =
    let most : 256 ^ k ≤ 256 ^ 7 = pow-le-pow_right (let h : 0 < 256 = omega arith in h) few in
    omega (arith, most)

-- ---- bytes that are written one by one

pub paste-byte : (xs bytes : List Byte) (from k : ℕ) (b : Byte) → from + length bytes ≤ length xs → slice_get bytes k ≡ Some b → set (paste xs from bytes k) (from + k) b ≡ paste xs from bytes (k + 1)
paste-byte xs bytes from k b room is =
    let within : k < length bytes = slice_get_within bytes k b is in
    ap (set (paste xs from bytes k) (from + k)) (sym (get_or_from_slice_get bytes k b b is)) ∙ paste_more xs from bytes k b (omega arith) within

pub paste-all : (xs bytes : List Byte) (from k : ℕ) → k ≡ length bytes → paste xs from bytes k ≡ take from xs ++ (bytes ++ drop (from + length bytes) xs)
paste-all xs bytes from k all = paste_all xs from bytes k all ∙ ap (λ n. take from xs ++ (bytes ++ drop (from + n) xs)) all
