-- The signature of a clause within another has no bit that the other's has not.
use Rattle.log_tidy.proofs.Common.{ℕ, zero, suc, ◌≡◌, ◌<◌, ◌+◌, ◌*◌, ◌/◌, ◌%◌, ◌^◌, inl, inr, List, [], ◌∷◌, ◌++◌, length, get_or, take, take_more, arith, sym, ap, ap₂, refl, ◌∙◌, Lit, Has, ContainsClause, bit_or, Covers, bits, signature, slot}
use Rattle.std.proofs.Common.{mod-lt, div-add-mod', one-mul}
use Rattle.std.proofs.lemmas.Nat.{or_comm, or_shr, or_mod, shl_whole}
use lib.Arith.{bin_ind}
use lib.Bits.{or_self, or_zero_r}

by_digits : (a b : ℕ) → a / 2 ≡ b / 2 → a % 2 ≡ b % 2 → a ≡ b
by_digits a b high low = sym (div-add-mod' a 2) ∙ (ap₂ (λ x y. x * 2 + y) high low ∙ div-add-mod' b 2)

digit_assoc : (x y z : ℕ) → x < 2 → y < 2 → z < 2 → bit_or (bit_or x y) z ≡ bit_or x (bit_or y z)
digit_assoc zero y z hx hy hz = refl
digit_assoc (suc zero) zero z hx hy hz = refl
digit_assoc (suc zero) (suc zero) zero hx hy hz = refl
digit_assoc (suc zero) (suc zero) (suc zero) hx hy hz = refl
digit_assoc (suc zero) (suc zero) (suc (suc z)) hx hy hz = absurd (omega (arith, hz))
digit_assoc (suc zero) (suc (suc y)) z hx hy hz = absurd (omega (arith, hy))
digit_assoc (suc (suc x)) y z hx hy hz = absurd (omega (arith, hx))

pub or_assoc : (a b c : ℕ) → bit_or (bit_or a b) c ≡ bit_or a (bit_or b c)
or_assoc = bin_ind (λ (n : ℕ). (b c : ℕ) → bit_or (bit_or n b) c ≡ bit_or n (bit_or b c)) (λ b c. refl)
    (λ n ih b c. by_digits (bit_or (bit_or n b) c) (bit_or n (bit_or b c))
    (or_shr (bit_or n b) c 1 ∙ (ap (λ (x : ℕ). bit_or x (c / 2)) (or_shr n b 1) ∙ (ih (b / 2) (c / 2)
    ∙ sym (or_shr n (bit_or b c) 1 ∙ ap (bit_or (n / 2)) (or_shr b c 1)))))
    (or_mod (bit_or n b) c 1 ∙ (ap (λ (x : ℕ). bit_or x (c % 2)) (or_mod n b 1)
    ∙ (digit_assoc (n % 2) (b % 2) (c % 2) (mod-lt n (omega arith)) (mod-lt b (omega arith)) (mod-lt c (omega arith))
    ∙ sym (or_mod n (bit_or b c) 1 ∙ ap (bit_or (n % 2)) (or_mod b c 1))))))

-- the bit of one more literal
bits-last : (half : ℕ) (c : List Lit) (l : Lit) → bits half (c ++ l ∷ []) ≡ bit_or (bits half c) (2 ^ slot half l)
bits-last half [] l = or_zero_r (2 ^ slot half l)
bits-last half (k ∷ ks) l =
    ap (bit_or (2 ^ slot half k)) (bits-last half ks l) ∙ sym (or_assoc (2 ^ slot half k) (bits half ks) (2 ^ slot half l))

pub bits-more : (half : ℕ) (c : List Lit) (i : ℕ) (d : Lit) (so_far k : ℕ) → i < length c → k ≡ slot half (get_or c i d) → k < 64 → so_far ≡ bits half (take i c)
    → bit_or so_far (1 * 2 ^ k % 18446744073709551616) ≡ bits half (take (i + 1) c)
bits-more half c i d so_far k lt place within is =
    let l = get_or c i d in
    ap₂ bit_or is (shl_whole 1 1 k 64 (omega arith) (omega (arith, within)) ∙ (one-mul (2 ^ k) ∙ ap (λ n. 2 ^ n) place))
    ∙ (sym (bits-last half (take i c) l) ∙ ap (bits half) (sym (take_more c i d lt)))

-- a literal's bit is set
bit-within : (half : ℕ) (c : List Lit) (l : Lit) → Has c l → bit_or (2 ^ slot half l) (bits half c) ≡ bits half c
bit-within half [] l h = absurd h
bit-within half (k ∷ ks) l (inl same) =
    let bit = 2 ^ slot half k in
    ap (λ (m : Lit). bit_or (2 ^ slot half m) (bit_or bit (bits half ks))) (sym same)
    ∙ (sym (or_assoc bit bit (bits half ks)) ∙ ap (λ n. bit_or n (bits half ks)) (or_self bit))
bit-within half (k ∷ ks) l (inr g) =
    let bit = 2 ^ slot half k in
    let own = 2 ^ slot half l in
    sym (or_assoc own bit (bits half ks))
    ∙ (ap (λ n. bit_or n (bits half ks)) (or_comm own bit) ∙ (or_assoc bit own (bits half ks) ∙ ap (bit_or bit) (bit-within half ks l g)))

pub bits-within : (half : ℕ) (whole part : List Lit) → ContainsClause whole part → bit_or (bits half part) (bits half whole) ≡ bits half whole
bits-within half whole [] contains = refl
bits-within half whole (l ∷ ls) contains =
    or_assoc (2 ^ slot half l) (bits half ls) (bits half whole)
    ∙ (ap (bit_or (2 ^ slot half l)) (bits-within half whole ls (λ k g. contains k (inr g))) ∙ bit-within half whole l (contains l (inl refl)))

pub signature-covers : (whole part : List Lit) → ContainsClause whole part → Covers (signature whole) (signature part)
signature-covers whole part contains = (bits-within 32 whole part contains, bits-within 31 whole part contains)
