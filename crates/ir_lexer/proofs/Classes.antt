-- The table of classes is held against the definitions at each of the 256 bytes, by computing.
use Rattle.ir_lexer.proofs.Common.{◌≡◌, ℕ, zero, suc, ◌<◌, Bool, true, false, ◌&&◌, ◌||◌, not, eqb, get_or, refl, arith, inl, inr, is_name_byte, is_blank, begins_name, is_lone_mark, begins_plain_word, begins_number}
use Rattle.std.specs.Prelude.{nat_le}
use Rattle.std.specs.Bool.{beq}
use Rattle.std.proofs.lemmas.Bool.{cases_eq}
use Rattle.ir_lexer.specs.declared.bytes.TheConstants.{CLASSES}

-- the two tests agree below n
agree_below : (ℕ → Bool) → (ℕ → Bool) → ℕ → Bool
agree_below f g zero = true
agree_below f g (suc n) = beq (f n) (g n) && agree_below f g n

both_of : (x y rest : Bool) → (beq x y && rest) ≡ true → (x ≡ y) × (rest ≡ true)
both_of true true rest h = (refl, h)
both_of true false rest h = cc
both_of false true rest h = cc
both_of false false rest h = (refl, h)

agree_at : (f g : ℕ → Bool) (n : ℕ) → agree_below f g n ≡ true → (b : ℕ) → b < n → f b ≡ g b
unfolding agree_below
agree_at f g zero h b lt = absurd (omega arith)
agree_at f g (suc n) h b lt =
    let both = both_of (f n) (g n) (agree_below f g n) h in
    elim (cases_eq b n) [ inl same ↦ rw same both.0 | inr other ↦ agree_at f g n both.1 b (omega arith) ]

-- the class of a byte
abbrev pub class : ℕ → ℕ
class b = get_or CLASSES b 0

pub blank : (b : ℕ) → b < 256 → eqb (class b) 95 ≡ is_blank b
unfolding agree_below
blank b lt = agree_at (λ k. eqb (class k) 95) is_blank 256 refl b lt

pub name_byte : (b : ℕ) → b < 256 → nat_le 97 (class b) ≡ is_name_byte b
unfolding agree_below
name_byte b lt = agree_at (λ k. nat_le 97 (class k)) is_name_byte 256 refl b lt

pub name_start : (b : ℕ) → b < 256 → (nat_le 97 (class b) && not (eqb (class b) 110)) ≡ begins_name b
unfolding agree_below
name_start b lt = agree_at (λ k. nat_le 97 (class k) && not (eqb (class k) 110)) begins_name 256 refl b lt

pub lone_mark : (b : ℕ) → b < 256 → eqb (class b) 44 ≡ is_lone_mark b
unfolding agree_below
lone_mark b lt = agree_at (λ k. eqb (class k) 44) is_lone_mark 256 refl b lt

pub plain_word : (b : ℕ) → b < 256 → eqb (class b) 119 ≡ begins_plain_word b
unfolding agree_below
plain_word b lt = agree_at (λ k. eqb (class k) 119) begins_plain_word 256 refl b lt

pub number : (b : ℕ) → b < 256 → (eqb (class b) 110 || eqb (class b) 109) ≡ begins_number b
unfolding agree_below
number b lt = agree_at (λ k. eqb (class k) 110 || eqb (class k) 109) begins_number 256 refl b lt
