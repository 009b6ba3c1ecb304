-- Orders of numbers, and their truths.
use Rattle.inst_terms.proofs.Common.{ℕ, ◌≡◌, ◌<◌, ◌-◌, ◌^◌, not, nat_le, nat_lt, ℤ, pos, negsuc, inl, inr, refl, ◌∙◌, arith, int_lt, int_le, cases_lt, lt-ltb, le-ltb, le-leb, lt-leb, is_less_signed, signed_of}
use Rattle.inst_terms.proofs.Halves.{signed_low, signed_high}

pub not-less : (a b : ℕ) → not (nat_lt b a) ≡ nat_le a b
not-less a b = elim (cases_lt b a) as (λ _. not (nat_lt b a) ≡ nat_le a b) [
  | inl less ↦ rw (lt-ltb b a less, lt-leb a b less) refl
  | inr more ↦ rw (le-ltb b a more, le-leb a b more) refl
]

pub not-less-integer : (x y : ℤ) → not (int_lt y x) ≡ int_le x y
not-less-integer (pos a) (pos b) = not-less a b
not-less-integer (pos a) (negsuc b) = refl
not-less-integer (negsuc a) (pos b) = refl
not-less-integer (negsuc a) (negsuc b) = not-less b a

turned-less : (a b m : ℕ) → a < m → b < m → nat_lt a b ≡ nat_lt (m - b - 1) (m - a - 1)
turned-less a b m la lb = elim (cases_lt a b) as (λ _. nat_lt a b ≡ nat_lt (m - b - 1) (m - a - 1)) [
  | inl less ↦ rw (lt-ltb a b less, lt-ltb (m - b - 1) (m - a - 1) (omega (arith, less, lb))) refl
  | inr more ↦ rw (le-ltb a b more, le-ltb (m - b - 1) (m - a - 1) (omega (arith, more, la))) refl
]

pub less-signed : (n a b : ℕ) → a < 2 ^ n → b < 2 ^ n → is_less_signed n a b ≡ int_lt (signed_of n a) (signed_of n b)
less-signed n a b ba bb = elim (cases_lt a (2 ^ (n - 1))) as (λ _. is_less_signed n a b ≡ int_lt (signed_of n a) (signed_of n b)) [
  | inl la ↦ elim (cases_lt b (2 ^ (n - 1))) as (λ _. is_less_signed n a b ≡ int_lt (signed_of n a) (signed_of n b)) [
    | inl lb ↦ rw (lt-leb (2 ^ (n - 1)) a la, lt-leb (2 ^ (n - 1)) b lb, signed_low n a la, signed_low n b lb) refl
    | inr hb ↦ rw (lt-leb (2 ^ (n - 1)) a la, le-leb (2 ^ (n - 1)) b hb, signed_low n a la, signed_high n b hb bb) refl
  ]
  | inr ha ↦ elim (cases_lt b (2 ^ (n - 1))) as (λ _. is_less_signed n a b ≡ int_lt (signed_of n a) (signed_of n b)) [
    | inl lb ↦ rw (le-leb (2 ^ (n - 1)) a ha, lt-leb (2 ^ (n - 1)) b lb, signed_high n a ha ba, signed_low n b lb) refl
    | inr hb ↦ rw (le-leb (2 ^ (n - 1)) a ha, le-leb (2 ^ (n - 1)) b hb, signed_high n a ha ba, signed_high n b hb bb) (turned-less a b (2 ^ n) ba bb)
  ]
]
