-- What `clap` sees in a word, by its kind.
use Rattle.tv_cli.proofs.Common.{◌≡◌, ◌==◌, ℕ, Bool, true, false, refl, sym, ap, subst, ◌∙◌, arith, List, [], ◌∷◌, length, take, Option, Some, None, slice_get, IsUtf8, encode_utf8_all, eqb-true, list_any, encode_utf8, position_or_len, before_first, bytes_eq, chars, chars_after, continuation_len, lead_bits, and-false, encodes-chars, long_of, short_of, Text, Kind, kind_of, kind_behind, is_equals, end, attached, separate, dashed, plain, or_parts}
use Rattle.std.proofs.Math.Seq.{take-length}

abbrev pub ends_options : Text → Bool
ends_options word = bytes_eq word (45 ∷ 45 ∷ [])

pub record IsPlain (word : Text) : Type 0 where
  pub end : ends_options word ≡ false
  pub long : long_of word ≡ None
  pub short : short_of word ≡ None

pub record IsDashed (word : Text) : Type 0 where
  pub head : ℕ
  pub tail : Text
  pub first : ℕ
  pub end : ends_options word ≡ false
  pub long : long_of word ≡ None
  pub short : short_of word ≡ Some (head ∷ tail)
  pub char : slice_get (chars (head ∷ tail)) 0 ≡ Some first

pub record IsLong (word name : Text) (value : Option Text) : Type 0 where
  pub end : ends_options word ≡ false
  pub long : long_of word ≡ Some (name, value)

abbrev pub Met : Kind → Text → Type 0
Met end word = ends_options word ≡ true
Met (attached name value) word = IsLong word name (Some value)
Met (separate name) word = IsLong word name None
Met dashed word = IsDashed word
Met plain word = IsPlain word

-- the characters after a hyphen
first_char : (b : ℕ) (bs : Text) → IsUtf8 (45 ∷ b ∷ bs) → (x : ℕ) × (slice_get (chars (b ∷ bs)) 0 ≡ Some x)
unfolding chars encode_utf8
first_char b bs utf8 = go (chars_after (continuation_len b) (lead_bits b) bs) refl
  where
    go : (cs : List ℕ) → chars_after (continuation_len b) (lead_bits b) bs ≡ cs → (x : ℕ) × (slice_get cs 0 ≡ Some x)
    go [] e =
        let whole : encode_utf8_all (45 ∷ []) ≡ 45 ∷ b ∷ bs = ap (λ xs. encode_utf8_all (45 ∷ xs)) (sym e) ∙ encodes-chars (45 ∷ b ∷ bs) utf8 in
        let short : 1 ≡ length (45 ∷ b ∷ bs) = ap length whole in
        absurd (omega (arith, short))
    go (c ∷ cs) e = (c, refl)

one : (b : ℕ) (x : Bool) → (b == 45) ≡ x → IsPlain (b ∷ [])
one b true e = record { end = and-false (b == 45); long = rw e refl; short = rw e refl }
one b false e = record { end = and-false (b == 45); long = rw e refl; short = rw e refl }

-- a name without `=` is whole
nowhere : (xs : Text) → list_any is_equals xs ≡ false → position_or_len is_equals xs ≡ length xs
nowhere [] e = refl
nowhere (x ∷ xs) e =
    let parts = or_parts _ _ e in
    let other : (x == 61) ≡ false = parts.0 in
    let rest : position_or_len is_equals xs ≡ length xs = nowhere xs parts.1 in
    rw other (omega (arith, rest))

whole : (xs : Text) → list_any is_equals xs ≡ false → before_first is_equals xs ≡ xs
whole xs e = ap (λ n. take n xs) (nowhere xs e) ∙ take-length xs

behind : (b c : ℕ) (word : Text) → (b == 45) ≡ true → (c == 45) ≡ true → Met (kind_behind word) (b ∷ c ∷ word)
behind b c [] p q = rw (p, q) refl
behind b c (x ∷ xs) p q = go (list_any is_equals (x ∷ xs)) refl
  where
    go : (has : Bool) → list_any is_equals (x ∷ xs) ≡ has → Met (kind_behind (x ∷ xs)) (b ∷ c ∷ x ∷ xs)
    go true e = rw e (record { end = rw (p, q) refl; long = rw (p, q, e) refl })
    go false e = rw e (record { end = rw (p, q) refl; long = rw (p, q, e) (ap (λ n. Some (n, None)) (whole (x ∷ xs) e)) })

one_hyphen : (b c : ℕ) (word : Text) → IsUtf8 (b ∷ c ∷ word) → (b == 45) ≡ true → (c == 45) ≡ false → IsDashed (b ∷ c ∷ word)
one_hyphen b c word utf8 p q =
    let is : b ≡ 45 = eqb-true b 45 p in
    let char = first_char c word (subst (λ x. IsUtf8 (x ∷ c ∷ word)) is utf8) in
    record { head = c; tail = word; first = char.0; end = rw (p, q) refl; long = rw (p, q) refl; short = rw (p, q) refl; char = char.1 }

two : (b c : ℕ) (word : Text) (x y : Bool) → IsUtf8 (b ∷ c ∷ word) → (b == 45) ≡ x → (c == 45) ≡ y → Met (kind_of (b ∷ c ∷ word)) (b ∷ c ∷ word)
two b c word true true utf8 p q = rw (p, q) (behind b c word p q)
two b c word true false utf8 p q = rw (p, q) (one_hyphen b c word utf8 p q)
two b c word false y utf8 p q = rw p (record { end = rw p refl; long = rw p refl; short = rw p refl })

pub met : (word : Text) → IsUtf8 word → Met (kind_of word) word
met [] utf8 = record { end = refl; long = refl; short = refl }
met (b ∷ []) utf8 = one b (b == 45) refl
met (b ∷ c ∷ word) utf8 = two b c word (b == 45) (c == 45) utf8 refl refl
