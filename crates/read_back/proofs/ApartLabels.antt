-- The class of a name with a colon after it.
use Rattle.read_back.proofs.Common.{◌≡◌, ℕ, Bool, true, false, eqb, List, [], ◌∷◌, ◌++◌, Some, refl, ap, ◌∙◌, append_assoc, inl, inr, arith, list_all, flat_map, cases_Bool, and_parts, and_right, nat_tests, is_digit, begins_word, is_name_byte, begins_name, is_mark_byte, nothing, byte, many, maybe, is_digits, is_number, is_word, is_quoted, is_plain_name, is_name, is_word_or_number, is_label, is_mark, class_of, Name, escaped, is_bare, name_text, or_from}
use Rattle.std.proofs.Common.{◌||◌}
use Rattle.ir_lexer.specs.declared.token.Kind.TheVariants as kind
use Rattle.ir_lexer.specs.Parts.{one}
use Rattle.ir_tree.specs.declared.name.Name.TheVariants as name
use Rattle.read_back.proofs.ApartClasses.{HasDigits, bare, digits-names, quoted-then}

-- ---- tests that no bytes with a colon after them pass

abbrev colon : List ℕ
colon = 58 ∷ []

abbrev Avoids : (List ℕ → Bool) → Type 0
Avoids test = (x : List ℕ) → test (x ++ colon) ≡ false

nothing_avoids : Avoids nothing
nothing_avoids [] = refl
nothing_avoids (b ∷ bs) = refl

one_avoids : (p : ℕ → Bool) (k : List ℕ → Bool) → p 58 ≡ false → Avoids k → Avoids (one p k)
one_avoids p k other avoids [] = rw other refl
one_avoids p k other avoids (b ∷ bs) = and_right (p b) (k (bs ++ colon)) (avoids bs)

many_avoids : (p : ℕ → Bool) (k : List ℕ → Bool) → p 58 ≡ false → Avoids k → Avoids (many p k)
many_avoids p k other avoids [] = rw other (avoids [])
many_avoids p k other avoids (b ∷ bs) =
    elim (cases_Bool (p b)) [
      | inl t ↦ rw t (many_avoids p k other avoids bs)
      | inr f ↦ rw f (avoids (b ∷ bs))
    ]

maybe_avoids : (p : ℕ → Bool) (k : List ℕ → Bool) → p 58 ≡ false → Avoids k → Avoids (maybe p k)
maybe_avoids p k other avoids [] = rw other (avoids [])
maybe_avoids p k other avoids (b ∷ bs) =
    elim (cases_Bool (p b)) [
      | inl t ↦ rw t (avoids bs)
      | inr f ↦ rw f (avoids (b ∷ bs))
    ]

all_avoids : (p : ℕ → Bool) → p 58 ≡ false → (x : List ℕ) → list_all p (x ++ colon) ≡ false
all_avoids p other [] = rw other refl
all_avoids p other (b ∷ bs) = and_right (p b) (list_all p (bs ++ colon)) (all_avoids p other bs)

digits_avoids : Avoids is_digits
digits_avoids [] = refl
digits_avoids (b ∷ bs) = all_avoids is_digit refl (b ∷ bs)

number_avoids : Avoids is_number
number_avoids = maybe_avoids (λ b. eqb b 45) is_digits refl digits_avoids

word_avoids : Avoids is_word
word_avoids = one_avoids begins_word (many is_name_byte nothing) refl (many_avoids is_name_byte nothing refl nothing_avoids)

plain_avoids : Avoids is_plain_name
plain_avoids = one_avoids begins_name (many is_name_byte nothing) refl (many_avoids is_name_byte nothing refl nothing_avoids)

dots_avoids : Avoids (byte 46 (byte 46 (byte 46 nothing)))
dots_avoids = one_avoids (λ b. eqb b 46) (byte 46 (byte 46 nothing)) refl (one_avoids (λ b. eqb b 46) (byte 46 nothing) refl (one_avoids (λ b. eqb b 46) nothing refl nothing_avoids))

-- ---- labels of name bytes

no_mark : (b : ℕ) (bs : List ℕ) → is_mark ((b ∷ bs) ++ colon) ≡ false
no_mark b bs = or_from _ _ (and_right (is_mark_byte b) (nothing (bs ++ colon)) (nothing_avoids bs)) (dots_avoids (b ∷ bs))

-- the signs of names other than `$`
no_sign : (b : ℕ) → is_name_byte b ≡ true → (eqb b 37 ≡ false) × (eqb b 64 ≡ false) × (eqb b 33 ≡ false) × (eqb b 35 ≡ false) × (eqb b 94 ≡ false) × (eqb b 34 ≡ false)
no_sign b h = (grind (arith, nat_tests), grind (arith, nat_tests), grind (arith, nat_tests), grind (arith, nat_tests), grind (arith, nat_tests), grind (arith, nat_tests))

no_quote : (bs : List ℕ) → list_all is_name_byte bs ≡ true → is_quoted (bs ++ colon) ≡ false
no_quote [] h = refl
no_quote (b ∷ bs) h = let e = and_parts (is_name_byte b) (list_all is_name_byte bs) h in let o = no_sign b e.0 in rw o.5 refl

no_name : (bs : List ℕ) → list_all is_name_byte bs ≡ true → is_name (bs ++ colon) ≡ false
no_name bs h = or_from _ _ (or_from _ _ (digits_avoids bs) (plain_avoids bs)) (no_quote bs h)

other_byte : (w b : ℕ) (k : List ℕ → Bool) (bs : List ℕ) → eqb b w ≡ false → byte w k (b ∷ bs) ≡ false
other_byte w b k bs e = rw e refl

all_some : (k : List ℕ → Bool) (bs rest : List ℕ) → list_all is_name_byte bs ≡ true → many is_name_byte k (bs ++ rest) ≡ many is_name_byte k rest
all_some k [] rest h = refl
all_some k (b ∷ bs) rest h = let e = and_parts (is_name_byte b) (list_all is_name_byte bs) h in rw e.0 (all_some k bs rest e.1)

plain_label : (b : ℕ) (bs : List ℕ) → is_name_byte b ≡ true → list_all is_name_byte bs ≡ true → is_label ((b ∷ bs) ++ colon) ≡ true
plain_label b bs h others = rw (h, all_some (byte 58 nothing) bs colon others) refl

label_by : (x : List ℕ) → is_mark x ≡ false → is_word x ≡ false → is_number x ≡ false → byte 37 is_name x ≡ false → byte 64 is_name x ≡ false → byte 36 is_name x ≡ false
    → byte 33 is_word_or_number x ≡ false → byte 35 is_word_or_number x ≡ false → byte 94 is_number x ≡ false → is_label x ≡ true → class_of x ≡ Some kind.Label
label_by x m w n l g c e h u t = rw (m, w, n, l, g, c, e, h, u, t) refl

plain-label-class : (b : ℕ) (bs : List ℕ) → is_name_byte b ≡ true → list_all is_name_byte bs ≡ true → class_of ((b ∷ bs) ++ colon) ≡ Some kind.Label
plain-label-class b bs h others =
    let o = no_sign b h in
    label_by ((b ∷ bs) ++ colon) (no_mark b bs) (word_avoids (b ∷ bs)) (number_avoids (b ∷ bs))
    (other_byte 37 b is_name (bs ++ colon) o.0) (other_byte 64 b is_name (bs ++ colon) o.1) (and_right (eqb b 36) (is_name (bs ++ colon)) (no_name bs others))
    (other_byte 33 b is_word_or_number (bs ++ colon) o.2) (other_byte 35 b is_word_or_number (bs ++ colon) o.3) (other_byte 94 b is_number (bs ++ colon) o.4)
    (plain_label b bs h others)

digits_label : (ds : List ℕ) → is_digits ds ≡ true → class_of (ds ++ colon) ≡ Some kind.Label
digits_label [] h = absurd cc
digits_label (d ∷ ds) h =
    let e = and_parts (is_name_byte d) (list_all is_name_byte ds) (digits-names (d ∷ ds) h) in
    plain-label-class d ds e.0 e.1

bare_label : (bs : List ℕ) → is_bare bs ≡ true → class_of (bs ++ colon) ≡ Some kind.Label
bare_label [] h = absurd cc
bare_label (b ∷ bs) h = let e = bare b bs h in plain-label-class b bs e.here e.others

-- ---- labels in quotes

quoted_label : (bs : List ℕ) → class_of (34 ∷ (flat_map escaped bs ++ 34 ∷ colon)) ≡ Some kind.Label
quoted_label bs = let e = quoted-then (byte 58 nothing) bs colon in rw e refl

pub label-class : (n : Name) → HasDigits n → class_of (name_text n ++ 58 ∷ []) ≡ Some kind.Label
label-class (name.Number ds) h = digits_label ds h
label-class (name.Word bytes) h =
    elim (cases_Bool (is_bare bytes)) [
      | inl t ↦ rw t (bare_label bytes t)
      | inr f ↦
          let e : (flat_map escaped bytes ++ 34 ∷ []) ++ colon ≡ flat_map escaped bytes ++ 34 ∷ colon = append_assoc (flat_map escaped bytes) (34 ∷ []) colon in
          rw f (ap (λ (t : List ℕ). class_of (34 ∷ t)) e ∙ quoted_label bytes)
    ]
