-- The longest of the classes' longest prefixes is the longest token.
use Rattle.ir_lexer.proofs.Common.{◌≡◌, ℕ, zero, suc, ◌-◌, ◌<◌, ◌≤◌, Bool, true, false, cond, ◌||◌, nat_lt, List, [], ◌∷◌, length, take, Option, Some, None, refl, sym, ap, subst, ◌∙◌, inl, inr, arith, IfSome, option_and_then, list_all, cases_Bool, cases_lt, lt-ltb, le-ltb, length-drop, Kind, is_digit, begins_word, is_name_byte, begins_name, is_hexadecimal_digit, is_float_kind, is_sign, is_inside_quotes, is_mark_byte, nothing, one, byte, behind, many, some, behind_one, maybe, after_one, after_byte, after_some, shorter, after_digits, after_number, after_word, after_quoted, after_plain_name, after_name, after_named, after_tagged, after_caret, after_plain_label, after_quoted_label, after_label, after_exponent, after_float, after_hexadecimal, after_string, after_dots, after_mark, longer, front_token, longest, longest_token}
use Rattle.ir_lexer.specs.declared.token.Kind.TheVariants as kind
use Rattle.ir_lexer.specs.Spelling.{is_digits, is_number, is_word, quoted, is_quoted, is_plain_name, is_name, is_word_or_number, is_label, is_exponent, is_exponent_or_nothing, is_float, is_hexadecimal, is_string, is_mark, class_of}
use Rattle.ir_lexer.proofs.Fronts.{IsLongest, nothing-longest, one-longest, many-longest, some-longest, maybe-longest, either-longest, optional-longest, same-longest}

-- ---- each class

all-many : (p : ℕ → Bool) (bs : List ℕ) → list_all p bs ≡ nothing (behind p bs)
all-many p [] = refl
all-many p (b ∷ bs) =
    elim (cases_Bool (p b)) [
      | inl t ↦ rw (t, all-many p bs) refl
      | inr no_p ↦ rw no_p refl
    ]

digits-some : (t : List ℕ) → is_digits t ≡ some is_digit nothing t
digits-some [] = refl
digits-some (b ∷ bs) =
    elim (cases_Bool (is_digit b)) [
      | inl t ↦ rw (t, all-many is_digit bs) refl
      | inr no_digit ↦ rw no_digit refl
    ]

and_then-some : (o : Option (List ℕ)) → option_and_then (λ r. Some r) o ≡ o
and_then-some None = refl
and_then-some (Some r) = refl

digits-longest : (text : List ℕ) → IsLongest is_digits text (after_digits text)
unfolding after_digits
digits-longest text =
    same-longest (some is_digit nothing) is_digits text (after_some is_digit text) digits-some
    (subst (IsLongest (some is_digit nothing) text) (and_then-some (after_some is_digit text)) (some-longest is_digit nothing (λ r. Some r) nothing-longest text))

number-longest : (text : List ℕ) → IsLongest is_number text (after_number text)
unfolding after_number
number-longest text = maybe-longest _ is_digits text _ (digits-longest (behind_one _ text))

word-longest : (text : List ℕ) → IsLongest is_word text (after_word text)
unfolding after_word
word-longest text = one-longest begins_word (many is_name_byte nothing) (λ r. Some (behind is_name_byte r)) (λ r. many-longest is_name_byte nothing r (Some (behind is_name_byte r)) (nothing-longest (behind is_name_byte r))) text

plain_name-longest : (text : List ℕ) → IsLongest is_plain_name text (after_plain_name text)
unfolding after_plain_name
plain_name-longest text = one-longest begins_name (many is_name_byte nothing) (λ r. Some (behind is_name_byte r)) (λ r. many-longest is_name_byte nothing r (Some (behind is_name_byte r)) (nothing-longest (behind is_name_byte r))) text

byte-longest : (wanted : ℕ) (k : List ℕ → Bool) (f : List ℕ → Option (List ℕ)) → ((r : List ℕ) → IsLongest k r (f r)) → (text : List ℕ) → IsLongest (byte wanted k) text (option_and_then f (after_byte wanted text))
byte-longest wanted k f h text = one-longest _ k f h text

quoted_then-longest : (k : List ℕ → Bool) (f : List ℕ → Option (List ℕ)) → ((r : List ℕ) → IsLongest k r (f r)) → (text : List ℕ) → IsLongest (quoted k) text (option_and_then (λ inside. option_and_then f (after_byte 34 (behind is_inside_quotes inside))) (after_byte 34 text))
quoted_then-longest k f h text =
    byte-longest 34 (many is_inside_quotes (byte 34 k)) (λ inside. option_and_then f (after_byte 34 (behind is_inside_quotes inside)))
    (λ inside. many-longest is_inside_quotes (byte 34 k) inside _ (byte-longest 34 k f h (behind is_inside_quotes inside))) text

and_then-last : (g : List ℕ → Option (List ℕ)) (o : Option (List ℕ)) → option_and_then (λ x. option_and_then (λ r. Some r) (g x)) o ≡ option_and_then g o
and_then-last g None = refl
and_then-last g (Some x) = and_then-some (g x)

and_then-assoc : (f g : List ℕ → Option (List ℕ)) (o : Option (List ℕ)) → option_and_then (λ x. option_and_then f (g x)) o ≡ option_and_then f (option_and_then g o)
and_then-assoc f g None = refl
and_then-assoc f g (Some x) = refl

quoted-longest : (text : List ℕ) → IsLongest is_quoted text (after_quoted text)
unfolding after_quoted
quoted-longest text =
    subst (IsLongest is_quoted text) (and_then-last (λ inside. after_byte 34 (behind is_inside_quotes inside)) (after_byte 34 text))
    (quoted_then-longest nothing (λ r. Some r) nothing-longest text)

name-longest : (text : List ℕ) → IsLongest is_name text (after_name text)
unfolding after_name
name-longest text =
    either-longest (λ t. is_digits t || is_plain_name t) is_quoted text (shorter (after_digits text) (after_plain_name text)) (after_quoted text)
    (either-longest is_digits is_plain_name text (after_digits text) (after_plain_name text) (digits-longest text) (plain_name-longest text)) (quoted-longest text)

named-longest : (sign : ℕ) (text : List ℕ) → IsLongest (byte sign is_name) text (after_named sign text)
unfolding after_named
named-longest sign text = byte-longest sign is_name after_name name-longest text

word_or_number-longest : (text : List ℕ) → IsLongest is_word_or_number text (shorter (after_word text) (after_number text))
word_or_number-longest text = either-longest is_word is_number text (after_word text) (after_number text) (word-longest text) (number-longest text)

tagged-longest : (sign : ℕ) (text : List ℕ) → IsLongest (byte sign is_word_or_number) text (after_tagged sign text)
unfolding after_tagged
tagged-longest sign text = byte-longest sign is_word_or_number (λ r. shorter (after_word r) (after_number r)) word_or_number-longest text

caret-longest : (text : List ℕ) → IsLongest (byte 94 is_number) text (after_caret text)
unfolding after_caret
caret-longest text = byte-longest 94 is_number after_number number-longest text

last_byte-longest : (wanted : ℕ) (text : List ℕ) → IsLongest (byte wanted nothing) text (after_byte wanted text)
last_byte-longest wanted text = subst (IsLongest (byte wanted nothing) text) (and_then-some (after_byte wanted text)) (byte-longest wanted nothing (λ r. Some r) nothing-longest text)

label-longest : (text : List ℕ) → IsLongest is_label text (after_label text)
unfolding after_label after_plain_label after_quoted_label after_quoted
label-longest text =
    either-longest (some is_name_byte (byte 58 nothing)) (quoted (byte 58 nothing)) text (after_plain_label text) (after_quoted_label text)
    (some-longest is_name_byte (byte 58 nothing) (after_byte 58) (last_byte-longest 58) text)
    (subst (IsLongest (quoted (byte 58 nothing)) text) (and_then-assoc (after_byte 58) (λ inside. after_byte 34 (behind is_inside_quotes inside)) (after_byte 34 text))
    (quoted_then-longest (byte 58 nothing) (after_byte 58) (last_byte-longest 58) text))

some_digits-longest : (text : List ℕ) → IsLongest (some is_digit nothing) text (after_digits text)
some_digits-longest text = same-longest is_digits (some is_digit nothing) text (after_digits text) (λ t. sym (digits-some t)) (digits-longest text)

exponent-longest : (text : List ℕ) → IsLongest is_exponent text (after_exponent text)
unfolding after_exponent
exponent-longest text =
    byte-longest 101 (one is_sign (some is_digit nothing)) (λ r. option_and_then after_digits (after_one is_sign r))
    (λ r. one-longest is_sign (some is_digit nothing) after_digits some_digits-longest r) text

float-longest : (text : List ℕ) → IsLongest is_float text (after_float text)
unfolding after_float after_digits
float-longest text =
    maybe-longest is_sign (some is_digit (byte 46 (some is_digit is_exponent_or_nothing))) text _
    (some-longest is_digit (byte 46 (some is_digit is_exponent_or_nothing)) _
    (λ r. byte-longest 46 (some is_digit is_exponent_or_nothing) _
    (λ s. some-longest is_digit is_exponent_or_nothing _ (λ e. optional-longest is_exponent e (after_exponent e) (exponent-longest e)) s) r) (behind_one is_sign text))

hexadecimal-longest : (text : List ℕ) → IsLongest is_hexadecimal text (after_hexadecimal text)
unfolding after_hexadecimal
hexadecimal-longest text =
    byte-longest 48 (byte 120 (maybe is_float_kind (some is_hexadecimal_digit nothing))) (λ r. option_and_then (λ d. after_some is_hexadecimal_digit (behind_one is_float_kind d)) (after_byte 120 r))
    (λ r. byte-longest 120 (maybe is_float_kind (some is_hexadecimal_digit nothing)) (λ d. after_some is_hexadecimal_digit (behind_one is_float_kind d))
    (λ d. maybe-longest is_float_kind (some is_hexadecimal_digit nothing) d _ (hex (behind_one is_float_kind d))) r) text
  where
    hex : (t : List ℕ) → IsLongest (some is_hexadecimal_digit nothing) t (after_some is_hexadecimal_digit t)
    hex t = subst (IsLongest (some is_hexadecimal_digit nothing) t) (and_then-some (after_some is_hexadecimal_digit t)) (some-longest is_hexadecimal_digit nothing (λ r. Some r) nothing-longest t)

string-longest : (text : List ℕ) → IsLongest is_string text (after_string text)
unfolding after_string
string-longest text = maybe-longest _ is_quoted text _ (quoted-longest (behind_one _ text))

mark-longest : (text : List ℕ) → IsLongest is_mark text (after_mark text)
unfolding after_mark after_dots
mark-longest text =
    either-longest (one is_mark_byte nothing) (byte 46 (byte 46 (byte 46 nothing))) text (after_one is_mark_byte text) (after_dots text)
    (subst (IsLongest (one is_mark_byte nothing) text) (and_then-some (after_one is_mark_byte text)) (one-longest is_mark_byte nothing (λ r. Some r) nothing-longest text))
    (byte-longest 46 (byte 46 (byte 46 nothing)) (λ r. option_and_then (after_byte 46) (after_byte 46 r)) (λ r. byte-longest 46 (byte 46 nothing) (after_byte 46) (last_byte-longest 46) r) text)

-- ---- the longest of them all

-- what the bytes spell by the classes so far, or else by this one
abbrev pub or_class : Option Kind → Bool → Kind → Option Kind
or_class (Some earlier) test k = Some earlier
or_class None test k = cond test (Some k) None

-- the longest prefix that is a token of some classes
pub record Nothing (class : List ℕ → Option Kind) (text : List ℕ) : Type 0 where
  pub none : (m : ℕ) → 0 < m → m ≤ length text → class (take m text) ≡ None

pub record Found (class : List ℕ → Option Kind) (text : List ℕ) (found : Kind × ℕ) : Type 0 where
  pub some : 0 < found.1
  pub within : found.1 ≤ length text
  pub here : class (take found.1 text) ≡ Some found.0
  pub past : (m : ℕ) → found.1 < m → m ≤ length text → class (take m text) ≡ None

abbrev pub IsFound : (List ℕ → Option Kind) → List ℕ → Option (Kind × ℕ) → Type 0
IsFound class text None = Nothing class text
IsFound class text (Some found) = Found class text found

neither : (o : Option Kind) (test : Bool) (k : Kind) → o ≡ None → test ≡ false → or_class o test k ≡ None
neither o test k e f = rw (e, f) refl

earlier_class : (o : Option Kind) (test : Bool) (k k' : Kind) → o ≡ Some k' → or_class o test k ≡ Some k'
earlier_class o test k k' e = rw e refl

this_class : (o : Option Kind) (test : Bool) (k : Kind) → o ≡ None → test ≡ true → or_class o test k ≡ Some k
this_class o test k e f = rw (e, f) refl

one_class : (class : List ℕ → Option Kind) (test : List ℕ → Bool) (k : Kind) (text : List ℕ) (found : Option (Kind × ℕ)) (o : Option (List ℕ)) → IsFound class text found → IsLongest test text o
    → IsFound (λ t. or_class (class t) (test t) k) text (longer (length text) found k o)
unfolding longer
one_class class test k text None None h n = record { none = λ m some within. neither _ _ k (h.none m some within) (n.none m within) }
one_class class test k text (Some found) None h n = record { some = h.some; within = h.within; here = earlier_class _ _ k _ h.here; past = λ m lt le. neither _ _ k (h.past m lt le) (n.none m le) }
one_class class test k text None (Some rest) h n =
    elim (cases_lt 0 (length text - length rest)) [
      | inl lt ↦ let yes_longer : nat_lt 0 (length text - length rest) ≡ true = lt-ltb _ _ lt in rw (yes_longer, len) (takes (omega (arith, len)))
      | inr ge ↦ let not_longer : nat_lt 0 (length text - length rest) ≡ false = le-ltb _ _ ge in rw not_longer (record { none = λ m some within. neither _ _ k (h.none m some within) (n.past m (omega (arith, len)) within) })
    ]
  where
    len : length text - length rest ≡ n.len
    len = omega (arith, ap length (sym n.behind) ∙ length-drop n.len text, n.within)

    takes : 0 < n.len → Found (λ t. or_class (class t) (test t) k) text (k, n.len)
    takes lt = record { some = lt; within = n.within; here = this_class _ _ k (h.none n.len lt n.within) n.passes; past = λ m past within. neither _ _ k (h.none m (omega arith) within) (n.past m past within) }
one_class class test k text (Some found) (Some rest) h n =
    elim (cases_lt found.1 (length text - length rest)) [
      | inl lt ↦ let yes_longer : nat_lt found.1 (length text - length rest) ≡ true = lt-ltb _ _ lt in rw (yes_longer, len) (takes (omega (arith, len)))
      | inr ge ↦ let not_longer : nat_lt found.1 (length text - length rest) ≡ false = le-ltb _ _ ge in rw not_longer (stays (omega (arith, len)))
    ]
  where
    len : length text - length rest ≡ n.len
    len = omega (arith, ap length (sym n.behind) ∙ length-drop n.len text, n.within)

    takes : found.1 < n.len → Found (λ t. or_class (class t) (test t) k) text (k, n.len)
    takes lt = record { some = omega arith; within = n.within; here = this_class _ _ k (h.past n.len lt n.within) n.passes; past = λ m past within. neither _ _ k (h.past m (omega arith) within) (n.past m past within) }

    stays : n.len ≤ found.1 → Found (λ t. or_class (class t) (test t) k) text found
    stays le = record { some = h.some; within = h.within; here = earlier_class _ _ k _ h.here; past = λ m past within. neither _ _ k (h.past m past within) (n.past m (omega arith) within) }

by_class : (mark word number local global comdat metadata hash caret label float hexadecimal string : Bool) → Option Kind
by_class mark word number local global comdat metadata hash caret label float hexadecimal string =
    or_class (or_class (or_class (or_class (or_class (or_class (or_class (or_class (or_class (or_class (or_class (or_class (or_class None mark kind.Mark) word kind.Word) number kind.Number) local kind.Local) global kind.Global)
    comdat kind.Comdat) metadata kind.Metadata) hash kind.Hash) caret kind.Caret) label kind.Label) float kind.Float) hexadecimal kind.Hexadecimal) string kind.String

by_test : (mark word number local global comdat metadata hash caret label float hexadecimal string : Bool) → Option Kind
by_test mark word number local global comdat metadata hash caret label float hexadecimal string =
    cond mark (Some kind.Mark) (cond word (Some kind.Word) (cond number (Some kind.Number) (cond local (Some kind.Local) (cond global (Some kind.Global) (cond comdat (Some kind.Comdat) (cond metadata (Some kind.Metadata)
    (cond hash (Some kind.Hash) (cond caret (Some kind.Caret) (cond label (Some kind.Label) (cond float (Some kind.Float) (cond hexadecimal (Some kind.Hexadecimal) (cond string (Some kind.String) None))))))))))))

same_class : (a b c d e f g h i j k l m : Bool) → by_test a b c d e f g h i j k l m ≡ by_class a b c d e f g h i j k l m
unfolding by_class by_test
same_class true b c d e f g h i j k l m = refl
same_class false true c d e f g h i j k l m = refl
same_class false false true d e f g h i j k l m = refl
same_class false false false true e f g h i j k l m = refl
same_class false false false false true f g h i j k l m = refl
same_class false false false false false true g h i j k l m = refl
same_class false false false false false false true h i j k l m = refl
same_class false false false false false false false true i j k l m = refl
same_class false false false false false false false false true j k l m = refl
same_class false false false false false false false false false true k l m = refl
same_class false false false false false false false false false false true l m = refl
same_class false false false false false false false false false false false true m = refl
same_class false false false false false false false false false false false false true = refl
same_class false false false false false false false false false false false false false = refl

class-by : (t : List ℕ) → class_of t ≡ by_class (is_mark t) (is_word t) (is_number t) (byte 37 is_name t) (byte 64 is_name t) (byte 36 is_name t) (byte 33 is_word_or_number t) (byte 35 is_word_or_number t) (byte 94 is_number t) (is_label t) (is_float t) (is_hexadecimal t) (is_string t)
unfolding by_test
class-by t = same_class (is_mark t) (is_word t) (is_number t) (byte 37 is_name t) (byte 64 is_name t) (byte 36 is_name t) (byte 33 is_word_or_number t) (byte 35 is_word_or_number t) (byte 94 is_number t) (is_label t) (is_float t) (is_hexadecimal t) (is_string t)

alike : (a b : List ℕ → Option Kind) (text : List ℕ) (o : Option (Kind × ℕ)) → ((t : List ℕ) → b t ≡ a t) → IsFound a text o → IsFound b text o
alike a b text None same h = record { none = λ m some within. same (take m text) ∙ h.none m some within }
alike a b text (Some found) same h = record { some = h.some; within = h.within; here = same (take found.1 text) ∙ h.here; past = λ m lt le. same (take m text) ∙ h.past m lt le }

front_token-found : (text : List ℕ) → IsFound class_of text (front_token text)
unfolding front_token by_class
front_token-found text =
    alike _ class_of text _ class-by
    (one_class _ is_string kind.String text _ _
    (one_class _ is_hexadecimal kind.Hexadecimal text _ _
    (one_class _ is_float kind.Float text _ _
    (one_class _ is_label kind.Label text _ _
    (one_class _ (byte 94 is_number) kind.Caret text _ _
    (one_class _ (byte 35 is_word_or_number) kind.Hash text _ _
    (one_class _ (byte 33 is_word_or_number) kind.Metadata text _ _
    (one_class _ (byte 36 is_name) kind.Comdat text _ _
    (one_class _ (byte 64 is_name) kind.Global text _ _
    (one_class _ (byte 37 is_name) kind.Local text _ _
    (one_class _ is_number kind.Number text _ _
    (one_class _ is_word kind.Word text _ _
    (one_class (λ t. None) is_mark kind.Mark text None _ (record { none = λ m some within. refl })
    (mark-longest text)) (word-longest text)) (number-longest text)) (named-longest 37 text)) (named-longest 64 text)) (named-longest 36 text))
    (tagged-longest 33 text)) (tagged-longest 35 text)) (caret-longest text)) (label-longest text)) (float-longest text)) (hexadecimal-longest text)) (string-longest text))

longest_none : (n : ℕ) (text : List ℕ) → n ≤ length text → Nothing class_of text → longest n text ≡ None
unfolding longest
longest_none zero text le h = refl
longest_none (suc n) text le h = rw (h.none (suc n) (omega arith) le, longest_none n text (omega arith) h) refl

longest_found : (n : ℕ) (text : List ℕ) (found : Kind × ℕ) → found.1 ≤ n → n ≤ length text → Found class_of text found → longest n text ≡ Some found
unfolding longest
longest_found zero text found long le h = absurd (omega (arith, h.some))
longest_found (suc n) text found long le h =
    elim (cases_lt found.1 (suc n)) [
      | inl lt ↦ rw (h.past (suc n) lt le, longest_found n text found (omega arith) (omega arith) h) refl
      | inr ge ↦ let same : found.1 ≡ suc n = omega arith in
          let here : class_of (take (suc n) text) ≡ Some found.0 = subst (λ (j : ℕ). class_of (take j text) ≡ Some found.0) same h.here in
          let pair : ◌≡◌ {A = Kind × ℕ} (found.0, suc n) found = ap (λ (j : ℕ). let p : Kind × ℕ = (found.0, j) in p) (sym same) in
          rw here (ap (λ (p : Kind × ℕ). Some p) pair)
    ]

pub front_token-longest : (text : List ℕ) → front_token text ≡ longest_token text
front_token-longest text = go (front_token text) (front_token-found text)
  where
    go : (o : Option (Kind × ℕ)) → IsFound class_of text o → o ≡ longest_token text
    go None h = sym (longest_none (length text) text (omega arith) h)
    go (Some found) h = sym (longest_found (length text) text found h.within (omega arith) h)

-- what is found is a prefix of the text
pub longest-bounds : (text : List ℕ) → IfSome (longest_token text) (λ found. (0 < found.1) × (found.1 ≤ length text))
longest-bounds text = subst (λ (o : Option (Kind × ℕ)). IfSome o (λ found. (0 < found.1) × (found.1 ≤ length text))) (front_token-longest text) (go (front_token text) (front_token-found text))
  where
    go : (o : Option (Kind × ℕ)) → IsFound class_of text o → IfSome o (λ found. (0 < found.1) × (found.1 ≤ length text))
    go None h = tt
    go (Some found) h = (h.some, h.within)
