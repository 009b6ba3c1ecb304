-- Sets of names, and the words that keep them.
use Rattle.definite_assignment.proofs.Common.{ℕ, suc, zero, ◌+◌, ◌*◌, ◌/◌, ◌%◌, ◌^◌, ◌≡◌, ◌≢◌, ◌<◌, ◌≤◌, ◌⊎◌, inl, inr, Bool, true, false, cond, ◌&&◌, List, [], ◌∷◌, length, get_or, set, replicate, min, refl, ap, sym, ◌∙◌, arith, bit_and, bit_or, length-set, nat_eq, same_lists, get_or_past, get_or-set_same, get_or-set_other, get_or-replicate, length-replicate, sum_by-cons, cases_eq, cases_lt, and_right, both, has_bit, has_name, names_in, count}
use Rattle.std.specs.Int.{bit_at}
use Rattle.std.proofs.lemmas.List.FromFn.{length-map-range_with_len, get_or-map-range_with_len}
use Rattle.std.proofs.lemmas.Nat.{and_le_l, div-mul-add, mod-mul-add, div_below, mod_below}
use Rattle.std.proofs.lemmas.Nat.Bits.{bit_at-lt, bit_at_and, bit_at_set_same, bit_at_set_other, same_from_bits_below, bit_at_ones, bit_at-zero}
use Rattle.std.proofs.lemmas.Bool.Decides.{nat_tests}
use Rattle.std.specs.Int.{w64}

pub length-names_in : (words : List ℕ) → length (names_in words) ≡ 64 * length words
unfolding names_in
length-names_in words = length-map-range_with_len (has_bit words) 0 (64 * length words)

at-names_in : (words : List ℕ) (name : ℕ) (d : Bool) → name < 64 * length words → get_or (names_in words) name d ≡ has_bit words name
unfolding names_in
at-names_in words name d below = get_or-map-range_with_len (has_bit words) 0 (64 * length words) name name d below (omega arith)

pub has_name-names_in : (words : List ℕ) (name : ℕ) → name < 64 * length words → has_name (names_in words) name ≡ has_bit words name
has_name-names_in words name below = at-names_in words name false below

-- a list of entries is what the words keep, if each entry is
names_in_is : (words : List ℕ) (set : List Bool) → length set ≡ 64 * length words → ((name : ℕ) (d : Bool) → name < 64 * length words → get_or set name d ≡ has_bit words name) → names_in words ≡ set
names_in_is words set long f =
    same_lists (names_in words) set (length-names_in words ∙ sym long)
    (λ k d below. let within : k < 64 * length words = omega (arith, length-names_in words) in at-names_in words k d within ∙ sym (f k d within))

-- words that are all alike
pub names_in-replicate : (n word : ℕ) (b : Bool) → ((i : ℕ) → i < 64 → nat_eq (bit_at word i) 1 ≡ b) → names_in (replicate n word) ≡ replicate (64 * n) b
names_in-replicate n word b f =
    let long : length (replicate n word) ≡ n = length-replicate n word in
    names_in_is (replicate n word) (replicate (64 * n) b) (length-replicate (64 * n) b ∙ ap (λ m. 64 * m) (sym long))
    (λ name d below.
    let within : name < n * 64 = omega (arith, long) in
    let place : name / 64 < n = div_below name 64 n (omega arith) within in
    get_or-replicate (64 * n) name b d (omega arith)
    ∙ sym (ap (λ w. nat_eq (bit_at w (name % 64)) 1) (get_or-replicate n (name / 64) word 0 place) ∙ f (name % 64) (mod_below name 64 (omega arith))))

pub names_in-zeros : (n : ℕ) → names_in (replicate n 0) ≡ replicate (64 * n) false
names_in-zeros n = names_in-replicate n 0 false (λ i below. ap (λ d. nat_eq d 1) (bit_at-zero i))

pub names_in-ones : (n : ℕ) → names_in (replicate n 18446744073709551615) ≡ replicate (64 * n) true
names_in-ones n = names_in-replicate n 18446744073709551615 true (λ i below. ap (λ d. nat_eq d 1) (bit_at_ones 64 i below))

-- one bit set
pub names_in-add : (words : List ℕ) (name : ℕ) → name < 64 * length words → names_in (set words (name / 64) (bit_or (get_or words (name / 64) 0) (1 * 2 ^ (name % 64) % 2 ^ 64))) ≡ set (names_in words) name true
names_in-add words name below =
    names_in_is _ (set (names_in words) name true) (length-set (names_in words) name true ∙ (length-names_in words ∙ ap (λ m. 64 * m) (sym (length-set words (name / 64) new))))
    (λ k d within. at k d (omega (arith, length-set words (name / 64) new)) (cases_eq k name) (cases_eq (k / 64) (name / 64)))
  where
    new : ℕ
    new = bit_or (get_or words (name / 64) 0) (1 * 2 ^ (name % 64) % 2 ^ 64)

    place : name / 64 < length words
    place = div_below name 64 (length words) (omega arith) (omega arith)

    bit : name % 64 < 64
    bit = mod_below name 64 (omega arith)

    at : (k : ℕ) (d : Bool) → k < 64 * length words → (k ≡ name) ⊎ (k ≡ name → ⊥) → (k / 64 ≡ name / 64) ⊎ (k / 64 ≡ name / 64 → ⊥) → get_or (set (names_in words) name true) k d ≡ has_bit (set words (name / 64) new) k
    at k d within (inl e) _ =
        rw e (get_or-set_same (names_in words) name true d (omega (arith, length-names_in words))
        ∙ sym (ap (λ w. nat_eq (bit_at w (name % 64)) 1) (get_or-set_same words (name / 64) new 0 place)
        ∙ ap (λ b. nat_eq b 1) (bit_at_set_same w64 (get_or words (name / 64) 0) (name % 64) bit)))
    at k d within (inr other) (inl e) =
        get_or-set_other (names_in words) name k true d other ∙ at-names_in words k d within
        ∙ sym (rw e (ap (λ w. nat_eq (bit_at w (k % 64)) 1) (get_or-set_same words (name / 64) new 0 place)
        ∙ ap (λ b. nat_eq b 1) (bit_at_set_other w64 (get_or words (name / 64) 0) (name % 64) bit (k % 64) (λ same. other (omega (arith, e, same))))))
    at k d within (inr other) (inr away) =
        get_or-set_other (names_in words) name k true d other ∙ at-names_in words k d within
        ∙ sym (ap (λ w. nat_eq (bit_at w (k % 64)) 1) (get_or-set_other words (name / 64) (k / 64) new 0 away))

-- the names of both sets, name by name
pub has_name-both : (xs ys : List Bool) (name : ℕ) → has_name (both xs ys) name ≡ (has_name xs name && has_name ys name)
has_name-both [] ys name = refl
has_name-both (x ∷ xs) [] name = sym (and_right (has_name (x ∷ xs) name) false refl)
has_name-both (x ∷ xs) (y ∷ ys) zero = refl
has_name-both (x ∷ xs) (y ∷ ys) (suc name) = has_name-both xs ys name

pub length-both : (xs ys : List Bool) → length xs ≡ length ys → length (both xs ys) ≡ length xs
length-both [] ys e = refl
length-both (x ∷ xs) [] e = absurd (omega (arith, e))
length-both (x ∷ xs) (y ∷ ys) e = ap (λ n. suc n) (length-both xs ys (omega (arith, e)))

-- of two bits, both are 1 where the lower one is
both_one : (a b : ℕ) → a < 2 → b < 2 → nat_eq (min a b) 1 ≡ (nat_eq a 1 && nat_eq b 1)
both_one zero b _ _ = let e : min 0 b ≡ 0 = omega arith in ap (λ n. nat_eq n 1) e
both_one (suc zero) zero _ _ = refl
both_one (suc zero) (suc zero) _ _ = refl
both_one (suc zero) (suc (suc b)) _ below = absurd (omega (arith, below))
both_one (suc (suc a)) b below _ = absurd (omega (arith, below))

-- words with the bits that both have
pub names_in-both : (new words others : List ℕ) → length new ≡ length words → length words ≡ length others → ((k : ℕ) → get_or new k 0 ≡ bit_and (get_or words k 0) (get_or others k 0)) → names_in new ≡ both (names_in words) (names_in others)
names_in-both new words others alike long f =
    names_in_is new (both (names_in words) (names_in others))
    (length-both (names_in words) (names_in others) (length-names_in words ∙ ap (λ n. 64 * n) long ∙ sym (length-names_in others)) ∙ length-names_in words ∙ ap (λ n. 64 * n) (sym alike))
    (λ k d below.
    let within : k < 64 * length words = omega (arith, alike) in
    let within' : k < 64 * length others = omega (arith, long, alike) in
    let whole : length (both (names_in words) (names_in others)) ≡ 64 * length words = length-both (names_in words) (names_in others) (length-names_in words ∙ ap (λ n. 64 * n) long ∙ sym (length-names_in others)) ∙ length-names_in words in
    default (both (names_in words) (names_in others)) k d (omega (arith, whole))
    ∙ has_name-both (names_in words) (names_in others) k
    ∙ ap (λ b. b && has_name (names_in others) k) (has_name-names_in words k within)
    ∙ ap (λ b. has_bit words k && b) (has_name-names_in others k within')
    ∙ sym (ap (λ w. nat_eq (bit_at w (k % 64)) 1) (f (k / 64))
    ∙ ap (λ b. nat_eq b 1) (bit_at_and (get_or words (k / 64) 0) (get_or others (k / 64) 0) (k % 64))
    ∙ both_one _ _ (bit_at-lt (get_or words (k / 64) 0) (k % 64)) (bit_at-lt (get_or others (k / 64) 0) (k % 64))))
  where
    default : (set : List Bool) (k : ℕ) (d : Bool) → k < length set → get_or set k d ≡ get_or set k false
    default [] k d below = absurd (omega (arith, below))
    default (b ∷ bs) zero d below = refl
    default (b ∷ bs) (suc k) d below = default bs k d (omega (arith, below))

same_digit : (a b : ℕ) → a < 2 → b < 2 → nat_eq a 1 ≡ nat_eq b 1 → a ≡ b
same_digit a b p q e = grind (arith, nat_tests)

-- where two words differ, the sets do
pub names_in_differ : (new words : List ℕ) (k : ℕ) → length new ≡ length words → k < length words → get_or new k 0 < 2 ^ 64 → get_or words k 0 < 2 ^ 64 → get_or new k 0 ≢ get_or words k 0 → names_in new ≡ names_in words → ⊥
names_in_differ new words k long place fits fits' differ same =
    differ (same_from_bits_below 64 (get_or new k 0) (get_or words k 0) fits fits' (λ i below.
    same_digit _ _ (bit_at-lt (get_or new k 0) i) (bit_at-lt (get_or words k 0) i) (sym (read new i below (omega arith)) ∙ ap (λ s. has_name s (k * 64 + i)) same ∙ read words i below place)))
  where
    read : (ws : List ℕ) (i : ℕ) → i < 64 → k < length ws → has_name (names_in ws) (k * 64 + i) ≡ nat_eq (bit_at (get_or ws k 0) i) 1
    read ws i below within =
        has_name-names_in ws (k * 64 + i) (omega (arith, within, below))
        ∙ ap (λ q. nat_eq (bit_at (get_or ws q 0) ((k * 64 + i) % 64)) 1) (div-mul-add k 64 i below)
        ∙ ap (λ r. nat_eq (bit_at (get_or ws k 0) r) 1) (mod-mul-add k 64 i below)

abbrev one : Bool → ℕ
one true = 1
one false = 0

count-cons : (b : Bool) (bs : List Bool) → count (b ∷ bs) ≡ one b + count bs
count-cons b bs = sum_by-cons (λ x. cond x 1 0) b bs ∙ ap (λ n. n + count bs) (is b)
  where
    is : (c : Bool) → cond c 1 0 ≡ one c
    is true = refl
    is false = refl

one-true : one true ≡ 1
one-true = refl

one-false : one false ≡ 0
one-false = refl

one_most : (b : Bool) → one b ≤ 1
one_most true = omega arith
one_most false = omega arith

pub count-both : (xs ys : List Bool) → count (both xs ys) ≤ count xs
count-both [] ys = omega arith
count-both (x ∷ xs) [] = omega arith
count-both (true ∷ xs) (true ∷ ys) = omega (arith, count-both xs ys, count-cons true xs, count-cons true (both xs ys))
count-both (true ∷ xs) (false ∷ ys) = omega (arith, count-both xs ys, count-cons true xs, count-cons false (both xs ys), one-false)
count-both (false ∷ xs) (y ∷ ys) = omega (arith, count-both xs ys, count-cons false xs, count-cons false (both xs ys))

-- a set that lost a name has fewer
pub count-both_less : (xs ys : List Bool) → length xs ≡ length ys → (both xs ys ≡ xs → ⊥) → count (both xs ys) < count xs
count-both_less [] ys e differ = absurd (differ refl)
count-both_less (x ∷ xs) [] e differ = absurd (omega (arith, e))
count-both_less (true ∷ xs) (true ∷ ys) e differ = omega (arith, count-both_less xs ys (omega (arith, e)) (λ same. differ (ap (λ s. true ∷ s) same)), count-cons true xs, count-cons true (both xs ys))
count-both_less (true ∷ xs) (false ∷ ys) e differ = omega (arith, count-both xs ys, count-cons true xs, count-cons false (both xs ys), one-true, one-false)
count-both_less (false ∷ xs) (y ∷ ys) e differ = omega (arith, count-both_less xs ys (omega (arith, e)) (λ same. differ (ap (λ s. false ∷ s) same)), count-cons false xs, count-cons false (both xs ys))

-- a mark that is set counts for one more at most
pub count-set : (bs : List Bool) (i : ℕ) (b : Bool) → count (set bs i b) ≤ count bs + 1
count-set [] i b = omega arith
count-set (x ∷ xs) zero b = omega (arith, count-cons b xs, count-cons x xs, one_most b)
count-set (x ∷ xs) (suc i) b = omega (arith, count-set xs i b, count-cons x (set xs i b), count-cons x xs)

-- and one that is taken away for one less
pub count-unset : (bs : List Bool) (i : ℕ) → get_or bs i false ≡ true → count (set bs i false) < count bs
count-unset [] i t = cc
count-unset (x ∷ xs) zero t = omega (arith, count-cons false xs, count-cons x xs, one-false, ap one t, one-true)
count-unset (x ∷ xs) (suc i) t = omega (arith, count-unset xs i t, count-cons x (set xs i false), count-cons x xs)

-- what the words keep, where the set is what other words kept
pub set_is-add : (words given new : List ℕ) (s : List Bool) (name : ℕ) → words ≡ given → names_in given ≡ s → name < length s → new ≡ set words (name / 64) (bit_or (get_or words (name / 64) 0) (1 * 2 ^ (name % 64) % 2 ^ 64)) → names_in new ≡ set s name true
set_is-add words given new s name e view below is =
    ap names_in is ∙ names_in-add words name (omega (arith, below, long)) ∙ ap (λ t. set t name true) whole
  where
    whole : names_in words ≡ s
    whole = ap names_in e ∙ view

    long : length s ≡ 64 * length words
    long = ap length (sym whole) ∙ length-names_in words

-- past the words there is no name
has_bit-past : (words : List ℕ) (name : ℕ) → 64 * length words ≤ name → has_bit words name ≡ false
has_bit-past words name past =
    let gone : length words ≤ name / 64 = omega (arith, past) in
    ap (λ w. nat_eq (bit_at w (name % 64)) 1) (get_or_past words (name / 64) 0 gone) ∙ ap (λ d. nat_eq d 1) (bit_at-zero (name % 64))

has_name-words : (words : List ℕ) (name : ℕ) → has_name (names_in words) name ≡ has_bit words name
has_name-words words name = cases (cases_lt name (64 * length words))
  where
    cases : (name < 64 * length words) ⊎ (64 * length words ≤ name) → has_name (names_in words) name ≡ has_bit words name
    cases (inl below) = has_name-names_in words name below
    cases (inr past) = get_or_past (names_in words) name false (omega (arith, past, length-names_in words)) ∙ sym (has_bit-past words name past)

pub set_is-has : (words given : List ℕ) (s : List Bool) (name : ℕ) → words ≡ given → names_in given ≡ s → has_bit words name ≡ has_name s name
set_is-has words given s name e view = sym (has_name-words words name) ∙ ap (λ t. has_name t name) (ap names_in e ∙ view)

-- sets of the same length are kept by the same number of words
pub same_words : (words others : List ℕ) (s t : List Bool) → names_in words ≡ s → names_in others ≡ t → length s ≡ length t → length words ≡ length others
same_words words others s t view view' e = omega (arith, e, ap length view, ap length view', length-names_in words, length-names_in others)

pub places_of : (words : List ℕ) (s : List Bool) → names_in words ≡ s → length s ≡ 64 * length words
places_of words s view = ap length (sym view) ∙ length-names_in words

pub set_is-both : (words given others given' new : List ℕ) (s t : List Bool) → words ≡ given → names_in given ≡ s → others ≡ given' → names_in given' ≡ t → length s ≡ length t → length new ≡ length words
    → ((k : ℕ) → get_or new k 0 ≡ bit_and (get_or words k 0) (get_or others k 0)) → names_in new ≡ both s t
set_is-both words given others given' new s t e view e' view' alike long f =
    names_in-both new words others long (same_words words others s t (ap names_in e ∙ view) (ap names_in e' ∙ view') alike) f
    ∙ (ap (λ x. both x (names_in others)) (ap names_in e ∙ view) ∙ ap (λ y. both s y) (ap names_in e' ∙ view'))

pub set_differs : (words given others new : List ℕ) (s : List Bool) → words ≡ given → names_in given ≡ s → length new ≡ length words → ((k : ℕ) → get_or words k 0 < 2 ^ 64)
    → ((k : ℕ) → get_or new k 0 ≡ bit_and (get_or words k 0) (get_or others k 0))
    → (k : ℕ) × (k < length words) × (get_or new k 0 ≢ get_or words k 0)
    → names_in new ≡ s → ⊥
set_differs words given others new s e view long fits f found same =
    names_in_differ new words found.0 long found.1
    (let less : bit_and (get_or words found.0 0) (get_or others found.0 0) ≤ get_or words found.0 0 = and_le_l (get_or words found.0 0) (get_or others found.0 0) in
    let whole : get_or words found.0 0 < 2 ^ 64 = fits found.0 in
    omega (arith, f found.0, less, whole))
    (fits found.0) found.2 (same ∙ sym (ap names_in e ∙ view))
