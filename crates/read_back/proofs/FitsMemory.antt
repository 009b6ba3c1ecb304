-- Alignments, types of objects in memory, and the flags of a getelementptr.
use Rattle.read_back.proofs.Common.{◌≡◌, ℕ, zero, suc, ◌<◌, ◌≤◌, ◌^◌, Bool, true, false, cond, List, [], ◌∷◌, ◌++◌, length, Option, Some, None, codes, refl, subst, arith, ◌&&◌, ◌==◌, not, nat_eq, nat_lt, bytes_eq, list_any, Contains, ltb-true, eqb-true, length-append, All-nil, All-push, Kind, alignments, IrType, part_value, GepFlags, WrittenType, WrittenArrays, WrittenObject, WrittenAccess, is_negative, magnitude, fits_object, is_small_object, number_of_kind, gep_flag_named, gep_flag_of, any, element_type, array_length, alignment, is_square, array_begins, array_within, with_length, arrays, alloca_object, is_gep_flag, next_gep_flag, gep_flags, gep_arrays, gep_object, default_align, Place, typed_at, type_in}
use Rattle.std.proofs.Common.{All}
use Rattle.std.proofs.lemmas.Map.Views.{Contains-from_any}
use Rattle.ir_lexer.specs.declared.token.Kind.TheVariants as kind
use Rattle.ir_grammar.proofs.Alignments.{default-aligned}
use Rattle.read_back.proofs.Spellable.{IsObject, AreFlags}
use Rattle.read_back.proofs.FitsForms.{Stands, Gives, GivesParts}

pub part-begins : {A : Type 0} (goes_on : Bool) (m : Option A) (a : A) → part_value goes_on m ≡ Some a → m ≡ Some a
part-begins true m a e = e
part-begins false m a e = absurd (cc e)

-- ---- alignments

is-aligned : (n : ℕ) → list_any (nat_eq n) alignments ≡ true → Contains alignments n
is-aligned n e = Contains-from_any {eq = nat_eq} (λ x y same. eqb-true x y same) n alignments e

pub own-alignment : (a : WrittenAccess) → Contains alignments (default_align a)
own-alignment a = is-aligned (default_align a) (default-aligned a)

number-of : (k : Kind) (text : List ℕ) (n : ℕ) → number_of_kind k text ≡ Some n → magnitude text ≡ n
number-of kind.Number text n e = cc e
number-of _ text n e = absurd (cc e)

and-second : (a b : Bool) → (a && b) ≡ true → b ≡ true
and-second true b e = e
and-second false b e = absurd (cc e)

pub alignment-fits : (n : ℕ) → Stands alignment.stands alignment.within n → Contains alignments n
alignment-fits n S =
    let same = number-of S.token.kind S.token.text n S.stands_for in
    subst (λ (m : ℕ). Contains alignments m) same (is-aligned (magnitude S.token.text) (and-second (not (is_negative S.token.text)) (list_any (nat_eq (magnitude S.token.text)) alignments) S.keeps))

-- ---- nested arrays

small-length : (negative : Bool) (n : ℕ) → cond negative (n == 0) (nat_lt n (2 ^ 64)) ≡ true → n < 2 ^ 64
small-length true n e = let is : n ≡ 0 = eqb-true n 0 e in rw is (omega arith)
small-length false n e = ltb-true n (2 ^ 64) e

length-fits : (n : ℕ) → Stands array_length.stands array_length.within n → n < 2 ^ 64
length-fits n S = subst (λ (m : ℕ). m < 2 ^ 64) (number-of S.token.kind S.token.text n S.stands_for) (small-length (is_negative S.token.text) (magnitude S.token.text) S.keeps)

record AreLengths (lengths : List ℕ) : Type 0 where
  few : length lengths ≤ 8
  small : All (λ (n : ℕ). n < 2 ^ 64) lengths

abbrev ArraysFit : WrittenArrays → Type 0
ArraysFit s = AreLengths s.lengths

no-lengths : AreLengths []
no-lengths = record { few = omega arith; small = All-nil (λ (n : ℕ). n < 2 ^ 64) }

more-lengths : (lengths : List ℕ) (n : ℕ) → AreLengths lengths → length lengths < 8 → n < 2 ^ 64 → AreLengths (lengths ++ n ∷ [])
more-lengths lengths n A room small = record { few = omega (arith, room, length-append lengths (n ∷ [])); small = All-push (λ (m : ℕ). m < 2 ^ 64) lengths n A.small small }

arrays-fit : (n : ℕ) (s x : WrittenArrays) → GivesParts is_square array_begins array_within (λ s' a next. Gives (with_length s') next) n s x → ArraysFit s → ArraysFit x
unfolding with_length
arrays-fit zero s x same A = subst (λ (y : WrittenArrays). ArraysFit y) same A
arrays-fit (suc n) s x (a, next, T, (many, M, (times, W, same)), more) A =
    arrays-fit n next x more (subst (λ (y : WrittenArrays). ArraysFit y) same (more-lengths s.lengths many A (ltb-true (length s.lengths) 8 T.keeps) (length-fits many M)))

small-element : (in_alloca : Bool) (lengths : List ℕ) (m : Option (Option IrType)) (at : Place) (x : WrittenType) → typed_at m at ≡ Some x → fits_object in_alloca lengths m ≡ true → is_small_object in_alloca lengths x.of_type ≡ true
small-element in_alloca lengths None at x e kept = absurd (cc e)
small-element in_alloca lengths (Some None) at x e kept = absurd (cc kept)
small-element in_alloca lengths (Some (Some type)) at x e kept = let same : (let y : WrittenType = record { of_type = type; at = at } in y) ≡ x = cc e in subst (λ (y : WrittenType). is_small_object in_alloca lengths y.of_type ≡ true) same kept

object-fits : (in_alloca : Bool) (lengths : List ℕ) (element : WrittenType) → AreLengths lengths → Stands (element_type in_alloca lengths).stands (element_type in_alloca lengths).within element → IsObject in_alloca (record { lengths = lengths; element = element.of_type })
object-fits in_alloca lengths element A S = record {
  arrays = A.few;
  lengths = A.small;
  small = small-element in_alloca lengths (type_in S.token) S.token.place element S.stands_for S.keeps;
}

pub alloca-object : (x : WrittenObject) → Gives alloca_object x → IsObject true x.of_type
unfolding alloca_object arrays
alloca-object x (found, ((s, first, n, P), T), (closed, C, same)) =
    let A = arrays-fit n s found.0 P (subst (λ (y : WrittenArrays). ArraysFit y) first no-lengths) in
    subst (λ (y : WrittenObject). IsObject true y.of_type) same (object-fits true found.0.lengths found.1 A T)

-- ---- flags

no-flags-fit : (f : Bool) → AreFlags (record { inbounds = f; nuw = false })
no-flags-fit f e = absurd (cc e)

flag-named : (flags : GepFlags) (text : List ℕ) (next : GepFlags) → gep_flag_named flags text ≡ Some next → AreFlags flags → AreFlags next
flag-named flags text next e A = go (bytes_eq text (codes "inbounds")) (bytes_eq text (codes "nuw")) flags.inbounds flags.nuw A e
  where
    go : (first second inbounds nuw : Bool) → (nuw ≡ true → inbounds ≡ true)
        → cond (first && not inbounds) (Some (let f : GepFlags = record { inbounds = true; nuw = nuw } in f)) (cond (second && (inbounds && not nuw)) (Some (let f : GepFlags = record { inbounds = inbounds; nuw = true } in f)) None) ≡ Some next → AreFlags next
    go true second false nuw A' e' = let same : (let f : GepFlags = record { inbounds = true; nuw = nuw } in f) ≡ next = cc e' in subst (λ (f : GepFlags). AreFlags f) same (λ u. refl)
    go true true true false A' e' = let same : (let f : GepFlags = record { inbounds = true; nuw = true } in f) ≡ next = cc e' in subst (λ (f : GepFlags). AreFlags f) same (λ u. refl)
    go false true true false A' e' = let same : (let f : GepFlags = record { inbounds = true; nuw = true } in f) ≡ next = cc e' in subst (λ (f : GepFlags). AreFlags f) same (λ u. refl)
    go true true true true A' e' = absurd (cc e')
    go true false true nuw A' e' = absurd (cc e')
    go false true true true A' e' = absurd (cc e')
    go false true false nuw A' e' = absurd (cc e')
    go false false inbounds nuw A' e' = absurd (cc e')

flag-of : (flags : GepFlags) (k : Kind) (text : List ℕ) (next : GepFlags) → gep_flag_of flags k text ≡ Some next → AreFlags flags → AreFlags next
flag-of flags kind.Word text next e A = flag-named flags text next e A
flag-of flags _ text next e A = absurd (cc e)

flags-fit : (n : ℕ) (s x : GepFlags) → GivesParts is_gep_flag next_gep_flag (λ flags. any) (λ s' a next. a ≡ next) n s x → AreFlags s → AreFlags x
flags-fit zero s x same A = subst (λ (y : GepFlags). AreFlags y) same A
flags-fit (suc n) s x (a, next, T, same, more) A =
    flags-fit n next x more (subst (λ (y : GepFlags). AreFlags y) same (flag-of s T.token.kind T.token.text a (part-begins (is_gep_flag T.token) (next_gep_flag s T.token) a T.stands_for) A))

-- ---- objects after flags

record GepArraysFit (s : WrittenArrays) : Type 0 where
  flags : AreFlags s.flags
  arrays : ArraysFit s

gep-arrays-fit : (n : ℕ) (s x : WrittenArrays) → GivesParts is_square array_begins array_within (λ s' a next. Gives (with_length s') next) n s x → GepArraysFit s → GepArraysFit x
unfolding with_length
gep-arrays-fit zero s x same A = subst (λ (y : WrittenArrays). GepArraysFit y) same A
gep-arrays-fit (suc n) s x (a, next, T, (many, M, (times, W, same)), more) A =
    gep-arrays-fit n next x more (subst (λ (y : WrittenArrays). GepArraysFit y) same (record { flags = A.flags; arrays = more-lengths s.lengths many A.arrays (ltb-true (length s.lengths) 8 T.keeps) (length-fits many M) }))

pub gep-object : (x : GepFlags × WrittenObject) → Gives gep_object x → AreFlags x.0 × IsObject false x.1.of_type
unfolding gep_object gep_arrays gep_flags
gep-object x (found, ((s, (flags, (f0, none, m, F), first), n, P), T), (closed, C, same)) =
    let H : AreFlags flags = flags-fit m f0 flags F (subst (λ (y : GepFlags). AreFlags y) none (no-flags-fit false)) in
    let A = gep-arrays-fit n s found.0 P (subst (λ (y : WrittenArrays). GepArraysFit y) first (record { flags = H; arrays = no-lengths })) in
    subst (λ (y : GepFlags × WrittenObject). AreFlags y.0 × IsObject false y.1.of_type) same (A.flags, object-fits false found.0.lengths found.1 A.arrays T)
