-- The first byte that differs.
use Rattle.std.proofs.lemmas.Bool.{and_parts}
use Rattle.std.proofs.Common.{◌≡◌, ℕ, ◌+◌, ◌<◌, ◌≤◌, Bool, true, false, ◌&&◌, List, [], ◌∷◌, ◌++◌, length, take, get_or, refl, sym}
use Rattle.std.proofs.lemmas.List.{take_more, take_all}
use Rattle.std.proofs.lemmas.Option.{slice_get-get_or}
use Rattle.byte_block.specs.declared.value.Byte.{Byte}
use Rattle.byte_block.specs.declared.value.Byte.TheVariants.{Bits}
use Rattle.points.specs.Refines.{byte_allows, pairs_pass}
use Rattle.pair_trace.specs.Differences.{IsOtherByte}

true_not_false : {A : Type 0} → ◌≡◌ {A = Bool} true false → A
true_not_false e = absurd (cc)

-- one more pair that passes
pairs_pass-snoc : {A : Type 0} (test : A → A → Bool) (ss ts : List A) (s t : A) → pairs_pass test ss ts ≡ true → test s t ≡ true
    → pairs_pass test (ss ++ s ∷ []) (ts ++ t ∷ []) ≡ true
unfolding pairs_pass
pairs_pass-snoc test [] [] s t passes one = rw one refl
pairs_pass-snoc test [] (y ∷ ts) s t passes one = true_not_false (sym passes)
pairs_pass-snoc test (x ∷ ss) [] s t passes one = true_not_false (sym passes)
pairs_pass-snoc test (x ∷ ss) (y ∷ ts) s t passes one =
    let both = and_parts (test x y) (pairs_pass test ss ts) passes in
    rw both.0 (pairs_pass-snoc test ss ts s t both.1 one)

pub none_before : (ss ts : List Byte) → pairs_pass byte_allows (take 0 ss) (take 0 ts) ≡ true
unfolding pairs_pass
none_before ss ts = refl

pub before_more : (ss ts : List Byte) (i : ℕ) → i < length ss → i < length ts → pairs_pass byte_allows (take i ss) (take i ts) ≡ true
    → byte_allows (get_or ss i (Bits 0 0)) (get_or ts i (Bits 0 0)) ≡ true → pairs_pass byte_allows (take (i + 1) ss) (take (i + 1) ts) ≡ true
before_more ss ts i p q before one = rw (take_more ss i (Bits 0 0) p, take_more ts i (Bits 0 0) q) (pairs_pass-snoc byte_allows (take i ss) (take i ts) (get_or ss i (Bits 0 0)) (get_or ts i (Bits 0 0)) before one)

pub before_all : (ss ts : List Byte) (i : ℕ) → length ss ≤ i → length ts ≤ i → pairs_pass byte_allows (take i ss) (take i ts) ≡ true → pairs_pass byte_allows ss ts ≡ true
before_all ss ts i p q before = rw (take_all i ss p, take_all i ts q) at before

pub other_at : (ss ts : List Byte) (i : ℕ) → i < length ss → i < length ts → pairs_pass byte_allows (take i ss) (take i ts) ≡ true
    → byte_allows (get_or ss i (Bits 0 0)) (get_or ts i (Bits 0 0)) ≡ false → IsOtherByte ss ts i
other_at ss ts i p q before other = record { before = before; other = rw (slice_get-get_or ss i (Bits 0 0) p, slice_get-get_or ts i (Bits 0 0) q) other }
