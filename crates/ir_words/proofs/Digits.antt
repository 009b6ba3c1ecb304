-- The number of digits, from the left.
use Rattle.ir_words.proofs.Common.{◌≡◌, ℕ, ◌+◌, ◌-◌, ◌*◌, ◌<◌, ◌≤◌, ◌^◌, List, [], ◌∷◌, length, get_or, drop, Some, None, refl, sym, ap, ◌∙◌, add-one, arith, drop-cons, le-ltb, lt-ltb, value_after, value_of, some_below}
use Rattle.std.proofs.lemmas.List.{drop_all}

pub value_after-ge : (v : ℕ) (ds : List ℕ) → v ≤ value_after v ds
value_after-ge v [] = omega arith
value_after-ge v (d ∷ ds) = omega (arith, value_after-ge (v * 10 + (d - 48)) ds)

pub too_much : (v : ℕ) (ds : List ℕ) (whole : ℕ) → value_after v ds ≡ whole → 2 ^ 64 ≤ v → some_below (2 ^ 64) whole ≡ None
too_much v ds whole e big = let far : 2 ^ 64 ≤ whole = omega (arith, value_after-ge v ds) in rw (le-ltb _ _ far) refl

pub one_digit : (v i : ℕ) (ds : List ℕ) (whole : ℕ) → i < length ds → value_after v (drop i ds) ≡ whole → value_after (v * 10 + (get_or ds i 0 - 48)) (drop (i + 1) ds) ≡ whole
one_digit v i ds whole lt e = ap (λ (k : ℕ). value_after (v * 10 + (get_or ds i 0 - 48)) (drop k ds)) (add-one i) ∙ sym (ap (value_after v) (drop-cons ds i 0 lt)) ∙ e

pub below : (v i : ℕ) (ds : List ℕ) → value_after v (drop i ds) ≡ value_of ds → length ds ≤ i → v < 2 ^ 64 → Some v ≡ some_below (2 ^ 64) (value_of ds)
below v i ds e past small =
    let is : v ≡ value_of ds = ap (value_after v) (sym (drop_all i ds past)) ∙ e in
    let fits : value_of ds < 2 ^ 64 = omega arith in
    rw (lt-ltb _ _ fits) (ap (λ (n : ℕ). Some n) is)

pub too_large : (v i : ℕ) (ds : List ℕ) → i < length ds → value_after v (drop i ds) ≡ value_of ds → 2 ^ 64 ≤ v * 10 + (get_or ds i 0 - 48) → some_below (2 ^ 64) (value_of ds) ≡ None
too_large v i ds lt e big = too_much (v * 10 + (get_or ds i 0 - 48)) (drop (i + 1) ds) (value_of ds) (one_digit v i ds (value_of ds) lt e) big
