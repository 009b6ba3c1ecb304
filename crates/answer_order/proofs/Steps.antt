-- Reading bits, one more at a time.
use Rattle.std.proofs.Common.{ℕ, ◌≡◌, ◌<◌, ◌≤◌, ◌+◌, ◌-◌, ◌*◌, ◌^◌, Bool, List, [], ◌∷◌, ◌++◌, length, take, drop, get_or, ap, sym, subst, ◌∙◌, arith, append_assoc, append-nil, pow_mono}
use Rattle.std.proofs.lemmas.List.{take_more, drop_more, drop_all}
use Rattle.bv_terms.specs.Tree.{digit}
use Rattle.gate_arith.specs.Numbers.{number_of}
use Rattle.gate_arith.proofs.Digits.{number-below, number-push}
use Rattle.answer_order.specs.Fronts.{AreWidths, numbers_of, total}
use Rattle.answer_order.proofs.Binary.{take-long}

-- ---- one number

pub number_more : (bs : List Bool) (i : ℕ) (d : Bool) → i < length bs → number_of (take (i + 1) bs) ≡ number_of (take i bs) * 2 + digit (get_or bs i d)
number_more bs i d lt = ap number_of (take_more bs i d lt) ∙ number-push (take i bs) (get_or bs i d)

pub number_small : (bs : List Bool) (i n : ℕ) → n ≡ number_of (take i bs) → i < length bs → length bs ≤ 64 → n * 2 + 1 < 2 ^ 64
number_small bs i n is lt most =
    let long : length bs ≡ i + (length bs - i) = omega (arith, lt) in
    let below : number_of (take i bs) < 2 ^ i = subst (λ k. number_of (take i bs) < 2 ^ k) (take-long i (length bs - i) bs long) (number-below (take i bs)) in
    let wide : 2 ^ i ≤ 2 ^ 63 = pow_mono {i = i} {j = 63} (omega (arith, lt, most)) in
    omega (arith, below, wide, is)

-- ---- numbers of the widths that are left

pub widths_more : (ws : List ℕ) (i : ℕ) → i < length ws → AreWidths (drop i ws) → (get_or ws i 0 ≤ 64) × AreWidths (drop (i + 1) ws)
widths_more ws i lt h = subst AreWidths (drop_more ws i 0 lt) h

pub total_more : (ws : List ℕ) (i : ℕ) → i < length ws → total (drop i ws) ≡ get_or ws i 0 + total (drop (i + 1) ws)
total_more ws i lt = ap total (drop_more ws i 0 lt)

pub numbers_more : (ws : List ℕ) (bs : List Bool) (i : ℕ) → i < length ws → numbers_of (drop i ws) bs ≡ number_of (take (get_or ws i 0) bs) ∷ numbers_of (drop (i + 1) ws) (drop (get_or ws i 0) bs)
numbers_more ws bs i lt = ap (λ vs. numbers_of vs bs) (drop_more ws i 0 lt)

pub read_more : (ws : List ℕ) (bs front behind : List Bool) (i n : ℕ) (so_far more whole : List ℕ) → i < length ws → so_far ++ numbers_of (drop i ws) bs ≡ whole
    → front ≡ take (get_or ws i 0) bs → behind ≡ drop (get_or ws i 0) bs → n ≡ number_of front → more ≡ so_far ++ n ∷ [] → more ++ numbers_of (drop (i + 1) ws) behind ≡ whole
read_more ws bs front behind i n so_far more whole lt read f b is pushed =
    rw (pushed, is, f, b, append_assoc so_far (number_of (take (get_or ws i 0) bs) ∷ []) (numbers_of (drop (i + 1) ws) (drop (get_or ws i 0) bs)))
    (ap (λ ns. so_far ++ ns) (sym (numbers_more ws bs i lt)) ∙ read)

pub read_all : (ws : List ℕ) (bs : List Bool) (i : ℕ) (so_far whole : List ℕ) → length ws ≤ i → so_far ++ numbers_of (drop i ws) bs ≡ whole → so_far ≡ whole
read_all ws bs i so_far whole le read =
    let none : drop i ws ≡ [] = drop_all i ws le in
    sym (append-nil so_far) ∙ (ap (λ vs. so_far ++ numbers_of vs bs) (sym none) ∙ read)
