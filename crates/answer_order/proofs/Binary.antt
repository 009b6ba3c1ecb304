-- Numbers as bits, and back.
use Rattle.std.proofs.Common.{ℕ, zero, suc, ◌≡◌, ◌<◌, ◌≤◌, ◌+◌, ◌-◌, ◌*◌, ◌^◌, inl, inr, Bool, true, false, cond, List, [], ◌∷◌, ◌++◌, length, take, drop, nat_le, refl, ap, sym, subst, ◌∙◌, arith, length-append}
use Rattle.std.proofs.lemmas.Bool.{cases_Bool}
use Rattle.std.proofs.lemmas.Bool.Decides.{nat_tests}
use Rattle.gate_arith.specs.Numbers.{number_of}
use Rattle.gate_arith.proofs.Digits.{number-below}
use Rattle.answer_order.specs.Fronts.{Fits, numbers_of, total}

-- the bits of a number, most significant first
abbrev pub digits : ℕ → ℕ → List Bool
digits zero n = []
digits (suc w) n = nat_le (2 ^ w) n ∷ digits w (cond (nat_le (2 ^ w) n) (n - 2 ^ w) n)

-- the bits of numbers of these widths, one after the other
abbrev pub digits_of : List ℕ → List ℕ → List Bool
digits_of [] ns = []
digits_of (w ∷ ws) [] = digits w 0 ++ digits_of ws []
digits_of (w ∷ ws) (n ∷ ns) = digits w n ++ digits_of ws ns

pub power : (w : ℕ) → 2 ^ suc w ≡ 2 ^ w + 2 ^ w
power w = omega arith

pub le-true : (a b : ℕ) → nat_le a b ≡ true → a ≤ b
le-true a b t = grind (arith, nat_tests)

pub le-false : (a b : ℕ) → nat_le a b ≡ false → b < a
le-false a b t = grind (arith, nat_tests)

true-le : (a b : ℕ) → a ≤ b → nat_le a b ≡ true
true-le a b t = grind (arith, nat_tests)

false-le : (a b : ℕ) → b < a → nat_le a b ≡ false
false-le a b t = grind (arith, nat_tests)

pub length-digits : (w n : ℕ) → length (digits w n) ≡ w
length-digits zero n = refl
length-digits (suc w) n = ap suc (length-digits w (cond (nat_le (2 ^ w) n) (n - 2 ^ w) n))

-- ---- a number's bits write it

number-digits : (w n : ℕ) → n < 2 ^ w → number_of (digits w n) ≡ n
number-digits zero n lt = let p : 2 ^ 0 ≡ 1 = refl in omega arith
number-digits (suc w) n lt = elim (cases_Bool (nat_le (2 ^ w) n)) [
  | inl t ↦
      let above = le-true (2 ^ w) n t in let p = power w in
      let rest = number-digits w (n - 2 ^ w) (omega (arith, above, p, lt)) in
      rw (t, length-digits w (n - 2 ^ w), rest) (omega (arith, above))
  | inr f ↦
      let rest = number-digits w n (le-false (2 ^ w) n f) in
      rw (f, rest) (omega arith)
]

take_front : (a b : List Bool) → take (length a) (a ++ b) ≡ a
take_front [] b = refl
take_front (x ∷ xs) b = ap (λ zs. x ∷ zs) (take_front xs b)

drop_front : (a b : List Bool) → drop (length a) (a ++ b) ≡ b
drop_front [] b = refl
drop_front (x ∷ xs) b = drop_front xs b

pub numbers-digits : (ws ns : List ℕ) → Fits ws ns → numbers_of ws (digits_of ws ns) ≡ ns
numbers-digits [] [] h = refl
numbers-digits [] (n ∷ ns) h = absurd h
numbers-digits (w ∷ ws) [] h = absurd h
numbers-digits (w ∷ ws) (n ∷ ns) h =
    let rest = digits_of ws ns in
    let t : take w (digits w n ++ rest) ≡ digits w n = ap (λ k. take k (digits w n ++ rest)) (sym (length-digits w n)) ∙ take_front (digits w n) rest in
    let d : drop w (digits w n ++ rest) ≡ rest = ap (λ k. drop k (digits w n ++ rest)) (sym (length-digits w n)) ∙ drop_front (digits w n) rest in
    rw (t, d, number-digits w n h.0, numbers-digits ws ns h.1) refl

pub length-digits_of : (ws ns : List ℕ) → Fits ws ns → length (digits_of ws ns) ≡ total ws
length-digits_of [] [] h = refl
length-digits_of [] (n ∷ ns) h = absurd h
length-digits_of (w ∷ ws) [] h = absurd h
length-digits_of (w ∷ ws) (n ∷ ns) h = length-append (digits w n) (digits_of ws ns) ∙ (rw (length-digits w n, length-digits_of ws ns h.1) refl)

-- ---- bits are those of their number

digits-number : (bs : List Bool) → digits (length bs) (number_of bs) ≡ bs
digits-number [] = refl
digits-number (true ∷ bs) =
    let small = number-below bs in
    let above : nat_le (2 ^ length bs) (1 * 2 ^ length bs + number_of bs) ≡ true = true-le (2 ^ length bs) (1 * 2 ^ length bs + number_of bs) (omega arith) in
    let less : 1 * 2 ^ length bs + number_of bs - 2 ^ length bs ≡ number_of bs = omega arith in
    rw (above, less) (ap (λ zs. true ∷ zs) (digits-number bs))
digits-number (false ∷ bs) =
    let small = number-below bs in
    let same : 0 * 2 ^ length bs + number_of bs ≡ number_of bs = omega arith in
    let below : nat_le (2 ^ length bs) (number_of bs) ≡ false = false-le (2 ^ length bs) (number_of bs) small in
    rw (same, below) (ap (λ zs. false ∷ zs) (digits-number bs))

join : (n : ℕ) (bs : List Bool) → take n bs ++ drop n bs ≡ bs
join zero bs = refl
join (suc n) [] = refl
join (suc n) (b ∷ bs) = ap (λ zs. b ∷ zs) (join n bs)

pub take-long : (w rest : ℕ) (bs : List Bool) → length bs ≡ w + rest → length (take w bs) ≡ w
take-long zero rest bs e = refl
take-long (suc w) rest [] e = absurd (omega (arith, e))
take-long (suc w) rest (b ∷ bs) e = ap suc (take-long w rest bs (omega (arith, e)))

pub drop-long : (w rest : ℕ) (bs : List Bool) → length bs ≡ w + rest → length (drop w bs) ≡ rest
drop-long zero rest bs e = omega (arith, e)
drop-long (suc w) rest [] e = absurd (omega (arith, e))
drop-long (suc w) rest (b ∷ bs) e = drop-long w rest bs (omega (arith, e))

pub fits-numbers : (ws : List ℕ) (bs : List Bool) → length bs ≡ total ws → Fits ws (numbers_of ws bs)
fits-numbers [] bs long = tt
fits-numbers (w ∷ ws) bs long =
    let first = take-long w (total ws) bs long in
    (subst (λ n. number_of (take w bs) < 2 ^ n) first (number-below (take w bs)), fits-numbers ws (drop w bs) (drop-long w (total ws) bs long))

pub digits-numbers : (ws : List ℕ) (bs : List Bool) → length bs ≡ total ws → digits_of ws (numbers_of ws bs) ≡ bs
digits-numbers [] [] long = refl
digits-numbers [] (b ∷ bs) long = absurd (omega (arith, long))
digits-numbers (w ∷ ws) bs long =
    let first = take-long w (total ws) bs long in
    let front : digits w (number_of (take w bs)) ≡ take w bs = subst (λ n. digits n (number_of (take w bs)) ≡ take w bs) first (digits-number (take w bs)) in
    rw (front, digits-numbers ws (drop w bs) (drop-long w (total ws) bs long)) (join w bs)
