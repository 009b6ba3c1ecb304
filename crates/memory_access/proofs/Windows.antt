-- Bytes written over a part of a list: the part, and what is elsewhere.
use Rattle.memory_access.proofs.Common.{◌≡◌, ◌⊎◌, ℕ, zero, suc, ◌+◌, ◌-◌, ◌<◌, ◌≤◌, min, List, [], ◌∷◌, ◌++◌, length, take, drop, None, refl, sym, ap, ◌∙◌, inl, inr, arith, length-append, take_at, slice_get, cases_lt, length-take, length-drop, length-take-le, drop_at, drop-take, take-take}

-- ---- items of lists made of others

get-append_left : {X : Type 0} (xs ys : List X) (k : ℕ) → k < length xs → slice_get (xs ++ ys) k ≡ slice_get xs k
get-append_left [] ys k within = absurd (omega arith)
get-append_left (x ∷ xs) ys zero within = refl
get-append_left (x ∷ xs) ys (suc k) within = get-append_left xs ys k (omega arith)

get-append_right : {X : Type 0} (xs ys : List X) (k m : ℕ) → k ≡ length xs + m → slice_get (xs ++ ys) k ≡ slice_get ys m
get-append_right [] ys k m e = let same : k ≡ m = omega arith in ap (slice_get ys) same
get-append_right (x ∷ xs) ys zero m e = absurd (omega arith)
get-append_right (x ∷ xs) ys (suc k) m e = get-append_right xs ys k m (omega arith)

get-drop : {X : Type 0} (n : ℕ) (xs : List X) (k m : ℕ) → k ≡ n + m → slice_get (drop n xs) m ≡ slice_get xs k
get-drop zero xs k m e = let same : m ≡ k = omega arith in ap (slice_get xs) same
get-drop (suc n) [] k m e = refl
get-drop (suc n) (x ∷ xs) zero m e = absurd (omega arith)
get-drop (suc n) (x ∷ xs) (suc k) m e = get-drop n xs k m (omega arith)

get-take : {X : Type 0} (n : ℕ) (xs : List X) (k : ℕ) → k < n → slice_get (take n xs) k ≡ slice_get xs k
get-take zero xs k within = absurd (omega arith)
get-take (suc n) [] k within = refl
get-take (suc n) (x ∷ xs) zero within = refl
get-take (suc n) (x ∷ xs) (suc k) within = get-take n xs k (omega arith)

get-take_past : {X : Type 0} (n : ℕ) (xs : List X) (k : ℕ) → n ≤ k → slice_get (take n xs) k ≡ None
get-take_past zero xs k past = refl
get-take_past (suc n) [] k past = refl
get-take_past (suc n) (x ∷ xs) zero past = absurd (omega arith)
get-take_past (suc n) (x ∷ xs) (suc k) past = get-take_past n xs k (omega arith)

-- ---- bytes that replace those from an offset on

abbrev pub over : {X : Type 0} → List X → ℕ → List X → List X
over xs offset bytes = take offset xs ++ (bytes ++ drop (offset + length bytes) xs)

pub length-over : {X : Type 0} (xs : List X) (offset : ℕ) (bytes : List X) → offset + length bytes ≤ length xs → length (over xs offset bytes) ≡ length xs
length-over xs offset bytes room =
    let front : length (take offset xs) ≡ offset = length-take-le offset xs (omega arith) in
    let rest = length-drop (offset + length bytes) xs in
    let whole = length-append (take offset xs) (bytes ++ drop (offset + length bytes) xs) in
    let part = length-append bytes (drop (offset + length bytes) xs) in
    omega (arith, front, rest, whole, part)

-- the first bytes of the list are the same number as before
pub length-take-over : {X : Type 0} (xs : List X) (offset : ℕ) (bytes : List X) (size : ℕ) → offset + length bytes ≤ length xs → length (take size (over xs offset bytes)) ≡ length (take size xs)
length-take-over xs offset bytes size room =
    length-take size (over xs offset bytes) ∙ ap (min size) (length-over xs offset bytes room) ∙ sym (length-take size xs)

pub over-part : {X : Type 0} (xs : List X) (offset : ℕ) (bytes : List X) (size : ℕ) → offset + length bytes ≤ length (take size xs) → take (length bytes) (drop offset (take size (over xs offset bytes))) ≡ bytes
over-part xs offset bytes size room =
    let short = length-take size xs in
    let room' : offset + length bytes ≤ min size (length xs) = omega (arith, short) in
    let split : size ≡ offset + (size - offset) = omega (arith, room') in
    let rest = bytes ++ drop (offset + length bytes) xs in
    ap (λ n. take (length bytes) (drop offset (take n (over xs offset bytes)))) split
    ∙ ap (take (length bytes)) (drop-take offset (size - offset) (over xs offset bytes))
    ∙ ap (λ ys. take (length bytes) (take (size - offset) ys)) (drop_at (take offset xs) (bytes ++ drop (offset + length bytes) xs) offset (length-take-le offset xs (omega (arith, room'))))
    ∙ take-take (length bytes) (size - offset) (bytes ++ drop (offset + length bytes) xs) (omega (arith, room'))
    ∙ take_at bytes (drop (offset + length bytes) xs) (length bytes) refl

over-get : {X : Type 0} (xs : List X) (offset : ℕ) (bytes : List X) (k : ℕ) → offset + length bytes ≤ length xs → (k < offset) ⊎ (offset + length bytes ≤ k) → slice_get (over xs offset bytes) k ≡ slice_get xs k
over-get xs offset bytes k room (inl before) =
    let front : length (take offset xs) ≡ offset = length-take-le offset xs (omega arith) in
    get-append_left (take offset xs) (bytes ++ drop (offset + length bytes) xs) k (omega (arith, front, before)) ∙ get-take offset xs k before
over-get xs offset bytes k room (inr after) =
    let front : length (take offset xs) ≡ offset = length-take-le offset xs (omega arith) in
    get-append_right (take offset xs) (bytes ++ drop (offset + length bytes) xs) k (k - offset) (omega (arith, front, after))
    ∙ get-append_right bytes (drop (offset + length bytes) xs) (k - offset) (k - offset - length bytes) (omega (arith, after))
    ∙ get-drop (offset + length bytes) xs k (k - offset - length bytes) (omega (arith, after))

pub over-elsewhere : {X : Type 0} (xs : List X) (offset : ℕ) (bytes : List X) (size k : ℕ) → offset + length bytes ≤ length xs → (k < offset) ⊎ (offset + length bytes ≤ k) → slice_get (take size (over xs offset bytes)) k ≡ slice_get (take size xs) k
over-elsewhere xs offset bytes size k room away =
    elim (cases_lt k size) as (λ _. slice_get (take size (over xs offset bytes)) k ≡ slice_get (take size xs) k) [
      | inl within ↦ get-take size (over xs offset bytes) k within ∙ over-get xs offset bytes k room away ∙ sym (get-take size xs k within)
      | inr past ↦ get-take_past size (over xs offset bytes) k past ∙ sym (get-take_past size xs k past)
    ]
