-- Numbers as bits, and gates that stay.
use Rattle.gate_arith.proofs.Common.{ℕ, zero, suc, ◌≡◌, ◌<◌, ◌≤◌, ◌+◌, ◌*◌, ◌^◌, ◌++◌, Bool, true, false, List, [], ◌∷◌, map, length, arith, sym, ap, refl, ◌∙◌, length-append, pow-suc, pow-add, length-map, digit, GateId, Gate, gate_at, Keeps, Grows, AreGates, number_at, number_of}

pub keeps_self : (gs : List Gate) → Keeps gs gs
keeps_self gs = record { longer = omega arith; kept = λ v a lt. refl; inputs = refl }

pub keeps_trans : (a b c : List Gate) → Keeps a b → Keeps b c → Keeps a c
keeps_trans a b c p q = record {
  longer = omega (arith, p.longer, q.longer);
  kept = λ v x lt. q.kept v x (omega (arith, p.longer)) ∙ p.kept v x lt;
  inputs = q.inputs ∙ p.inputs;
}

pub gates_later : (old new : List Gate) (xs : List GateId) → length old ≤ length new → AreGates old xs → AreGates new xs
gates_later old new xs le h i d lt = omega (arith, h i d lt)

pub gates_push : (new : List Gate) (xs : List GateId) (y : GateId) → AreGates new xs → y.index < length new → AreGates new (xs ++ y ∷ [])
gates_push new [] y h here zero d lt = here
gates_push new [] y h here (suc k) d lt = absurd (omega arith)
gates_push new (x ∷ xs) y h here zero d lt = h 0 x (omega arith)
gates_push new (x ∷ xs) y h here (suc k) d lt = gates_push new xs y (λ i e l. h (suc i) e (omega arith)) here k d (omega arith)

pub map-grown : (old new : List Gate) → Grows old new → (xs : List GateId) → AreGates old xs → (v : ℕ → Bool)
    → map (gate_at v new) xs ≡ map (gate_at v old) xs
map-grown old new k [] h v = refl
map-grown old new k (x ∷ xs) h v =
    let here = k.kept v x (h 0 x (omega arith)) in
    let rest = map-grown old new k xs (λ i d lt. h (suc i) d (omega arith)) v in
    ap (λ z. z ∷ map (gate_at v new) xs) here ∙ ap (λ zs. gate_at v old x ∷ zs) rest

pub grows_kept : (old new : List Gate) → Keeps old new → Grows old new
grows_kept old new k = record { longer = k.longer; kept = k.kept }

pub map-kept : (old new : List Gate) → Keeps old new → (xs : List GateId) → AreGates old xs → (v : ℕ → Bool)
    → map (gate_at v new) xs ≡ map (gate_at v old) xs
map-kept old new k xs h v = map-grown old new (grows_kept old new k) xs h v

pub number-kept : (old new : List Gate) → Keeps old new → (xs : List GateId) → AreGates old xs → (v : ℕ → Bool)
    → number_at v new xs ≡ number_at v old xs
number-kept old new k xs h v = ap number_of (map-kept old new k xs h v)

digit-below : (b : Bool) (k : ℕ) → digit b * k ≤ k
digit-below true k = omega arith
digit-below false k = omega arith

pub number-below : (bs : List Bool) → number_of bs < 2 ^ length bs
number-below [] = omega arith
number-below (b ∷ bs) = rw (pow-suc 2 (length bs)) (omega (arith, number-below bs, digit-below b (2 ^ length bs)))

pub number-at-below : (v : ℕ → Bool) (gs : List Gate) (xs : List GateId) → number_at v gs xs < 2 ^ length xs
number-at-below v gs xs = rw (sym (length-map xs (gate_at v gs))) (number-below (map (gate_at v gs) xs))

pub number-append : (xs ys : List Bool) → number_of (xs ++ ys) ≡ number_of xs * 2 ^ length ys + number_of ys
number-append [] ys = omega arith
number-append (x ∷ xs) ys =
    let e : 2 ^ length (xs ++ ys) ≡ 2 ^ length xs * 2 ^ length ys = ap (λ k. 2 ^ k) (length-append xs ys) ∙ pow-add 2 (length xs) (length ys) in
    let rest = number-append xs ys in
    regroup (digit x) (2 ^ length (xs ++ ys)) (2 ^ length xs) (2 ^ length ys) (number_of (xs ++ ys)) (number_of xs) (number_of ys) e rest
  where
    regroup : (d w p q z x y : ℕ) → w ≡ p * q → z ≡ x * q + y → d * w + z ≡ (d * p + x) * q + y
    regroup d w p q z x y e rest = rw (e, rest) (omega arith)

pub number-push : (xs : List Bool) (b : Bool) → number_of (xs ++ b ∷ []) ≡ number_of xs * 2 + digit b
number-push xs b = number-append xs (b ∷ []) ∙ (let e : number_of xs * 2 ^ 1 + (digit b * 2 ^ 0 + 0) ≡ number_of xs * 2 + digit b = omega arith in e)
