-- The facts of the gates, one after the other, and the values that keep them.
use Rattle.gates.proofs.Common.{All, ℕ, zero, suc, ◌≡◌, ◌<◌, ◌+◌, ◌↔◌, inl, inr, Bool, false, List, [], ◌∷◌, Some, get_or, slice_get, length, arith, ap, sym, subst, refl, ◌∙◌, Contains, cases_eq, GateId, Gate, Zero, Input, And, Xor, Choose, operands, AreInputs, AreFit, IsFit, gate_value, inputs_of, values_from, values_of, AreFacts, IsFact, gate_fact}
use Rattle.gates.proofs.Stages.{value-stored}

pub fit-at : (n : ℕ) (gs : List Gate) (i : ℕ) (d : Gate) → AreFit n gs → i < length gs → IsFit (n + i) (get_or gs i d)
fit-at n [] i d fit lt = absurd (omega arith)
fit-at n (g ∷ gs) zero d fit lt = subst (λ k. IsFit k g) (let e : n ≡ n + 0 = omega arith in e) fit.0
fit-at n (g ∷ gs) (suc i) d fit lt =
    subst (λ k. IsFit k (get_or gs i d)) (let e : (n + 1) + i ≡ n + suc i = omega arith in e) (fit-at (n + 1) gs i d fit.1 (omega arith))

pub fit_stored : (n : ℕ) (gs : List Gate) (i : ℕ) (g : Gate) → AreFit n gs → slice_get gs i ≡ Some g → IsFit (n + i) g
fit_stored n [] i g fit e = absurd (let x : ⊥ = cc in x)
fit_stored n (s ∷ ss) zero g fit e =
    let is : s ≡ g = cc in
    subst (λ k. IsFit k g) (let z : n ≡ n + 0 = omega arith in z) (subst (λ (x : Gate). IsFit n x) is fit.0)
fit_stored n (s ∷ ss) (suc i) g fit e = subst (λ k. IsFit k g) (let z : (n + 1) + i ≡ n + suc i = omega arith in z) (fit_stored (n + 1) ss i g fit.1 e)

pub gate_place : (gs : List Gate) (i : ℕ) (d : Gate) → i < length gs → slice_get gs i ≡ Some (get_or gs i d)
gate_place [] i d lt = absurd (omega arith)
gate_place (g ∷ gs) zero d lt = refl
gate_place (g ∷ gs) (suc i) d lt = gate_place gs i d (omega arith)

some_same : {x y : Gate} → Some x ≡ Some y → x ≡ y
some_same e = cc

-- the facts of one more variable
pub facts-more : (v : ℕ → Bool) (number : List ℕ) (gates : List Gate) (gate_of : List ℕ) (end : ℕ) (g : Gate) → slice_get gates (get_or gate_of end 0) ≡ Some g
    → (AreFacts v number gates gate_of end × IsFact v number (get_or gate_of end 0) g) ↔ AreFacts v number gates gate_of (end + 1)
facts-more v number gates gate_of end g at = (
  λ h j x lt e. elim (cases_eq j end) [
    | inl is ↦
        let same : g ≡ x = some_same (sym at ∙ (ap (λ k. slice_get gates (get_or gate_of k 0)) (sym is) ∙ e)) in
        subst (λ k. IsFact v number (get_or gate_of k 0) x) (sym is) (subst (λ (y : Gate). IsFact v number (get_or gate_of end 0) y) same h.1)
    | inr ne ↦ h.0 j x (omega arith) e
  ],
  λ h. (λ j x lt e. h j x (omega arith) e, h end g (omega arith) at),
)

-- ---- the values of the inputs

-- an input among the gates
input-at : (n : ℕ) (gs : List Gate) (i : ℕ) → AreFit n gs → Contains (inputs_of gs) i → (j : ℕ) × (i ≡ n + j) × (j < length gs) × (slice_get gs j ≡ Some (Input i))
input-at n [] i fit h = absurd (let lt = h.1 in omega arith)
input-at n (Zero ∷ gs) i fit h = let r = input-at (n + 1) gs i fit.1 h in (suc r.0, omega (arith, r.1), omega (arith, r.2), r.3)
input-at n (And a b ∷ gs) i fit h = let r = input-at (n + 1) gs i fit.1 h in (suc r.0, omega (arith, r.1), omega (arith, r.2), r.3)
input-at n (Xor a b ∷ gs) i fit h = let r = input-at (n + 1) gs i fit.1 h in (suc r.0, omega (arith, r.1), omega (arith, r.2), r.3)
input-at n (Choose t a b ∷ gs) i fit h = let r = input-at (n + 1) gs i fit.1 h in (suc r.0, omega (arith, r.1), omega (arith, r.2), r.3)
input-at n (Input place ∷ gs) i fit (zero, lt, e) = (0, omega (arith, e, fit.0), omega arith, ap (λ p. Some (Input p)) e)
input-at n (Input place ∷ gs) i fit (suc k, lt, e) =
    let r = input-at (n + 1) gs i fit.1 (k, omega arith, e) in (suc r.0, omega (arith, r.1), omega (arith, r.2), r.3)

pub input_within : (gs : List Gate) (i : ℕ) → AreFit 0 gs → Contains (inputs_of gs) i → i < length gs
input_within gs i fit h = let r = input-at 0 gs i fit h in omega (arith, r.1, r.2)

pub input_gate : (gs : List Gate) (i : ℕ) → AreFit 0 gs → Contains (inputs_of gs) i → slice_get gs i ≡ Some (Input i)
input_gate gs i fit h =
    let r = input-at 0 gs i fit h in
    let is : i ≡ r.0 = omega (arith, r.1) in
    ap (slice_get gs) is ∙ r.3

-- and an input that is stored is among the inputs
pub input_named : (gs : List Gate) (i place : ℕ) → slice_get gs i ≡ Some (Input place) → Contains (inputs_of gs) place
input_named [] i place e = absurd (let x : ⊥ = cc in x)
input_named (Zero ∷ gs) zero place e = absurd (let x : ⊥ = cc in x)
input_named (And a b ∷ gs) zero place e = absurd (let x : ⊥ = cc in x)
input_named (Xor a b ∷ gs) zero place e = absurd (let x : ⊥ = cc in x)
input_named (Choose t a b ∷ gs) zero place e = absurd (let x : ⊥ = cc in x)
input_named (Input p ∷ gs) zero place e = (0, omega arith, (let is : p ≡ place = cc in is))
input_named (Zero ∷ gs) (suc i) place e = input_named gs i place e
input_named (And a b ∷ gs) (suc i) place e = input_named gs i place e
input_named (Xor a b ∷ gs) (suc i) place e = input_named gs i place e
input_named (Choose t a b ∷ gs) (suc i) place e = input_named gs i place e
input_named (Input p ∷ gs) (suc i) place e = let r = input_named gs i place e in (suc r.0, omega (arith, r.1), r.2)

-- what holds of all holds of the one at an index
pub inputs_stored : (gates : List Gate) (order : List GateId) → AreInputs gates order → (j : ℕ) (a : GateId) → slice_get order j ≡ Some a → Contains (inputs_of gates) a.index
inputs_stored gates [] h j a e = absurd (let z : ⊥ = cc in z)
inputs_stored gates (x ∷ xs) h zero a e =
    let is : x ≡ a = cc in
    subst (λ (g : GateId). Contains (inputs_of gates) g.index) is (h 0 a (omega arith)).input
inputs_stored gates (x ∷ xs) h (suc j) a e = inputs_stored gates xs (λ i d lt. h (suc i) d (omega arith)) j a e

pub value-input : (v : ℕ → Bool) (gs : List Gate) (i : ℕ) → AreFit 0 gs → Contains (inputs_of gs) i → get_or (values_of v gs) i false ≡ v i
unfolding values_of
value-input v gs i fit h =
    let zero_more : i ≡ 0 + i = omega arith in
    ap (λ k. get_or (values_from v [] gs) k false) zero_more ∙ value-stored v [] gs i (Input i) fit (input_gate gs i fit h)

-- ---- the values of the gates that have variables

-- a gate has its value by w, where w has the values of its operands, and of itself if it is an input
gate-same : (v w : ℕ → Bool) (vs : List Bool) (g : Gate) → All (λ j. get_or vs j false ≡ w j) (operands g) → ((place : ℕ) → g ≡ Input place → v place ≡ w place)
    → gate_value v vs g ≡ gate_fact w g
gate-same v w vs Zero h own = refl
gate-same v w vs (Input place) h own = own place refl
gate-same v w vs (And a b) h own = rw (h 0 0 (omega arith), h 1 0 (omega arith)) refl
gate-same v w vs (Xor a b) h own = rw (h 0 0 (omega arith), h 1 0 (omega arith)) refl
gate-same v w vs (Choose test first second) h own = rw (h 0 0 (omega arith), h 1 0 (omega arith), h 2 0 (omega arith)) refl

module _ (v w : ℕ → Bool) (gates : List Gate) (fit : AreFit 0 gates) where
  -- the value of a gate in the circuit
  value_at : (i : ℕ) (g : Gate) → slice_get gates i ≡ Some g → get_or (values_of v gates) i false ≡ gate_value v (values_of v gates) g
  unfolding values_of
  value_at i g at =
      let zero_more : i ≡ 0 + i = omega arith in
      ap (λ k. get_or (values_from v [] gates) k false) zero_more ∙ value-stored v [] gates i g fit at

  -- the circuit's own values keep a gate's fact
  pub value_fact : (i : ℕ) (g : Gate) → slice_get gates i ≡ Some g → get_or (values_of v gates) i false ≡ w i → All (λ j. get_or (values_of v gates) j false ≡ w j) (operands g)
      → ((place : ℕ) → g ≡ Input place → v place ≡ w place) → w i ≡ gate_fact w g
  value_fact i g at here below own = sym here ∙ (value_at i g at ∙ gate-same v w (values_of v gates) g below own)

  module _ (used : ℕ → Type 0) (below : (i : ℕ) (g : Gate) → slice_get gates i ≡ Some g → All (λ j. j < i) (operands g))
      (closed : (i : ℕ) (g : Gate) → used i → slice_get gates i ≡ Some g → All used (operands g))
      (facts : (i : ℕ) (g : Gate) → used i → slice_get gates i ≡ Some g → w i ≡ gate_fact w g)
      (inputs : (i place : ℕ) → used i → slice_get gates i ≡ Some (Input place) → v place ≡ w place) where
    determined : (n i : ℕ) → i < n → i < length gates → used i → get_or (values_of v gates) i false ≡ w i
    determined zero i small lt has = absurd (omega arith)
    determined (suc n) i small lt has =
        let g = get_or gates i Zero in
        let at = gate_place gates i Zero lt in
        value_at i g at
        ∙ (gate-same v w (values_of v gates) g
        (λ k d l. determined n (get_or (operands g) k d) (omega (arith, below i g at k d l)) (omega (arith, below i g at k d l)) (closed i g has at k d l))
        (λ place is. inputs i place has (at ∙ ap Some is))
        ∙ sym (facts i g has at))

    -- values that keep the facts of these gates are those of the circuit over the same inputs
    pub values-determined : (i : ℕ) → i < length gates → used i → get_or (values_of v gates) i false ≡ w i
    values-determined i lt has = determined (i + 1) i (omega arith) lt has
