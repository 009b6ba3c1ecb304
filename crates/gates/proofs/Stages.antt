-- The values of gates as one more is stored.
use Rattle.gates.proofs.Common.{ℕ, zero, suc, ◌≡◌, ◌<◌, ◌+◌, ◌++◌, ◌⊎◌, inl, inr, Bool, true, false, not, ◌&&◌, cond, List, [], ◌∷◌, Some, get_or, slice_get, take, length, arith, sym, ap, subst, refl, ◌∙◌, length-append, append-nil, beq, get_or_push, get_or_append_left, GateId, Gate, Zero, Input, And, Xor, Choose, Contains, Result, Ok, Err, IfOk, value_at, gate_value, values_from, values_of, exclusive, gate_at, inputs_of, IsFit, AreFit, IsInput, Keeps, Grows, Makes}
use Rattle.std.proofs.lemmas.List.Elements.{Contains-append_right}

pub AreFit-push : (n : ℕ) (gs : List Gate) (g : Gate) → AreFit n gs → IsFit (n + length gs) g → AreFit n (gs ++ g ∷ [])
AreFit-push n [] g h fit = (subst (λ k. IsFit k g) (let e : n + 0 ≡ n = omega arith in e) fit, tt)
AreFit-push n (x ∷ xs) g h fit =
    (h.0, AreFit-push (n + 1) xs g h.1 (subst (λ k. IsFit k g) (let e : n + suc (length xs) ≡ (n + 1) + length xs = omega arith in e) fit))

-- the first gates go well by themselves
pub AreFit-take : (n k : ℕ) (gs : List Gate) → AreFit n gs → AreFit n (take k gs)
AreFit-take n zero gs h = tt
AreFit-take n (suc k) [] h = tt
AreFit-take n (suc k) (x ∷ xs) h = (h.0, AreFit-take (n + 1) k xs h.1)

-- whether the gate was there or not
pub AreFit-stored : (known : Bool) (gs stored : List Gate) (g : Gate) → stored ≡ cond known gs (gs ++ g ∷ []) → AreFit 0 gs → IsFit (length gs) g → AreFit 0 stored
AreFit-stored true gs stored g e h fit = rw e h
AreFit-stored false gs stored g e h fit = rw e (AreFit-push 0 gs g h (subst (λ k. IsFit k g) (let z : length gs ≡ 0 + length gs = omega arith in z) fit))

pub grown_stored : (known : Bool) (gs stored : List Gate) (g : Gate) → stored ≡ cond known gs (gs ++ g ∷ []) → (stored ≡ gs) ⊎ (stored ≡ gs ++ g ∷ [])
grown_stored true gs stored g e = inl e
grown_stored false gs stored g e = inr e

pub length-values : (v : ℕ → Bool) (vs : List Bool) (gs : List Gate) → length (values_from v vs gs) ≡ length vs + length gs
length-values v vs [] = omega arith
length-values v vs (x ∷ xs) =
    omega (arith, length-values v (vs ++ gate_value v vs x ∷ []) xs, length-append vs (gate_value v vs x ∷ []))

pub values-append : (v : ℕ → Bool) (vs : List Bool) (gs hs : List Gate) → values_from v vs (gs ++ hs) ≡ values_from v (values_from v vs gs) hs
values-append v vs [] hs = refl
values-append v vs (x ∷ xs) hs = values-append v (vs ++ gate_value v vs x ∷ []) xs hs

pub values-front : (v : ℕ → Bool) (vs : List Bool) (gs : List Gate) (i : ℕ) → i < length vs → get_or (values_from v vs gs) i false ≡ get_or vs i false
values-front v vs [] i lt = refl
values-front v vs (x ∷ xs) i lt =
    let more : i < length (vs ++ gate_value v vs x ∷ []) = omega (arith, length-append vs (gate_value v vs x ∷ [])) in
    values-front v (vs ++ gate_value v vs x ∷ []) xs i more ∙ get_or_append_left vs (gate_value v vs x ∷ []) false i lt

-- a gate has one value over lists that agree on what it names
pub value-same : (v : ℕ → Bool) (n : ℕ) (early late : List Bool) (g : Gate) → IsFit n g
    → ((j : ℕ) → j < n → get_or late j false ≡ get_or early j false) → gate_value v late g ≡ gate_value v early g
value-same v n early late Zero fit h = refl
value-same v n early late (Input place) fit h = refl
value-same v n early late (And a b) fit h =
    let lower : a.index < n = omega arith in
    rw (h a.index lower, h b.index fit.1) refl
value-same v n early late (Xor a b) fit h =
    let lower : a < n = omega arith in
    rw (h a lower, h b fit.1) refl
value-same v n early late (Choose test first second) fit h =
    rw (h test fit.0, h first fit.1, h second.index fit.2) refl

-- the value of the gate at an index is the one over all values
pub value-stored : (v : ℕ → Bool) (vs : List Bool) (gs : List Gate) (i : ℕ) (g : Gate) → AreFit (length vs) gs → slice_get gs i ≡ Some g
    → get_or (values_from v vs gs) (length vs + i) false ≡ gate_value v (values_from v vs gs) g
value-stored v vs [] i g fit e = absurd (let x : ⊥ = cc in x)
value-stored v vs (s ∷ ss) zero g fit e =
    let is : s ≡ g = cc in
    let at : length vs + 0 ≡ length vs = omega arith in
    let more : length vs < length (vs ++ gate_value v vs s ∷ []) = omega (arith, length-append vs (gate_value v vs s ∷ [])) in
    let front = values-front v (vs ++ gate_value v vs s ∷ []) ss (length vs) more in
    let same = value-same v (length vs) vs (values_from v (vs ++ gate_value v vs s ∷ []) ss) s fit.0 (λ j lt. values-front v vs (s ∷ ss) j lt) in
    ap (λ k. get_or (values_from v (vs ++ gate_value v vs s ∷ []) ss) k false) at
    ∙ (front ∙ (get_or_push vs (gate_value v vs s) false (length vs) refl ∙ (sym same ∙ ap (λ x. gate_value v (values_from v (vs ++ gate_value v vs s ∷ []) ss) x) is)))
value-stored v vs (s ∷ ss) (suc i) g fit e =
    let longer : length (vs ++ gate_value v vs s ∷ []) ≡ length vs + 1 = length-append vs (gate_value v vs s ∷ []) in
    let at : length vs + suc i ≡ length (vs ++ gate_value v vs s ∷ []) + i = omega (arith, longer) in
    ap (λ k. get_or (values_from v (vs ++ gate_value v vs s ∷ []) ss) k false) at
    ∙ value-stored v (vs ++ gate_value v vs s ∷ []) ss i g (subst (λ k. AreFit k ss) (sym longer) fit.1) e

pub within_stored : (gs : List Gate) (i : ℕ) (g : Gate) → slice_get gs i ≡ Some g → i < length gs
within_stored [] i g e = absurd (let x : ⊥ = cc in x)
within_stored (s ∷ ss) zero g e = omega arith
within_stored (s ∷ ss) (suc i) g e = omega (arith, within_stored ss i g e)

-- an input carries its index
pub input-place : (n : ℕ) (gs : List Gate) (i place : ℕ) → AreFit n gs → slice_get gs i ≡ Some (Input place) → place ≡ n + i
input-place n [] i place fit e = absurd (let x : ⊥ = cc in x)
input-place n (s ∷ ss) zero place fit e =
    let is : s ≡ Input place = cc in
    let here : place ≡ n = subst (λ g. IsFit n g) is fit.0 in omega (arith, here)
input-place n (s ∷ ss) (suc i) place fit e = omega (arith, input-place (n + 1) ss i place fit.1 e)

pub inputs-append : (gs hs : List Gate) → inputs_of (gs ++ hs) ≡ inputs_of gs ++ inputs_of hs
inputs-append [] hs = refl
inputs-append (Zero ∷ gs) hs = inputs-append gs hs
inputs-append (Input place ∷ gs) hs = ap (λ zs. place ∷ zs) (inputs-append gs hs)
inputs-append (And a b ∷ gs) hs = inputs-append gs hs
inputs-append (Xor a b ∷ gs) hs = inputs-append gs hs
inputs-append (Choose test first second ∷ gs) hs = inputs-append gs hs

grows_append : (old more : List Gate) → Grows old (old ++ more)
unfolding gate_at values_of
grows_append old more = record {
  longer = omega (arith, length-append old more);
  kept = λ v a lt.
      let within : a.index < length (values_from v [] old) = omega (arith, length-values v [] old) in
      ap (λ zs. value_at zs a) (values-append v [] old more)
      ∙ ap (λ b. exclusive a.negated b) (values-front v (values_from v [] old) more a.index within);
}

pub grows_grown : (old new : List Gate) (g : Gate) → (new ≡ old) ⊎ (new ≡ old ++ g ∷ []) → Grows old new
grows_grown old new g (inl e) = subst (λ (gs : List Gate). Grows old gs) (sym e) (record { longer = omega arith; kept = λ v a lt. refl })
grows_grown old new g (inr e) = subst (λ (gs : List Gate). Grows old gs) (sym e) (grows_append old (g ∷ []))

pub inputs_grown : (old new : List Gate) (g : Gate) → (new ≡ old) ⊎ (new ≡ old ++ g ∷ []) → inputs_of (g ∷ []) ≡ [] → inputs_of new ≡ inputs_of old
inputs_grown old new g (inl e) none = ap inputs_of e
inputs_grown old new g (inr e) none =
    ap inputs_of e ∙ (inputs-append old (g ∷ []) ∙ (ap (λ zs. inputs_of old ++ zs) none ∙ append-nil (inputs_of old)))

pub keeps_grown : (old new : List Gate) (g : Gate) → (new ≡ old) ⊎ (new ≡ old ++ g ∷ []) → inputs_of (g ∷ []) ≡ [] → Keeps old new
keeps_grown old new g h none =
    let grows = grows_grown old new g h in record { longer = grows.longer; kept = grows.kept; inputs = inputs_grown old new g h none }

-- what was stored has the value of the gate over those before
pub makes_stored : (old new : List Gate) (id : GateId) (g : Gate) → Grows old new → AreFit 0 new → IsFit (length old) g
    → slice_get new id.index ≡ Some g → id.negated ≡ false → Makes new id (λ v. gate_value v (values_of v old) g)
unfolding gate_at values_of
makes_stored old new id g grows fit good at plain = record {
  within = within_stored new id.index g at;
  says = λ v.
      let zero_more : id.index ≡ 0 + id.index = omega arith in
      let stored = value-stored v [] new id.index g fit at in
      let same = value-same v (length old) (values_from v [] old) (values_from v [] new) g good
      (λ j lt. grows.kept v (record { index = j; negated = false }) lt) in
      ap (λ n. exclusive n (get_or (values_from v [] new) id.index false)) plain
      ∙ (ap (λ k. get_or (values_from v [] new) k false) zero_more ∙ (stored ∙ same));
}

pub constant-value : (gs : List Gate) (a : GateId) → AreFit 0 gs → slice_get gs a.index ≡ Some Zero → (v : ℕ → Bool) → gate_at v gs a ≡ a.negated
unfolding gate_at values_of
constant-value gs a fit at v =
    let zero_more : a.index ≡ 0 + a.index = omega arith in
    let stored : get_or (values_from v [] gs) a.index false ≡ false = ap (λ k. get_or (values_from v [] gs) k false) zero_more ∙ value-stored v [] gs a.index Zero fit at in
    ap (λ b. exclusive a.negated b) stored ∙ plain a.negated
  where
    plain : (n : Bool) → exclusive n false ≡ n
    plain true = refl
    plain false = refl

-- the value of an and gate by its two
pub and-value : (v : ℕ → Bool) (gs : List Gate) (a b : GateId) → gate_value v (values_of v gs) (And a b) ≡ (gate_at v gs a && gate_at v gs b)
unfolding gate_at
and-value v gs a b = refl

pub not-value : (v : ℕ → Bool) (gs : List Gate) (i : ℕ) (n : Bool) → gate_at v gs (record { index = i; negated = not n }) ≡ not (gate_at v gs (record { index = i; negated = n }))
unfolding gate_at
not-value v gs i true = twice _
  where
    twice : (b : Bool) → b ≡ not (not b)
    twice true = refl
    twice false = refl
not-value v gs i false = refl

Contains-one : (x : ℕ) → Contains (x ∷ []) x
Contains-one x = grind arith

-- what an input is known by
pub record IsStoredInput (old new : List Gate) (id : GateId) (place : ℕ) : Type 0 where
  pub at_end : place ≡ length old
  pub stored : slice_get new id.index ≡ Some (Input place)
  pub plain : id.negated ≡ false
  pub fit : AreFit 0 new
  pub grown : (new ≡ old) ⊎ (new ≡ old ++ Input place ∷ [])

module _ (old new : List Gate) (id : GateId) (place : ℕ) (s : IsStoredInput old new id place) where
  pub input_last : id.index ≡ length old
  input_last = omega (arith, input-place 0 new id.index place s.fit s.stored, s.at_end)

  pub input_pushed : new ≡ old ++ Input place ∷ []
  input_pushed = elim s.grown [
    | inl e ↦ absurd (let lt = within_stored new id.index (Input place) s.stored in let same = ap length e in omega (arith, lt, same, input_last))
    | inr e ↦ e
  ]

  pub input_inputs : inputs_of new ≡ inputs_of old ++ id.index ∷ []
  input_inputs =
      let is : place ≡ id.index = omega (arith, input_last, s.at_end) in
      ap inputs_of input_pushed ∙ (inputs-append old (Input place ∷ []) ∙ ap (λ k. inputs_of old ++ k ∷ []) is)

  pub input_is : IsInput new id
  input_is = record {
    input = subst (λ (xs : List ℕ). Contains xs id.index) (sym input_inputs) (Contains-append_right (inputs_of old) (id.index ∷ []) id.index (Contains-one id.index));
    plain = s.plain;
  }

  pub input_made : Makes new id (λ v. v (length old))
  input_made =
      let made = makes_stored old new id (Input place) (grows_grown old new (Input place) s.grown) s.fit s.at_end s.stored s.plain in
      record { within = made.within; says = λ v. made.says v ∙ ap v s.at_end }

pub and-swapped : (a b : Bool) → (a && b) ≡ (b && a)
and-swapped true true = refl
and-swapped true false = refl
and-swapped false true = refl
and-swapped false false = refl

pub apart-value : (v : ℕ → Bool) (gs : List Gate) (a b : GateId) → a.index ≡ b.index → beq a.negated b.negated ≡ false → (gate_at v gs a && gate_at v gs b) ≡ false
unfolding gate_at
apart-value v gs a b same apart =
    ap (λ k. exclusive a.negated (get_or (values_of v gs) k false) && exclusive b.negated (get_or (values_of v gs) b.index false)) same
    ∙ go a.negated b.negated (get_or (values_of v gs) b.index false) apart
  where
    go : (x y z : Bool) → beq x y ≡ false → (exclusive x z && exclusive y z) ≡ false
    go true true z h = absurd (let x : ⊥ = cc in x)
    go true false true h = refl
    go true false false h = refl
    go false true true h = refl
    go false true false h = refl
    go false false z h = absurd (let x : ⊥ = cc in x)

pub IfOk-then : {T E : Type 0} (r : Result T E) (P Q : T → Type 0) → IfOk r P → ((v : T) → P v → Q v) → IfOk r Q
IfOk-then (Ok v) P Q h f = f v h
IfOk-then (Err e) P Q h f = tt

pub stored_at : (gs : List Gate) (i : ℕ) (d g : Gate) → i < length gs → get_or gs i d ≡ g → slice_get gs i ≡ Some g
stored_at [] i d g lt e = absurd (omega arith)
stored_at (s ∷ ss) zero d g lt e = ap Some e
stored_at (s ∷ ss) (suc i) d g lt e = stored_at ss i d g (omega arith) e
