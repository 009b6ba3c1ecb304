-- For each assignment of the variables some values of the inputs agree with it.
use Rattle.std.proofs.Common.{ℕ, zero, suc, ◌≡◌, ◌≢◌, ◌<◌, ◌+◌, ◌/◌, ◌%◌, ◌^◌, ◌++◌, inl, inr, Bool, false, cond, List, [], ◌∷◌, Some, slice_get, map, length, arith, sym, ap, subst, refl, ◌∙◌}
use Rattle.std.specs.Prelude.{nat_eq}
use Rattle.std.proofs.lemmas.Bool.{cases_Bool, eq-eqb, ne_eqb}
use Rattle.std.proofs.lemmas.Nat.{mod-pow-add, mod_below}
use Rattle.bv_terms.specs.Tree.{digit}
use Rattle.gates.specs.declared.circuit.GateId.{GateId}
use Rattle.gates.specs.declared.circuit.Gate.{Gate}
use Rattle.gates.specs.Numbering.{AreApart}
use Rattle.gate_arith.specs.Numbers.{number_of}
use Rattle.bv_terms.specs.declared.variable.Variable.{Variable}
use Rattle.bv_terms.specs.Variables.{is_variable}
use Rattle.bv_terms.proofs.Variables.{same_variable}
use Rattle.bit_blast.specs.Table.{HasInputs, IsTable, all_digits, digits_of, number_by}
use Rattle.bit_blast.proofs.Tables.{found_digits}

abbrev Each : (GateId → Type 0) → List GateId → Type 0
Each P [] = Unit {0}
Each P (a ∷ gs) = P a × Each P gs

abbrev IsOut : ℕ → List GateId → Type 0
IsOut i gs = Each (λ a. i ≢ a.index) gs

-- no gate is named twice
abbrev IsOnce : List GateId → Type 0
IsOnce [] = Unit {0}
IsOnce (a ∷ gs) = IsOut a.index gs × IsOnce gs

each-and : (P Q R : GateId → Type 0) → ((a : GateId) → P a → Q a → R a) → (gs : List GateId) → Each P gs → Each Q gs → Each R gs
each-and P Q R f [] h k = tt
each-and P Q R f (a ∷ gs) h k = (f a h.0 k.0, each-and P Q R f gs h.1 k.1)

each-front : (P : GateId → Type 0) (xs ys : List GateId) → Each P (xs ++ ys) → Each P xs
each-front P [] ys h = tt
each-front P (x ∷ xs) ys h = (h.0, each-front P xs ys h.1)

each-back : (P : GateId → Type 0) (xs ys : List GateId) → Each P (xs ++ ys) → Each P ys
each-back P [] ys h = h
each-back P (x ∷ xs) ys h = each-back P xs ys h.1

each-any : (P : GateId → Type 0) → ((a : GateId) → P a) → (gs : List GateId) → Each P gs
each-any P f [] = tt
each-any P f (a ∷ gs) = (f a, each-any P f gs)

out-from : (i : ℕ) (gs : List GateId) → ((j : ℕ) (b : GateId) → slice_get gs j ≡ Some b → i ≢ b.index) → IsOut i gs
out-from i [] h = tt
out-from i (a ∷ gs) h = (h 0 a refl, out-from i gs (λ j b e. h (suc j) b e))

once-from : (gs : List GateId) → AreApart gs → IsOnce gs
once-from [] h = tt
once-from (a ∷ gs) h =
    (out-from a.index gs (λ j b e. h 0 (suc j) a b (omega arith) refl e), once-from gs (λ i j b c lt gb gc. h (suc i) (suc j) b c (omega arith) gb gc))

once-front : (xs ys : List GateId) → IsOnce (xs ++ ys) → IsOnce xs
once-front [] ys h = tt
once-front (x ∷ xs) ys h = (each-front (λ a. x.index ≢ a.index) xs ys h.0, once-front xs ys h.1)

once-back : (xs ys : List GateId) → IsOnce (xs ++ ys) → IsOnce ys
once-back [] ys h = h
once-back (x ∷ xs) ys h = once-back xs ys h.1

once-between : (xs ys : List GateId) → IsOnce (xs ++ ys) → Each (λ y. IsOut y.index xs) ys
once-between [] ys h = each-any (λ y. IsOut y.index []) (λ y. tt) ys
once-between (x ∷ xs) ys h =
    each-and (λ y. x.index ≢ y.index) (λ y. IsOut y.index xs) (λ y. IsOut y.index (x ∷ xs)) (λ y p q. ((λ e. p (sym e)), q)) ys
    (each-back (λ a. x.index ≢ a.index) xs ys h.0) (once-between xs ys h.1)

map-each : (f g : GateId → Bool) (gs : List GateId) → Each (λ a. f a ≡ g a) gs → map f gs ≡ map g gs
map-each f g [] h = refl
map-each f g (a ∷ gs) h = ap (λ b. b ∷ map f gs) h.0 ∙ ap (λ bs. g a ∷ bs) (map-each f g gs h.1)

-- these values at these gates, and others elsewhere
with_bits : List GateId → List Bool → (ℕ → Bool) → ℕ → Bool
with_bits [] bits rest i = rest i
with_bits (a ∷ gs) [] rest i = rest i
with_bits (a ∷ gs) (b ∷ bs) rest i = cond (nat_eq i a.index) b (with_bits gs bs rest i)

with_bits-out : (gs : List GateId) (bits : List Bool) (rest : ℕ → Bool) (i : ℕ) → IsOut i gs → with_bits gs bits rest i ≡ rest i
unfolding with_bits
with_bits-out [] bits rest i h = refl
with_bits-out (a ∷ gs) [] rest i h = refl
with_bits-out (a ∷ gs) (b ∷ bs) rest i h = ap (λ t. cond t b (with_bits gs bs rest i)) (ne_eqb i a.index h.0) ∙ with_bits-out gs bs rest i h.1

with_bits-own : (gs : List GateId) (bits : List Bool) (rest : ℕ → Bool) → IsOnce gs → length gs ≡ length bits → map (λ a. with_bits gs bits rest a.index) gs ≡ bits
unfolding with_bits
with_bits-own [] [] rest h e = refl
with_bits-own [] (b ∷ bs) rest h e = absurd (omega arith)
with_bits-own (a ∷ gs) [] rest h e = absurd (omega arith)
with_bits-own (a ∷ gs) (b ∷ bs) rest h e =
    let head : cond (nat_eq a.index a.index) b (with_bits gs bs rest a.index) ≡ b = ap (λ t. cond t b (with_bits gs bs rest a.index)) (eq-eqb a.index a.index refl) in
    let tail : map (λ x. cond (nat_eq x.index a.index) b (with_bits gs bs rest x.index)) gs ≡ map (λ x. with_bits gs bs rest x.index) gs =
    map-each (λ x. cond (nat_eq x.index a.index) b (with_bits gs bs rest x.index)) (λ x. with_bits gs bs rest x.index) gs (others gs h.0) in
    ap (λ z. z ∷ map (λ x. cond (nat_eq x.index a.index) b (with_bits gs bs rest x.index)) gs) head
    ∙ ap (λ zs. b ∷ zs) (tail ∙ with_bits-own gs bs rest h.1 (omega arith))
  where
    others : (xs : List GateId) → IsOut a.index xs → Each (λ x. cond (nat_eq x.index a.index) b (with_bits gs bs rest x.index) ≡ with_bits gs bs rest x.index) xs
    others [] k = tt
    others (x ∷ xs) k = (ap (λ t. cond t b (with_bits gs bs rest x.index)) (ne_eqb x.index a.index (λ z. k.0 (sym z))), others xs k.1)

with_bits-others : (gs : List GateId) (bits : List Bool) (rest : ℕ → Bool) (xs : List GateId) → Each (λ x. IsOut x.index gs) xs
    → map (λ a. with_bits gs bits rest a.index) xs ≡ map (λ a. rest a.index) xs
with_bits-others gs bits rest [] h = refl
with_bits-others gs bits rest (x ∷ xs) h =
    ap (λ b. b ∷ map (λ a. with_bits gs bits rest a.index) xs) (with_bits-out gs bits rest x.index h.0) ∙ ap (λ bs. rest x.index ∷ bs) (with_bits-others gs bits rest xs h.1)

one_bit : (n : ℕ) → n < 2 → digit (nat_eq n 1) ≡ n
one_bit zero lt = refl
one_bit (suc zero) lt = refl
one_bit (suc (suc n)) lt = absurd (omega arith)

-- the bits of a number, cut to a width
bits_of : ℕ → ℕ → List Bool
bits_of zero n = []
bits_of (suc w) n = nat_eq (n / 2 ^ w % 2 ^ 1) 1 ∷ bits_of w n

length-bits : (w n : ℕ) → length (bits_of w n) ≡ w
unfolding bits_of
length-bits zero n = refl
length-bits (suc w) n = ap suc (length-bits w n)

number-bits : (w n : ℕ) → number_of (bits_of w n) ≡ n % 2 ^ w
unfolding bits_of
number-bits zero n = let z : 0 ≡ n % 1 = omega arith in z
number-bits (suc w) n =
    let high : digit (nat_eq (n / 2 ^ w % 2 ^ 1) 1) ≡ n / 2 ^ w % 2 ^ 1 = one_bit (n / 2 ^ w % 2 ^ 1) (mod_below (n / 2 ^ w) 2 (omega arith)) in
    let at : 1 + w ≡ suc w = omega arith in
    rw (length-bits w n, number-bits w n, high) (sym (mod-pow-add n 1 w) ∙ ap (λ k. n % 2 ^ k) at)

found-each : (P : GateId → Type 0) (es : List (Variable × List GateId)) (x : Variable) (digits : List GateId) → digits_of es x ≡ Some digits → Each P (all_digits es) → Each P digits
found-each P [] x digits h k = absurd (let z : ⊥ = cc in z)
found-each P (e ∷ es) x digits h k = elim (cases_Bool (is_variable x e.0)) [
  | inl t ↦ let o = rw t at h in let is : e.1 ≡ digits = cc in subst (λ (ds : List GateId). Each P ds) is (each-front P e.1 (all_digits es) k)
  | inr f ↦ found-each P es x digits (rw f at h) (each-back P e.1 (all_digits es) k)
]

-- the inputs agree at each variable whose number of bits is its width
agreeing : (es : List (Variable × List GateId)) → IsOnce (all_digits es) → (v : ℕ → ℕ → ℕ)
    → (inputs : ℕ → Bool) × ((x : Variable) (digits : List GateId) → digits_of es x ≡ Some digits → length digits ≡ x.width → number_by inputs digits ≡ v x.number x.width % 2 ^ x.width)
agreeing [] once v = ((λ i. false), (λ x digits h long. absurd (let z : ⊥ = cc in z)))
agreeing (e ∷ es) once v =
    let before = agreeing es (once-back e.1 (all_digits es) once) v in
    let bits = bits_of e.0.width (v e.0.number e.0.width) in (
      with_bits e.1 bits before.0,
      (λ x digits h long. elim (cases_Bool (is_variable x e.0)) [
        | inl t ↦
            let o = rw t at h in
            let is : e.1 ≡ digits = cc in
            let same : x ≡ e.0 = same_variable x e.0 t in
            let wide : length e.1 ≡ length bits = ap length is ∙ (long ∙ (ap (λ (y : Variable). y.width) same ∙ sym (length-bits e.0.width (v e.0.number e.0.width)))) in
            let own : number_by (with_bits e.1 bits before.0) e.1 ≡ v e.0.number e.0.width % 2 ^ e.0.width =
            ap number_of (with_bits-own e.1 bits before.0 (once-front e.1 (all_digits es) once) wide) ∙ number-bits e.0.width (v e.0.number e.0.width) in
            ap (number_by (with_bits e.1 bits before.0)) (sym is) ∙ (own ∙ ap (λ (y : Variable). v y.number y.width % 2 ^ y.width) (sym same))
        | inr f ↦
            let found : digits_of es x ≡ Some digits = rw f at h in
            let others = found-each (λ a. IsOut a.index e.1) es x digits found (once-between e.1 (all_digits es) once) in
            ap number_of (with_bits-others e.1 bits before.0 digits others) ∙ before.1 x digits found long
      ]),
    )

pub has_inputs : (gates : List Gate) (table : List (Variable × List GateId)) → IsTable gates table → HasInputs table
has_inputs gates table is v =
    let found = agreeing table (once-from (all_digits table) is.apart) v in
    (found.0, λ x digits h. found.1 x digits h (found_digits gates table x digits is.digits h).long)
