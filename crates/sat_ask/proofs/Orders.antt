-- The variables of an order, their bits, and what values of these assign.
use Rattle.sat_ask.proofs.Common.{ℕ, zero, suc, ◌≡◌, ◌<◌, ◌+◌, ◌%◌, ◌^◌, ◌++◌, inl, inr, Bool, true, cond, All, List, [], ◌∷◌, Some, get_or, slice_get, take, drop, map, length, arith, sym, ap, subst, refl, ◌∙◌, length-append, cases_Bool, eq-eqb, length-map, map-append, map_push, take_more, slice_get_within, slice_get-get_or, get_or_from_slice_get, take-append_seam, drop-append_seam, TermId, Term, AreDistinct, bit_at, Cnf, GateId, Gate, AreAllNamed, Encodes, HasOneModelAFront, number_of, Variable, Adds, Agrees, AreDigits, IsTable, all_digits, digits_of, Asks, AreKnown, IsGoal, AreDifferent, HasAll, IsVariable, assigned_by, digit_count, goal_test, variable_of, variables_of}
use Rattle.std.proofs.Math.Nat.{mod-eq_of_lt}
use Rattle.bv_terms.specs.declared.term.Term.TheVariants as term
use Rattle.gate_arith.proofs.Digits.{number-below}
use Rattle.bv_terms.specs.Variables.{is_variable}
use Rattle.bv_terms.proofs.Variables.{same_variable}
use Rattle.sat_ask.proofs.Asking.{IsTestOf, asks}

-- the variables of a table
abbrev pub keys_in : List (Variable × List GateId) → List Variable
keys_in table = map (λ e. e.0) table

same_found : (x : Variable) → is_variable x x ≡ true
same_found x = rw (eq-eqb x.number x.number refl, eq-eqb x.width x.width refl) refl

-- a variable with bits is among the keys
found-key : (table : List (Variable × List GateId)) (x : Variable) (digits : List GateId) → digits_of table x ≡ Some digits → (k : ℕ) × (slice_get (keys_in table) k ≡ Some x)
found-key [] x digits h = absurd (let z : ⊥ = cc in z)
found-key (e ∷ es) x digits h = elim (cases_Bool (is_variable x e.0)) [
  | inl t ↦ (0, ap Some (sym (same_variable x e.0 t)))
  | inr f ↦ let rest = found-key es x digits (rw f at h) in (suc rest.0, rest.1)
]

-- and a key has bits
key-found : (table : List (Variable × List GateId)) (x : Variable) (k : ℕ) → slice_get (keys_in table) k ≡ Some x → (digits : List GateId) × (digits_of table x ≡ Some digits)
key-found [] x k h = absurd (let z : ⊥ = cc in z)
key-found (e ∷ es) x zero h =
    let is : e.0 ≡ x = cc in
    (e.1, ap (λ b. cond b (Some e.1) (digits_of es x)) (ap (λ y. is_variable x y) is ∙ same_found x))
key-found (e ∷ es) x (suc k) h = elim (cases_Bool (is_variable x e.0)) [
  | inl t ↦ (e.1, ap (λ b. cond b (Some e.1) (digits_of es x)) t)
  | inr f ↦ let rest = key-found es x k h in (rest.0, ap (λ b. cond b (Some e.1) (digits_of es x)) f ∙ rest.1)
]

get-map : {A B : Type 0} (f : A → B) (xs : List A) (k : ℕ) (y : B) → slice_get (map f xs) k ≡ Some y → (x : A) × (slice_get xs k ≡ Some x) × (f x ≡ y)
get-map f [] k y h = absurd (let z : ⊥ = cc in z)
get-map f (x ∷ xs) zero y h = (x, refl, (let z : f x ≡ y = cc in z))
get-map f (x ∷ xs) (suc k) y h = get-map f xs k y h

get-take : {A : Type 0} (xs : List A) (n k : ℕ) (x : A) → slice_get (take n xs) k ≡ Some x → (k < n) × (slice_get xs k ≡ Some x)
get-take xs zero k x h = absurd (let z : ⊥ = cc in z)
get-take [] (suc n) k x h = absurd (let z : ⊥ = cc in z)
get-take (y ∷ ys) (suc n) zero x h = (omega arith, h)
get-take (y ∷ ys) (suc n) (suc k) x h = let rest = get-take ys n k x h in (omega (arith, rest.0), rest.1)

all-at : (P : TermId → Type 0) (xs : List TermId) (k : ℕ) (x : TermId) → All P xs → slice_get xs k ≡ Some x → P x
all-at P xs k x all h = subst P (get_or_from_slice_get xs k x x h) (all k x (slice_get_within xs k x h))

-- a variable of the order is among the terms
pub variable-place : (terms : List Term) (order : List TermId) (stored : List Term) (i : ℕ) (d : TermId) → stored ≡ terms → All (IsVariable terms) order → i < length order → (get_or order i d).index < length stored
variable-place terms order stored i d e vars lt = rw e (let var = vars i d lt in slice_get_within terms (get_or order i d).index (term.Variable var.0 var.1) var.2)

-- the variable of a term that is one
named : (terms : List Term) (a : TermId) (number width : ℕ) → slice_get terms a.index ≡ Some (term.Variable number width)
    → variable_of (get_or terms a.index (term.Constant 0 0)) ≡ record { number = number; width = width }
named terms a number width h = ap variable_of (get_or_from_slice_get terms a.index (term.Variable number width) (term.Constant 0 0) h)

module _ (terms : List Term) (order : List TermId) (distinct : AreDistinct terms) (vars : All (IsVariable terms) order) (different : AreDifferent order) where
  one_more : (old new : List (Variable × List GateId)) (i : ℕ) (a : TermId) (number width : ℕ) → slice_get order i ≡ Some a → slice_get terms a.index ≡ Some (term.Variable number width)
      → keys_in old ≡ variables_of terms (take i order) → Adds old new (record { number = number; width = width }) → keys_in new ≡ variables_of terms (take (i + 1) order)
  one_more old new i a number width at is keys (inl known) =
      let x : Variable = record { number = number; width = width } in
      let key = found-key old x known.0 known.1 in
      let there : slice_get (variables_of terms (take i order)) key.0 ≡ Some x = ap (λ ks. slice_get ks key.0) (sym keys) ∙ key.1 in
      let b = get-map (λ (c : TermId). variable_of (get_or terms c.index (term.Constant 0 0))) (take i order) key.0 x there in
      let early = get-take order i key.0 b.0 b.1 in
      let own = all-at (IsVariable terms) order key.0 b.0 vars early.1 in
      let same : record { number = own.0; width = own.1 } ≡ x = sym (named terms b.0 own.0 own.1 own.2) ∙ b.2 in
      let stored : slice_get terms b.0.index ≡ Some (term.Variable number width) = own.2 ∙ ap (λ (y : Variable). Some (term.Variable y.number y.width)) same in
      let index : b.0.index ≡ a.index = distinct b.0.index a.index (term.Variable number width) stored is in
      absurd (different key.0 i b.0 a early.0 early.1 at (let F : ℕ → TermId = λ n. record { index = n } in ap F index))
  one_more old new i a number width at is keys (inr added) =
      let x : Variable = record { number = number; width = width } in
      let f : TermId → Variable = λ (c : TermId). variable_of (get_or terms c.index (term.Constant 0 0)) in
      let lt : i < length order = slice_get_within order i a at in
      let here : get_or order i a ≡ a = get_or_from_slice_get order i a a at in
      ap keys_in added.2 ∙ (map_push (λ (e : Variable × List GateId). e.0) old (x, added.0)
      ∙ (ap (λ ks. ks ++ x ∷ []) keys ∙ (ap (λ y. map f (take i order) ++ y ∷ []) (sym (ap f here ∙ named terms a number width is))
      ∙ (sym (map_push f (take i order) (get_or order i a)) ∙ ap (map f) (sym (take_more order i a lt))))))

pub add-more : (terms : List Term) (order : List TermId) → AreDistinct terms → All (IsVariable terms) order → AreDifferent order
    → (old new : List (Variable × List GateId)) (i : ℕ) (a : TermId) (number width : ℕ) → slice_get order i ≡ Some a → slice_get terms a.index ≡ Some (term.Variable number width)
    → keys_in old ≡ variables_of terms (take i order) → Adds old new (record { number = number; width = width }) → keys_in new ≡ variables_of terms (take (i + 1) order)
add-more = one_more

-- the number of bits is what the widths say
pub count-digits : (gates : List Gate) (table : List (Variable × List GateId)) → All (λ e. AreDigits gates e.0.width e.1) table → length (all_digits table) ≡ digit_count (keys_in table)
count-digits gates [] h = refl
count-digits gates (e ∷ es) h =
    omega (arith, length-append e.1 (all_digits es), (h 0 e (omega arith)).long, count-digits gates es (λ i d lt. h (suc i) d (omega arith)))

-- values of the inputs agree with what their bits assign
pub assigned-agrees : (gates : List Gate) (table : List (Variable × List GateId)) (inputs : ℕ → Bool) → All (λ e. AreDigits gates e.0.width e.1) table
    → Agrees table inputs (assigned_by (keys_in table) (map (λ (a : GateId). inputs a.index) (all_digits table)))
assigned-agrees gates [] inputs h x digits found = absurd (let z : ⊥ = cc in z)
assigned-agrees gates (e ∷ es) inputs h x digits found =
    let bit : GateId → Bool = λ (a : GateId). inputs a.index in
    let bits = map bit (all_digits (e ∷ es)) in
    let long : length (map bit e.1) ≡ e.0.width = length-map e.1 bit ∙ (h 0 e (omega arith)).long in
    let split : bits ≡ map bit e.1 ++ map bit (all_digits es) = map-append bit e.1 (all_digits es) in
    let front : take e.0.width bits ≡ map bit e.1 = ap (λ n. take n bits) (sym long) ∙ (ap (take (length (map bit e.1))) split ∙ take-append_seam (map bit e.1) (map bit (all_digits es))) in
    let back : drop e.0.width bits ≡ map bit (all_digits es) = ap (λ n. drop n bits) (sym long) ∙ (ap (drop (length (map bit e.1))) split ∙ drop-append_seam (map bit e.1) (map bit (all_digits es))) in
    elim (cases_Bool (is_variable x e.0)) [
      | inl t ↦
          let o = rw t at found in
          let is : e.1 ≡ digits = cc in
          let same : x ≡ e.0 = same_variable x e.0 t in
          let value : assigned_by (keys_in (e ∷ es)) bits x.number x.width ≡ number_of (map bit e.1) =
          ap (λ b. cond b (number_of (take e.0.width bits)) (assigned_by (keys_in es) (drop e.0.width bits) x.number x.width)) t ∙ ap number_of front in
          let small : number_of (map bit e.1) < 2 ^ x.width = subst (λ n. number_of (map bit e.1) < 2 ^ n) (long ∙ ap (λ (y : Variable). y.width) (sym same)) (number-below (map bit e.1)) in
          ap (λ (ds : List GateId). number_of (map bit ds)) (sym is) ∙ (sym (mod-eq_of_lt small) ∙ ap (λ n. n % 2 ^ x.width) (sym value))
      | inr f ↦
          let rest = assigned-agrees gates es inputs (λ i d lt. h (suc i) d (omega arith)) x digits (rw f at found) in
          let value : assigned_by (keys_in (e ∷ es)) bits x.number x.width ≡ assigned_by (keys_in es) (map bit (all_digits es)) x.number x.width =
          ap (λ b. cond b (number_of (take e.0.width bits)) (assigned_by (keys_in es) (drop e.0.width bits) x.number x.width)) f ∙ ap (λ ds. assigned_by (keys_in es) ds x.number x.width) back in
          rest ∙ ap (λ n. n % 2 ^ x.width) (sym value)
    ]

-- the variables of the goal have bits where those of the order do
pub all-known : (terms : List Term) (goal : TermId) (order : List TermId) (table : List (Variable × List GateId)) → HasAll terms goal order → keys_in table ≡ variables_of terms order → AreKnown table terms goal
all-known terms goal order table all keys x m =
    let c = all x m in
    let at : slice_get (variables_of terms order) c.0 ≡ Some x = slice_get-get_or (variables_of terms order) c.0 x c.1 ∙ ap Some c.2 in
    key-found table x c.0 (ap (λ ks. slice_get ks c.0) keys ∙ at)

-- the gate of the goal is the test of the bits
pub goal-tested : (gates : List Gate) (table : List (Variable × List GateId)) (terms : List Term) (goal : TermId) (order : List TermId) (out : GateId) → IsTable gates table → AreAllNamed gates (all_digits table)
    → keys_in table ≡ variables_of terms order → IsGoal gates table terms goal out → IsTestOf gates out (all_digits table) (goal_test terms goal order)
goal-tested gates table terms goal order out is all keys g = record {
  named = all;
  says = λ inputs.
      g.says inputs (assigned_by (keys_in table) (map (λ (a : GateId). inputs a.index) (all_digits table))) (assigned-agrees gates table inputs is.digits)
      ∙ ap (λ ks. bit_at (assigned_by ks (map (λ (a : GateId). inputs a.index) (all_digits table))) terms goal) keys;
}

-- the clauses of the circuit ask which bits make the goal true
pub goal-asked : (gates : List Gate) (table : List (Variable × List GateId)) (terms : List Term) (goal : TermId) (order : List TermId) (out : GateId) (front : List GateId) (cnf : Cnf) → IsTable gates table → front ≡ all_digits table
    → AreAllNamed gates front → keys_in table ≡ variables_of terms order → IsGoal gates table terms goal out → Encodes gates out front cnf → HasOneModelAFront gates front cnf
    → Asks (goal_test terms goal order) (digit_count (variables_of terms order)) cnf
goal-asked gates table terms goal order out front cnf is all named keys g e fronts =
    let tested = goal-tested gates table terms goal order out is (subst (λ (ds : List GateId). AreAllNamed gates ds) all named) keys g in
    subst (λ n. Asks (goal_test terms goal order) n cnf) (count-digits gates table is.digits ∙ ap digit_count keys)
    (asks gates out (all_digits table) (goal_test terms goal order) cnf tested (subst (λ (ds : List GateId). Encodes gates out ds cnf) all e) (subst (λ (ds : List GateId). HasOneModelAFront gates ds cnf) all fronts) cnf.front_within)
