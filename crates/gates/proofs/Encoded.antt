-- The clauses that say what the gates do have one model over each assignment of the inputs.
use Rattle.gates.proofs.Common.{All, ℕ, suc, ◌≡◌, ◌<◌, ◌≤◌, ◌+◌, ◌-◌, ◌++◌, ◌↔◌, inl, inr, Bool, true, false, List, [], ◌∷◌, Some, get_or, slice_get, map, take, drop, length, arith, ap, sym, subst, refl, ◌∙◌, Contains, length-map, get_or-map, get_or-take, drop_more, take_all, Lit, IsModel, clauses_true, lit_true, GateId, Gate, Input, AreFit, IsFit, exclusive, gate_at, inputs_of, values_of, AreFacts, IsNeeded, operands, output, operand, HasNumber, IsNumberingOf, AreAllNamed, AreInputs, Encodes, Extends}
use Rattle.clause_lits.specs.declared.cnf.Cnf.{Cnf}
use Rattle.clause_lits.specs.Meaning as meaning
use Rattle.gates.proofs.Stages.{input-place}
use Rattle.gates.proofs.FactLemmas.{fit_stored, input_named, value-input, value_fact, values-determined}
use Rattle.gates.proofs.Marks.{all-contains, operands-below}
use Rattle.gates.proofs.Named.{number-ranged, within_order}

-- what is known once the clauses are made
pub record IsEncoding (gates : List Gate) (out : GateId) (order : List GateId) (cnf : Cnf) : Type 0 where
  pub number : List ℕ
  pub gate_of : List ℕ
  pub fit : AreFit 0 gates
  pub inputs : AreInputs gates order
  pub numbering : IsNumberingOf gates out.index order number gate_of
  pub variables : cnf.variables ≡ length gate_of
  pub front : cnf.front ≡ length order
  pub body : List (List Lit)
  pub literal : Lit
  pub clauses : cnf.clauses ≡ body ++ (literal ∷ []) ∷ []
  pub says : (v : ℕ → Bool) → (clauses_true v body ≡ true) ↔ AreFacts v number gates gate_of (length gate_of)
  pub within : out.index < length gates
  pub output : (v : ℕ → Bool) → lit_true v literal ≡ exclusive out.negated (v (get_or number out.index 0))

same_list : (xs ys : List Bool) → length xs ≡ length ys → ((j : ℕ) → j < length xs → get_or xs j false ≡ get_or ys j false) → xs ≡ ys
same_list [] [] e h = refl
same_list [] (y ∷ ys) e h = absurd (omega arith)
same_list (x ∷ xs) [] e h = absurd (omega arith)
same_list (x ∷ xs) (y ∷ ys) e h =
    ap (λ z. z ∷ xs) (h 0 (omega arith)) ∙ ap (λ zs. y ∷ zs) (same_list xs ys (omega arith) (λ j lt. h (suc j) (omega arith)))

module _ (gates : List Gate) (out : GateId) (order : List GateId) (cnf : Cnf) (e : IsEncoding gates out order cnf) where
  -- the assignment that gives each variable its gate's value
  places_for : List Bool → List Bool
  places_for values = map (λ g. get_or values g false) e.gate_of

  places-at : (values : List Bool) (i : ℕ) → HasNumber e.number i → meaning.values_of (places_for values) (get_or e.number i 0) ≡ get_or values i false
  unfolding places_for
  places-at values i has =
      let b = e.numbering.numbering.back i has in
      let inside : get_or e.number i 0 - 1 < length e.gate_of = omega (arith, b.0, has) in
      get_or-map (λ g. get_or values g false) e.gate_of (get_or e.number i 0 - 1) 0 false inside ∙ ap (λ g. get_or values g false) b.1

  below-at : (i : ℕ) (g : Gate) → slice_get gates i ≡ Some g → All (λ j. j < i) (operands g)
  below-at i g at = operands-below i g (subst (λ n. IsFit n g) (let z : 0 + i ≡ i = omega arith in z) (fit_stored 0 gates i g e.fit at))

  -- an input is at its own index
  input_own : (i place : ℕ) → slice_get gates i ≡ Some (Input place) → place ≡ i
  input_own i place at = omega (arith, input-place 0 gates i place e.fit at)

  model : (inputs : ℕ → Bool) → (places : List Bool) × IsModel cnf.variables e.body places × Extends gates e.number inputs places
  unfolding places_for
  model inputs =
      let values = values_of inputs gates in
      let places = places_for values in
      let w : ℕ → Bool = λ k. meaning.values_of places (get_or e.number k 0) in
      let facts : AreFacts (meaning.values_of places) e.number gates e.gate_of (length e.gate_of) = λ j g lt at.
      (let i = get_or e.gate_of j 0 in
      let forth = e.numbering.numbering.forth j lt in
      let has : HasNumber e.number i = omega (arith, forth.1) in
      value_fact inputs w gates e.fit i g at (sym (places-at values i has))
      (λ k d l. sym (places-at values (get_or (operands g) k d) (e.numbering.closed i g has at k d l)))
      (λ place is.
      let here = at ∙ ap Some is in
      let own = input_own i place here in
      sym (value-input inputs gates place e.fit (input_named gates i place here)) ∙ sym (places-at values place (subst (HasNumber e.number) (sym own) has)))) in (
        places,
        (length-map e.gate_of (λ g. get_or values g false) ∙ sym e.variables, (e.says (meaning.values_of places)).1 facts),
        λ i h has. places-at values i has ∙ value-input inputs gates i e.fit h,
      )

  -- in a model each gate with a variable has its value in the circuit
  determined : (inputs : ℕ → Bool) (places : List Bool) → IsModel cnf.variables e.body places → Extends gates e.number inputs places → (i : ℕ) → i < length gates → HasNumber e.number i
      → get_or (values_of inputs gates) i false ≡ meaning.values_of places (get_or e.number i 0)
  determined inputs places m extends i lt has =
      let w : ℕ → Bool = λ k. meaning.values_of places (get_or e.number k 0) in
      let facts = (e.says (meaning.values_of places)).0 m.1 in
      values-determined inputs w gates e.fit (HasNumber e.number) below-at e.numbering.closed
      (λ k g own at.
      let b = e.numbering.numbering.back k own in
      let inside : get_or e.number k 0 - 1 < length e.gate_of = omega (arith, b.0, own) in
      let fact = facts (get_or e.number k 0 - 1) g inside (ap (slice_get gates) b.1 ∙ at) in
      ap w (sym b.1) ∙ fact)
      (λ k place own at. sym (extends place (input_named gates k place at) (subst (HasNumber e.number) (sym (input_own k place at)) own)))
      i lt has

  one : (inputs : ℕ → Bool) (a b : List Bool) → IsModel cnf.variables e.body a → IsModel cnf.variables e.body b → Extends gates e.number inputs a → Extends gates e.number inputs b → a ≡ b
  one inputs a b ma mb ea eb =
      same_list a b (ma.0 ∙ sym mb.0) (λ j lt.
      let low : j < length e.gate_of = omega (arith, lt, ma.0, e.variables) in
      let g = get_or e.gate_of j 0 in
      let forth = e.numbering.numbering.forth j low in
      let has : HasNumber e.number g = omega (arith, forth.1) in
      let both = sym (determined inputs a ma ea g forth.0 has) ∙ determined inputs b mb eb g forth.0 has in
      let at : get_or e.number g 0 - 1 ≡ j = omega (arith, forth.1) in
      sym (ap (λ k. get_or a k false) at) ∙ (both ∙ ap (λ k. get_or b k false) at))

  output-value : (inputs : ℕ → Bool) (places : List Bool) → IsModel cnf.variables e.body places → Extends gates e.number inputs places
      → lit_true (meaning.values_of places) e.literal ≡ gate_at inputs gates out
  unfolding gate_at
  output-value inputs places m extends =
      e.output (meaning.values_of places) ∙ ap (λ b. exclusive out.negated b) (sym (determined inputs places m extends out.index e.within e.numbering.root))

  -- what the output needs has a variable
  needed-number : (i : ℕ) → IsNeeded gates out.index i → HasNumber e.number i
  needed-number i output = e.numbering.root
  needed-number i (operand {i = k} {g = g} h at among) = all-contains (HasNumber e.number) (operands g) i (e.numbering.closed k g (needed-number k h) at) among

  pub encoded : Encodes gates out order cnf
  encoded = record {
    number = e.number;
    numbered = e.numbering.numbering.numbered;
    ranged = λ i. omega (arith, number-ranged (length gates) e.number e.gate_of e.numbering.numbering i, e.variables);
    apart = λ i j has same.
        let b = e.numbering.numbering.back i has in
        let c = e.numbering.numbering.back j (omega (arith, has, same)) in
        sym b.1 ∙ (ap (λ k. get_or e.gate_of (k - 1) 0) same ∙ c.1);
    used = λ x some le.
        let f = e.numbering.numbering.forth (x - 1) (omega (arith, some, le, e.variables)) in
        (get_or e.gate_of (x - 1) 0, omega (arith, f.1, some));
    cone = λ i. (
      e.numbering.cone i,
      λ h. elim h [
        | inl named ↦ (let at = e.numbering.named named.0 named.1 named.2 in let is = ap (λ k. get_or e.number k 0) named.3 in omega (arith, at, is))
        | inr needed ↦ needed-number i needed
      ],
    );
    front = e.front;
    ordered = e.numbering.named;
    body = e.body;
    literal = e.literal;
    clauses = e.clauses;
    model = model;
    one = one;
    output = output-value;
  }

-- ---- prefixes

-- the first values of a model are those of the gates that have these variables
front-from : (number : List ℕ) (places : List Bool) (k : ℕ) (order : List GateId) → ((j : ℕ) (a : GateId) → slice_get order j ≡ Some a → get_or number a.index 0 ≡ (k + j) + 1)
    → k + length order ≤ length places → take (length order) (drop k places) ≡ map (λ a. meaning.values_of places (get_or number a.index 0)) order
front-from number places k [] h fits = refl
front-from number places k (a ∷ rest) h fits =
    let here : get_or number a.index 0 ≡ k + 1 = h 0 a refl ∙ (omega arith) in
    let at : (k + 1) - 1 ≡ k = omega arith in
    let head : meaning.values_of places (get_or number a.index 0) ≡ get_or places k false = ap (λ x. get_or places (x - 1) false) here ∙ ap (λ x. get_or places x false) at in
    let tail = front-from number places (k + 1) rest (λ j b e. h (suc j) b e ∙ (omega arith)) (omega arith) in
    rw (drop_more places k false (let lt : k < length places = omega arith in lt)) (rw head (ap (λ zs. get_or places k false ∷ zs) tail))

map-agree : (f g : GateId → Bool) (order : List GateId) → ((j : ℕ) (a : GateId) → slice_get order j ≡ Some a → f a ≡ g a) → map f order ≡ map g order
map-agree f g [] h = refl
map-agree f g (a ∷ rest) h = rw (h 0 a refl, map-agree f g rest (λ j b e. h (suc j) b e)) refl

body-same : (xs ys : List (List Lit)) (x y : List Lit) → xs ++ x ∷ [] ≡ ys ++ y ∷ [] → xs ≡ ys
body-same [] [] x y e = refl
body-same [] (b ∷ []) x y e = absurd (let z : ⊥ = cc in z)
body-same [] (b ∷ b' ∷ bs) x y e = absurd (let z : ⊥ = cc in z)
body-same (a ∷ []) [] x y e = absurd (let z : ⊥ = cc in z)
body-same (a ∷ a' ∷ as') [] x y e = absurd (let z : ⊥ = cc in z)
body-same (a ∷ xs) (b ∷ ys) x y e =
    let head : a ≡ b = cc in
    let tail : xs ++ x ∷ [] ≡ ys ++ y ∷ [] = cc in
    ap (λ z. z ∷ xs) head ∙ ap (λ zs. b ∷ zs) (body-same xs ys x y tail)

module _ (gates : List Gate) (out : GateId) (order : List GateId) (cnf : Cnf) (e : Encodes gates out order cnf) (room : length order ≤ cnf.variables)
    (inputs : (j : ℕ) (a : GateId) → slice_get order j ≡ Some a → Contains (inputs_of gates) a.index) (all : AreAllNamed gates order) where
  front : (places : List Bool) → length order ≤ length places → take cnf.front places ≡ map (λ a. meaning.values_of places (get_or e.number a.index 0)) order
  front places fits =
      ap (λ n. take n places) e.front
      ∙ front-from e.number places 0 order (λ j a at. e.ordered j a at ∙ (omega arith)) (omega arith)

  some : (digits : List Bool) → length digits ≡ cnf.front → (places : List Bool) × IsModel cnf.variables e.body places × (take cnf.front places ≡ digits)
  some digits len =
      let v : ℕ → Bool = λ i. meaning.values_of digits (get_or e.number i 0) in
      let m = e.model v in
      let fits : length order ≤ length m.0 = omega (arith, m.1.0, room) in
      let agree = map-agree (λ a. meaning.values_of m.0 (get_or e.number a.index 0)) (λ a. v a.index) order (λ j a at. m.2 a.index (inputs j a at) (let o = e.ordered j a at in omega (arith, o))) in
      let back = front digits (omega (arith, len, e.front)) in
      (m.0, m.1, front m.0 fits ∙ (agree ∙ (sym back ∙ take_all cnf.front digits (omega (arith, len)))))

  only : (a b : List Bool) → IsModel cnf.variables e.body a → IsModel cnf.variables e.body b → take cnf.front a ≡ take cnf.front b → a ≡ b
  only a b ma mb same = e.one (λ i. meaning.values_of b (get_or e.number i 0)) a b ma mb
      (λ i at has.
      let found = all i at in
      let number : get_or e.number i 0 ≡ found.0 + 1 = ap (λ k. get_or e.number k 0) (sym found.3) ∙ e.ordered found.0 found.1 found.2 in
      let lt : found.0 < cnf.front = omega (arith, e.front, within_order order found.0 found.1 found.2) in
      let place : (found.0 + 1) - 1 ≡ found.0 = omega arith in
      let here = λ (c : List Bool). ap (λ x. get_or c (x - 1) false) number ∙ ap (λ x. get_or c x false) place in
      here a ∙ (sym (get_or-take cnf.front a found.0 false lt) ∙ (ap (λ c. get_or c found.0 false) same ∙ (get_or-take cnf.front b found.0 false lt ∙ sym (here b)))))
      (λ i at has. refl)

  pub one-a_front : (body : List (List Lit)) (last : List Lit) → cnf.clauses ≡ body ++ last ∷ [] → (values : List Bool) → length values ≡ cnf.front
      → (places : List Bool) × IsModel cnf.variables body places × (take cnf.front places ≡ values)
      × ((other : List Bool) → IsModel cnf.variables body other → take cnf.front other ≡ values → other ≡ places)
  one-a_front body last is values len =
      let same : e.body ≡ body = body-same e.body body (e.literal ∷ []) last (sym e.clauses ∙ is) in
      let s = some values len in (
        s.0,
        subst (λ (cs : List (List Lit)). IsModel cnf.variables cs s.0) same s.1,
        s.2,
        λ other m f. only other s.0 (subst (λ (cs : List (List Lit)). IsModel cnf.variables cs other) (sym same) m) s.1 (f ∙ sym s.2),
      )
