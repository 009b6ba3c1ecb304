-- One more gate has the next variable.
use Rattle.gates.proofs.Common.{All, ℕ, zero, suc, ◌≡◌, ◌≢◌, ◌<◌, ◌≤◌, ◌+◌, ◌-◌, ◌++◌, inl, inr, Bool, false, List, [], ◌∷◌, get_or, slice_get, Some, length, arith, sym, ap, subst, refl, ◌∙◌, length-append, Contains, slice_set, replicate, get_or_push, get_or_append_left, get_or-set_same, get_or-set_other, get_or-replicate, get_or_past, length-replicate, length-set, cases_eq, cases_lt, GateId, Gate, Input, IsCone, IsMarked, operands, AreInputs, AreApart, AreNumbered, HasNumber, IsNumbering, IsNumberingOf, IsPartNumbering, AreFit, IsFit, inputs_of, slice_get_within}
use Rattle.gates.proofs.FactLemmas.{fit_stored, input_gate, inputs_stored}
use Rattle.gates.proofs.Marks.{operands-below}

-- no gate has a variable
pub numbering-none : (count : ℕ) → IsNumbering count (replicate count 0) []
numbering-none count = record {
  numbered = let z : ℕ = 0 in length-replicate count z;
  back = λ i has. absurd (let none = clear count i in omega (arith, has, none));
  forth = λ j lt. absurd (omega arith);
}
  where
    clear : (n k : ℕ) → ◌≡◌ {A = ℕ} (get_or (replicate n 0) k 0) 0
    clear n k =
        let z : ℕ = 0 in
        elim (cases_lt k n) [
          | inl less ↦ get_or-replicate n k z z less
          | inr more ↦ get_or_past (replicate n z) k z (omega (arith, more, length-replicate n z))
        ]

module _ (count : ℕ) (number gate_of : List ℕ) (gate : ℕ) (s : IsNumbering count number gate_of) (lt : gate < count) where
  pub own-number : get_or (slice_set number gate (length gate_of + 1)) gate 0 ≡ length gate_of + 1
  own-number = get_or-set_same number gate (length gate_of + 1) 0 (omega (arith, lt, s.numbered))

  pub other-number : (i : ℕ) → i ≢ gate → get_or (slice_set number gate (length gate_of + 1)) i 0 ≡ get_or number i 0
  other-number i ne = get_or-set_other number gate i (length gate_of + 1) 0 ne

  pub numbering-more : get_or number gate 0 ≡ 0 → IsNumbering count (slice_set number gate (length gate_of + 1)) (gate_of ++ gate ∷ [])
  numbering-more none =
      let new = slice_set number gate (length gate_of + 1) in
      let gates = gate_of ++ gate ∷ [] in
      let k = length gate_of in
      let last : get_or gates k 0 ≡ gate = get_or_push gate_of gate 0 k refl in
      let longer : length gates ≡ k + 1 = length-append gate_of (gate ∷ []) in
      record {
        numbered = length-set number gate (length gate_of + 1) ∙ s.numbered;
        back = λ i has. elim (cases_eq i gate) [
          | inl e ↦
              let is : get_or new i 0 ≡ k + 1 = ap (λ n. get_or new n 0) e ∙ own-number in
              let at : get_or new i 0 - 1 ≡ k = omega (arith, is) in
              (omega (arith, is, longer), ap (λ n. get_or gates n 0) at ∙ (last ∙ sym e))
          | inr ne ↦
              let is = other-number i ne in
              let had : 0 < get_or number i 0 = omega (arith, has, is) in
              let b = s.back i had in
              let place : get_or number i 0 - 1 < k = omega (arith, b.0, had) in
              (omega (arith, is, b.0, longer), ap (λ n. get_or gates (n - 1) 0) is ∙ (get_or_append_left gate_of (gate ∷ []) 0 (get_or number i 0 - 1) place ∙ b.1))
        ];
        forth = λ j less. elim (cases_eq j k) [
          | inl e ↦
              let is : get_or gates j 0 ≡ gate = ap (λ n. get_or gates n 0) e ∙ last in
              (omega (arith, is, lt), ap (λ n. get_or new n 0) is ∙ (own-number ∙ ap (λ n. n + 1) (sym e)))
          | inr ne ↦
              let low : j < k = omega (arith, less, longer, ne) in
              let f = s.forth j low in
              let is = get_or_append_left gate_of (gate ∷ []) 0 j low in
              let apart : get_or gate_of j 0 ≢ gate = λ x. (let z : get_or number gate 0 ≡ j + 1 = ap (λ n. get_or number n 0) (sym x) ∙ f.1 in omega (arith, z, none)) in
              (omega (arith, is, f.0), ap (λ n. get_or new n 0) is ∙ (other-number (get_or gate_of j 0) apart ∙ f.1))
        ];
      }

pub number-ranged : (count : ℕ) (number gate_of : List ℕ) → IsNumbering count number gate_of → (i : ℕ) → get_or number i 0 ≤ length gate_of
number-ranged count number gate_of s i = elim (cases_eq (get_or number i 0) 0) [
  | inl none ↦ omega (arith, none)
  | inr ne ↦ (let b = s.back i (omega (arith, ne)) in omega (arith, b.0))
]

-- ---- the inputs that are named

pub at_place : (order : List GateId) (j : ℕ) (d : GateId) → j < length order → slice_get order j ≡ Some (get_or order j d)
at_place [] j d lt = absurd (omega arith)
at_place (a ∷ rest) zero d lt = refl
at_place (a ∷ rest) (suc j) d lt = at_place rest j d (omega arith)

pub within_order : (order : List GateId) (j : ℕ) (a : GateId) → slice_get order j ≡ Some a → j < length order
within_order [] j a e = absurd (let z : ⊥ = cc in z)
within_order (x ∷ xs) zero a e = omega arith
within_order (x ∷ xs) (suc j) a e = omega (arith, within_order xs j a e)

some_same : {x y : GateId} → Some x ≡ Some y → x ≡ y
some_same e = cc

pub named-none : (count : ℕ) (order : List GateId) → AreNumbered count (replicate count 0) [] order 0
named-none count order = record { numbering = numbering-none count; long = refl; gates = λ j a lt at. absurd (omega arith) }

module _ (count : ℕ) (number gate_of : List ℕ) (order : List GateId) (end : ℕ) (s : AreNumbered count number gate_of order end) where
  -- a gate with a variable is named
  pub number-named : end ≤ length order → (i : ℕ) → HasNumber number i
      → (j : ℕ) × (a : GateId) × (slice_get order j ≡ Some a) × (a.index ≡ i) × (j < end)
  number-named le i has =
      let b = s.numbering.back i has in
      let j = get_or number i 0 - 1 in
      let low : j < end = omega (arith, b.0, has, s.long) in
      let there : j < length order = omega (arith, low, le) in
      let a = get_or order j (record { index = 0; negated = false }) in
      let at = at_place order j (record { index = 0; negated = false }) there in
      (j, a, at, sym (s.gates j a low at) ∙ b.1, low)

  -- the next one that is named has none
  pub named-fresh : AreApart order → (a : GateId) → slice_get order end ≡ Some a → get_or number a.index 0 ≡ 0
  named-fresh apart a at = elim (cases_eq (get_or number a.index 0) 0) [
    | inl e ↦ e
    | inr ne ↦
        let found = number-named (omega (arith, within_order order end a at)) a.index (omega (arith, ne)) in
        absurd (apart found.0 end found.1 a found.4 found.2 at found.3)
  ]

  pub named-next : AreApart order → (a : GateId) → slice_get order end ≡ Some a → a.index < count
      → AreNumbered count (slice_set number a.index (length gate_of + 1)) (gate_of ++ a.index ∷ []) order (end + 1)
  named-next apart a at lt = record {
    numbering = numbering-more count number gate_of a.index s.numbering lt (named-fresh apart a at);
    long = length-append gate_of (a.index ∷ []) ∙ (let e : length gate_of + 1 ≡ end + 1 = omega (arith, s.long) in e);
    gates = λ j b less here. elim (cases_eq j end) [
      | inl e ↦
          let same : a ≡ b = some_same (sym at ∙ (ap (slice_get order) (sym e) ∙ here)) in
          get_or_push gate_of a.index 0 j (s.long ∙ sym e) ∙ ap (λ (x : GateId). x.index) same
      | inr ne ↦
          let low : j < end = omega arith in
          get_or_append_left gate_of (a.index ∷ []) 0 j (let l : j < length gate_of = omega (arith, low, s.long) in l) ∙ s.gates j b low here
    ];
  }

-- ---- and those that the output needs

pub part-none : (count : ℕ) (number gate_of : List ℕ) (order : List GateId) (needed : List Bool) → AreNumbered count number gate_of order (length order) → IsPartNumbering count number gate_of order needed 0
part-none count number gate_of order needed s = record {
  numbering = s.numbering;
  named = λ j a at.
      let low = within_order order j a at in
      let f = s.numbering.forth j (omega (arith, low, s.long)) in
      ap (λ n. get_or number n 0) (sym (s.gates j a low at)) ∙ f.1;
  room = omega (arith, s.long);
  all = λ i lt m. absurd (omega arith);
  only = λ i has. let found = number-named count number gate_of order (length order) s (omega arith) i has in inl (found.0, found.1, found.2, found.3);
}

module _ (count : ℕ) (number gate_of : List ℕ) (order : List GateId) (needed : List Bool) (end : ℕ) (s : IsPartNumbering count number gate_of order needed end) where
  pub part-skip : (IsMarked needed end → HasNumber number end) → IsPartNumbering count number gate_of order needed (end + 1)
  part-skip h = record {
    numbering = s.numbering;
    named = s.named;
    room = s.room;
    all = λ i lt m. elim (cases_eq i end) [
      | inl e ↦ subst (HasNumber number) (sym e) (h (subst (IsMarked needed) e m))
      | inr ne ↦ s.all i (omega arith) m
    ];
    only = s.only;
  }

  pub part-add : end < count → IsMarked needed end → get_or number end 0 ≡ 0
      → IsPartNumbering count (slice_set number end (length gate_of + 1)) (gate_of ++ end ∷ []) order needed (end + 1)
  part-add lt m none =
      let new = slice_set number end (length gate_of + 1) in
      let own = own-number count number gate_of end s.numbering lt in
      let other = other-number count number gate_of end s.numbering lt in
      record {
        numbering = numbering-more count number gate_of end s.numbering lt none;
        named = λ j a at.
            let was = s.named j a at in
            let apart : a.index ≢ end = λ e. (let z : get_or number end 0 ≡ j + 1 = ap (λ n. get_or number n 0) (sym e) ∙ was in omega (arith, z, none)) in
            other a.index apart ∙ was;
        room = omega (arith, s.room, length-append gate_of (end ∷ []));
        all = λ i less marked. elim (cases_eq i end) [
          | inl e ↦ subst (HasNumber new) (sym e) (let has : 0 < get_or new end 0 = omega (arith, own) in has)
          | inr ne ↦ (let was = s.all i (omega arith) marked in let is = other i ne in let has : 0 < get_or new i 0 = omega (arith, was, is) in has)
        ];
        only = λ i has. elim (cases_eq i end) [
          | inl e ↦ inr (subst (IsMarked needed) (sym e) m)
          | inr ne ↦ s.only i (let is = other i ne in let had : 0 < get_or number i 0 = omega (arith, has, is) in had)
        ];
      }

pub part-whole : (gates : List Gate) (out : ℕ) (order : List GateId) (needed : List Bool) (number gate_of : List ℕ) (end : ℕ) → AreFit 0 gates → AreInputs gates order → out < length gates
    → IsCone gates out 0 needed → end ≡ length gates → IsPartNumbering (length gates) number gate_of order needed end → IsNumberingOf gates out order number gate_of
part-whole gates out order needed number gate_of end fit inputs lt cone whole s = record {
  numbering = s.numbering;
  named = s.named;
  room = s.room;
  root = s.all out (omega (arith, lt, whole)) cone.root;
  closed = λ i g has at. elim (s.only i has) [
    | inl named ↦
        let input = input_gate gates i fit (subst (λ n. Contains (inputs_of gates) n) named.3 (inputs_stored gates order inputs named.0 named.1 named.2)) in
        let is : Input i ≡ g = same_gate (sym input ∙ at) in
        subst (λ (x : Gate). All (HasNumber number) (operands x)) is (λ k d l. absurd (omega arith))
    | inr m ↦
        let zero_more : 0 + i ≡ i = omega arith in
        let below = operands-below i g (subst (λ n. IsFit n g) zero_more (fit_stored 0 gates i g fit at)) in
        let marks = cone.closed i g (omega arith) at m in
        λ k d l. s.all (get_or (operands g) k d) (omega (arith, below k d l, slice_get_within gates i g at, whole)) (marks k d l)
  ];
  cone = λ i has. elim (s.only i has) [
    | inl named ↦ inl named
    | inr m ↦ inr (cone.sound i m)
  ];
}
  where
    same_gate : {x y : Gate} → Some x ≡ Some y → x ≡ y
    same_gate e = cc
