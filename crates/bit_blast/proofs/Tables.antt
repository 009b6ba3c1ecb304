-- The table of bits as gates and variables are added.
use Rattle.std.proofs.Common.{ℕ, zero, suc, ◌≡◌, ◌<◌, ◌≤◌, ◌+◌, ◌-◌, ◌++◌, ◌&&◌, inl, inr, true, false, cond, List, [], ◌∷◌, All, Some, None, get_or, slice_get, take, map, length, arith, sym, ap, subst, refl, ◌∙◌, length-append}
use Rattle.std.proofs.lemmas.Bool.{cases_Bool, cases_lt, eq-eqb}
use Rattle.std.proofs.lemmas.List.{map-append, append_assoc, append-nil, get_or_append_left, get_or-map, length-map}
use Rattle.std.proofs.Math.Seq.{get_or-append_right}
use Rattle.std.proofs.lemmas.Option.{slice_get_within, get_or_from_slice_get, slice_get-get_or}
use Rattle.std.specs.Prelude.{Result, Ok, Err, OnOk, OnErr}
use Rattle.std.specs.Map.{lookup}
use Rattle.gates.specs.declared.circuit.GateId.{GateId}
use Rattle.gates.specs.declared.circuit.Gate.{Gate}
use Rattle.gates.specs.Numbering.{AreApart}
use Rattle.gates.specs.Encoding.{AreAllNamed, AreInputs}
use Rattle.gates.specs.Values.{inputs_of, Grows, Keeps}
use Rattle.gate_arith.specs.Numbers.{AreFresh, AreGates}
use Rattle.gate_arith.proofs.Digits.{gates_later, grows_kept, map-grown}
use Rattle.bv_terms.specs.declared.variable.Variable.{Variable}
use Rattle.bv_terms.specs.Variables.{is_variable}
use Rattle.bv_terms.proofs.Variables.{same_variable}
use Rattle.bv_terms.specs.contracts.variable.VariablePartialEq.TheImpl.{eq-value}
use Rattle.bit_blast.specs.Table.{Adds, AreDigits, IsTable, all_digits, digits_of}

pub get-digits : (es : List (Variable × List GateId)) (x : Variable) → lookup (eq-value.it x) es ≡ digits_of es x
get-digits [] x = refl
get-digits (e ∷ es) x = ap (λ o. cond (is_variable x e.0) (Some e.1) o) (get-digits es x)

-- bits that are found are found among more
pub digits-found : (es more : List (Variable × List GateId)) (x : Variable) (digits : List GateId) → digits_of es x ≡ Some digits → digits_of (es ++ more) x ≡ Some digits
digits-found [] more x digits h = absurd (let z : ⊥ = cc in z)
digits-found (e ∷ es) more x digits h = elim (cases_Bool (is_variable x e.0)) [
  | inl t ↦ rw t (rw t at h)
  | inr f ↦ rw f (digits-found es more x digits (rw f at h))
]

all-pushed : (es : List (Variable × List GateId)) (y : Variable) (own : List GateId) → all_digits (es ++ (y, own) ∷ []) ≡ all_digits es ++ own
all-pushed [] y own = append-nil own
all-pushed (e ∷ es) y own = ap (λ ds. e.1 ++ ds) (all-pushed es y own) ∙ sym (append_assoc e.1 (all_digits es) own)

all-append : {A : Type 0} (P : A → Type 0) (xs ys : List A) → All P xs → All P ys → All P (xs ++ ys)
all-append P [] ys h k i d lt = k i d lt
all-append P (x ∷ xs) ys h k zero d lt = h 0 x (omega arith)
all-append P (x ∷ xs) ys h k (suc i) d lt = all-append P xs ys (λ j e l. h (suc j) e (omega arith)) k i d (omega arith)

-- two lists that are apart, the one of lower gates than the other
apart-append : (n : ℕ) (xs ys : List GateId) → AreApart xs → AreApart ys → All (λ a. a.index < n) xs → All (λ a. n ≤ a.index) ys → AreApart (xs ++ ys)
apart-append n [] ys p q low high i j a b lt ga gb = q i j a b lt ga gb
apart-append n (x ∷ xs) ys p q low high zero zero a b lt ga gb = absurd (omega arith)
apart-append n (x ∷ xs) ys p q low high zero (suc j) a b lt ga gb = elim (cases_lt j (length xs)) [
  | inl early ↦
      let is : get_or xs j b ≡ b = sym (get_or_append_left xs ys b j early) ∙ get_or_from_slice_get (xs ++ ys) j b b gb in
      p 0 (suc j) a b (omega arith) ga (slice_get-get_or xs j b early ∙ ap Some is)
  | inr late ↦
      let all : length (xs ++ ys) ≡ length xs + length ys = length-append xs ys in
      let within : j < length (xs ++ ys) = slice_get_within (xs ++ ys) j b gb in
      let is : get_or ys (j - length xs) b ≡ b = sym (get_or-append_right xs ys j b late) ∙ get_or_from_slice_get (xs ++ ys) j b b gb in
      let great : n ≤ b.index = subst (λ (g : GateId). n ≤ g.index) is (high (j - length xs) b (omega (arith, all, within, late))) in
      let first : x ≡ a = (let z : x ≡ a = cc in z) in
      let small : a.index < n = subst (λ (g : GateId). g.index < n) first (low 0 x (omega arith)) in
      λ same. omega (arith, small, great, same)
]
apart-append n (x ∷ xs) ys p q low high (suc i) zero a b lt ga gb = absurd (omega arith)
apart-append n (x ∷ xs) ys p q low high (suc i) (suc j) a b lt ga gb =
    apart-append n xs ys (λ k l c d less gc gd. p (suc k) (suc l) c d (omega arith) gc gd) q (λ k d less. low (suc k) d (omega arith)) high i j a b (omega arith) ga gb

-- the bits that are found are those of the variable
pub found_digits : (gates : List Gate) (table : List (Variable × List GateId)) (x : Variable) (digits : List GateId) → All (λ (e : Variable × List GateId). AreDigits gates e.0.width e.1) table → digits_of table x ≡ Some digits → AreDigits gates x.width digits
found_digits gates [] x digits all h = absurd (let z : ⊥ = cc in z)
found_digits gates (e ∷ es) x digits all h = elim (cases_Bool (is_variable x e.0)) [
  | inl t ↦
      let o = rw t at h in
      let is : e.1 ≡ digits = cc in
      subst (λ (ds : List GateId). AreDigits gates x.width ds) is (subst (λ (y : Variable). AreDigits gates y.width e.1) (sym (same_variable x e.0 t)) (all 0 e (omega arith)))
  | inr f ↦ found_digits gates es x digits (λ i d lt. all (suc i) d (omega arith)) (rw f at h)
]

-- gates that stay are the bits that they were
digits-grown : (old new : List Gate) → Grows old new → (width : ℕ) (digits : List GateId) → AreDigits old width digits → AreDigits new width digits
digits-grown old new g width digits d = record {
  long = d.long;
  within = gates_later old new digits g.longer d.within;
  says = λ inputs. map-grown old new g digits d.within inputs ∙ d.says inputs;
}

pub table_kept : (old new : List Gate) (table : List (Variable × List GateId)) → Keeps old new → IsTable old table → IsTable new table
table_kept old new table k is = record {
  digits = λ i d lt. digits-grown old new (grows_kept old new k) (get_or table i d).0.width (get_or table i d).1 (is.digits i d lt);
  inputs = k.inputs ∙ is.inputs;
  plain = is.plain;
  within = gates_later old new (all_digits table) k.longer is.within;
  apart = is.apart;
}

pub table_grown : (old new : List Gate) (table : List (Variable × List GateId)) (x : Variable) (own : List GateId) → Grows old new → AreFresh old new x.width own → IsTable old table
    → IsTable new (table ++ (x, own) ∷ [])
table_grown old new table x own g fresh is =
    let all = all-pushed table x own in
    record {
      digits = all-append (λ (e : Variable × List GateId). AreDigits new e.0.width e.1) table ((x, own) ∷ [])
          (λ i d lt. digits-grown old new g (get_or table i d).0.width (get_or table i d).1 (is.digits i d lt))
          (mine (record { long = fresh.long; within = fresh.within; says = fresh.says }));
      inputs = fresh.added ∙ (ap (λ is. is ++ map (λ (a : GateId). a.index) own) is.inputs ∙ (sym (map-append (λ (a : GateId). a.index) (all_digits table) own) ∙ ap (map (λ (a : GateId). a.index)) (sym all)));
      plain = subst (λ (ds : List GateId). All (λ a. a.negated ≡ false) ds) (sym all) (all-append (λ a. a.negated ≡ false) (all_digits table) own is.plain fresh.plain);
      within = subst (λ (ds : List GateId). AreGates new ds) (sym all) (all-append (λ a. a.index < length new) (all_digits table) own (gates_later old new (all_digits table) g.longer is.within) fresh.within);
      apart = subst (λ (ds : List GateId). AreApart ds) (sym all) (apart-append (length old) (all_digits table) own is.apart fresh.apart is.within fresh.fresh);
    }
  where
    mine : AreDigits new x.width own → All (λ (e : Variable × List GateId). AreDigits new e.0.width e.1) ((x, own) ∷ [])
    mine h zero d lt = h
    mine h (suc i) d lt = absurd (omega arith)

-- each input of the circuit is a bit
pub inputs_named : (gates : List Gate) (table : List (Variable × List GateId)) → IsTable gates table → AreAllNamed gates (all_digits table)
inputs_named gates table is i c =
    let ds = all_digits table in
    let d : GateId = record { index = 0; negated = false } in
    let lt : c.0 < length ds = omega (arith, c.1, ap length is.inputs, length-map ds (λ (a : GateId). a.index)) in
    let at : get_or (map (λ (a : GateId). a.index) ds) c.0 i ≡ i = ap (λ zs. get_or zs c.0 i) (sym is.inputs) ∙ c.2 in
    (c.0, get_or ds c.0 d, slice_get-get_or ds c.0 d lt, sym (get_or-map (λ (a : GateId). a.index) ds c.0 d i lt) ∙ at)

-- and each bit an input
pub are_inputs : (gates : List Gate) (table : List (Variable × List GateId)) → IsTable gates table → AreInputs gates (all_digits table)
are_inputs gates table is k d lt =
    let ds = all_digits table in
    let x = (get_or ds k d).index in
    let within : k < length (inputs_of gates) = omega (arith, lt, ap length is.inputs, length-map ds (λ (a : GateId). a.index)) in
    record {
      input = (k, within, ap (λ zs. get_or zs k x) is.inputs ∙ get_or-map (λ (a : GateId). a.index) ds k d x lt);
      plain = is.plain k d lt;
    }

pub table_pushed : (old new : List Gate) (before after : List (Variable × List GateId)) (x : Variable) (own : List GateId) → after ≡ before ++ (x, own) ∷ [] → Grows old new → AreFresh old new x.width own → IsTable old before
    → IsTable new after
table_pushed old new before after x own e g fresh is = rw e (table_grown old new before x own g fresh is)

-- a new variable has the bits that come last
digits-last : (es : List (Variable × List GateId)) (x : Variable) (own : List GateId) → digits_of es x ≡ None → digits_of (es ++ (x, own) ∷ []) x ≡ Some own
digits-last [] x own h = ap (λ b. cond b (Some own) None) same
  where
    same : is_variable x x ≡ true
    same = rw (eq-eqb x.number x.number refl, eq-eqb x.width x.width refl) refl
digits-last (e ∷ es) x own h = elim (cases_Bool (is_variable x e.0)) [
  | inl t ↦ absurd (let k = rw t at h in let z : ⊥ = cc in z)
  | inr f ↦ rw f (digits-last es x own (rw f at h))
]

-- a variable that was added has bits
pub added-known : (old new : List (Variable × List GateId)) (x : Variable) → Adds old new x → (digits : List GateId) × (digits_of new x ≡ Some digits)
added-known old new x (inl h) = (h.0, ap (λ es. digits_of es x) h.2 ∙ h.1)
added-known old new x (inr h) = (h.0, ap (λ es. digits_of es x) h.2 ∙ digits-last old x h.0 h.1)

-- and the others keep theirs
added-follows : (old new : List (Variable × List GateId)) (x : Variable) → Adds old new x → (y : Variable) (digits : List GateId) → digits_of old y ≡ Some digits → digits_of new y ≡ Some digits
added-follows old new x (inl h) y digits found = ap (λ es. digits_of es y) h.2 ∙ found
added-follows old new x (inr h) y digits found = ap (λ es. digits_of es y) h.2 ∙ digits-found old ((x, h.0) ∷ []) y digits found

pub added_or_kept : {T E : Type 0} (r : Result T E) (old new : List (Variable × List GateId)) (x : Variable) → OnOk r (Adds old new x) → OnErr r (new ≡ old)
    → (y : Variable) (digits : List GateId) → digits_of old y ≡ Some digits → digits_of new y ≡ Some digits
added_or_kept (Ok v) old new x added kept = added-follows old new x added
added_or_kept (Err e) old new x added kept = λ y digits found. ap (λ es. digits_of es y) kept ∙ found

pub OnOk-then : {T E : Type 0} (r : Result T E) (P Q : Type 0) → OnOk r P → (P → Q) → OnOk r Q
OnOk-then (Ok v) P Q h f = f h
OnOk-then (Err e) P Q h f = tt

-- the bits of the variables before an index, and of the one there
pub all-more : (es : List (Variable × List GateId)) (i : ℕ) (e : Variable × List GateId) → slice_get es i ≡ Some e → all_digits (take (suc i) es) ≡ all_digits (take i es) ++ e.1
all-more [] i e h = absurd (let z : ⊥ = cc in z)
all-more (x ∷ xs) zero e h = let is : x ≡ e = cc in ap (λ (z : Variable × List GateId). z.1 ++ []) is ∙ append-nil e.1
all-more (x ∷ xs) (suc i) e h = ap (λ ds. x.1 ++ ds) (all-more xs i e h) ∙ sym (append_assoc x.1 (all_digits (take i xs)) e.1)
