-- What a name reads after it was assigned, and operands that are not poison.
use Rattle.run_trace.proofs.Common.{◌≡◌, ℕ, ◌<◌, ◌≤◌, List, ◌∷◌, length, Bool, true, false, ◌&&◌, ◌||◌, not, Some, inl, inr, refl, sym, ap, ◌∙◌, subst, slice_get, slice_set, list_any, cases_lt, slice_get_past, slice_get-get_or, get_or-set_same, length-set, TypedOperand, Value, Num, Poison, Machine, assigned, cut_value, typed_operand_value, is_poison, is_name, is_poison_name, is_poison_literal, value_after, is_some_poison, or_parts}
use Rattle.byte_block.specs.declared.value.Value.TheVariants as value

-- ---- tests

pub true_not_false : {A : Type 0} → ◌≡◌ {A = Bool} true false → A
true_not_false e = absurd (cc)

pub no_and : {A : Type 0} (x : Bool) → (x && false) ≡ true → A
no_and true e = true_not_false (sym e)
no_and false e = true_not_false (sym e)

-- ---- after an assignment

pub set_gives : (registers : List Value) (into : ℕ) (v : Value) → into < length registers → slice_get (slice_set registers into v) into ≡ Some v
set_gives registers into v below =
    slice_get-get_or (slice_set registers into v) into v (subst (λ n. into < n) (sym (length-set registers into v)) below)
    ∙ ap (λ (w : Value). Some w) (get_or-set_same registers into v v below)

pub given : (m : Machine) (into : ℕ) (v : Value) → into < length m.registers
    → is_some_poison (value_after (Some (assigned m into v)) (Some into)) ≡ is_poison v
given m into v below = ap is_some_poison (set_gives m.registers into v below)

pub given_back : (m : Machine) (into : ℕ) (v : Value) → is_some_poison (value_after (Some (assigned m into v)) (Some into)) ≡ true
    → (into < length m.registers) × (is_poison v ≡ true)
given_back m into v poison = elim (cases_lt into (length m.registers)) as (λ _. (into < length m.registers) × (is_poison v ≡ true)) [
  | inl below ↦ (below, sym (given m into v below) ∙ poison)
  | inr past ↦
      let none = slice_get_past (slice_set m.registers into v) into (subst (λ n. n ≤ into) (sym (length-set m.registers into v)) past) in
      true_not_false (sym poison ∙ ap is_some_poison none)
]

-- ---- operands

-- an operand is neither a name that is poison nor written poison
pub defined_operand : (registers : List Value) (t : TypedOperand) → is_poison_name registers t ≡ false → is_poison_literal registers t ≡ false
    → is_poison (typed_operand_value registers t) ≡ false
defined_operand registers t = go (is_name t.operand) (is_poison (typed_operand_value registers t))
  where
    go : (name poison : Bool) → (name && poison) ≡ false → (not name && poison) ≡ false → poison ≡ false
    go true poison e f = e
    go false poison e f = f

pub defined_first : (registers : List Value) (t : TypedOperand) (ts : List TypedOperand)
    → list_any (is_poison_name registers) (t ∷ ts) ≡ false → list_any (is_poison_literal registers) (t ∷ ts) ≡ false
    → is_poison (typed_operand_value registers t) ≡ false
defined_first registers t ts names literals =
    defined_operand registers t
    (or_parts (is_poison_name registers t) (list_any (is_poison_name registers) ts) names).0
    (or_parts (is_poison_literal registers t) (list_any (is_poison_literal registers) ts) literals).0

pub others_same : {A : Type 0} (p : A → Bool) (x : A) (xs : List A) → list_any p (x ∷ xs) ≡ false → list_any p xs ≡ false
others_same p x xs none = (or_parts (p x) (list_any p xs) none).1

-- what is used as a number and is not poison is a number
pub defined_number : (n : ℕ) (v : Value) → is_poison (cut_value n v) ≡ false → (a : ℕ) × (v ≡ Num a)
defined_number n (Num a) e = (a, refl)
defined_number n Poison e = true_not_false e
defined_number n (value.Ptr p) e = true_not_false e
