-- Registers by name agree with registers by slot on the names that are held, also after an assignment.
use Rattle.register_slots.proofs.Common.{◌≡◌, ℕ, List, length, replicate, Option, Some, ◌⊎◌, inl, inr, refl, sym, ap, ◌∙◌, arith, slice_get, slice_set, slice_index_or, cases_eq, cases_lt, length-set, length-replicate, get_or-set_other, get_or-replicate, get_or_past, Value, Poison, slot_of, IsHeld, HasSlot}
use Rattle.std.proofs.lemmas.Grind.{get_or-set_at}
use Rattle.register_slots.proofs.Held.{get_set_same, get_set_other, name_is}

-- `registers` are by name and `slotted` by slot; the slot of each name that is held has the name's value
pub record Agrees (slots : List ℕ) (names : ℕ) (held : List (Option ℕ)) (registers slotted : List Value) : Type 0 where
  pub all : length registers ≡ names
  pub room : length slotted ≡ length held
  pub same : (n : ℕ) → IsHeld slots held n → slice_index_or slotted (slot_of slots n) Poison ≡ slice_index_or registers n Poison

-- a name is assigned; each other name that is held afterwards was held before, in another slot
agrees_set : (slots : List ℕ) (names : ℕ) (held later : List (Option ℕ)) (registers slotted : List Value) (n : ℕ) (v : Value) → length later ≡ length held → HasSlot slots names (length held) n
    → ((k : ℕ) → IsHeld slots later k → (k ≡ n → ⊥) → (slot_of slots k ≡ slot_of slots n → ⊥) × IsHeld slots held k)
    → Agrees slots names held registers slotted → Agrees slots names later (slice_set registers n v) (slice_set slotted (slot_of slots n) v)
agrees_set slots names held later registers slotted n v long slot before agrees = record {
  all = length-set registers n v ∙ agrees.all;
  room = length-set slotted (slot_of slots n) v ∙ (agrees.room ∙ sym long);
  same = λ k h. by k h (cases_eq k n);
}
  where
    by : (k : ℕ) → IsHeld slots later k → (k ≡ n) ⊎ (k ≡ n → ⊥) → slice_index_or (slice_set slotted (slot_of slots n) v) (slot_of slots k) Poison ≡ slice_index_or (slice_set registers n v) k Poison
    by k h (inl e) =
        get_or-set_at slotted (slot_of slots n) (slot_of slots k) v Poison (ap (slot_of slots) e) (let room = agrees.room in let within = slot.1 in omega (arith, room, within))
        ∙ sym (get_or-set_at registers n k v Poison e (let all = agrees.all in let within = slot.0 in omega (arith, all, within)))
    by k h (inr other) =
        let apart = before k h other in
        get_or-set_other slotted (slot_of slots n) (slot_of slots k) v Poison apart.0 ∙ (agrees.same k apart.1 ∙ sym (get_or-set_other registers n k v Poison other))

-- a name is assigned, and its slot holds it afterwards
pub agrees_assigned : (slots : List ℕ) (names : ℕ) (held : List (Option ℕ)) (registers slotted : List Value) (n : ℕ) (v : Value) → HasSlot slots names (length held) n
    → Agrees slots names held registers slotted → Agrees slots names (slice_set held (slot_of slots n) (Some n)) (slice_set registers n v) (slice_set slotted (slot_of slots n) v)
agrees_assigned slots names held registers slotted n v slot agrees =
    agrees_set slots names held (slice_set held (slot_of slots n) (Some n)) registers slotted n v (length-set held (slot_of slots n) (Some n)) slot (λ k h other. by k h other (cases_eq (slot_of slots k) (slot_of slots n))) agrees
  where
    by : (k : ℕ) → IsHeld slots (slice_set held (slot_of slots n) (Some n)) k → (k ≡ n → ⊥) → (slot_of slots k ≡ slot_of slots n) ⊎ (slot_of slots k ≡ slot_of slots n → ⊥)
        → (slot_of slots k ≡ slot_of slots n → ⊥) × IsHeld slots held k
    by k h other (inl e) =
        let new = get_set_same held (slot_of slots n) (Some n) slot.1 in
        let there = ap (λ (s : ℕ). slice_get (slice_set held (slot_of slots n) (Some n)) s) e in
        absurd (other (sym (name_is n k (sym new ∙ (sym there ∙ h)))))
    by k h other (inr apart) = (apart, sym (get_set_other held (slot_of slots n) (slot_of slots k) (Some n) apart) ∙ h)

-- a name is assigned that its slot holds already
pub agrees_kept : (slots : List ℕ) (names : ℕ) (held : List (Option ℕ)) (registers slotted : List Value) (n : ℕ) (v : Value) → HasSlot slots names (length held) n → IsHeld slots held n
    → Agrees slots names held registers slotted → Agrees slots names held (slice_set registers n v) (slice_set slotted (slot_of slots n) v)
agrees_kept slots names held registers slotted n v slot holds agrees =
    agrees_set slots names held held registers slotted n v refl slot (λ k h other. ((λ e. other (name_is k n (sym h ∙ (ap (slice_get held) e ∙ holds)))), h)) agrees

-- slots that hold fewer names
pub agrees_fewer : (slots : List ℕ) (names : ℕ) (held fewer : List (Option ℕ)) (registers slotted : List Value) → length fewer ≡ length held → ((n : ℕ) → IsHeld slots fewer n → IsHeld slots held n)
    → Agrees slots names held registers slotted → Agrees slots names fewer registers slotted
agrees_fewer slots names held fewer registers slotted long holds agrees = record { all = agrees.all; room = agrees.room ∙ sym long; same = λ n h. agrees.same n (holds n h) }

-- registers that are all poison
pub agrees_at_first : (slots : List ℕ) (names : ℕ) (held : List (Option ℕ)) (count : ℕ) → length held ≡ count → Agrees slots names held (replicate names Poison) (replicate count Poison)
agrees_at_first slots names held count long = record {
  all = length-replicate names Poison;
  room = length-replicate count Poison ∙ sym long;
  same = λ n h. all_poison count (slot_of slots n) ∙ sym (all_poison names n);
}
  where
    all_poison : (n i : ℕ) → slice_index_or (replicate n Poison) i Poison ≡ Poison
    all_poison n i = elim (cases_lt i n) [
      | inl within ↦ get_or-replicate n i Poison Poison within
      | inr past ↦ get_or_past (replicate n Poison) i Poison (let long = length-replicate {A = Value} n Poison in omega (arith, long, past))
    ]
