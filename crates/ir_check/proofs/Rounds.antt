-- Marks of a round.
use Rattle.ir_check.proofs.Common.{◌≡◌, ℕ, suc, ◌+◌, ◌<◌, ◌≤◌, ◌==◌, true, false, List, [], ◌∷◌, length, get_or, set, replicate, refl, ap, sym, ◌∙◌, arith, All, nat_tests, get_or-replicate, length-replicate, length-map, map-set, Mark, Stranger, mark_in, marks_in}
use Rattle.ir_check.specs.declared.marks.Slot.{Slot}

differs : (a b : ℕ) → a < b → (a == b) ≡ false
differs a b less = grind (arith, nat_tests)

own : (a : ℕ) → (a == a) ≡ true
own a = grind (arith, nat_tests)

older : (round : ℕ) (slot : Slot) → slot.round < round → mark_in round slot ≡ Stranger
older round slot less = rw (differs slot.round round less) refl

all_strangers : (round : ℕ) (slots : List Slot) → ((k : ℕ) (d : Slot) → k < length slots → mark_in round (get_or slots k d) ≡ Stranger) → marks_in round slots ≡ replicate (length slots) Stranger
all_strangers round [] each = refl
all_strangers round (s ∷ slots) each =
    ap (λ (m : Mark). m ∷ marks_in round slots) (each 0 s (omega arith)) ∙ ap (λ (ms : List Mark). Stranger ∷ ms) (all_strangers round slots (λ k d below. each (suc k) d (omega (arith, below))))

abbrev pub unmarked : Slot
unmarked = record { round = 0; mark = Stranger }

pub no_marks : (names : ℕ) → marks_in 0 (replicate names unmarked) ≡ replicate names Stranger
no_marks names =
    all_strangers 0 (replicate names unmarked) (λ k d below. ap (mark_in 0) (get_or-replicate names k unmarked d (let long = length-replicate names unmarked in omega (arith, below, long))))
    ∙ ap (λ (n : ℕ). replicate n Stranger) (length-replicate names unmarked)

-- a round after those in which the marks were set
pub next_round : (round next : ℕ) (slots : List Slot) → next ≡ round + 1 → All (λ slot. slot.round ≤ round) slots → marks_in next slots ≡ replicate (length (marks_in round slots)) Stranger
next_round round next slots is all =
    all_strangers next slots (λ k d below. older next (get_or slots k d) (let least = all k d below in omega (arith, is, least)))
    ∙ ap (λ (n : ℕ). replicate n Stranger) (sym (length-map slots (mark_in round)))

pub first_round : (round : ℕ) (slots : List Slot) → marks_in 0 (replicate (length slots) unmarked) ≡ replicate (length (marks_in round slots)) Stranger
first_round round slots = no_marks (length slots) ∙ ap (λ (n : ℕ). replicate n Stranger) (sym (length-map slots (mark_in round)))

pub mark_set : (round : ℕ) (slots : List Slot) (name : ℕ) (mark : Mark) → marks_in round (set slots name (record { round = round; mark = mark })) ≡ set (marks_in round slots) name mark
mark_set round slots name mark = map-set (mark_in round) slots name (record { round = round; mark = mark }) ∙ ap (λ (m : Mark). set (marks_in round slots) name m) (rw (own round) refl)
