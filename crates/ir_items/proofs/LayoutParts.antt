-- The parts of a data layout, one byte after another.
use Rattle.ir_items.proofs.Common.{◌≡◌, ℕ, ◌+◌, ◌<◌, ◌≤◌, Bool, true, false, ◌||◌, eqb, List, length, get_or, drop, slice_range, refl, sym, ap, ◌∙◌, arith, drop_more, drop_all, between_more, between_none, is_bad_part, has_bad_part}

pub part_more : (text : List ℕ) (start place : ℕ) → start ≤ place → place < length text → eqb (get_or text place 0) 45 ≡ false
    → has_bad_part (slice_range text start place) (drop place text) ≡ has_bad_part (slice_range text start (place + 1)) (drop (place + 1) text)
part_more text start place le lt other =
    ap (has_bad_part (slice_range text start place)) (drop_more text place 0 lt)
    ∙ rw other (ap (λ (part : List ℕ). has_bad_part part (drop (place + 1) text)) (sym (between_more text start place 0 le lt)))

pub part_ends : (text : List ℕ) (start place : ℕ) → place < length text → eqb (get_or text place 0) 45 ≡ true
    → has_bad_part (slice_range text start place) (drop place text) ≡ (is_bad_part (slice_range text start place) || has_bad_part (slice_range text (place + 1) (place + 1)) (drop (place + 1) text))
part_ends text start place lt dash =
    ap (has_bad_part (slice_range text start place)) (drop_more text place 0 lt)
    ∙ rw dash (ap (λ (part : List ℕ). is_bad_part (slice_range text start place) || has_bad_part part (drop (place + 1) text)) (sym (between_none text (place + 1))))

pub part_last : (text : List ℕ) (start : ℕ) → has_bad_part (slice_range text start (length text)) (drop (length text) text) ≡ is_bad_part (slice_range text start (length text))
part_last text start = ap (has_bad_part (slice_range text start (length text))) (drop_all (length text) text (omega arith)) ∙ or_false (is_bad_part (slice_range text start (length text)))
  where
    or_false : (b : Bool) → (b || false) ≡ b
    or_false true = refl
    or_false false = refl

pub ruleset parts_of = (part_more, part_ends, part_last)
