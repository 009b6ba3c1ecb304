-- The indices of blocks by their labels, and where blocks lead, in loops.
use Rattle.ir_tree.proofs.Common.{◌≡◌, ℕ, ◌+◌, ◌<◌, List, [], ◌∷◌, ◌++◌, length, map, drop, get_or, nat_eq, ◌==◌, refl, sym, ap, ◌∙◌, position_or_len, option_map_or, drop_more, append_assoc, Block, Function, targets, block_of}
use Rattle.std.specs.Map.{lookup}

-- where a block leads
abbrev pub places_of : Function → Block → List ℕ
places_of f b = map (block_of f) (targets b.terminator)

abbrev pub label_of : Block → ℕ
label_of b = b.label

-- the entries give the first index of each label from an index on
abbrev pub IsIndexFrom : List Block → ℕ → List (ℕ × ℕ) → Type 0
IsIndexFrom blocks at entries =
    (label : ℕ) → option_map_or (λ (place : ℕ). place) (lookup (nat_eq label) entries) (length blocks) ≡ at + position_or_len (λ (other : ℕ). label == other) (map label_of (drop at blocks))

-- ---- a list made of another

pub mapped_more : (F : ℕ → ℕ) (xs : List ℕ) (i : ℕ) (done all : List ℕ) (y : ℕ) → i < length xs → y ≡ F (get_or xs i 0) → done ++ map F (drop i xs) ≡ all → (done ++ y ∷ []) ++ map F (drop (i + 1) xs) ≡ all
mapped_more F xs i done all y below is so_far =
    let e : map F (drop i xs) ≡ y ∷ map F (drop (i + 1) xs) = rw (drop_more xs i 0 below, is) refl in
    append_assoc done (y ∷ []) (map F (drop (i + 1) xs)) ∙ (ap (λ (ys : List ℕ). done ++ ys) (sym e) ∙ so_far)
