-- RunPair without pointers: the points with empty blocks decide.
use Rattle.slow_judge.proofs.Common.{◌≡◌, ℕ, ◌+◌, ◌≤◌, List, [], ◌∷◌, ◌++◌, length, Option, Some, None, refl, sym, ap, ◌∙◌, arith, length-append, MatchOption, slice_index, filter, MemoryBlock, Outcome, Bounds, Point, RunPair, layout_of, is_refined, number_of, args_code, blocks_code, BlocksFit, Run, is_given, run_of, IsPlain, need_of, covers, some_covers, tried, is_covered, IsPoint, place_in, IsLeastUncovered, AreAllCovered, number_of-append, length_of_Digits, blocks_digits, AreSmall, HaveNoPointers, empty_blocks, IsCell, IsLeastAmong, AreCoveredAmong}
use Rattle.points.specs.declared.outcome.Outcome.TheVariants.{Return, Ub, Beyond}
use Rattle.verdicts.proofs.Placed.{with_memory, with_blocks, run_any_memory}
use Rattle.choice_interp.proofs.Endings.{blocks_allow-same}
use Rattle.slow_judge.proofs.Order.{empty_fit, middle_zeros, number_of-Zeros, few, short}

-- ---- a run hands its memory on

refined_any_memory : (a b : Outcome) (memory other : List MemoryBlock) → is_refined (with_memory memory a) (with_memory memory b) ≡ is_refined (with_memory other a) (with_memory other b)
refined_any_memory (Return v m) (Return w n) memory other = rw (blocks_allow-same memory, blocks_allow-same other) refl
refined_any_memory (Return v m) Ub memory other = refl
refined_any_memory (Return v m) Beyond memory other = refl
refined_any_memory Ub (Return w n) memory other = refl
refined_any_memory Ub Ub memory other = refl
refined_any_memory Ub Beyond memory other = refl
refined_any_memory Beyond (Return w n) memory other = refl
refined_any_memory Beyond Ub memory other = refl
refined_any_memory Beyond Beyond memory other = refl

-- ---- the same point with empty blocks

abbrev pub emptied : RunPair → Bounds → Point → Point
emptied pair bounds q = record { input = with_blocks (empty_blocks (layout_of pair bounds)) q.input; tape = q.tape }

refined_2 : (x x' y y' : Outcome) → x ≡ x' → y ≡ y' → is_refined x y ≡ is_refined x' y'
refined_2 x x' y y' e f = rw (e, f) refl

covers_emptied : (pair : RunPair) → HaveNoPointers pair → (bounds : Bounds) (q : Point) (tape : List ℕ) → covers pair bounds (emptied pair bounds q) tape ≡ covers pair bounds q tape
unfolding covers
covers_emptied pair none bounds q tape =
    let empty = empty_blocks (layout_of pair bounds) in
    let a = ap (λ (r : Run). r.outcome) (run_any_memory pair.source none.source bounds empty q.input tape) in
    let b = ap (λ (r : Run). r.outcome) (run_any_memory pair.target none.target bounds empty q.input q.tape) in
    let a' = ap (λ (r : Run). r.outcome) (run_any_memory pair.source none.source bounds q.input.blocks q.input tape) in
    let b' = ap (λ (r : Run). r.outcome) (run_any_memory pair.target none.target bounds q.input.blocks q.input q.tape) in
    refined_2 _ _ _ _ a b
    ∙ refined_any_memory (run_of pair.source bounds q.input tape).outcome (run_of pair.target bounds q.input q.tape).outcome (filter is_given empty) (filter is_given q.input.blocks) ∙ sym (refined_2 _ _ _ _ a' b')

some_covers_emptied : (pair : RunPair) → HaveNoPointers pair → (bounds : Bounds) (q : Point) (tapes : List (List ℕ)) → some_covers pair bounds (emptied pair bounds q) tapes ≡ some_covers pair bounds q tapes
unfolding some_covers
some_covers_emptied pair none bounds q [] = refl
some_covers_emptied pair none bounds q (tape ∷ tapes) = rw (covers_emptied pair none bounds q tape, some_covers_emptied pair none bounds q tapes) refl

covered_emptied : (pair : RunPair) → HaveNoPointers pair → (bounds : Bounds) (tapes : List (List ℕ)) (q : Point) → is_covered pair bounds tapes (emptied pair bounds q) ≡ is_covered pair bounds tapes q
covered_emptied pair none bounds tapes q = some_covers_emptied pair none bounds q (tried pair bounds q ++ tapes)

-- ---- and it comes no later

no_later : (a x y t : List ℕ) → length x ≡ length y → number_of x ≡ 0 → number_of (a ++ (x ++ t)) ≤ number_of (a ++ (y ++ t))
no_later a x y t long zeros =
    let same : length (x ++ t) ≡ length (y ++ t) = length-append x t ∙ ap (λ n. n + length t) long ∙ sym (length-append y t) in
    rw (number_of-append a (x ++ t), number_of-append a (y ++ t), number_of-append x t, number_of-append y t, same, zeros) (omega arith)

place_emptied : (pair : RunPair) (bounds : Bounds) (q : Point) → AreSmall bounds → BlocksFit (layout_of pair bounds) 1 q.input.blocks → place_in pair bounds (emptied pair bounds q) ≤ place_in pair bounds q
place_emptied pair bounds q small given =
    let empty = empty_blocks (layout_of pair bounds) in
    let zeros = number_of-Zeros (blocks_code (layout_of pair bounds) empty) (middle_zeros (layout_of pair bounds)) in
    let d = blocks_digits (layout_of pair bounds) empty (few bounds small) (short bounds small) (empty_fit (layout_of pair bounds)) in
    let d' = blocks_digits (layout_of pair bounds) q.input.blocks (few bounds small) (short bounds small) given in
    let long : length (blocks_code (layout_of pair bounds) empty) ≡ length (blocks_code (layout_of pair bounds) q.input.blocks) = length_of_Digits _ _ d ∙ sym (length_of_Digits _ _ d') in
    no_later (args_code (layout_of pair bounds) pair.target.parameters q.input.args) (blocks_code (layout_of pair bounds) empty) (blocks_code (layout_of pair bounds) q.input.blocks) q.tape long zeros

-- ---- so they decide

emptied_cell : (pair : RunPair) (bounds : Bounds) (q : Point) → IsPoint pair bounds q → IsCell pair bounds (emptied pair bounds q)
emptied_cell pair bounds q point = record { args = point.args; blocks = refl; tape = point.tape }

emptied_plain : (pair : RunPair) → HaveNoPointers pair → (bounds : Bounds) (q : Point) → IsPoint pair bounds q → IsPlain q.tape (run_of pair.target bounds (emptied pair bounds q).input q.tape)
emptied_plain pair none bounds q point =
    let same = run_any_memory pair.target none.target bounds (empty_blocks (layout_of pair bounds)) q.input q.tape in
    λ k. point.plain k ∙ ap (λ (r : Run). slice_index r.taken k) (sym same)

all_covered : (pair : RunPair) → HaveNoPointers pair → (bounds : Bounds) (tapes : List (List ℕ)) → AreCoveredAmong (IsCell pair bounds) pair bounds tapes → AreAllCovered pair bounds tapes
all_covered pair none bounds tapes all = λ q point. sym (covered_emptied pair none bounds tapes q) ∙ all (emptied pair bounds q) (emptied_cell pair bounds q point) (emptied_plain pair none bounds q point)

least_of_points : (pair : RunPair) → HaveNoPointers pair → (bounds : Bounds) (tapes : List (List ℕ)) (p : Point) → AreSmall bounds → IsLeastAmong (IsCell pair bounds) pair bounds tapes p → IsLeastUncovered pair bounds tapes p
least_of_points pair none bounds tapes p small least = record {
  point = record { args = least.among.args; given = rw least.among.blocks (empty_fit (layout_of pair bounds)); tape = least.among.tape; plain = least.here.plain };
  uncovered = least.here.uncovered;
  least = λ q point less.
      let at_most = place_emptied pair bounds q small point.given in
      sym (covered_emptied pair none bounds tapes q) ∙ least.least (emptied pair bounds q) (emptied_cell pair bounds q point) (emptied_plain pair none bounds q point) (omega (arith, at_most, less));
}

pub cells_decide : (pair : RunPair) → HaveNoPointers pair → (bounds : Bounds) (tapes : List (List ℕ)) (found : Option Point) → AreSmall bounds
    → MatchOption found (AreCoveredAmong (IsCell pair bounds) pair bounds tapes) (IsLeastAmong (IsCell pair bounds) pair bounds tapes)
    → MatchOption found (AreAllCovered pair bounds tapes) (IsLeastUncovered pair bounds tapes)
cells_decide pair none bounds tapes None small all = all_covered pair none bounds tapes all
cells_decide pair none bounds tapes (Some p) small least = least_of_points pair none bounds tapes p small least
