-- The variables of a question come in the order of its numbers.
use Rattle.pair_questions.proofs.Common.{◌≡◌, ℕ, All, ◌<◌, List, [], ◌++◌, length, map, replicate, ap, subst, sym, ◌∙◌, append_assoc, Layout, TermId, Term, width_of, AreFit, Keeps, tree_in, variables_among, Bounds, Shape, RunPair, layout_of, need_of, IsOrder, args_widths, blocks_widths, point_widths, tape_widths, IsShapeOf}
use Rattle.pair_questions.proofs.Numbered.{all_within, order_kept, widths_are}

order_start : (terms : List Term) (order : List TermId) → terms ≡ [] → order ≡ [] → IsOrder terms order []
unfolding variables_among
order_start terms order e f = rw (e, f) (record { numbered = tt; named = tt })

abbrev pub input_widths : Shape → List ℕ
input_widths s = args_widths s.parameters ++ (replicate s.layout.blocks 6 ++ blocks_widths s.layout s.layout.blocks)

widths-shaped : (pair : RunPair) (bounds : Bounds) (s : Shape) → IsShapeOf pair bounds s → input_widths s ++ replicate s.words 64 ≡ point_widths pair bounds
widths-shaped pair bounds s is =
    let args = args_widths pair.target.parameters in
    let sizes = replicate bounds.blocks 6 in
    let places = blocks_widths (layout_of pair bounds) bounds.blocks in
    let words = replicate (need_of bounds.turns pair.target) 64 in
    ap (λ ps. (args_widths ps ++ (replicate s.layout.blocks 6 ++ blocks_widths s.layout s.layout.blocks)) ++ replicate s.words 64) is.parameters
    ∙ (ap (λ (y : Layout). (args ++ (replicate y.blocks 6 ++ blocks_widths y y.blocks)) ++ replicate s.words 64) is.layout
    ∙ (ap (λ n. (args ++ (sizes ++ places)) ++ replicate n 64) is.words
    ∙ (append_assoc args (sizes ++ places) words ∙ ap (λ ns. args ++ ns) (append_assoc sizes places words))))

pub point_order : (pair : RunPair) (bounds : Bounds) (s : Shape) (none inputs all : List Term) (order order' order'' : List TermId) → IsShapeOf pair bounds s → none ≡ [] → order ≡ []
    → ((widths : List ℕ) → IsOrder none order widths → IsOrder inputs order' (widths ++ input_widths s)) → ((widths : List ℕ) → IsOrder inputs order' widths → IsOrder all order'' (widths ++ replicate s.words 64))
    → IsOrder all order'' (point_widths pair bounds)
point_order pair bounds s none inputs all order order' order'' is e f input tape =
    subst (λ (ws : List ℕ). IsOrder all order'' ws) (widths-shaped pair bounds s is) (tape (input_widths s) (input [] (order_start none order e f)))

pub tape_order : (pair : RunPair) (bounds : Bounds) (words : ℕ) (none all : List Term) (order order' : List TermId) → words ≡ need_of bounds.turns pair.source → none ≡ [] → order ≡ []
    → ((widths : List ℕ) → IsOrder none order widths → IsOrder all order' (widths ++ replicate words 64)) → IsOrder all order' (tape_widths pair bounds)
tape_order pair bounds words none all order order' count e f tape =
    subst (λ n. IsOrder all order' (replicate n 64)) count (tape [] (order_start none order e f))

-- ---- what is asked

pub order_within : (terms : List Term) (order ids : List TermId) (widths : List ℕ) → IsOrder terms order widths → ids ≡ order → All (λ (id : TermId). id.index < length terms) ids
order_within terms order ids widths is e = subst (λ (xs : List TermId). All (λ (id : TermId). id.index < length terms) xs) (sym e) (all_within terms 0 order widths is.numbered)

pub counted : (terms : List Term) (order ids : List TermId) (widths items : List ℕ) → AreFit [] terms → IsOrder terms order widths → ids ≡ order → items ≡ map (λ (id : TermId). width_of (tree_in terms id)) ids → items ≡ widths
counted terms order ids widths items fit is e f = f ∙ (ap (map (λ (id : TermId). width_of (tree_in terms id))) e ∙ widths_are terms 0 order widths fit is.numbered)

pub order_asked : (old new : List Term) (order ids : List TermId) (widths items : List ℕ) → Keeps old new → IsOrder old order widths → ids ≡ order → items ≡ widths → IsOrder new ids items
order_asked old new order ids widths items k is e f = rw (e, f) (order_kept old new order widths k is)
