-- Copies in loops.
use Rattle.std.proofs.Common.{◌≡◌, ℕ, zero, suc, ◌+◌, ◌-◌, ◌<◌, List, [], ◌∷◌, ◌++◌, length, map, drop, get_or, refl, sym, ap, ◌∙◌, arith}
use Rattle.std.proofs.lemmas.List.{drop_more, append-nil, append_assoc}
use Rattle.std.proofs.Math.Seq.{drop-length}
use Rattle.ir_tree.specs.declared.tree.Block.{Block}
use Rattle.ir_tree.specs.declared.tree.Function.{Function}
use Rattle.ir_tree.specs.Flow.{successors}
use Rattle.unroll.specs.declared.layered.Edge.{Edge}
use Rattle.unroll.specs.declared.layered.BlockCopy.{BlockCopy}
use Rattle.unroll.specs.Layers.{edge_to, copy_of, layer_of, layers_of, copies_of}
use Rattle.ir_tree.proofs.Indexing.{places_of}

-- ---- one layer

-- a copy joins the others
pub copy_joins : (turns blocks turn at : ℕ) (graph : List (List ℕ)) (places slice : List ℕ) (edges : List Edge) (now new whole : List BlockCopy) → at < length graph → places ≡ get_or graph at places
    → slice ≡ places → edges ≡ map (edge_to turns blocks turn at) slice → new ≡ now ++ record { turn = turn; block = at; edges = edges } ∷ []
    → now ++ layer_of turns blocks turn at (drop at graph) ≡ whole → new ++ layer_of turns blocks turn (at + 1) (drop (at + 1) graph) ≡ whole
unfolding layer_of
copy_joins turns blocks turn at graph places slice edges now new whole below is same made joined before =
    let copy = copy_of turns blocks turn at places in
    let rest = layer_of turns blocks turn (at + 1) (drop (at + 1) graph) in
    let e : new ≡ now ++ copy ∷ [] = joined ∙ ap (λ (es : List Edge). now ++ record { turn = turn; block = at; edges = es } ∷ []) (made ∙ ap (λ (ps : List ℕ). map (edge_to turns blocks turn at) ps) same) in
    let next : suc at ≡ at + 1 = omega arith in
    let ahead : layer_of turns blocks turn at (drop at graph) ≡ copy ∷ rest = rw (drop_more graph at places below, ← is) (ap (λ (k : ℕ). copy ∷ layer_of turns blocks turn k (drop (at + 1) graph)) next) in
    ap (λ (cs : List BlockCopy). cs ++ rest) e ∙ (append_assoc now (copy ∷ []) rest ∙ (ap (λ (cs : List BlockCopy). now ++ cs) (sym ahead) ∙ before))

pub layer_done : (turns blocks turn at : ℕ) (graph : List (List ℕ)) (now whole : List BlockCopy) → at ≡ length graph → now ++ layer_of turns blocks turn at (drop at graph) ≡ whole → now ≡ whole
unfolding layer_of
layer_done turns blocks turn at graph now whole end before =
    let none : layer_of turns blocks turn at (drop at graph) ≡ [] = rw (end, drop-length graph) refl in
    sym (append-nil now) ∙ (ap (λ (cs : List BlockCopy). now ++ cs) (sym none) ∙ before)

-- ---- all layers

layers_more : (turns blocks : ℕ) (graph : List (List ℕ)) (turn count : ℕ) → turn < count → layers_of turns blocks graph turn (count - turn) ≡ layer_of turns blocks turn 0 graph ++ layers_of turns blocks graph (turn + 1) (count - (turn + 1))
unfolding layers_of
layers_more turns blocks graph turn count below =
    let e : count - turn ≡ suc (count - (turn + 1)) = omega (arith, below) in
    let next : suc turn ≡ turn + 1 = omega arith in
    rw e (ap (λ (k : ℕ). layer_of turns blocks turn 0 graph ++ layers_of turns blocks graph k (count - (turn + 1))) next)

-- a layer joins the others
pub layer_joins : (turns blocks turn count : ℕ) (graph : List (List ℕ)) (now new whole : List BlockCopy) → turn < count → new ≡ now ++ layer_of turns blocks turn 0 graph
    → now ++ layers_of turns blocks graph turn (count - turn) ≡ whole → new ++ layers_of turns blocks graph (turn + 1) (count - (turn + 1)) ≡ whole
layer_joins turns blocks turn count graph now new whole below joined before =
    let layer = layer_of turns blocks turn 0 graph in
    let rest = layers_of turns blocks graph (turn + 1) (count - (turn + 1)) in
    ap (λ (cs : List BlockCopy). cs ++ rest) joined ∙ (append_assoc now layer rest ∙ (ap (λ (cs : List BlockCopy). now ++ cs) (sym (layers_more turns blocks graph turn count below)) ∙ before))

pub layers_done : (turns blocks turn count : ℕ) (graph : List (List ℕ)) (now whole : List BlockCopy) → turn ≡ count → now ++ layers_of turns blocks graph turn (count - turn) ≡ whole → now ≡ whole
unfolding layers_of
layers_done turns blocks turn count graph now whole end before =
    let zero' : count - turn ≡ 0 = omega (arith, end) in
    let none : layers_of turns blocks graph turn (count - turn) ≡ [] = rw zero' refl in
    sym (append-nil now) ∙ (ap (λ (cs : List BlockCopy). now ++ cs) (sym none) ∙ before)

-- ---- no block

pub no_copies : (turns blocks turn count : ℕ) → layers_of turns blocks [] turn count ≡ []
unfolding layers_of layer_of
no_copies turns blocks turn zero = refl
no_copies turns blocks turn (suc count) = no_copies turns blocks (suc turn) count

pub no_layers : (turns count : ℕ) (graph : List (List ℕ)) → length graph ≡ 0 → layers_of turns (length graph) graph 0 count ≡ []
no_layers turns count [] none = no_copies turns 0 0 count
no_layers turns count (places ∷ graph) none = absurd (omega (arith, none))

-- ---- of a function

pub length_places : (f : Function) (bs : List Block) → length (map (places_of f) bs) ≡ length bs
length_places f [] = refl
length_places f (b ∷ bs) = ap suc (length_places f bs)

pub copies_are : (f : Function) (turns : ℕ) (slice graph : List (List ℕ)) (made copies : List BlockCopy) → graph ≡ successors f → slice ≡ graph → made ≡ layers_of turns (length slice) slice 0 (turns + 1) → copies ≡ made → copies ≡ copies_of turns f
copies_are f turns slice graph made copies is same all kept =
    let e : slice ≡ successors f = same ∙ is in
    kept ∙ (all ∙ (ap (λ (g : List (List ℕ)). layers_of turns (length g) g 0 (turns + 1)) e ∙ ap (λ (n : ℕ). layers_of turns n (successors f) 0 (turns + 1)) (length_places f f.blocks)))
