-- Each edge leads to a copy that comes later.
use Rattle.std.proofs.Common.{◌≡◌, ℕ, zero, suc, ◌+◌, ◌*◌, ◌<◌, ◌≤◌, List, [], ◌∷◌, ◌++◌, length, map, inl, inr, refl, sym, ap, subst, ◌∙◌, arith, length-append}
use Rattle.std.proofs.lemmas.Bool.{cases_lt, lt-ltb, le-ltb, lt-leb, le-leb}
use Rattle.std.proofs.Math.Nat.{mul-le-mul_right}
use Rattle.ir_tree.specs.declared.tree.Function.{Function}
use Rattle.ir_tree.specs.Flow.{successors}
use Rattle.unroll.specs.declared.layered.BlockCopy.{BlockCopy}
use Rattle.unroll.specs.Layers.{edge_to, layer_of, layers_of, copies_of, LeadsOn, AllLeadOn, AreForward}
use Rattle.unroll.proofs.Copies.{length_places}

row_after : (turn n : ℕ) → (turn + 1) * n ≡ turn * n + n
row_after turn n = omega arith

fits : (turns turn n at : ℕ) → turn ≤ turns → at < n → turn * n + at < (turns + 1) * n
fits turns turn n at most within =
    let m : (turn + 1) * n ≤ (turns + 1) * n = mul-le-mul_right n (omega (arith, most)) in
    let row = row_after turn n in
    omega (arith, m, row, within)

edge_leads : (turns n turn at to : ℕ) → turn ≤ turns → at < n → LeadsOn (turn * n + at) ((turns + 1) * n) (edge_to turns n turn at to)
edge_leads turns n turn at to most within = elim (cases_lt to n) [
  | inl inside ↦ elim (cases_lt at to) [
    | inl onward ↦ rw (lt-leb n to inside, lt-ltb at to onward) (omega (arith, onward), fits turns turn n to most inside)
    | inr back ↦ elim (cases_lt turn turns) [
      | inl less ↦ rw (lt-leb n to inside, le-ltb at to back, lt-ltb turn turns less) ((let row = row_after turn n in omega (arith, row, within)), fits turns (turn + 1) n to (omega (arith, less)) inside)
      | inr last ↦ rw (lt-leb n to inside, le-ltb at to back, le-ltb turn turns last) tt
    ]
  ]
  | inr outside ↦ rw (le-leb n to outside) tt
]

edges_lead : (turns n turn at : ℕ) (places : List ℕ) → turn ≤ turns → at < n → AllLeadOn (turn * n + at) ((turns + 1) * n) (map (edge_to turns n turn at) places)
edges_lead turns n turn at [] most within = tt
edges_lead turns n turn at (to ∷ places) most within = (edge_leads turns n turn at to most within, edges_lead turns n turn at places most within)

-- a layer, and what follows it
layer_leads : (turns n turn at : ℕ) (graph : List (List ℕ)) (further : List BlockCopy) → turn ≤ turns → at + length graph ≡ n → AreForward (turn * n + n) ((turns + 1) * n) further
    → AreForward (turn * n + at) ((turns + 1) * n) (layer_of turns n turn at graph ++ further)
unfolding layer_of
layer_leads turns n turn at [] further most all rest = subst (λ (k : ℕ). AreForward (turn * n + k) ((turns + 1) * n) further) (let e : n ≡ at = omega (arith, all) in e) rest
layer_leads turns n turn at (places ∷ graph) further most all rest =
    let next : turn * n + suc at ≡ suc (turn * n + at) = omega arith in (
      edges_lead turns n turn at places most (omega (arith, all)),
      subst (λ (k : ℕ). AreForward k ((turns + 1) * n) (layer_of turns n turn (suc at) graph ++ further)) next (layer_leads turns n turn (suc at) graph further most (omega (arith, all)) rest),
    )

layers_lead : (turns n turn count : ℕ) (graph : List (List ℕ)) → length graph ≡ n → turn + count ≡ turns + 1 → AreForward (turn * n) ((turns + 1) * n) (layers_of turns n graph turn count)
unfolding layers_of
layers_lead turns n turn zero graph all counts = tt
layers_lead turns n turn (suc count) graph all counts =
    let row : suc turn * n ≡ turn * n + n = omega arith in
    let start : turn * n + 0 ≡ turn * n = omega arith in
    let further = layers_of turns n graph (suc turn) count in
    let rest = subst (λ (k : ℕ). AreForward k ((turns + 1) * n) further) row (layers_lead turns n (suc turn) count graph all (omega (arith, counts))) in
    subst (λ (k : ℕ). AreForward k ((turns + 1) * n) (layer_of turns n turn 0 graph ++ further)) start (layer_leads turns n turn 0 graph further (omega (arith, counts)) (omega (arith, all)) rest)

layer_length : (turns n turn at : ℕ) (graph : List (List ℕ)) → length (layer_of turns n turn at graph) ≡ length graph
unfolding layer_of
layer_length turns n turn at [] = refl
layer_length turns n turn at (places ∷ graph) = ap suc (layer_length turns n turn (suc at) graph)

layers_length : (turns n turn count : ℕ) (graph : List (List ℕ)) → length graph ≡ n → length (layers_of turns n graph turn count) ≡ count * n
unfolding layers_of
layers_length turns n turn zero graph all = (let e : 0 ≡ 0 * n = omega arith in e)
layers_length turns n turn (suc count) graph all =
    let joined = length-append (layer_of turns n turn 0 graph) (layers_of turns n graph (suc turn) count) in
    let first = layer_length turns n turn 0 graph ∙ all in
    let rest = layers_length turns n (suc turn) count graph all in
    let row : suc count * n ≡ n + count * n = omega arith in
    omega (arith, joined, first, rest, row)

pub copies_lead : (f : Function) (turns : ℕ) (copies : List BlockCopy) → copies ≡ copies_of turns f → AreForward 0 (length copies) copies
copies_lead f turns copies is =
    let n = length f.blocks in
    let all : length (successors f) ≡ n = length_places f f.blocks in
    let long : (turns + 1) * n ≡ length copies = sym (ap (λ (cs : List BlockCopy). length cs) is ∙ layers_length turns n 0 (turns + 1) (successors f) all) in
    let none : 0 * n ≡ 0 = omega arith in
    let lead = layers_lead turns n 0 (turns + 1) (successors f) all (omega arith) in
    let lead' = subst (λ (k : ℕ). AreForward k ((turns + 1) * n) (copies_of turns f)) none lead in
    let lead'' = subst (λ (k : ℕ). AreForward 0 k (copies_of turns f)) long lead' in
    subst (λ (cs : List BlockCopy). AreForward 0 (length copies) cs) (sym is) lead''
