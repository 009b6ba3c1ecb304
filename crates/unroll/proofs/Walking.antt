-- A run through the copies, each once and in order, is the run.
use Rattle.std.proofs.Common.{◌≡◌, ℕ, zero, suc, ◌+◌, ◌*◌, ◌<◌, ◌≤◌, List, [], ◌∷◌, ◌++◌, length, map, Bool, true, false, nat_eq, nat_lt, if◌then◌else◌, Some, None, inl, inr, refl, sym, ap, subst, ◌∙◌, arith}
use Rattle.std.specs.Prelude.{slice_get}
use Rattle.std.proofs.lemmas.Bool.{cases_Bool, cases_lt, lt-ltb, le-ltb, lt-leb, le-leb, eqb-true, eqb-false}
use Rattle.std.proofs.lemmas.Option.{slice_get_past}
use Rattle.std.proofs.Math.Nat.{mul-le-mul_right}
use Rattle.ir_tree.specs.declared.tree.Block.{Block}
use Rattle.ir_tree.specs.declared.tree.Function.{Function}
use Rattle.ir_tree.specs.Flow.{targets, block_of, successors}
use Rattle.points.specs.declared.machine.Machine.{Machine}
use Rattle.points.specs.declared.outcome.Outcome.TheVariants.{Ub, Beyond}
use Rattle.points.specs.declared.point.Bounds.{Bounds}
use Rattle.points.specs.declared.point.Input.{Input}
use Rattle.points.specs.Run.{Run, Exit, To, Over, ended, exit_of, Go, jump, go_on, forward, run_turns, breaks_noundef, first_machine}
use Rattle.points.proofs.Runs.{run_of_is, run_entered_by}
use Rattle.unroll.specs.declared.layered.Edge.TheVariants as edge
use Rattle.unroll.specs.declared.layered.BlockCopy.{BlockCopy}
use Rattle.unroll.specs.Layers.{number_in, edge_to, copy_of, layer_of, layers_of, copies_of, Where, At, Done, along, left_by, run_copy, pass_copy, walk, run_at_end, LayersHaveRuns}
use Rattle.unroll.proofs.Leaving.{Leaves, block_leaves, edge_at}
use Rattle.unroll.proofs.Copies.{no_copies}
use Rattle.ir_tree.proofs.Indexing.{places_of}

-- ---- the run, from a block on

-- where a further backward jump leads
abbrev again_of : Function → List ℕ → ℕ → Go
again_of f tape zero = λ at m. ended Beyond m
again_of f tape (suc left) = run_turns f tape left

-- the run from the entry of the block at an index, with this number of backward jumps left
abbrev rest_of : Function → List ℕ → ℕ → Go
rest_of f tape left = forward f tape (again_of f tape left) (length f.blocks)

run_turns_is : (f : Function) (tape : List ℕ) (left at : ℕ) (m : Machine) → run_turns f tape left at m ≡ rest_of f tape left at m
unfolding run_turns
run_turns_is f tape zero at m = refl
run_turns_is f tape (suc left) at m = refl

on_further : (f : Function) (at : ℕ) (x : Exit) (here there again : Go) → ((to : ℕ) (m : Machine) → at < to → here to m ≡ there to m) → go_on f x at here again ≡ go_on f x at there again
on_further f at (Over run) here there again same = refl
on_further f at (To label m) here there again same = elim (cases_lt at (block_of f label)) [
  | inl onward ↦ rw (lt-ltb at (block_of f label) onward) (same (block_of f label) m onward)
  | inr back ↦ rw (le-ltb at (block_of f label) back) refl
]

forward_past : (f : Function) (tape : List ℕ) (again : Go) (spare at : ℕ) (m : Machine) → length f.blocks ≤ at → forward f tape again spare at m ≡ ended Ub m
unfolding forward
forward_past f tape again zero at m past = refl
forward_past f tape again (suc spare) at m past = let none : slice_get f.blocks at ≡ None = slice_get_past f.blocks at past in rw none refl

-- more jumps forward than there are blocks ahead make no difference
enough : (f : Function) (tape : List ℕ) (again : Go) (k j at : ℕ) (m : Machine) → length f.blocks ≤ k + at → length f.blocks ≤ j + at → forward f tape again k at m ≡ forward f tape again j at m
unfolding forward
enough f tape again zero j at m hk hj = sym (forward_past f tape again j at m (omega (arith, hk)))
enough f tape again (suc k) zero at m hk hj = forward_past f tape again (suc k) at m (omega (arith, hj))
enough f tape again (suc k) (suc j) at m hk hj =
    on_further f at (exit_of f.returns_no_undef (slice_get f.blocks at) tape m) (forward f tape again k) (forward f tape again j) again
    (λ to n up. enough f tape again k j to n (omega (arith, hk, up)) (omega (arith, hj, up)))

rest_step : (f : Function) (tape : List ℕ) (left at : ℕ) (m : Machine) → rest_of f tape left at m ≡ go_on f (exit_of f.returns_no_undef (slice_get f.blocks at) tape m) at (rest_of f tape left) (again_of f tape left)
unfolding forward
rest_step f tape left at m = enough f tape (again_of f tape left) (length f.blocks) (suc (length f.blocks)) at m (omega arith) (omega arith)

-- ---- where a run is

-- at the copy of a block that is still ahead, from where it goes on as the whole run does
pub record StandsAt (f : Function) (tape : List ℕ) (turns passed number : ℕ) (m : Machine) (whole : Run) : Type 0 where
  pub turn : ℕ
  pub left : ℕ
  pub at : ℕ
  pub is : number ≡ turn * length f.blocks + at
  pub within : at < length f.blocks
  pub counts : turn + left ≡ turns
  pub ahead : passed ≤ number
  pub rest : rest_of f tape left at (record m { turn = turn }) ≡ whole

abbrev Stands : Function → List ℕ → ℕ → ℕ → Where → Run → Type 0
Stands f tape turns passed (At number m) whole = StandsAt f tape turns passed number m whole
Stands f tape turns passed (Done run) whole = run ≡ whole

next_row : (turn n : ℕ) → (turn + 1) * n ≡ turn * n + n
next_row turn n = omega arith

-- two positions of one number
same_turn : (n turn turn' at at' : ℕ) → at < n → at' < n → turn * n + at ≡ turn' * n + at' → turn ≡ turn'
same_turn n turn turn' at at' within within' e = elim (cases_lt turn turn') [
  | inl less ↦ (let m : (turn + 1) * n ≤ turn' * n = mul-le-mul_right n (omega (arith, less)) in let row = next_row turn n in absurd (omega (arith, m, row, within, e)))
  | inr most ↦ elim (cases_lt turn' turn) [
    | inl less ↦ (let m : (turn' + 1) * n ≤ turn * n = mul-le-mul_right n (omega (arith, less)) in let row = next_row turn' n in absurd (omega (arith, m, row, within', e)))
    | inr least ↦ omega (arith, most, least)
  ]
]

with_turn : (m : Machine) (turn : ℕ) → m.turn ≡ turn → record m { turn = turn } ≡ m
with_turn m turn e = ap (λ (t : ℕ). record m { turn = t }) (sym e)

module _ (f : Function) (tape : List ℕ) (turns turn left at : ℕ) (whole : Run) (within : at < length f.blocks) (counts : turn + left ≡ turns) where
  abbrev blocks : ℕ
  blocks = length f.blocks

  abbrev here : ℕ
  here = turn * blocks + at

  stands_onward : (to : ℕ) (m : Machine) → m.turn ≡ turn → to < blocks → at < to → rest_of f tape left to m ≡ whole → Stands f tape turns (suc here) (At (turn * blocks + to) m) whole
  stands_onward to m same inside onward goes = record {
    turn = turn;
    left = left;
    at = to;
    is = refl;
    within = inside;
    counts = counts;
    ahead = omega (arith, onward);
    rest = rw (with_turn m turn same) goes;
  }

  stands_again : (left' to : ℕ) (m : Machine) → left ≡ suc left' → m.turn ≡ turn → to < blocks → run_turns f tape left' to (record m { turn = m.turn + 1 }) ≡ whole → Stands f tape turns (suc here) (At ((turn + 1) * blocks + to) m) whole
  stands_again left' to m less same inside goes = record {
    turn = turn + 1;
    left = left';
    at = to;
    is = refl;
    within = inside;
    counts = omega (arith, counts, less);
    ahead = (let row = next_row turn blocks in omega (arith, row, within));
    rest = ap (λ (t : ℕ). rest_of f tape left' to (record m { turn = t + 1 })) (sym same) ∙ (sym (run_turns_is f tape left' to (record m { turn = m.turn + 1 })) ∙ goes);
  }

  stands_back : (k to : ℕ) (m : Machine) → left ≡ k → m.turn ≡ turn → to < blocks → again_of f tape k to (record m { turn = m.turn + 1 }) ≡ whole
      → Stands f tape turns (suc here) (along (if nat_lt turn turns then edge.Copy (number_in blocks (turn + 1) to) else edge.Beyond) m) whole
  stands_back zero to m less same inside goes = rw (le-ltb turn turns (omega (arith, counts, less))) goes
  stands_back (suc k) to m less same inside goes = rw (lt-ltb turn turns (omega (arith, counts, less))) (stands_again k to m less same inside goes)

  -- a jump to the block at an index
  stands_along : (to : ℕ) (m : Machine) → m.turn ≡ turn → jump at to m (rest_of f tape left) (again_of f tape left) ≡ whole → Stands f tape turns (suc here) (along (edge_to turns blocks turn at to) m) whole
  stands_along to m same goes = elim (cases_lt to blocks) [
    | inl inside ↦ elim (cases_lt at to) [
      | inl onward ↦ rw (lt-leb blocks to inside, lt-ltb at to onward) (stands_onward to m same inside onward (rw (lt-ltb at to onward) at goes))
      | inr back ↦ rw (lt-leb blocks to inside, le-ltb at to back) (stands_back left to m refl same inside (rw (le-ltb at to back) at goes))
    ]
    | inr outside ↦ (let onward : at < to = omega (arith, within, outside) in
        rw (le-leb blocks to outside) (sym (forward_past f tape (again_of f tape left) blocks to m outside) ∙ (rw (lt-ltb at to onward) at goes)))
  ]

  -- a block that was left so
  stands_left : (labels : List ℕ) (x : Exit) → Leaves turn labels x → go_on f x at (rest_of f tape left) (again_of f tape left) ≡ whole
      → Stands f tape turns (suc here) (left_by labels (map (edge_to turns blocks turn at) (map (block_of f) labels)) x) whole
  stands_left labels (Over run) leaves goes = goes
  stands_left labels (To label m) leaves goes =
      rw (edge_at (edge_to turns blocks turn at) (block_of f) labels label leaves.1) (stands_along (block_of f label) m leaves.0 goes)

  -- the copy at which the run is
  stands_run : (b : Block) (m : Machine) → slice_get f.blocks at ≡ Some b → rest_of f tape left at (record m { turn = turn }) ≡ whole → Stands f tape turns (suc here) (run_copy f (copy_of turns (length f.blocks) turn at (places_of f b)) tape m) whole
  stands_run b m is rest =
      let n : Machine = record m { turn = turn } in
      let goes = sym (rest_step f tape left at n) ∙ rest in
      let goes' = rw is at goes in
      rw is (stands_left (targets b.terminator) (exit_of f.returns_no_undef (Some b) tape n) (block_leaves f.returns_no_undef (Some b) tape n) goes')

  -- any copy
  stands_passed : (b : Block) (w : Where) → slice_get f.blocks at ≡ Some b → Stands f tape turns here w whole → Stands f tape turns (suc here) (pass_copy f here (copy_of turns (length f.blocks) turn at (places_of f b)) tape w) whole
  stands_passed b (Done run) is stands = stands
  stands_passed b (At number m) is stands = elim (cases_Bool (nat_eq here number)) [
    | inl t ↦ rw t (stands_run b m is (at_here (eqb-true here number t)))
    | inr other ↦ rw other (record {
      turn = stands.turn;
      left = stands.left;
      at = stands.at;
      is = stands.is;
      within = stands.within;
      counts = stands.counts;
      ahead = (let apart = eqb-false here number other in let up = stands.ahead in omega (arith, apart, up));
      rest = stands.rest;
    })
  ]
    where
      at_here : here ≡ number → rest_of f tape left at (record m { turn = turn }) ≡ whole
      at_here same =
          let e : turn ≡ stands.turn = same_turn blocks turn stands.turn at stands.at within stands.within (same ∙ stands.is) in
          let same_at : at ≡ stands.at = (let row = same ∙ stands.is in let row' = rw e at row in omega (arith, row')) in
          let same_left : left ≡ stands.left = (let c = stands.counts in omega (arith, counts, c, e)) in
          rw (e, same_at, same_left) stands.rest

-- ---- all copies

walk_joined : (f : Function) (tape : List ℕ) (n : ℕ) (xs ys : List BlockCopy) (w : Where) → walk f n (xs ++ ys) tape w ≡ walk f (n + length xs) ys tape (walk f n xs tape w)
unfolding walk
walk_joined f tape n [] ys w = ap (λ (k : ℕ). walk f k ys tape w) (let e : n ≡ n + 0 = omega arith in e)
walk_joined f tape n (x ∷ xs) ys w =
    walk_joined f tape (suc n) xs ys (pass_copy f n x tape w)
    ∙ ap (λ (k : ℕ). walk f k ys tape (walk f (suc n) xs tape (pass_copy f n x tape w))) (let e : suc n + length xs ≡ n + suc (length xs) = omega arith in e)

layer_length : (turns n turn at : ℕ) (f : Function) (bs : List Block) → length (layer_of turns n turn at (map (places_of f) bs)) ≡ length bs
unfolding layer_of
layer_length turns n turn at f [] = refl
layer_length turns n turn at f (b ∷ bs) = ap suc (layer_length turns n turn (suc at) f bs)

-- these blocks are in the function from an index on
abbrev AreFrom : Function → ℕ → List Block → Type 0
AreFrom f at bs = (i : ℕ) → slice_get f.blocks (at + i) ≡ slice_get bs i

layer_stands : (f : Function) (tape : List ℕ) (turns turn left at : ℕ) (bs : List Block) (w : Where) (whole : Run) → turn + left ≡ turns → at + length bs ≡ length f.blocks → AreFrom f at bs
    → Stands f tape turns (turn * length f.blocks + at) w whole → Stands f tape turns (turn * length f.blocks + length f.blocks) (walk f (turn * length f.blocks + at) (layer_of turns (length f.blocks) turn at (map (places_of f) bs)) tape w) whole
unfolding walk layer_of
layer_stands f tape turns turn left at [] w whole counts all from stands = rw (let e : length f.blocks ≡ at = omega (arith, all) in ap (λ (k : ℕ). turn * length f.blocks + k) e) stands
layer_stands f tape turns turn left at (b ∷ bs) w whole counts all from stands =
    let n = turn * length f.blocks in
    let is : slice_get f.blocks at ≡ Some b = ap (λ (k : ℕ). slice_get f.blocks k) (let e : at ≡ at + 0 = omega arith in e) ∙ from 0 in
    let e : suc (n + at) ≡ n + suc at = omega arith in
    let passed = pass_copy f (n + at) (copy_of turns (length f.blocks) turn at (places_of f b)) tape w in
    let further = stands_passed f tape turns turn left at whole (omega (arith, all)) counts b w is stands in
    let rest = layer_stands f tape turns turn left (suc at) bs passed whole counts (omega (arith, all))
    (λ i. ap (λ (k : ℕ). slice_get f.blocks k) (let e' : suc at + i ≡ at + suc i = omega arith in e') ∙ from (suc i))
    (subst (λ (k : ℕ). Stands f tape turns k passed whole) e further) in
    subst (λ (k : ℕ). Stands f tape turns (n + length f.blocks) (walk f k (layer_of turns (length f.blocks) turn (suc at) (map (places_of f) bs)) tape passed) whole) (sym e) rest

layers_stand : (f : Function) (tape : List ℕ) (turns turn count : ℕ) (w : Where) (whole : Run) → turn + count ≡ turns + 1
    → Stands f tape turns (turn * length f.blocks) w whole → Stands f tape turns ((turns + 1) * length f.blocks) (walk f (turn * length f.blocks) (layers_of turns (length f.blocks) (successors f) turn count) tape w) whole
unfolding walk layers_of
layers_stand f tape turns turn zero w whole counts stands = subst (λ (k : ℕ). Stands f tape turns (k * length f.blocks) w whole) (let e : turn ≡ turns + 1 = omega (arith, counts) in e) stands
layers_stand f tape turns turn (suc count) w whole counts stands =
    let n = turn * length f.blocks in
    let layer = layer_of turns (length f.blocks) turn 0 (successors f) in
    let start : n + 0 ≡ n = omega arith in
    let after = walk f n layer tape w in
    let one = layer_stands f tape turns turn count 0 f.blocks w whole (omega (arith, counts)) (let e : 0 + length f.blocks ≡ length f.blocks = omega arith in e) (λ i. ap (λ (k : ℕ). slice_get f.blocks k) (let e : 0 + i ≡ i = omega arith in e)) (subst (λ (k : ℕ). Stands f tape turns k w whole) (sym start) stands) in
    let one' : Stands f tape turns (n + length f.blocks) after whole = subst (λ (k : ℕ). Stands f tape turns (n + length f.blocks) (walk f k layer tape w) whole) start one in
    let row : n + length f.blocks ≡ suc turn * length f.blocks = omega arith in
    let rest = layers_stand f tape turns (suc turn) count after whole (omega (arith, counts)) (subst (λ (k : ℕ). Stands f tape turns k after whole) row one') in
    let joined = walk_joined f tape n layer (layers_of turns (length f.blocks) (successors f) (suc turn) count) w ∙ ap (λ (k : ℕ). walk f k (layers_of turns (length f.blocks) (successors f) (suc turn) count) tape after) (ap (λ (k : ℕ). n + k) (layer_length turns (length f.blocks) turn 0 f f.blocks) ∙ row) in
    subst (λ (v : Where). Stands f tape turns ((turns + 1) * length f.blocks) v whole) (sym joined) rest

-- no run is at a copy that was passed
end_is : (f : Function) (tape : List ℕ) (turns : ℕ) (w : Where) (whole : Run) → Stands f tape turns ((turns + 1) * length f.blocks) w whole → run_at_end w ≡ whole
end_is f tape turns (Done run) whole stands = stands
end_is f tape turns (At number m) whole stands =
    let c = stands.counts in
    let m' : (stands.turn + 1) * length f.blocks ≤ (turns + 1) * length f.blocks = mul-le-mul_right (length f.blocks) (omega (arith, c)) in
    let row = next_row stands.turn (length f.blocks) in
    let is = stands.is in
    let within = stands.within in
    let ahead = stands.ahead in
    absurd (omega (arith, m', row, is, within, ahead))

-- ---- the whole walk

walk_is : (f : Function) (tape : List ℕ) (turns : ℕ) (m : Machine) → m.turn ≡ 0 → run_at_end (walk f 0 (copies_of turns f) tape (At 0 m)) ≡ run_turns f tape turns 0 m
unfolding walk
walk_is f tape turns m start = by f.blocks refl
  where
    by : (bs : List Block) → f.blocks ≡ bs → run_at_end (walk f 0 (copies_of turns f) tape (At 0 m)) ≡ run_turns f tape turns 0 m
    by [] none =
        let past : length f.blocks ≤ 0 = rw none (omega arith) in
        let empty : copies_of turns f ≡ [] = ap (λ (bs : List Block). layers_of turns (length f.blocks) (map (places_of f) bs) 0 (turns + 1)) none ∙ no_copies turns (length f.blocks) 0 (turns + 1) in
        rw empty (sym (run_turns_is f tape turns 0 m ∙ forward_past f tape (again_of f tape turns) (length f.blocks) 0 m past))
    by (b ∷ bs) some =
        let within : 0 < length f.blocks = rw some (omega arith) in
        let stands : Stands f tape turns (0 * length f.blocks) (At 0 m) (run_turns f tape turns 0 m) = record {
          turn = 0;
          left = turns;
          at = 0;
          is = (let e : 0 ≡ 0 * length f.blocks + 0 = omega arith in e);
          within = within;
          counts = (let e : 0 + turns ≡ turns = omega arith in e);
          ahead = (let e : 0 * length f.blocks ≤ 0 = omega arith in e);
          rest = rw (with_turn m 0 start) (sym (run_turns_is f tape turns 0 m));
        } in
        let none : 0 * length f.blocks ≡ 0 = omega arith in
        let end = layers_stand f tape turns 0 (turns + 1) (At 0 m) (run_turns f tape turns 0 m) (omega arith) stands in
        end_is f tape turns (walk f 0 (copies_of turns f) tape (At 0 m)) (run_turns f tape turns 0 m)
        (subst (λ (k : ℕ). Stands f tape turns ((turns + 1) * length f.blocks) (walk f k (copies_of turns f) tape (At 0 m)) (run_turns f tape turns 0 m)) none end)

pub layers_have_runs : LayersHaveRuns
layers_have_runs f layered turns is = λ bounds input tape same.
    let m = first_machine f input in
    let go : (broken : Bool) → (if broken then ended Ub m else run_at_end (walk f 0 layered.copies tape (At 0 m))) ≡ run_entered_by broken f bounds tape m
    = λ broken. by bounds input tape same broken in
    go (breaks_noundef f.parameters input.args) ∙ sym (run_of_is f bounds input tape)
  where
    by : (bounds : Bounds) (input : Input) (tape : List ℕ) → bounds.turns ≡ turns → (broken : Bool)
        → (if broken then ended Ub (first_machine f input) else run_at_end (walk f 0 layered.copies tape (At 0 (first_machine f input)))) ≡ run_entered_by broken f bounds tape (first_machine f input)
    by bounds input tape same true = refl
    by bounds input tape same false = rw (is, same) (walk_is f tape turns (first_machine f input) refl)
