-- Copies of a function's blocks, one of each for each count of backward jumps, and a run through them: each copy once, in order.
use Rattle.std.specs.Prelude.{◌≡◌, ℕ, zero, suc, ◌+◌, ◌*◌, ◌<◌, List, [], ◌∷◌, ◌++◌, length, map, nat_eq, nat_le, nat_lt, ◌==◌, if◌then◌else◌, slice_get, Option, Some, None}
use Rattle.ir_tree.specs.declared.tree.Block.{Block}
use Rattle.ir_tree.specs.declared.tree.Function.{Function}
use Rattle.ir_tree.specs.Flow.{targets, successors}
use Rattle.points.specs.declared.machine.Machine.{Machine}
use Rattle.points.specs.declared.outcome.Outcome.TheVariants.{Ub, Beyond}
use Rattle.points.specs.declared.point.Bounds.{Bounds}
use Rattle.points.specs.declared.point.Input.{Input}
use Rattle.points.specs.Run.{Run, Exit, To, Over, ended, exit_of, first_machine, breaks_noundef, run_of}
use Rattle.unroll.specs.declared.layered.Edge.{Edge}
use Rattle.unroll.specs.declared.layered.Edge.TheVariants as edge
use Rattle.unroll.specs.declared.layered.BlockCopy.{BlockCopy}
use Rattle.unroll.specs.declared.layered.Layered.{Layered}

-- ---- the copies

-- the number of the copy of the block at an index, for `turn` backward jumps, where there are `blocks` blocks
abbrev pub number_in : (blocks turn at : ℕ) → ℕ
number_in blocks turn at = turn * blocks + at

-- where a jump leads from the block at an index to the one at another; a jump to the same or an earlier one is backward, and a run may take `turns` of these
abbrev pub edge_to : (turns blocks turn at to : ℕ) → Edge
edge_to turns blocks turn at to =
    if nat_le blocks to then edge.Nowhere
    else if nat_lt at to then edge.Copy (number_in blocks turn to)
    else if nat_lt turn turns then edge.Copy (number_in blocks (turn + 1) to)
    else edge.Beyond

-- of the block at an index that leads to blocks at these indices
abbrev pub copy_of : (turns blocks turn at : ℕ) → List ℕ → BlockCopy
copy_of turns blocks turn at places = record { turn = turn; block = at; edges = map (edge_to turns blocks turn at) places }

-- of the blocks from an index on, each given by where it leads
unfoldable pub layer_of : (turns blocks turn at : ℕ) → List (List ℕ) → List BlockCopy
layer_of turns blocks turn at [] = []
layer_of turns blocks turn at (places ∷ further) = copy_of turns blocks turn at places ∷ layer_of turns blocks turn (suc at) further

-- of all blocks, for `count` counts of backward jumps from this one on
unfoldable pub layers_of : (turns blocks : ℕ) → List (List ℕ) → (turn count : ℕ) → List BlockCopy
layers_of turns blocks graph turn zero = []
layers_of turns blocks graph turn (suc count) = layer_of turns blocks turn 0 graph ++ layers_of turns blocks graph (suc turn) count

-- a label that no block has gives an index past the last block
abbrev pub copies_of : (turns : ℕ) → Function → List BlockCopy
copies_of turns f = layers_of turns (length f.blocks) (successors f) 0 (turns + 1)

-- ---- where they lead

-- from the copy of a number, where there are `count` copies
abbrev pub LeadsOn : (number count : ℕ) → Edge → Type 0
LeadsOn number count (edge.Copy n) = (number < n) × (n < count)
LeadsOn number count edge.Beyond = Unit {0}
LeadsOn number count edge.Nowhere = Unit {0}

abbrev pub AllLeadOn : (number count : ℕ) → List Edge → Type 0
AllLeadOn number count [] = Unit {0}
AllLeadOn number count (e ∷ es) = LeadsOn number count e × AllLeadOn number count es

-- each edge of these copies, of which the first has this number, leads to a later copy
abbrev pub AreForward : (number count : ℕ) → List BlockCopy → Type 0
AreForward number count [] = Unit {0}
AreForward number count (copy ∷ copies) = AllLeadOn number count copy.edges × AreForward (suc number) count copies

-- ---- a run through the copies

-- it is at the copy of a number, or is over
pub data Where : Type 0 where
  At : ℕ → Machine → Where
  Done : Run → Where

-- the first edge of a label; the labels and the edges run side by side
abbrev pub edge_of : ℕ → List ℕ → List Edge → Edge
edge_of label (l ∷ ls) (e ∷ es) = if label == l then e else edge_of label ls es
edge_of label _ _ = edge.Nowhere

abbrev pub along : Edge → Machine → Where
along (edge.Copy n) m = At n m
along edge.Beyond m = Done (ended Beyond m)
along edge.Nowhere m = Done (ended Ub m)

abbrev pub labels_of : Option Block → List ℕ
labels_of None = []
labels_of (Some b) = targets b.terminator

abbrev pub left_by : List ℕ → List Edge → Exit → Where
left_by labels edges (Over run) = Done run
left_by labels edges (To label m) = along (edge_of label labels edges) m

-- the block is run with the copy's count of backward jumps
abbrev pub run_copy : Function → BlockCopy → List ℕ → Machine → Where
run_copy f copy tape m =
    left_by (labels_of (slice_get f.blocks copy.block)) copy.edges (exit_of f.returns_no_undef (slice_get f.blocks copy.block) tape (record m { turn = copy.turn }))

-- a run that is at another copy stays there
abbrev pub pass_copy : Function → (number : ℕ) → BlockCopy → List ℕ → Where → Where
pass_copy f number copy tape (At n m) = if nat_eq number n then run_copy f copy tape m else At n m
pass_copy f number copy tape (Done run) = Done run

-- these copies, one after another; the first of them has this number
unfoldable pub walk : Function → (number : ℕ) → List BlockCopy → List ℕ → Where → Where
walk f number [] tape w = w
walk f number (copy ∷ copies) tape w = walk f (suc number) copies tape (pass_copy f number copy tape w)

-- no copy has the number that the run is at
abbrev pub run_at_end : Where → Run
run_at_end (At n m) = ended Ub m
run_at_end (Done run) = run

-- a poison argument of a noundef parameter is undefined behaviour before the first copy
abbrev pub run_layers : Function → Layered → Input → List ℕ → Run
run_layers f layered input tape =
    if breaks_noundef f.parameters input.args then ended Ub (first_machine f input)
    else run_at_end (walk f 0 layered.copies tape (At 0 (first_machine f input)))

-- ---- the run

-- the layers of a function have its run
abbrev pub HasRuns : (turns : ℕ) → Function → Layered → Type 0
HasRuns turns f layered = (bounds : Bounds) (input : Input) (tape : List ℕ) → bounds.turns ≡ turns → run_layers f layered input tape ≡ run_of f bounds input tape

-- for every function and every bound
abbrev pub LayersHaveRuns : Type 0
LayersHaveRuns = (f : Function) (layered : Layered) (turns : ℕ) → layered.copies ≡ copies_of turns f → HasRuns turns f layered
