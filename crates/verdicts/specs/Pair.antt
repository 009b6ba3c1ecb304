-- Two functions that are compared, and when their signatures are equal.
use Rattle.std.specs.Prelude.{Bool, true, false, ◌&&◌, List, [], ◌∷◌, Option, Some, None}
use Rattle.ir_tree.specs.declared.tree.IrType.{IrType}
use Rattle.ir_tree.specs.declared.tree.Parameter.{Parameter}
use Rattle.ir_tree.specs.declared.tree.Function.{Function}
use Rattle.ir_tree.specs.Sites.{is_same_type}
use Rattle.lowering.specs.Lowered.{lowered}
use Rattle.points.specs.declared.point.Bounds.{Bounds}
use Rattle.points.specs.declared.point.Layout.{Layout}

-- the pair as it is read, of which signatures, weights and rows speak: the function before the optimisation, and the one after it
pub record Functions : Type 0 where
  pub source : Function
  pub target : Function

-- the pair as it is run, of which runs, points, covers and trails speak
pub record RunPair : Type 0 where
  pub source : Function
  pub target : Function

-- both functions are run with each use of undef written out
abbrev pub run_pair : Functions → RunPair
run_pair pair = record { source = lowered pair.source; target = lowered pair.target }

-- the function that was made, or this one
abbrev pub function_or : Option Function → Function → Function
function_or None f = f
function_or (Some made) f = made

-- what the memory of the pair's inputs looks like
abbrev pub layout_of : RunPair → Bounds → Layout
layout_of pair bounds = record { blocks = bounds.blocks; bytes = bounds.bytes }

abbrev pub same_return : Option IrType → Option IrType → Bool
same_return None None = true
same_return (Some s) (Some t) = is_same_type s t
same_return _ _ = false

-- the same number of parameters, with equal types at each index
abbrev pub same_types : List Parameter → List Parameter → Bool
same_types [] [] = true
same_types (p ∷ ps) (q ∷ qs) = is_same_type p.of_type q.of_type && same_types ps qs
same_types _ _ = false

abbrev pub same_signature : Function → Function → Bool
same_signature f g = same_return f.returns g.returns && same_types f.parameters g.parameters
