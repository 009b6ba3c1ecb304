-- What the function with slots has in common with the one it was made of.
use Rattle.std.specs.Prelude.{◌≡◌, ℕ, List}
use Rattle.ir_tree.specs.declared.tree.Function.{Function}
use Rattle.points.specs.declared.point.Bounds.{Bounds}
use Rattle.points.specs.declared.point.Input.{Input}
use Rattle.points.specs.declared.point.Layout.{Layout}
use Rattle.points.specs.Run.{run_of}
use Rattle.bv_terms.specs.declared.term.Term.{Term}
use Rattle.mem_terms.specs.declared.inputs.InputTerms.{InputTerms}
use Rattle.mem_terms.specs.Inputs.{IsInput}
use Rattle.ir_tree.specs.Limits.{CanRun}

-- g may be run instead of f
pub record IsStandIn (f g : Function) : Type 0 where
  pub runs : (bounds : Bounds) (input : Input) (tape : List ℕ) → run_of g bounds input tape ≡ run_of f bounds input tape
  pub can_run : CanRun f → CanRun g
  pub inputs : (layout : Layout) (terms : List Term) (input : InputTerms) → IsInput f.parameters layout terms input → IsInput g.parameters layout terms input
  pub returns : g.returns ≡ f.returns
