-- Every input and tape within the bounds is what the terms of a question denote under some assignment of the variables.
use Rattle.std.specs.Prelude.{◌≡◌, ℕ, List, [], ◌++◌}
use Rattle.points.specs.declared.point.Bounds.{Bounds}
use Rattle.points.specs.declared.point.Point.{Point}
use Rattle.points.specs.declared.point.Shape.{Shape}
use Rattle.points.specs.Code.{IsOfShape}
use Rattle.verdicts.specs.Pair.{RunPair, layout_of}
use Rattle.bv_terms.specs.declared.term.Term.{Term}
use Rattle.bv_terms.specs.Trees.{AreFit}
use Rattle.mem_terms.specs.declared.inputs.InputTerms.{InputTerms}
use Rattle.mem_terms.specs.declared.inputs.TapeTerms.{TapeTerms}
use Rattle.mem_terms.specs.Values.{reading}
use Rattle.mem_terms.specs.Inputs.{input_at, words_at}
use Rattle.refine_terms.specs.Numbers.{IsInputOf, IsTapeOf}
use Rattle.pair_costs.specs.Small.{AreSmall}
use Rattle.pair_questions.specs.Orders.{IsOrder}
use Rattle.pair_questions.specs.Questions.{point_widths}
use Rattle.pair_questions.specs.Shapes.{IsShapeOf, input_ids}

-- terms that are variables in the order of a code, those of an input first and then those of a tape
pub record AreVariables (pair : RunPair) (bounds : Bounds) (s : Shape) (terms : List Term) (input : InputTerms) (tape : TapeTerms) : Type 0 where
  pub fit : AreFit [] terms
  pub shape : IsShapeOf pair bounds s
  pub inputs : IsInputOf s terms input
  pub words : IsTapeOf s terms tape
  pub order : IsOrder terms (input_ids input ++ tape.words) (point_widths pair bounds)

-- an assignment under which the terms denote the point's input and its tape
pub record IsAssigned (given : ℕ) (terms : List Term) (input : InputTerms) (tape : TapeTerms) (p : Point) : Type 0 where
  pub v : ℕ → ℕ → ℕ
  pub input_is : input_at (reading given v) terms input ≡ p.input
  pub tape_is : words_at v terms tape.words ≡ p.tape

abbrev pub InputsHaveAssignments : Type 0
InputsHaveAssignments = (pair : RunPair) (bounds : Bounds) (s : Shape) (terms : List Term) (input : InputTerms) (tape : TapeTerms) → AreSmall bounds
    → AreVariables pair bounds s terms input tape → (p : Point) → IsOfShape s p → IsAssigned (layout_of pair bounds).blocks terms input tape p
