-- The assignment under which the terms of a question denote a point.
use Rattle.pair_questions.proofs.Common.{◌≡◌, ℕ, ◌+◌, ◌++◌, List, ap, sym, ◌∙◌, arith, Parameter, Bounds, Layout, Point, Shape, IsOfShape, code_of, RunPair, layout_of, reading, input_at, numbers_at, Fits, AreSmall, point_widths, IsShapeOf, input_ids}
use Rattle.std.proofs.Common.{slice_index}
use Rattle.pair_questions.specs.Assignments.{InputsHaveAssignments}
use Rattle.pair_questions.proofs.Decoded.{decoded, numbers_in_order}
use Rattle.pair_questions.proofs.Fitting.{code_fits}
use Rattle.pair_questions.proofs.Numbered.{numbers-looked}

-- each variable has the number of the code at its place
abbrev looked_up : List ℕ → ℕ → ℕ → ℕ
looked_up numbers i width = slice_index numbers i

code_of-shape : (pair : RunPair) (bounds : Bounds) (s : Shape) (is : IsShapeOf pair bounds s) (p : Point) → code_of s.layout s.parameters p ≡ code_of (layout_of pair bounds) pair.target.parameters p
code_of-shape pair bounds s is p = ap (λ (y : Layout). code_of y s.parameters p) is.layout ∙ ap (λ (ps : List Parameter). code_of (layout_of pair bounds) ps p) is.parameters

shape-fits : (pair : RunPair) (bounds : Bounds) (s : Shape) (is : IsShapeOf pair bounds s) (p : Point) → AreSmall bounds → IsOfShape s p → Fits (point_widths pair bounds) (code_of (layout_of pair bounds) pair.target.parameters p)
shape-fits pair bounds s is p small h =
    code_fits pair bounds s is small p (rw (is.parameters, is.layout) at h.args) (rw is.layout at h.given) (rw (is.word_width, is.words) at h.tape)

pub inputs_have_assignments : InputsHaveAssignments
inputs_have_assignments pair bounds s terms input tape small are p h =
    let numbers = code_of (layout_of pair bounds) pair.target.parameters p in
    let v = looked_up numbers in
    let at = numbers-looked terms 0 (input_ids input ++ tape.words) (point_widths pair bounds) v numbers are.fit are.order.numbered (λ i width. let none : 0 + i ≡ i = omega arith in ap (λ k. slice_index numbers k) none) (shape-fits pair bounds s are.shape p small h) in
    let code : code_of s.layout s.parameters p ≡ numbers_at v terms input tape = code_of-shape pair bounds s are.shape p ∙ (sym at ∙ numbers_in_order v terms input tape) in
    let d = decoded v terms s input tape p are.inputs h code in
    record {
      v = v;
      input_is = sym (d.0 ∙ ap (λ (y : Layout). input_at (reading y.blocks v) terms input) are.shape.layout);
      tape_is = sym d.1;
    }
