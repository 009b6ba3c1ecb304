use Rattle.points.specs.Code.{IsOfShape}
use Rattle.test_meaning.proofs.code_tests.points_from.Given as goal

abbrev pub invariant-loop-step : goal.invariant-loop-step
invariant-loop-step l = IsOfShape l.shape l.point
