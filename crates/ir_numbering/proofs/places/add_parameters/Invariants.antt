use Rattle.ir_numbering.proofs.Common.{◌≡◌, ◌++◌, drop, flat_map, parameter_places}
use Rattle.ir_numbering.proofs.places.add_parameters.Given as goal

abbrev pub invariant-loop-parameter : goal.invariant-loop-parameter
invariant-loop-parameter l = l.places ++ flat_map parameter_places (drop l.parameter-index l.parameters) ≡ l.fn.places ++ flat_map parameter_places l.parameters
