use Rattle.register_slots.proofs.Common.{◌≡◌, ◌++◌, map, drop, parameter_in}
use Rattle.register_slots.proofs.renaming.parameters_in.Given as goal

abbrev pub invariant-loop-parameter : goal.invariant-loop-parameter
invariant-loop-parameter l = l.renamed ++ map (parameter_in l.slots) (drop l.parameter-index l.parameters) ≡ map (parameter_in l.slots) l.parameters
