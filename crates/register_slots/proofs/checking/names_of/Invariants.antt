use Rattle.register_slots.proofs.Common.{◌≡◌, ◌++◌, drop, map, Parameter}
use Rattle.register_slots.proofs.checking.names_of.Given as goal

abbrev pub invariant-loop-parameter : goal.invariant-loop-parameter
invariant-loop-parameter l = l.names.items ++ map (λ (p : Parameter). p.name) (drop l.parameter-index l.parameters) ≡ map (λ (p : Parameter). p.name) l.parameters
