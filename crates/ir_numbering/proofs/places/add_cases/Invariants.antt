use Rattle.ir_numbering.proofs.Common.{◌≡◌, ◌++◌, drop, flat_map, case_places}
use Rattle.ir_numbering.proofs.places.add_cases.Given as goal

abbrev pub invariant-loop-case : goal.invariant-loop-case
invariant-loop-case l = l.places ++ flat_map case_places (drop l.case-index l.cases) ≡ l.fn.places ++ flat_map case_places l.cases
