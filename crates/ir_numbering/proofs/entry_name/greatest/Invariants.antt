use Rattle.ir_numbering.proofs.Common.{◌≡◌, drop, [], greatest, names_of}
use Rattle.ir_numbering.proofs.entry_name.greatest.Given as goal

abbrev pub invariant-loop-parameter : goal.invariant-loop-parameter
invariant-loop-parameter l = greatest l.most (names_of (drop l.parameter-index l.parameters)) ≡ greatest [] (names_of l.parameters)
