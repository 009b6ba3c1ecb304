use Rattle.definite_assignment.proofs.Common.{◌≡◌, map, take, column_of}
use Rattle.definite_assignment.proofs.name_columns.renamed.Given as goal

abbrev pub invariant-loop-name : goal.invariant-loop-name
invariant-loop-name l = l.columns ≡ map (column_of l.of_name) (take l.name-index l.names)
