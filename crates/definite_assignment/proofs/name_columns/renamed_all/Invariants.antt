use Rattle.definite_assignment.proofs.Common.{◌≡◌, map, take, column_of}
use Rattle.definite_assignment.proofs.name_columns.renamed_all.Given as goal

abbrev pub invariant-loop-list : goal.invariant-loop-list
invariant-loop-list l = l.all.items ≡ map (map (column_of l.of_name)) (take l.list-index l.lists)
