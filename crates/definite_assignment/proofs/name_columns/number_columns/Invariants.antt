use Rattle.definite_assignment.proofs.Columns.{AreColumns}
use Rattle.definite_assignment.proofs.name_columns.number_columns.Given as goal

abbrev pub invariant-loop-name : goal.invariant-loop-name
invariant-loop-name l = AreColumns l.is_assigned l.of_name.items l.name l.count
