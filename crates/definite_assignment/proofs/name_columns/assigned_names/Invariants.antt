use Rattle.definite_assignment.proofs.Common.{◌≡◌, true, false, length, get_or, take, All}
use Rattle.definite_assignment.proofs.name_columns.assigned_names.Given as goal

abbrev pub invariant-loop-list : goal.invariant-loop-list
invariant-loop-list l =
    record {
      long : length l.is_assigned.items ≡ l.names;
      marked : All (All (λ name. get_or l.is_assigned.items name false ≡ true)) (take l.list-index l.assigns);
    }
