use Rattle.definite_assignment.proofs.Common.{ℕ, ◌≡◌, true, false, get_or, take, All}
use Rattle.definite_assignment.proofs.name_columns.mark_all.Given as goal

abbrev pub invariant-loop-name : goal.invariant-loop-name
invariant-loop-name l =
    record {
      kept : (name : ℕ) → get_or l.fn.is_assigned name false ≡ true → get_or l.is_assigned name false ≡ true;
      marked : All (λ name. get_or l.is_assigned name false ≡ true) (take l.name-index l.names);
    }
