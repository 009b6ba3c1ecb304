-- The literals so far are marked.
use Rattle.clause_log.proofs.Common.{drop, sign_of}
use Rattle.clause_log.proofs.Walking.{AllMarked}
use Rattle.clause_log.proofs.marks.Marks.are_of.Given as goal

abbrev pub invariant-loop-literal : goal.invariant-loop-literal
invariant-loop-literal l =
    AllMarked (sign_of l.places l.self) (drop l.literal-index l.literals) → AllMarked (sign_of l.places l.self) l.literals
