-- The literals that are left take the marks to what the whole clause takes the first ones to. The marks are always those of a clause.
use Rattle.clause_log.proofs.Common.{List, drop, Lit, AreMarks, sign_of}
use Rattle.clause_log.proofs.Walking.{IsWalk}
use Rattle.clause_log.proofs.marks.Marks.join.Given as goal

abbrev pub invariant-loop-literal : goal.invariant-loop-literal
invariant-loop-literal l =
    record {
      walk : IsWalk (sign_of l.places l.fn.self) (sign_of l.places l.self) l.literal-items (drop l.literal-index l.literal-items) l.clashed;
      marks : (c : List Lit) → AreMarks l.places l.fn.self c → (d : List Lit) × AreMarks l.places l.self d;
    }
