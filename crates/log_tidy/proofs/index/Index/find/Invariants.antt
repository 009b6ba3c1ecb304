-- None of the entries of the literals so far is of a clause within this one.
use Rattle.log_tidy.proofs.Common.{◌≡◌, List, Some, slice_get, take, Lit, Has, standing, Entry, AreNone, signature, slot}
use Rattle.log_tidy.proofs.index.Index.find.Given as goal

abbrev pub invariant-loop-literal : goal.invariant-loop-literal
invariant-loop-literal l =
    (k : Lit) (list : List Entry) → Has (take l.literal-index l.clause) k → slice_get l.self.lists.items (slot l.self.half k) ≡ Some list
    → AreNone (standing l.clauses l.steps) list (signature l.clause) l.clause
