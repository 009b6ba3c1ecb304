-- The table has the variables so far.
use Rattle.sat_ask.proofs.Common.{◌≡◌, map, take, variables_of}
use Rattle.sat_ask.proofs.question.add_all.Given as goal

abbrev pub invariant-loop-a : goal.invariant-loop-a
invariant-loop-a l = map (λ e. e.0) l.blast.table ≡ variables_of l.terms (take l.a-index l.order)
