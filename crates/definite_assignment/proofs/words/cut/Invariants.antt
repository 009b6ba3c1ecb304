use Rattle.definite_assignment.proofs.Common.{ℕ, ◌<◌, ◌^◌, get_or}
use Rattle.definite_assignment.proofs.Cuts.{AreCut}
use Rattle.definite_assignment.proofs.words.cut.Given as goal

abbrev pub invariant-loop-i : goal.invariant-loop-i
invariant-loop-i l = record { cut : AreCut l.initial.words l.others l.words l.i l.changed; fits : (k : ℕ) → get_or l.initial.words k 0 < 2 ^ 64 }
