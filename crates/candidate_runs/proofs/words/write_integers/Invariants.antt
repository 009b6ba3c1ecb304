-- The numbers so far and those of the arguments that are left.
use Rattle.candidate_runs.proofs.Common.{◌≡◌, ◌++◌, drop, integers}
use Rattle.candidate_runs.proofs.words.write_integers.Given as goal

abbrev pub invariant-loop-i : goal.invariant-loop-i
invariant-loop-i l = l.numbers.items ++ integers (drop l.i l.parameters) (drop l.i l.args) ≡ integers l.parameters l.args
