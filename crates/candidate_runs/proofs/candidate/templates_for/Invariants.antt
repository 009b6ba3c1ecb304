use Rattle.candidate_runs.proofs.Listed.{AreFirst}
use Rattle.candidate_runs.proofs.candidate.templates_for.Given as goal

abbrev pub invariant-loop-place : goal.invariant-loop-place
invariant-loop-place l = AreFirst l.place l.templates.items
