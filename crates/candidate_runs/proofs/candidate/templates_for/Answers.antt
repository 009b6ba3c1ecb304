use Rattle.candidate_runs.proofs.Common.{arith}
use Rattle.candidate_runs.proofs.Listed.{templates_end, templates_more}
use Rattle.candidate_runs.proofs.candidate.templates_for.Goals as goal

pub loop-place-preserved : goal.loop-place-preserved
loop-place-preserved c =
    templates_more c.loop-place.place c.loop-place.templates.items c.push.new.self.items c.push-in-loop-place.new.self.items c.push-in-loop-place-2.new.self.items
    c.in_ok-push.ensures.items c.in_ok-push-2.ensures.items c.in_ok-push-3.ensures.items c.loop-place.invariant

pub returns : goal.returns
returns c = templates_end c.loop-place.place _ c.loop-place.templates.items (omega arith) c.loop-place.invariant
