use Rattle.candidate_runs.proofs.Common.{ap, ◌∙◌, sym, Run, run_of}
use Rattle.candidate_runs.proofs.Covering.{covers_at}
use Rattle.candidate_runs.proofs.running.allows.Goals as goal

pub returns-clause-value : goal.returns-clause-value
returns-clause-value c =
    let ran = ap (λ f. (run_of f c.args.bounds.now c.args.point.now.input c.args.tape.now).outcome) (sym c.source.ensures) ∙ ap (λ (r : Run). r.outcome) c.in_ok-source.ensures.run in
    covers_at c.args.pair.now c.args.bounds.now c.args.point.now c.args.tape.now c.in_ok-source.source c.args.target c.runs_refine.result c.run_again.new.runner.machine.memory c.args.memory.now ran c.requires.target c.runs_refine.ensures
