use Rattle.candidate_runs.proofs.Common.{ℕ, List, ap, ◌∙◌, sym, Run, run_of}
use Rattle.candidate_runs.proofs.running.run_target.Goals as goal

pub returns-clause-end : goal.returns-clause-end
returns-clause-end c =
    ap (λ (tape : List ℕ). (run_of c.args.pair.now.target c.args.bounds.now c.args.point.now.input tape).outcome) (sym c.as_slice.ensures)
    ∙ ap (λ f. (run_of f c.args.bounds.now c.args.point.now.input c.as_slice.result.now).outcome) (sym c.target.ensures.value)
    ∙ ap (λ (r : Run). r.outcome) c.in_ok-ending.ensures.run

pub returns-clause-taken : goal.returns-clause-taken
returns-clause-taken c =
    ap (λ (tape : List ℕ). (run_of c.args.pair.now.target c.args.bounds.now c.args.point.now.input tape).taken) (sym c.as_slice.ensures)
    ∙ ap (λ f. (run_of f c.args.bounds.now c.args.point.now.input c.as_slice.result.now).taken) (sym c.target.ensures.value)
    ∙ ap (λ (r : Run). r.taken) c.in_ok-ending.ensures.run
