use Rattle.std.proofs.lemmas.Result.{IfOk-weaker}
use Rattle.tv_run.proofs.Common.{length, take, AreAnswers, judged_pairs, all_are_first}
use Rattle.module_rows.specs.declared.rows.Judgements.{Judgements}
use Rattle.tv_run.proofs.check.judged_rows.Goals as goal

-- the answers of all pairs are those of the first ones
pub returns-else-check-clause-answered : goal.returns-else-check-clause-answered
returns-else-check-clause-answered g c =
    let bounds = c.args.check.now.bounds in
    let budget = c.args.check.now.budget in
    let pairs = judged_pairs c.args.target.now.entries c.args.source.now.entries in
    IfOk-weaker c.all_rows.result (λ (r : Judgements). AreAnswers bounds budget pairs r.answers.items) (λ (r : Judgements). AreAnswers bounds budget (take (length r.answers.items) pairs) r.answers.items)
    (λ r each. all_are_first bounds budget pairs r.answers.items each) c.all_rows.ensures.answered
