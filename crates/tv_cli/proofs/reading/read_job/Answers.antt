use Rattle.tv_cli.proofs.Common.{◌∙◌, List, map, string_bytes, Text}
use Rattle.std.proofs.lemmas.Result.{IfOk-weaker}
use Rattle.tv_cli.proofs.Equality.{walked-job, are_texts}
use Rattle.tv_cli.proofs.reading.read_job.Goals as goal

pub returns-clause-job : goal.returns-clause-job
returns-clause-job c =
    let words : List Text = map string_bytes c.args.words.now in
    IfOk-weaker c.walked.result _ _ (λ found is. is ∙ walked-job words (are_texts c.args.words.now)) c.walked.ensures.job
