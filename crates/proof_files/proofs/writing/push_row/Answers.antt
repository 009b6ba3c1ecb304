use Rattle.std.proofs.Common.{sym, ◌∙◌}
use Rattle.proof_files.proofs.Walking.{row_certified}
use Rattle.proof_files.proofs.writing.push_row.Goals as goal

pub push_certificate-requires-clause-certified : goal.push_certificate-requires-clause-certified
push_certificate-requires-clause-certified c =
    row_certified c.args.row.now c.args.answers.now c.answer-item.result c.in-Some.is_correct c.in-Some-cert.cert c.in-len1-up.len_at_least c.answer-item.is (sym c.decided.ensures ∙ c.in-Some.is) c.in-Some-cert.is c.requires.certified
