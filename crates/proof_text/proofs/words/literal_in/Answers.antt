use Rattle.proof_text.proofs.Common.{rules, ◌≡◌, ◌∙◌, get_or, take_rest}
use Rattle.proof_text.proofs.Clauses.{minus_off}
use Rattle.proof_text.proofs.words.literal_in.Goals as goal

pub returns-in_err-number_in-in-45 : goal.returns-in_err-number_in-in-45
returns-in_err-number_in-in-45 c =
    let first : get_or c.args.word.now 0 0 ≡ 45 = search rules in
    rw c.from_residual.ensures (λ l small e. c.in_err-number_in-in-45.ensures l.variable small (take_rest c.args.word.now 1 ∙ minus_off c.args.word.now l small first e))
