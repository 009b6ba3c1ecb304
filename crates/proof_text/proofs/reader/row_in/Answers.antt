use Rattle.proof_text.proofs.Common.{sym, codes, subst, ◌∙◌, true≢false, strip_prefix_is, Decides-eqb, IsPrintedName}
use Rattle.proof_text.proofs.Languages.{same_name}
use Rattle.proof_text.proofs.reader.row_in.Goals as goal

pub returns-then-not-branch : goal.returns-then-not-branch
returns-then-not-branch c = λ name is_correct f e.
    let cases = strip_prefix_is Decides-eqb c.args.line.now (codes "row @") c.strip_prefix.result c.strip_prefix.ensures.cases in
    let rest = (rw c.in-Some.is at cases) in
    let own = c.in-Some-split_status in
    let same = same_name c.args.line.now c.in-Some.rest.now own.name.now name own.is_correct is_correct rest own.ensures.some e in
    true≢false (sym (c.in_ok-is_printed_name.ensures.1 (subst IsPrintedName same f)) ∙ c.if-not-branch.true)
