use Rattle.proof_text.proofs.Common.{codes, strip_suffix_is, Decides-eqb}
use Rattle.proof_text.proofs.reader.split_status.Goals as goal

pub returns-in-Some-clause-some : goal.returns-in-Some-clause-some
returns-in-Some-clause-some c =
    let cases = strip_suffix_is Decides-eqb c.args.text.now (codes " correct") c.strip_suffix.result c.strip_suffix.ensures.cases in
    rw c.in-Some.is at cases

pub returns-clause-some : goal.returns-clause-some
returns-clause-some c =
    let cases = strip_suffix_is Decides-eqb c.args.text.now (codes " incorrect") c.strip_suffix-2.result c.strip_suffix-2.ensures.cases in
    rw c.in_ok-name.was at cases
