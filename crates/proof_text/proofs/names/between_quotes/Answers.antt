use Rattle.proof_text.proofs.Common.{◌∷◌, [], strip_prefix_is, strip_suffix_is, Decides-eqb}
use Rattle.proof_text.proofs.Escapes.{quoted_some}
use Rattle.proof_text.proofs.names.between_quotes.Goals as goal

pub returns-clause-some : goal.returns-clause-some
returns-clause-some c =
    let cases = strip_prefix_is Decides-eqb c.args.text.now (34 ∷ []) c.strip_prefix.result c.strip_prefix.ensures.cases in
    let rest = c.in_ok-strip_prefix.field-0.now in
    let ends = strip_suffix_is Decides-eqb rest (34 ∷ []) c.strip_suffix.result c.strip_suffix.ensures.cases in
    quoted_some c.args.text.now rest _ c.strip_suffix.result (rw c.in_ok-strip_prefix.was at cases) ends
