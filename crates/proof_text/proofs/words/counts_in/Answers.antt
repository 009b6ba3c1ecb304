use Rattle.proof_text.proofs.Common.{codes, strip_prefix_is, Decides-eqb}
use Rattle.proof_text.proofs.Languages.{counts_parts}
use Rattle.proof_text.proofs.words.counts_in.Goals as goal

pub returns-in_err-number_in : goal.returns-in_err-number_in
returns-in_err-number_in c = rw c.from_residual-in_err-number_in.ensures (λ n fit e.
    let cases = strip_prefix_is Decides-eqb c.args.line.now (codes "p cnf ") c.strip_prefix.result c.strip_prefix.ensures.cases in
    let words = (rw c.in_ok-words.was at cases) in
    let parts = counts_parts c.args.line.now c.in_ok-words.words.now c.in_ok-variables.variables.now c.in_ok-variables.clauses.now n.variables n.clauses fit.0 words c.in_ok-variables.ensures.some e in
    c.in_err-number_in.ensures n.variables fit.0 parts.0)

pub returns-in_err-number_in-2 : goal.returns-in_err-number_in-2
returns-in_err-number_in-2 c = rw c.from_residual-in_err-number_in-2.ensures (λ n fit e.
    let cases = strip_prefix_is Decides-eqb c.args.line.now (codes "p cnf ") c.strip_prefix.result c.strip_prefix.ensures.cases in
    let words = (rw c.in_ok-words.was at cases) in
    let parts = counts_parts c.args.line.now c.in_ok-words.words.now c.in_ok-variables.variables.now c.in_ok-variables.clauses.now n.variables n.clauses fit.0 words c.in_ok-variables.ensures.some e in
    c.in_err-number_in-2.ensures n.clauses fit.1 parts.1)
