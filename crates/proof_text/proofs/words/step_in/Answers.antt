use Rattle.proof_text.proofs.Common.{sym, ◌∙◌, clause_line}
use Rattle.proof_text.proofs.Chains.{same_chain}
use Rattle.proof_text.proofs.words.step_in.Goals as goal

pub returns-in_default-2 : goal.returns-in_default-2
returns-in_default-2 c = λ s f e.
    let chain = (rw c.in-Some.is at c.in_ok-chain.ensures.some) in
    let same = same_chain s.chain c.in-Some.chain (clause_line s.clause) c.in-Some.rest.now f.chain chain.0 (sym e ∙ chain.1) in
    (rw c.in_default-2.is at c.in_ok-clause.ensures) s.clause f.clause (sym same.1)
