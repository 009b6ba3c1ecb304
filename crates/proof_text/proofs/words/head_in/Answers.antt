use Rattle.proof_text.proofs.Common.{ap, sym, codes, ◌∙◌, ◌++◌, decimal, strip_prefix_is, Decides-eqb, append_cancel_left}
use Rattle.proof_text.proofs.Heads.{at_blocks, at_bytes, at_conflicts, at_rounds, at_turns, at_weight, head_read}
use Rattle.proof_text.proofs.words.head_in.Goals as goal

pub returns-in_err-turns : goal.returns-in_err-turns
returns-in_err-turns c = rw c.from_residual.ensures (λ h fit e. c.in_err-turns.ensures.none _ _ (at_turns h fit e))

pub returns-in_err-blocks : goal.returns-in_err-blocks
returns-in_err-blocks c = rw c.from_residual-in_err-blocks.ensures (λ h fit e. c.in_err-blocks.ensures.none _ _ (at_blocks h fit e c.in_ok-turns.ensures.some))

pub returns-in_err-bytes : goal.returns-in_err-bytes
returns-in_err-bytes c = rw c.from_residual-in_err-bytes.ensures (λ h fit e. c.in_err-bytes.ensures.none _ _ (at_bytes h fit e c.in_ok-turns.ensures.some c.in_ok-blocks.ensures.some))

pub returns-in_err-rounds : goal.returns-in_err-rounds
returns-in_err-rounds c = rw c.from_residual-in_err-rounds.ensures (λ h fit e. c.in_err-rounds.ensures.none _ _ (at_rounds h fit e c.in_ok-turns.ensures.some c.in_ok-blocks.ensures.some c.in_ok-bytes.ensures.some))

pub returns-in_err-conflicts : goal.returns-in_err-conflicts
returns-in_err-conflicts c = rw c.from_residual-in_err-conflicts.ensures (λ h fit e. c.in_err-conflicts.ensures.none _ _ (at_conflicts h fit e c.in_ok-turns.ensures.some c.in_ok-blocks.ensures.some c.in_ok-bytes.ensures.some c.in_ok-rounds.ensures.some))

pub returns-in_err-strip_prefix : goal.returns-in_err-strip_prefix
returns-in_err-strip_prefix c = rw c.from_residual-in_err-strip_prefix.ensures (λ h fit e.
    let cases = strip_prefix_is Decides-eqb c.in_ok-conflicts.line.now (codes "weight ") c.strip_prefix.result c.strip_prefix.ensures.cases in
    (rw c.in_err-strip_prefix.was at cases) (decimal h.weight) (at_weight h fit e c.in_ok-turns.ensures.some c.in_ok-blocks.ensures.some c.in_ok-bytes.ensures.some c.in_ok-rounds.ensures.some c.in_ok-conflicts.ensures.some))

pub returns-in_err-weight : goal.returns-in_err-weight
returns-in_err-weight c = rw c.from_residual-in_err-weight.ensures (λ h fit e.
    let cases = strip_prefix_is Decides-eqb c.in_ok-conflicts.line.now (codes "weight ") c.strip_prefix.result c.strip_prefix.ensures.cases in
    let last = (rw c.in_ok-strip_prefix.was at cases) in
    let digits = c.in_ok-strip_prefix.field-0.now in
    c.in_err-weight.ensures h.weight fit.weight (append_cancel_left (codes "weight ") digits (decimal h.weight) (sym last ∙ at_weight h fit e c.in_ok-turns.ensures.some c.in_ok-blocks.ensures.some c.in_ok-bytes.ensures.some c.in_ok-rounds.ensures.some c.in_ok-conflicts.ensures.some)))

pub returns : goal.returns
returns c =
    let cases = strip_prefix_is Decides-eqb c.in_ok-conflicts.line.now (codes "weight ") c.strip_prefix.result c.strip_prefix.ensures.cases in
    let last = (rw c.in_ok-strip_prefix.was at cases) in
    head_read c.in_ok-weight.weight c.in_ok-turns.ensures.some c.in_ok-blocks.ensures.some c.in_ok-bytes.ensures.some c.in_ok-rounds.ensures.some c.in_ok-conflicts.ensures.some c.in_ok-weight.ensures.0 (last ∙ ap (λ t. codes "weight " ++ t) c.in_ok-weight.ensures.1)
