use Rattle.proof_text.proofs.Common.{sym, ◌∙◌, true≢false, ⊎_elim, slice_eq-Decides, Decides-eqb}
use Rattle.proof_text.proofs.Chains.{chain_end, chain_missing, chain_step, next_number}
use Rattle.proof_text.proofs.words.chain_in.Goals as goal

pub loop-word-preserved : goal.loop-word-preserved
loop-word-preserved c =
    rw c.in_ok-push.ensures.items
    (chain_step c.args.line.now c.loop-word.chain.items c.loop-word.rest.now c.in-Some.word.now c.in-Some.after.now c.in-Some-clause_number_in.number c.loop-word.invariant c.in-Some.ensures.some c.in-Some-clause_number_in.ensures.0.0 c.in-Some-clause_number_in.ensures.0.1 c.in-Some-clause_number_in.ensures.1)

pub returns-then-eq-clause-some : goal.returns-then-eq-clause-some
returns-then-eq-clause-some c =
    let zero_is = (slice_eq-Decides Decides-eqb c.in-Some.word.now c.as_slice.result.now c.eq.result c.eq.ensures).0 c.if-eq.true ∙ c.as_slice.ensures in
    let end = chain_end c.args.line.now c.loop-word.chain.items c.loop-word.rest.now c.in-Some.word.now c.in-Some.after.now c.loop-word.invariant c.in-Some.ensures.some zero_is in
    (rw c.from_vec.ensures c.loop-word.invariant.fit, rw c.from_vec.ensures end)

pub returns-in_default-clause_number_in-clause-none : goal.returns-in_default-clause_number_in-clause-none
returns-in_default-clause_number_in-clause-none c = λ chain later f e.
    ⊎_elim
    (λ z. true≢false (sym ((slice_eq-Decides Decides-eqb c.in-Some.word.now c.as_slice.result.now c.eq.result c.eq.ensures).1 (z ∙ sym c.as_slice.ensures)) ∙ c.if-eq.false))
    (λ h. (rw c.in_default-clause_number_in.is at c.clause_number_in.ensures) h.0 (h.3, h.4) h.5)
    (next_number c.args.line.now c.loop-word.chain.items c.loop-word.rest.now c.in-Some.word.now c.in-Some.after.now chain later c.loop-word.invariant c.in-Some.ensures.some f e)

pub returns-clause-none : goal.returns-clause-none
returns-clause-none c = λ chain later f e.
    chain_missing c.args.line.now c.loop-word.chain.items c.loop-word.rest.now chain later c.loop-word.invariant (rw c.in_default.is at c.next_word.ensures.none) f e
