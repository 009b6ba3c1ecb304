use Rattle.proof_text.proofs.Common.{subst, sym, ◌∙◌, true≢false, slice_eq-Decides, Decides-eqb, IsClauseOver}
use Rattle.proof_text.proofs.Clauses.{clause_end, clause_step, next_literal}
use Rattle.proof_text.proofs.words.clause_in.Goals.{else-eq-via-then-eq+else-is_clause_over, else-eq-via-else-eq}
use Rattle.proof_text.proofs.words.clause_in.Goals as goal

pub returns-in_default-literal_in : goal.returns-in_default-literal_in
returns-in_default-literal_in c = λ a f e.
    let next = next_literal c.args.variables c.args.line.now c.loop-word.literals.items c.loop-word.rest.now c.in-Some.word.now c.in-Some.after.now a c.requires c.loop-word.invariant c.in-Some.ensures.some f e in
    (rw c.in_default-literal_in.is at c.literal_in.ensures) next.literal next.small next.word_is

pub loop-word-preserved : goal.loop-word-preserved
loop-word-preserved c =
    rw c.in_ok-push.ensures.ok
    (clause_step c.args.variables c.args.line.now c.loop-word.literals.items c.loop-word.rest.now c.in-Some.word.now c.in-Some.after.now c.in-Some-literal_in.literal c.requires c.loop-word.invariant c.in-Some.ensures.some c.in-Some-literal_in.ensures.0 c.in-Some-literal_in.ensures.1)

pub returns-else-eq : goal.returns-else-eq
returns-else-eq c = λ a f e.
    let free = (rw c.in_default.is at c.next_word.ensures.none) in
    let end = clause_end c.args.variables c.args.line.now c.loop-word.literals.items c.loop-word.rest.now a c.loop-word.invariant free f e in
    elim c.else-eq.branch [
      | else-eq-via-then-eq+else-is_clause_over w ↦
          let over = subst (λ k. IsClauseOver c.args.variables k) (end.0 ∙ sym w.as_slice-then-eq.ensures) f in
          true≢false (sym (w.is_clause_over.ensures.1 over) ∙ w.if-is_clause_over.false)
      | else-eq-via-else-eq w ↦
          true≢false (sym ((slice_eq-Decides Decides-eqb c.loop-word.rest.now c.as_slice.result.now c.eq.result c.eq.ensures).1 (end.1 ∙ sym c.as_slice.ensures)) ∙ w.if-eq.false)
    ]
