-- One more clause of the chain is the same.
use Rattle.log_tidy.proofs.Common.{◌∙◌, ap, get_or, length, sym, clause_numbered, standing, new_number}
use Rattle.log_tidy.proofs.Links.{has-get, same-more}
use Rattle.log_tidy.proofs.linking.are_same.Goals as goal

pub clause_at-clause-requires : goal.clause_at-clause-requires
clause_at-clause-requires c =
    let chain = c.args.chain.now in
    let i = c.loop-number.number-index in
    c.requires.numbered (get_or chain i 0) (has-get chain i 0 c.loop-number-test.true)

pub loop-number-preserved : goal.loop-number-preserved
loop-number-preserved c =
    let clauses = c.args.clauses.now in
    let new = standing clauses c.args.kept.now in
    same-more (new_number (length clauses) c.args.numbers.now) (standing clauses c.args.earlier.now) new c.args.chain.now c.loop-number.number-index c.clause_at-clause.result.now c.clause_at-other.result.now
    c.loop-number-test.true c.loop-number.invariant c.clause_at-clause.ensures (ap (clause_numbered new) (sym c.new_number.ensures) ∙ c.clause_at-other.ensures) (c.is_same.ensures.0 c.if-not-is_same.false)
