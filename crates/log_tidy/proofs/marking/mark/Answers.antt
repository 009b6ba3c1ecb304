-- One more number of the chain is marked.
use Rattle.log_tidy.proofs.Common.{ℕ, List, get_or, take, subst, sym, take_more, IsMarking}
use Rattle.log_tidy.proofs.Marked.{marking-more}
use Rattle.log_tidy.proofs.marking.mark.Goals as goal

pub loop-number-preserved : goal.loop-number-preserved
loop-number-preserved c =
    let chain = c.args.chain.now in
    let i = c.loop-number.number-index in
    subst (λ (ns : List ℕ). IsMarking c.args.count ns c.args.used.now c.mark_number.new.used) (sym (take_more chain i 0 c.loop-number-test.true))
    (marking-more c.args.count (take i chain) (get_or chain i 0) c.args.used.now c.loop-number.used c.mark_number.new.used c.loop-number.invariant c.mark_number.ensures)
