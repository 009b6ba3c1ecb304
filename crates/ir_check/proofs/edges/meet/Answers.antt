use Rattle.ir_check.proofs.Common.{◌∙◌, sym}
use Rattle.ir_check.proofs.EdgeLemmas.{first_met, met_again, from_stranger, with_other, marked_within}
use Rattle.ir_check.proofs.edges.meet.Goals as goal

pub returns-in-Stranger-clause-unfit : goal.returns-in-Stranger-clause-unfit
returns-in-Stranger-clause-unfit c told predecessors seen marked = from_stranger predecessors c.args.of_type seen c.args.entry c.args.marks.now (sym c.get.ensures ∙ c.in-Stranger.is) marked

pub set-requires : goal.set-requires
set-requires c = marked_within c.args.marks.now c.args.entry.from (sym c.get.ensures ∙ c.in-Awaited.is)

pub returns-in-Awaited-clause-fits : goal.returns-in-Awaited-clause-fits
returns-in-Awaited-clause-fits c told predecessors seen marked = rw c.set.ensures (first_met predecessors c.args.of_type seen c.args.entry c.args.marks.now (sym c.get.ensures ∙ c.in-Awaited.is) marked)

pub returns-in-Given-clause-fits : goal.returns-in-Given-clause-fits
returns-in-Given-clause-fits c told predecessors seen marked =
    met_again predecessors c.args.of_type seen c.args.entry c.args.marks.now c.in-Given.operand (sym c.get.ensures ∙ c.in-Given.is) (sym c.is_same_operand.ensures ∙ told) marked

pub returns-in-Given-clause-unfit : goal.returns-in-Given-clause-unfit
returns-in-Given-clause-unfit c told predecessors seen marked =
    with_other predecessors c.args.of_type seen c.args.entry c.args.marks.now c.in-Given.operand (sym c.get.ensures ∙ c.in-Given.is) (sym c.is_same_operand.ensures ∙ told) marked
