use Rattle.ir_check.proofs.Common.{◌∙◌, take, Contains-get_or}
use Rattle.ir_check.proofs.EdgeLemmas.{unfit_among, met_more, stands_before}
use Rattle.ir_check.proofs.edges.meet_all.Goals as goal

pub returns-then-not-meet-clause-unfit : goal.returns-then-not-meet-clause-unfit
returns-then-not-meet-clause-unfit c told predecessors marked =
    unfit_among predecessors c.args.of_type c.args.entries.now (take c.loop-entry.entry-index c.args.entries.now) _
    (Contains-get_or c.args.entries.now c.loop-entry.entry-index _ c.loop-entry-test.true) (stands_before c.args.entries.now c.loop-entry.entry-index)
    (c.meet.ensures.unfit c.if-not-meet.true predecessors (take c.loop-entry.entry-index c.args.entries.now) (c.loop-entry.invariant.fit predecessors marked))

pub returns-then-not-meet-clause-marks : goal.returns-then-not-meet-clause-marks
returns-then-not-meet-clause-marks c = c.meet.ensures.marks ∙ c.loop-entry.invariant.marks

pub loop-entry-preserved : goal.loop-entry-preserved
loop-entry-preserved c = record {
  marks = c.meet.ensures.marks ∙ c.loop-entry.invariant.marks;
  fit = λ predecessors marked. met_more predecessors c.args.of_type c.args.entries.now c.loop-entry.entry-index _ c.meet.new.marks c.loop-entry-test.true
      (c.meet.ensures.fits c.if-not-meet.false predecessors (take c.loop-entry.entry-index c.args.entries.now) (c.loop-entry.invariant.fit predecessors marked));
}
