use Rattle.tv_run.proofs.Common.{◌≢◌, ◌∙◌, Some, ap, codes, refl, SinkState, stop_status}
use Rattle.tv_run.proofs.TextChecks.{stop_written}
use Rattle.tv_run.proofs.texts.stopped.Goals as goal

pub returns-clause-fits : goal.returns-clause-fits
returns-clause-fits c = c.if-status-eq8.false

pub returns-clause-line : goal.returns-clause-line
returns-clause-line c =
    let out = c.new-out.result in
    let last = c.refuse-status.new.out in
    let old : SinkState = record { taken = Some out.bytes.items; room = 0; faults = out.faults } in
    let new : SinkState = record { taken = Some last.bytes.items; room = 0; faults = last.faults } in
    let other : stop_status c.args.stop ≢ 8 = λ e. c.if-status-eq8.false (c.refuse-status.ensures.status ∙ e) in
    c.in_ok-written.ensures.bytes
    ∙ stop_written old new last.bytes.items (ap Some c.new-out.ensures.empty) c.new-out.ensures.quiet refl c.in_ok-written.ensures.whole (codes "source") (codes "target") c.args.stop other c.refuse-status.ensures.line
