use Rattle.tv_run.proofs.Common.{seen_check}
use Rattle.tv_run.proofs.Sending.{delivered_defined, delivered_from, delivered_sound, delivered_unfinished, delivered_whole, delivered_zero}
use Rattle.tv_run.proofs.Stopping.{complete}
use Rattle.tv_run.proofs.top.run_check.Goals as goal

pub returns-in-Ok-deliver-clause-sound : goal.returns-in-Ok-deliver-clause-sound
returns-in-Ok-deliver-clause-sound g c =
    let report = c.in-Ok.report in
    let old = g.S.Shelf.state c.args.shelf.now in
    let new = g.S.Shelf.state c.deliver.new.shelf in
    let out = g.K.Sink.state c.args.out.now in
    let out_new = g.K.Sink.state c.deliver.new.out in
    let delivered = delivered_from _ report.proof report.text.items report.status c.in-Ok-deliver.status old (g.S.Shelf.state c.report_of.new.shelf) new out out_new c.report_of.ensures.put_faults c.in-Ok-deliver.ensures.delivered in
    delivered_sound old.files (seen_check c.args.check.now) c.in-Ok-deliver.status report.status report.answers.items report.text.items report.proof old new out out_new c.file_reports_are_sound.ensures c.in-Ok.ensures.reports delivered c.deliver.ensures.known

pub returns-in-Ok-deliver-clause-zero : goal.returns-in-Ok-deliver-clause-zero
returns-in-Ok-deliver-clause-zero g c =
    let report = c.in-Ok.report in
    let old = g.S.Shelf.state c.args.shelf.now in
    let new = g.S.Shelf.state c.deliver.new.shelf in
    let out = g.K.Sink.state c.args.out.now in
    let out_new = g.K.Sink.state c.deliver.new.out in
    let delivered = delivered_from _ report.proof report.text.items report.status c.in-Ok-deliver.status old (g.S.Shelf.state c.report_of.new.shelf) new out out_new c.report_of.ensures.put_faults c.in-Ok-deliver.ensures.delivered in
    delivered_zero old.files (seen_check c.args.check.now) c.in-Ok-deliver.status report.status report.answers.items report.text.items report.proof old new out out_new c.file_reports_are_sound.ensures c.in-Ok.ensures.reports delivered

pub returns-in-Ok-deliver-clause-report : goal.returns-in-Ok-deliver-clause-report
returns-in-Ok-deliver-clause-report g c =
    let report = c.in-Ok.report in
    let old = g.S.Shelf.state c.args.shelf.now in
    let new = g.S.Shelf.state c.deliver.new.shelf in
    let out = g.K.Sink.state c.args.out.now in
    let out_new = g.K.Sink.state c.deliver.new.out in
    let delivered = delivered_from _ report.proof report.text.items report.status c.in-Ok-deliver.status old (g.S.Shelf.state c.report_of.new.shelf) new out out_new c.report_of.ensures.put_faults c.in-Ok-deliver.ensures.delivered in
    delivered_whole old.files (seen_check c.args.check.now) c.in-Ok-deliver.status report.status report.answers.items report.text.items report.proof old new out out_new c.in-Ok.ensures.reports delivered

pub returns-in-Ok-deliver-clause-defined : goal.returns-in-Ok-deliver-clause-defined
returns-in-Ok-deliver-clause-defined g c =
    let report = c.in-Ok.report in
    let old = g.S.Shelf.state c.args.shelf.now in
    let new = g.S.Shelf.state c.deliver.new.shelf in
    let out = g.K.Sink.state c.args.out.now in
    let out_new = g.K.Sink.state c.deliver.new.out in
    let delivered = delivered_from _ report.proof report.text.items report.status c.in-Ok-deliver.status old (g.S.Shelf.state c.report_of.new.shelf) new out out_new c.report_of.ensures.put_faults c.in-Ok-deliver.ensures.delivered in
    delivered_defined old.files (seen_check c.args.check.now) c.in-Ok-deliver.status report.status report.answers.items report.text.items report.proof old new out out_new c.file_reports_are_defined.ensures c.requires.in_range c.in-Ok.ensures.reports delivered

pub returns-in-Ok-deliver-clause-part : goal.returns-in-Ok-deliver-clause-part
returns-in-Ok-deliver-clause-part g c =
    let report = c.in-Ok.report in
    let old = g.S.Shelf.state c.args.shelf.now in
    let new = g.S.Shelf.state c.deliver.new.shelf in
    let out = g.K.Sink.state c.args.out.now in
    let out_new = g.K.Sink.state c.deliver.new.out in
    let delivered = delivered_from _ report.proof report.text.items report.status c.in-Ok-deliver.status old (g.S.Shelf.state c.report_of.new.shelf) new out out_new c.report_of.ensures.put_faults c.in-Ok-deliver.ensures.delivered in
    delivered_unfinished old.files (seen_check c.args.check.now) c.in-Ok-deliver.status report.status report.answers.items report.text.items report.proof old new out out_new c.in-Ok.ensures.reports delivered c.deliver.ensures.known

pub returns-in-Err-clause-complete : goal.returns-in-Err-clause-complete
returns-in-Err-clause-complete g c =
    complete c.modules_have_no_fault.ensures (seen_check c.args.check.now) (g.S.Shelf.state c.args.shelf.now) (g.S.Shelf.state c.report_of.new.shelf) c.in-Err.stop _ c.in-Err.ensures.cause c.refuse.ensures.status
