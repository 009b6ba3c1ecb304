use Rattle.std.proofs.Common.{◌∙◌}
use Rattle.trace_cli.specs.Seen.{seen}
use Rattle.trace_run.specs.Requests.{bytes_of}
use Rattle.trace_run.specs.Halts.{HaltsAt}
use Rattle.trace_run.proofs.Answering.{found_of}
use Rattle.trace_run.proofs.Halting.{halted, stops_from}
use Rattle.trace_run.proofs.finding.found_of.Goals as goal

pub returns-clause-found : goal.returns-clause-found
returns-clause-found g c = λ files known.
    let read = c.in_ok-both.ensures.modules in
    let after = c.in_ok-report.ensures.same ∙ known in
    found_of files (seen c.args.request.now) (bytes_of c.in_ok-report.report) c.in_ok-both.both c.in_ok-found.found (read.source_is files after) (read.target_is files after) (c.in_ok-report.ensures.report files known) c.in_ok-found.ensures

pub returns-in_err-both-clause-cause : goal.returns-in_err-both-clause-cause
returns-in_err-both-clause-cause g c =
    let report = c.in_ok-report.ensures in
    let why = c.in_err-both.field-0.0 in
    let state = g.S.Shelf.state in
    let stops = stops_from (state c.args.shelf.now) (state c.report_of.new.shelf) (state c.read_both.new.shelf) report.same report.same_fails report.quiet report.bytes_taken_stay _ _ why c.in_err-both.ensures.cause in
    halted c.from_residual-in_err-both.result why (HaltsAt (seen c.args.request.now) (state c.args.shelf.now) (state c.read_both.new.shelf)) c.from_residual-in_err-both.ensures.1 (stops, report.read)
