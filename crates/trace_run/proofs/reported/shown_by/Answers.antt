use Rattle.std.proofs.Common.{rules, ◌≡◌, Some}
use Rattle.std.proofs.lemmas.Option.{IfSome_then}
use Rattle.verdicts.specs.Laws.{IsWithin}
use Rattle.report.specs.Rows.{function_named}
use Rattle.module_rows.specs.Judging.{listed, pairs_in}
use Rattle.trace_run.proofs.reported.shown_by.Goals as goal

pub returns : goal.returns
returns c =
    let within : IsWithin c.in-Some.pair c.args.bounds.now c.in-Some-2.point.input = rw c.in-Some-2.is at c.in_ok-point.ensures in
    let is_pair : pairs_in c.args.source.now.function (function_named c.args.target.now.entries c.args.source.now.name) ≡ listed (Some c.in-Some.pair) = rw c.in-Some.is at c.in_ok-pair.ensures.pair in
    IfSome_then c.in_ok-shown.shown c.in_ok-shown.ensures (λ e at. record {
      pair = c.in-Some.pair;
      point = c.in-Some-2.point;
      row = at.row;
      runs = at.runs;
      is_pair = is_pair;
      within = within;
      shows = at.shows;
      has_row = search rules;
      are_runs = at.are_runs;
      text_is = at.text_is;
      status_is = at.status_is;
    })
