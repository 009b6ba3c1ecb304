use Rattle.tv_run.proofs.Common.{false, all_are_first, ◌∙◌, List, ℕ, ap, refl, sym, Row, report_text, summary_text, status_of, seen_make, make_line, IsReport, may_answer, verdicts_with_extra, rows_have_answers}
use Rattle.tv_run.proofs.made.made_of_modules.Goals as goal

pub returns : goal.returns
returns g c =
    let bounds = c.args.job.now.bounds in
    let budget = c.args.job.now.budget in
    let rows = c.in_ok-rows.field-0.rows.items in
    let report : IsReport false bounds budget c.args.source.now c.args.target.now c.in_ok-rows.field-0.answers.items (report_text bounds budget false rows) c.status_of-status.result = record {
      rows = rows;
      are_rows = c.in_ok-rows.ensures.rows;
      answered =
          rows_have_answers false (may_answer bounds budget) _ _ _ _ _ _ c.in_ok-rows.ensures.rows.each (all_are_first _ _ _ _ c.in_ok-rows.ensures.answered)
          (sym (verdicts_with_extra false c.args.source.now.entries c.args.target.now.entries c.in_ok-rows.ensures.rows.judged rows c.in_ok-rows.ensures.rows.all) ∙ c.in_ok-rows.ensures.reported);
      text_is = refl;
      status_is = c.status_of-status.ensures.value ∙ ap status_of c.as_slice.ensures.value;
    } in
    record {
      whole = report_text bounds budget false rows;
      report = report;
      sound = c.reports_are_sound.ensures false bounds budget c.args.source.now c.args.target.now _ _ _ c.requires.source_is c.requires.target_is report;
      text_is =
          c.in_ok-text.ensures ∙ ap (λ (line : List ℕ). summary_text bounds budget line c.as_slice-2.result.now) (c.as_slice-3.ensures.value ∙ c.in_ok-line.ensures)
          ∙ ap (λ (rs : List Row). summary_text bounds budget (make_line (seen_make c.args.job.now)) rs) c.as_slice-2.ensures.value;
    }
