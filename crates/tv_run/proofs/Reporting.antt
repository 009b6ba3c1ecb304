-- Rows that are reported make the report of their modules.
use Rattle.tv_run.proofs.Common.{Vec, ◌≡◌, ℕ, List, Option, length, take, sym, subst, ◌∙◌, Module, Judged, Row, AreRows, Check, IsProofAsked, IsReport, IsReportOf, IsReportOn, AreAnswers, judged_pairs, may_answer, verdicts_answered, verdicts_of, verdicts_with_extra, rows_have_answers, ReportOwnAnswers}

pub reported : (c : Check) (source target : Module) (rows : List Row) (judged answers : List Judged) (text : List ℕ) (status : ℕ) (proof : Option (Vec ℕ)) → AreRows c.first (may_answer c.bounds c.budget) c.bounds source target rows
    → AreAnswers c.bounds c.budget (take (length judged) (judged_pairs target.entries source.entries)) judged → verdicts_of rows ≡ verdicts_answered judged → IsReportOn c rows judged answers text status proof
    → IsReportOf c source target answers text status proof
reported c source target rows judged answers text status proof are each told report =
    let own : ReportOwnAnswers c.bounds c.budget target.entries source.entries are.judged judged =
    rows_have_answers c.first (may_answer c.bounds c.budget) c.bounds c.budget target.entries source.entries are.judged judged are.each each
    (sym (verdicts_with_extra c.first source.entries target.entries are.judged rows are.all) ∙ told) in
    let whole : IsReport c.first c.bounds c.budget source target answers text status = record {
      rows = rows;
      are_rows = are;
      answered = subst (λ (xs : List Judged). ReportOwnAnswers c.bounds c.budget target.entries source.entries are.judged xs) (sym report.answers_are) own;
      text_is = report.text_is;
      status_is = report.status_is;
    } in
    record { report = whole; asked = subst (λ (xs : List Judged). IsProofAsked c.proof c.bounds c.budget rows xs proof) (sym report.answers_are) report.asked }
