use Rattle.std.proofs.Common.{◌≡◌, ◌∙◌, ℕ, List, ap, rules, subst}
use Rattle.tv_io.specs.Files.{Files}
use Rattle.points.specs.declared.point.Bounds.{Bounds}
use Rattle.points.specs.declared.point.Budget.{Budget}
use Rattle.tv_cli.specs.Words.{Check}
use Rattle.tv_run.specs.Reports.{IsTheDefinedReport}
use Rattle.tv_run.specs.Sound.{SaysRefinement}
use Rattle.tv_run.specs.Texts.{OfTexts}
use Rattle.tv_c.specs.Calls.{bounds_in, budget_in, copied}
use Rattle.tv_c.proofs.tv_check_into.Goals as goal

-- a fact of the checks within some limits is one of the checks within the same ones
within : (source target : List ℕ) (bounds limits : Bounds) (budget spent : Budget) (P : Files → Check → Type 0) → bounds ≡ limits → budget ≡ spent → OfTexts source target bounds budget P → OfTexts source target limits spent P
within source target bounds limits budget spent P e d told = subst (λ (b : Bounds). OfTexts source target b spent P) e (subst (λ (b : Budget). OfTexts source target bounds b P) d told)

pub returns-clause-answer : goal.returns-clause-answer
returns-clause-answer c = λ memory range.
    let source = c.args.source.now in
    let target = c.args.target.now in
    let options = c.args.options.now in
    let text = c.in-Ok.checked.written.items in
    let status = c.in-Ok.checked.status in
    let told = c.in-Ok.ensures in
    record {
      text = text;
      length_is = search rules;
      room_is = c.copy_out.ensures ∙ ap (λ (bytes : List ℕ). copied bytes c.args.report.now) c.as_slice.ensures.value;
      sound = λ reported.
          within source target c.bounds-bounds.result (bounds_in options) c.budget-budget.result (budget_in options) (λ files check. SaysRefinement files check text status) c.bounds-bounds.ensures c.budget-budget.ensures
          (told.sound reported);
      defined = λ reported none.
          within source target c.bounds-bounds.result (bounds_in options) c.budget-budget.result (budget_in options) (λ files check. IsTheDefinedReport files check text status) c.bounds-bounds.ensures c.budget-budget.ensures
          (told.defined reported (ap (λ (b : Budget). b.conflicts) c.budget-budget.ensures ∙ none));
      complete = told.complete;
      refused = told.refused;
    }
