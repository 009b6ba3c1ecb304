use Rattle.module_rows.proofs.Common.{◌≡◌, List, sym, ap, subst, ◌∙◌, Entry, Functions, Judged, AreAnswersUpTo, judged_pairs, entry_names, verdicts_answered}
use Rattle.module_rows.proofs.Answered.{verdicts_with_extra}
use Rattle.module_rows.proofs.rows.judgements_of.Goals as goal

pub source_rows-requires-clause-names : goal.source_rows-requires-clause-names
source_rows-requires-clause-names c = c.requires.names ∙ ap entry_names (sym c.as_slice-targets.ensures)

pub source_rows-requires-clause-answered : goal.source_rows-requires-clause-answered
source_rows-requires-clause-answered c =
    let bounds = c.args.judge.now.bounds in
    let budget = c.args.judge.now.budget in
    let pairs : judged_pairs c.args.target.now.entries c.args.source.now.entries ≡ judged_pairs c.as_slice-targets.result.now c.as_slice-sources.result.now =
    ap (λ (ts : List Entry). judged_pairs ts c.args.source.now.entries) (sym c.as_slice-targets.ensures)
    ∙ ap (λ (ss : List Entry). judged_pairs c.as_slice-targets.result.now ss) (sym c.as_slice-sources.ensures) in
    subst (λ (answers : List Judged). AreAnswersUpTo c.args.first bounds budget (judged_pairs c.as_slice-targets.result.now c.as_slice-sources.result.now) answers) (sym c.as_slice.ensures.value)
    (subst (λ (ps : List Functions). AreAnswersUpTo c.args.first bounds budget ps c.args.answers.items) pairs c.requires.answered)

pub returns-clause-reported : goal.returns-clause-reported
returns-clause-reported c =
    verdicts_with_extra c.args.first c.as_slice-sources.result.now c.as_slice-targets.result.now c.in_ok-rows.rows.items c.push_rest.new.rows.items c.in_ok-push_rest.ensures
    ∙ c.in_ok-rows.ensures.reported
    ∙ ap verdicts_answered c.as_slice.ensures.value
