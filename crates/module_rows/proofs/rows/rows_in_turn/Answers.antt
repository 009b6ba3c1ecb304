use Rattle.module_rows.proofs.Common.{◌≡◌, List, sym, subst, ◌∙◌, ap, AllByRecursion, AllZip, Functions, Judged, AreAnswers, CanBeJudged, IsAnswer, judged_pairs, verdicts_answered}
use Rattle.module_rows.proofs.Answered.{all_up_to, zipped_answers}
use Rattle.module_rows.proofs.Pairs.{pairs_judged}
use Rattle.module_rows.proofs.rows.rows_in_turn.Goals as goal

pub judge_all-requires-clause-taken : goal.judge_all-requires-clause-taken
judge_all-requires-clause-taken c =
    let pairs : c.as_slice.result.now ≡ judged_pairs c.args.target.now.entries c.args.source.now.entries = c.as_slice.ensures.value ∙ c.in_ok-pairing.ensures.pairs in
    let taken : AllByRecursion CanBeJudged c.as_slice.result.now =
    subst (λ (ps : List Functions). AllByRecursion CanBeJudged ps) (sym pairs) (pairs_judged c.args.target.now.entries c.args.source.now.entries c.requires.target_judgeable c.requires.source_judgeable) in
    search taken

pub judgements_of-requires-clause-answered : goal.judgements_of-requires-clause-answered
judgements_of-requires-clause-answered c =
    let bounds = c.args.judge.now.bounds in
    let budget = c.args.judge.now.budget in
    all_up_to bounds budget _ _
    (zipped_answers bounds budget _ _
    (subst (λ (ps : List Functions). AllZip (λ pair answer. IsAnswer pair bounds budget answer) ps c.in_ok-answers.answers.items) (c.as_slice.ensures.value ∙ c.in_ok-pairing.ensures.pairs) c.in_ok-answers.ensures))

pub returns-clause-rows : goal.returns-clause-rows
returns-clause-rows c = c.in_ok-judgements.ensures.rows

pub returns-clause-answered : goal.returns-clause-answered
returns-clause-answered c =
    let bounds = c.args.judge.now.bounds in
    let budget = c.args.judge.now.budget in
    subst (λ (xs : List Judged). AreAnswers bounds budget (judged_pairs c.args.target.now.entries c.args.source.now.entries) xs) (sym c.in_ok-judgements.ensures.answers)
    (zipped_answers bounds budget _ _
    (subst (λ (ps : List Functions). AllZip (λ pair answer. IsAnswer pair bounds budget answer) ps c.in_ok-answers.answers.items) (c.as_slice.ensures.value ∙ c.in_ok-pairing.ensures.pairs) c.in_ok-answers.ensures))

pub returns-clause-reported : goal.returns-clause-reported
returns-clause-reported c = c.in_ok-judgements.ensures.reported ∙ ap verdicts_answered (sym c.in_ok-judgements.ensures.answers)
