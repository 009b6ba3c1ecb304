use Rattle.module_rows.proofs.Common.{◌≡◌, ◌+◌, ◌*◌, ◌^◌, ◌<◌, List, length, sym, subst, ◌∙◌, ap, AllByRecursion, AllZip, Functions, Judged, AreAnswers, CanBeJudged, IsAnswer, judged_pairs, verdicts_answered}
use Rattle.module_rows.proofs.Answered.{all_up_to, zipped_answers}
use Rattle.module_rows.proofs.Pairs.{pairs_judged, pairs_fit}
use Rattle.module_rows.proofs.rows.all_rows.Goals as goal

pub drive-requires-clause-fits : goal.drive-requires-clause-fits
drive-requires-clause-fits g c = λ κs below.
    let pairs : c.as_slice.result.now ≡ judged_pairs c.args.target.now.entries c.args.source.now.entries = c.as_slice.ensures.value ∙ c.in_ok-pairing.ensures.pairs in
    subst (λ (ps : List Functions). c.args.workers * (length ps + 1) < 2 ^ 64) (sym pairs) (pairs_fit c.args.target.now.entries c.args.source.now.entries c.args.workers c.requires.fits)

pub drive-requires-clause-taken : goal.drive-requires-clause-taken
drive-requires-clause-taken g c = λ κs below.
    let pairs : c.as_slice.result.now ≡ judged_pairs c.args.target.now.entries c.args.source.now.entries = c.as_slice.ensures.value ∙ c.in_ok-pairing.ensures.pairs in
    subst (λ (ps : List Functions). AllByRecursion CanBeJudged ps) (sym pairs) (pairs_judged c.args.target.now.entries c.args.source.now.entries c.requires.target_judgeable c.requires.source_judgeable)

pub judgements_of-requires-clause-answered : goal.judgements_of-requires-clause-answered
judgements_of-requires-clause-answered g c =
    let bounds = c.args.judge.now.bounds in
    let budget = c.args.judge.now.budget in
    all_up_to bounds budget _ _
    (zipped_answers bounds budget _ _
    (subst (λ (ps : List Functions). AllZip (λ pair answer. IsAnswer pair bounds budget answer) ps c.in_ok-answers.answers.items) (c.as_slice.ensures.value ∙ c.in_ok-pairing.ensures.pairs) c.in_ok-answers.ensures))

pub returns-clause-rows : goal.returns-clause-rows
returns-clause-rows g c = c.in_ok-judgements.ensures.rows

pub returns-clause-answered : goal.returns-clause-answered
returns-clause-answered g c =
    let bounds = c.args.judge.now.bounds in
    let budget = c.args.judge.now.budget in
    subst (λ (xs : List Judged). AreAnswers bounds budget (judged_pairs c.args.target.now.entries c.args.source.now.entries) xs) (sym c.in_ok-judgements.ensures.answers)
    (zipped_answers bounds budget _ _
    (subst (λ (ps : List Functions). AllZip (λ pair answer. IsAnswer pair bounds budget answer) ps c.in_ok-answers.answers.items) (c.as_slice.ensures.value ∙ c.in_ok-pairing.ensures.pairs) c.in_ok-answers.ensures))

pub returns-clause-reported : goal.returns-clause-reported
returns-clause-reported g c = c.in_ok-judgements.ensures.reported ∙ ap verdicts_answered (sym c.in_ok-judgements.ensures.answers)
