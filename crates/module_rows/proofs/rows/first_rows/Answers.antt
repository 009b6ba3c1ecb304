use Rattle.module_rows.proofs.Common.{◌≡◌, ◌+◌, ◌*◌, ◌^◌, ◌<◌, List, length, take, sym, subst, ◌∙◌, ap, AllByRecursion, AllZip, Functions, Judged, AreAnswers, CanBeJudged, IsAnswer, StopsAtFirst, is_incorrect, judged_pairs, verdicts_answered}
use Rattle.module_rows.proofs.Answered.{zipped_answers, zipped_first}
use Rattle.module_rows.proofs.Pairs.{pairs_judged, pairs_fit}
use Rattle.module_rows.proofs.rows.first_rows.Goals as goal

pub drive_first-requires-clause-fits : goal.drive_first-requires-clause-fits
drive_first-requires-clause-fits g c = λ κs below.
    let pairs : c.as_slice.result.now ≡ judged_pairs c.args.target.now.entries c.args.source.now.entries = c.as_slice.ensures.value ∙ c.in_ok-pairing.ensures.pairs in
    subst (λ (ps : List Functions). c.args.workers * (length ps + 1) < 2 ^ 64) (sym pairs) (pairs_fit c.args.target.now.entries c.args.source.now.entries c.args.workers c.requires.fits)

pub drive_first-requires-clause-taken : goal.drive_first-requires-clause-taken
drive_first-requires-clause-taken g c = λ κs below.
    let pairs : c.as_slice.result.now ≡ judged_pairs c.args.target.now.entries c.args.source.now.entries = c.as_slice.ensures.value ∙ c.in_ok-pairing.ensures.pairs in
    subst (λ (ps : List Functions). AllByRecursion CanBeJudged ps) (sym pairs) (pairs_judged c.args.target.now.entries c.args.source.now.entries c.requires.target_judgeable c.requires.source_judgeable)

pub judgements_of-requires-clause-answered : goal.judgements_of-requires-clause-answered
judgements_of-requires-clause-answered g c =
    let bounds = c.args.judge.now.bounds in
    let budget = c.args.judge.now.budget in
    let pairs = c.as_slice.ensures.value ∙ c.in_ok-pairing.ensures.pairs in
    zipped_first bounds budget _ _
    (subst (λ (ps : List Functions). AllZip (λ pair answer. IsAnswer pair bounds budget answer) (take (length c.in_ok-answers.answers.items) ps) c.in_ok-answers.answers.items) pairs c.in_ok-answers.ensures.allowed)
    (subst (λ (ps : List Functions). StopsAtFirst is_incorrect (length ps) c.in_ok-answers.answers.items) pairs c.in_ok-answers.ensures.stops)

pub returns-clause-rows : goal.returns-clause-rows
returns-clause-rows g c = c.in_ok-judgements.ensures.rows

pub returns-clause-answered : goal.returns-clause-answered
returns-clause-answered g c =
    let bounds = c.args.judge.now.bounds in
    let budget = c.args.judge.now.budget in
    let all = judged_pairs c.args.target.now.entries c.args.source.now.entries in
    let answers = c.in_ok-answers.answers.items in
    subst (λ (xs : List Judged). AreAnswers bounds budget (take (length xs) all) xs) (sym c.in_ok-judgements.ensures.answers)
    (zipped_answers bounds budget (take (length answers) all) answers
    (subst (λ (ps : List Functions). AllZip (λ pair answer. IsAnswer pair bounds budget answer) (take (length answers) ps) answers) (c.as_slice.ensures.value ∙ c.in_ok-pairing.ensures.pairs) c.in_ok-answers.ensures.allowed))

pub returns-clause-reported : goal.returns-clause-reported
returns-clause-reported g c = c.in_ok-judgements.ensures.reported ∙ ap verdicts_answered (sym c.in_ok-judgements.ensures.answers)
