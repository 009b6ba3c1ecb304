use Rattle.std.proofs.Common.{get_or}
use Rattle.claim_board.proofs.Found.{all_passed}
use Rattle.claim_board.proofs.Runs.{drawn_below, count_within, all_drawn}
use Rattle.claim_board.proofs.Steps.{last_run}
use Rattle.claim_board.proofs.board.Board.close_with.Goals as goal

pub returns-clause-below : goal.returns-clause-below
returns-clause-below c =
    let last = c.close_with-closed.ensures.values.2 in
    let run = last_run _ _ _ last.0 last.1.0 last.2 c.word-count.ensures in
    drawn_below _ _ _ _ _ _ _ run last.1.1

pub returns-clause-within : goal.returns-clause-within
returns-clause-within c =
    let last = c.close_with-closed.ensures.values.2 in
    let run = last_run _ _ _ last.0 last.1.0 last.2 c.word-count.ensures in
    count_within _ _ _ _ _ _ _ run last.1.1

pub returns-clause-all : goal.returns-clause-all
returns-clause-all c =
    let last = c.close_with-closed.ensures.values.2 in
    let run = last_run _ _ _ last.0 last.1.0 last.2 c.word-count.ensures in
    all_drawn _ _ _ _ _ _ _ run last.1.1

pub returns-clause-passed : goal.returns-clause-passed
returns-clause-passed c =
    let last = c.close_with-closed.ensures.values.2 in
    let run = last_run _ _ _ last.0 last.1.0 last.2 c.word-count.ensures in
    all_passed _ _ _ _ _ _ _ run last.1.1

pub returns-clause-run : goal.returns-clause-run
returns-clause-run c =
    let last = c.close_with-closed.ensures.values.2 in
    let run = last_run _ _ _ last.0 last.1.0 last.2 c.word-count.ensures in
    (get_or last.0.words 1 0, last.0.views, c.args.seat.id, run, last.1.1)
