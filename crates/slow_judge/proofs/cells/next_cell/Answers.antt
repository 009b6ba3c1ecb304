use Rattle.slow_judge.proofs.Common.{◌≡◌, length, replicate, refl, ap, ◌∙◌, arith, no_blocks, layout_of, any_blocks, WordsFit-length}
use Rattle.slow_judge.proofs.Order.{next_by_tape, next_by_args, last_by_both}
use Rattle.slow_judge.proofs.cells.next_cell.Goals as goal

pub next_words-requires : goal.next_words-requires
next_words-requires c = rw c.requires.width (rw (WordsFit-length _ _ _ c.requires.cell.tape) c.requires.cell.tape)

pub returns-then-next_words-clause-next : goal.returns-then-next_words-clause-next
returns-then-next_words-clause-next c = λ _.
    let next = rw c.requires.width at (c.if-next_words.ensures.next refl) in
    next_by_tape c.args.pair.now c.args.bounds.now c.args.point.now _ c.requires.small c.requires.integers c.requires.cell refl refl next

pub next_args-requires-clause-fit : goal.next_args-requires-clause-fit
next_args-requires-clause-fit c =
    let ps : c.as_slice.result.now ≡ c.args.pair.now.target.parameters = c.as_slice.ensures ∙ ap (λ f. f.parameters) c.target.ensures.value in
    rw ps (any_blocks (layout_of c.args.pair.now c.args.bounds.now) no_blocks c.args.pair.now.target.parameters c.args.point.now.input.args c.requires.integers c.requires.cell.args)

pub returns-then-next_args-clause-next : goal.returns-then-next_args-clause-next
returns-then-next_args-clause-next c = λ _.
    let ps : c.as_slice.result.now ≡ c.args.pair.now.target.parameters = c.as_slice.ensures ∙ ap (λ f. f.parameters) c.target.ensures.value in
    let last = c.if-next_words.ensures.last refl in
    let last_words = rw c.requires.width at last.0 in
    let next = rw ps at (c.if-next_args.ensures.next refl) in
    let zeros : c.zero_from.new.words ≡ replicate (length c.args.point.now.tape) 0 =
    c.zero_from.ensures ∙ ap (λ n. replicate n 0) (rw last.1 (omega arith)) in
    next_by_args c.args.pair.now c.args.bounds.now c.args.point.now _ c.requires.small c.requires.integers c.requires.cell refl last_words next zeros

pub returns-clause-last : goal.returns-clause-last
returns-clause-last c = λ _.
    let ps : c.as_slice.result.now ≡ c.args.pair.now.target.parameters = c.as_slice.ensures ∙ ap (λ f. f.parameters) c.target.ensures.value in
    let last = c.if-next_words.ensures.last refl in
    let last_words = rw c.requires.width at last.0 in
    let last' = rw ps at (c.if-next_args.ensures.last refl) in
    (last_by_both c.args.pair.now c.args.bounds.now c.args.point.now c.requires.small c.requires.integers c.requires.cell last_words last'.0, rw (last.1, last'.1) refl)
