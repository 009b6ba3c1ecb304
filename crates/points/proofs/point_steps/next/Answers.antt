use Rattle.points.proofs.Common.{refl, ◌∙◌}
use Rattle.points.proofs.Words.{WordsFit-length}
use Rattle.points.proofs.Memories.{least_blocks_are}
use Rattle.points.proofs.Whole.{zero_tape, tape_moves, places_move, sizes_move, args_move, none_moves}
use Rattle.points.proofs.point_steps.next.Goals as goal

pub next_words-requires : goal.next_words-requires
next_words-requires c = let fits = c.requires.tape in rw (WordsFit-length c.args.shape.now.word_width.bits c.args.shape.now.words c.args.point.now.tape fits) fits

pub next_places-requires : goal.next_places-requires
next_places-requires c = c.requires.given

pub next_sizes-requires : goal.next_sizes-requires
next_sizes-requires c = rw (c.if-next_places.ensures.last refl).1 c.requires.given

pub returns-then-next_words-clause-next : goal.returns-then-next_words-clause-next
returns-then-next_words-clause-next c = λ _. tape_moves c.args.shape.now c.args.point.now c.next_words.new.words (record { few = c.numbers_fit.ensures.0; short = c.numbers_fit.ensures.1 }) c.requires (c.if-next_words.ensures.next refl)

pub returns-then-next_places-clause-next : goal.returns-then-next_places-clause-next
returns-then-next_places-clause-next c = λ _.
    let words = c.if-next_words.ensures.last refl in
    places_move c.args.shape.now c.args.point.now c.next_places.new.blocks c.zero_from.new.words (record { few = c.numbers_fit.ensures.0; short = c.numbers_fit.ensures.1 }) c.requires words.0 (c.if-next_places.ensures.next refl)
    (zero_tape c.args.shape.now c.args.point.now.tape c.next_words.new.words c.zero_from.new.words c.requires.tape words.1 c.zero_from.ensures)

pub returns-then-next_sizes-clause-next : goal.returns-then-next_sizes-clause-next
returns-then-next_sizes-clause-next c = λ _.
    let words = c.if-next_words.ensures.last refl in
    let places = c.if-next_places.ensures.last refl in
    let step = c.if-next_sizes.ensures.next refl in
    sizes_move c.args.shape.now c.args.point.now c.next_sizes.new.blocks c.zero_from-then-next_sizes.new.words (record { few = c.numbers_fit.ensures.0; short = c.numbers_fit.ensures.1 }) c.requires words.0 places.0 (rw places.1 at step)
    (zero_tape c.args.shape.now c.args.point.now.tape c.next_words.new.words c.zero_from-then-next_sizes.new.words c.requires.tape words.1 c.zero_from-then-next_sizes.ensures)

pub next_values-requires : goal.next_values-requires
next_values-requires c = rw c.as_slice.ensures c.requires.args

pub returns-then-next_values-clause-next : goal.returns-then-next_values-clause-next
returns-then-next_values-clause-next c = λ _.
    let words = c.if-next_words.ensures.last refl in
    let places = c.if-next_places.ensures.last refl in
    let sizes = c.if-next_sizes.ensures.last refl in
    let step = c.if-next_values.ensures.next refl in
    let fits = rw (← (sizes.1 ∙ places.1)) at c.requires.given in
    args_move c.args.shape.now c.args.point.now c.next_values.new.args c.clear_places.new.blocks c.zero_from-then-next_values.new.words (record { few = c.numbers_fit.ensures.0; short = c.numbers_fit.ensures.1 }) c.requires words.0 places.0 (rw places.1 at sizes.0)
    (rw c.as_slice.ensures at step)
    (least_blocks_are c.args.shape.now.layout c.next_sizes.new.blocks c.clear_sizes.new.blocks c.clear_places.new.blocks fits c.clear_sizes.ensures c.clear_places.ensures)
    (zero_tape c.args.shape.now c.args.point.now.tape c.next_words.new.words c.zero_from-then-next_values.new.words c.requires.tape words.1 c.zero_from-then-next_values.ensures)

pub returns-clause-last : goal.returns-clause-last
returns-clause-last c = λ _.
    let words = c.if-next_words.ensures.last refl in
    let places = c.if-next_places.ensures.last refl in
    let sizes = c.if-next_sizes.ensures.last refl in
    let args = c.if-next_values.ensures.last refl in
    let same_args = args.1 in let same_blocks = sizes.1 ∙ places.1 in let same_tape = words.1 in (
      none_moves c.args.shape.now c.args.point.now (record { few = c.numbers_fit.ensures.0; short = c.numbers_fit.ensures.1 }) c.requires words.0 places.0 (rw places.1 at sizes.0) (rw c.as_slice.ensures at args.0),
      λ i. record { input = record { args = same_args i; blocks = same_blocks i }; tape = same_tape i },
    )
