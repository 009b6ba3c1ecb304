use Rattle.slow_judge.proofs.Common.{◌≡◌, replicate, ap, ◌∙◌, empty_blocks, least_args}
use Rattle.slow_judge.proofs.Order.{first_cell, first_place}
use Rattle.slow_judge.proofs.cells.first.Goals as goal

pub returns-clause-cell : goal.returns-clause-cell
returns-clause-cell c =
    let args : c.from_vec.result ≡ least_args c.args.pair.now.target.parameters = c.from_vec.ensures ∙ c.in_ok-args.ensures ∙ ap least_args (c.as_slice.ensures ∙ ap (λ f. f.parameters) c.target.ensures.value) in
    let tape = c.in_ok-tape.ensures ∙ ap (λ n. replicate n 0) c.requires.need in
    first_cell c.args.pair.now c.args.bounds.now _ args (c.in_ok-blocks.ensures ∙ ap empty_blocks c.layout_of.ensures) tape

pub returns-clause-place : goal.returns-clause-place
returns-clause-place c =
    let args : c.from_vec.result ≡ least_args c.args.pair.now.target.parameters = c.from_vec.ensures ∙ c.in_ok-args.ensures ∙ ap least_args (c.as_slice.ensures ∙ ap (λ f. f.parameters) c.target.ensures.value) in
    let tape = c.in_ok-tape.ensures ∙ ap (λ n. replicate n 0) c.requires.need in
    first_place c.args.pair.now c.args.bounds.now _ args (c.in_ok-blocks.ensures ∙ ap empty_blocks c.layout_of.ensures) tape
