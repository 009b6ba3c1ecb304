use Rattle.std.proofs.Common.{sum_by, ap, ◌∙◌, arith}
use Rattle.pair_costs.proofs.Sizes.{words_of, block_words_is}
use Rattle.pair_costs.proofs.words.words_of_block.Goals as goal

pub words_in-requires : goal.words_in-requires
words_in-requires c =
    let is = block_words_is c.args.block.now in
    let insts = ap (λ insts. sum_by words_of insts) c.as_slice.ensures in
    omega (arith, is, insts, c.requires)

pub overflow_add-result : goal.overflow_add-result
overflow_add-result c =
    let is = block_words_is c.args.block.now in
    let w = c.words_in.ensures ∙ ap (λ insts. sum_by words_of insts) c.as_slice.ensures in
    let e = c.end_words.ensures.value in
    omega (arith, is, w, e, c.requires)

pub returns : goal.returns
returns c =
    let is = block_words_is c.args.block.now in
    let w = c.words_in.ensures ∙ ap (λ insts. sum_by words_of insts) c.as_slice.ensures in
    let e = c.end_words.ensures.value in
    omega (arith, is, w, e)
