use Rattle.std.proofs.Common.{◌≡◌, ◌<◌, length, get_or, sym, ◌∙◌, arith}
use Rattle.pair_costs.proofs.Sizes.{block_words, sum_room, sum_done, words_in_is, words_sum_small}
use Rattle.pair_costs.proofs.words.words_of.Goals as goal

pub words_of_block-total-requires : goal.words_of_block-total-requires
words_of_block-total-requires c =
    let blocks = c.args.f.now.blocks in
    let below : c.loop-block.block-index < length blocks = rw (← c.loop-block.invariant.blocks) c.loop-block-test.true in
    let is : c.block-item.result ≡ get_or blocks c.loop-block.block-index c.block-item.result = rw (← c.loop-block.invariant.blocks) c.block-item.is in
    let room = sum_room block_words blocks c.loop-block.block-index c.block-item.result c.loop-block.total below is c.loop-block.invariant.total in
    let most = words_sum_small c.args.f.now c.requires in
    omega (arith, room, most)

pub overflow_add-total : goal.overflow_add-total
overflow_add-total c =
    let blocks = c.args.f.now.blocks in
    let below : c.loop-block.block-index < length blocks = rw (← c.loop-block.invariant.blocks) c.loop-block-test.true in
    let is : c.block-item.result ≡ get_or blocks c.loop-block.block-index c.block-item.result = rw (← c.loop-block.invariant.blocks) c.block-item.is in
    let room = sum_room block_words blocks c.loop-block.block-index c.block-item.result c.loop-block.total below is c.loop-block.invariant.total in
    let most = words_sum_small c.args.f.now c.requires in
    omega (arith, room, most, c.words_of_block-total.ensures)

pub returns : goal.returns
returns c =
    let blocks = c.args.f.now.blocks in
    let end : c.loop-block.block-index ≡ length blocks = rw (← c.loop-block.invariant.blocks) (omega arith) in
    sum_done block_words blocks c.loop-block.block-index c.loop-block.total end c.loop-block.invariant.total ∙ sym (words_in_is c.args.f.now)
