use Rattle.pair_questions.proofs.Common.{◌++◌, ◌+◌, arith, flat_map, IsBlockTerms, places_widths, blocks_widths, byte_ids}
use Rattle.pair_questions.proofs.Extending.{extends_trans, blocks_extended, each_more, length_more, grows_as, grows_trans, blocks_more, ids_more, ids_pushed}
use Rattle.pair_questions.proofs.inputs.blocks_variables.Goals as goal

pub loop-block-preserved : goal.loop-block-preserved
loop-block-preserved c =
    let old = c.args.terms.now in
    let before = c.loop-block.terms in
    let after = c.block_variables.new.terms in
    let n = c.loop-block._block in
    let layout = c.args.layout.now in
    let start = c.args.order.now.items in
    let middle = c.loop-block.order.items in
    let end = c.block_variables.new.order.items in
    let xs = c.loop-block.places.items in
    let more = c.push.new.self.items in
    record {
      within = omega arith;
      kept = extends_trans old before after c.loop-block.invariant.kept c.block_variables.ensures.kept;
      count = length_more xs more c.in_ok-block.block n c.loop-block.invariant.count c.in_ok-push.ensures.items;
      places = each_more (IsBlockTerms layout.bytes after) xs more c.in_ok-block.block (blocks_extended before after c.block_variables.ensures.kept layout.bytes xs c.loop-block.invariant.places) c.in_ok-block.ensures.places c.in_ok-push.ensures.items;
      order = grows_as old after start end (blocks_widths layout n ++ places_widths layout.bytes) (blocks_widths layout (n + 1)) (blocks_more layout n)
          (grows_trans old before after start middle end (blocks_widths layout n) (places_widths layout.bytes) c.loop-block.invariant.order c.in_ok-block.ensures.order);
      ids = ids_pushed (flat_map byte_ids) start end xs more c.in_ok-block.block c.in_ok-push.ensures.items
          (ids_more start middle end (flat_map (flat_map byte_ids) xs) (flat_map byte_ids c.in_ok-block.block) c.loop-block.invariant.ids c.in_ok-block.ensures.ids);
    }
