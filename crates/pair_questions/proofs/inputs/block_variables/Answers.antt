use Rattle.pair_questions.proofs.Common.{◌++◌, ◌+◌, arith, flat_map, IsByteTerms, places_widths, byte_ids}
use Rattle.pair_questions.proofs.Extending.{extends_trans, bytes_extended, each_more, length_more, grows_as, grows_trans, places_more, ids_more, ids_pushed}
use Rattle.pair_questions.proofs.inputs.block_variables.Goals as goal

pub loop-place-preserved : goal.loop-place-preserved
loop-place-preserved c =
    let old = c.args.terms.now in
    let before = c.loop-place.terms in
    let after = c.place_variables.new.terms in
    let n = c.loop-place._place in
    let start = c.args.order.now.items in
    let middle = c.loop-place.order.items in
    let end = c.place_variables.new.order.items in
    let xs = c.loop-place.places.items in
    let more = c.push.new.self.items in
    record {
      within = omega arith;
      kept = extends_trans old before after c.loop-place.invariant.kept c.place_variables.ensures.kept;
      count = length_more xs more c.in_ok-place.place n c.loop-place.invariant.count c.in_ok-push.ensures.items;
      places = each_more (IsByteTerms after) xs more c.in_ok-place.place (bytes_extended before after c.place_variables.ensures.kept xs c.loop-place.invariant.places) c.in_ok-place.ensures.place c.in_ok-push.ensures.items;
      order = grows_as old after start end (places_widths n ++ places_widths 1) (places_widths (n + 1)) (places_more n)
          (grows_trans old before after start middle end (places_widths n) (places_widths 1) c.loop-place.invariant.order c.in_ok-place.ensures.order);
      ids = ids_pushed byte_ids start end xs more c.in_ok-place.place c.in_ok-push.ensures.items
          (ids_more start middle end (flat_map byte_ids xs) (byte_ids c.in_ok-place.place) c.loop-place.invariant.ids c.in_ok-place.ensures.ids);
    }
