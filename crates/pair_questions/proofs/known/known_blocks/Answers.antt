use Rattle.pair_questions.proofs.Common.{List, length, map, ap, sym, subst, ◌∙◌, take_all, MemoryBlock, BytesFit, ByteTerms, Each, reading, IsByteTerms, IsBlockTerms, given_byte_at, map-same, keeps_trans, byte_lists-later, block_terms_each-later, given_bytes_at-later, nameable}
use Rattle.pair_questions.proofs.Extending.{each_more}
use Rattle.pair_questions.proofs.Knowing.{block_counted, count_more, images_more}
use Rattle.pair_questions.proofs.known.known_blocks.Goals as goal

pub known_places-requires : goal.known_places-requires
known_places-requires c =
    rw c.as_slice.ensures (subst (λ (b : MemoryBlock). BytesFit nameable b.places) (sym c.block-item.is) (c.requires c.loop-block.block-index c.block-item.result c.loop-block-test.true))

pub loop-block-preserved : goal.loop-block-preserved
loop-block-preserved c =
    let old = c.args.terms.now in
    let before = c.loop-block.terms in
    let after = c.known_places.new.terms in
    let kept = c.known_places.ensures.kept in
    let blocks = c.args.blocks.now in
    let i = c.loop-block.block-index in
    let block = c.block-item.result in
    let known = c.loop-block.known.items in
    let more = c.push.new.self.items in
    let places = c.in_ok-places.places in
    let are : IsBlockTerms (length block.places) after places = rw c.as_slice.ensures at c.in_ok-places.ensures.are in
    record {
      kept = keeps_trans old before after c.loop-block.invariant.kept kept;
      count = count_more known more places blocks i c.loop-block.invariant.count c.in_ok-push.ensures.items c.loop-block-test.true;
      bytes = each_more (Each (IsByteTerms after)) known more places (byte_lists-later before after kept known c.loop-block.invariant.bytes) are.are c.in_ok-push.ensures.items;
      are = λ bytes all.
          each_more (IsBlockTerms bytes after) known more places (block_terms_each-later before after kept bytes known (c.loop-block.invariant.are bytes all))
          (block_counted after bytes (length block.places) places (ap (λ (b : MemoryBlock). length b.places) c.block-item.is ∙ all i block c.loop-block-test.true) are) c.in_ok-push.ensures.items;
      stands = λ layout v all.
          images_more (λ (ps : List ByteTerms). map (given_byte_at (reading layout.blocks v) after) ps) (λ (b : MemoryBlock). b.places) known more places blocks i block c.in_ok-push.ensures.items c.loop-block-test.true c.block-item.is
          (map-same (Each (IsByteTerms before)) (λ (ps : List ByteTerms). map (given_byte_at (reading layout.blocks v) after) ps) (λ (ps : List ByteTerms). map (given_byte_at (reading layout.blocks v) before) ps) known
          (λ ps h. given_bytes_at-later before after kept (reading layout.blocks v) ps h) c.loop-block.invariant.bytes ∙ c.loop-block.invariant.stands layout v all)
          ((rw c.as_slice.ensures at (c.in_ok-places.ensures.stands layout v)) (subst (λ (b : MemoryBlock). BytesFit layout b.places) (sym c.block-item.is) (all i block c.loop-block-test.true)));
    }

pub returns-clause-count : goal.returns-clause-count
returns-clause-count c = rw c.from_vec.ensures (c.loop-block.invariant.count ∙ ap length (take_all c.loop-block.block-index c.args.blocks.now c.loop-block-test.false))

pub returns-clause-are : goal.returns-clause-are
returns-clause-are c bytes all = rw c.from_vec.ensures (c.loop-block.invariant.are bytes all)

pub returns-clause-stands : goal.returns-clause-stands
returns-clause-stands c layout v all =
    rw c.from_vec.ensures (c.loop-block.invariant.stands layout v all ∙ ap (map (λ (b : MemoryBlock). b.places)) (take_all c.loop-block.block-index c.args.blocks.now c.loop-block-test.false))
