use Rattle.pair_questions.proofs.Common.{length, map, ap, ◌∙◌, take_all, MemoryBlock, IsTerm, term_at, map-same, keeps_trans, sizes-later, term-later}
use Rattle.pair_questions.proofs.Extending.{each_more}
use Rattle.pair_questions.proofs.Knowing.{count_more, images_more, made_size}
use Rattle.pair_questions.proofs.known.known_sizes.Goals as goal

pub loop-block-preserved : goal.loop-block-preserved
loop-block-preserved c =
    let old = c.args.terms.now in
    let before = c.loop-block.terms in
    let after = c.constant.new.self in
    let kept = c.constant.ensures.kept in
    let blocks = c.args.blocks.now in
    let i = c.loop-block.block-index in
    let block = c.block-item.result in
    let sizes = c.loop-block.sizes.items in
    let more = c.push.new.self.items in
    let size = c.in_ok-size.size in
    record {
      kept = keeps_trans old before after c.loop-block.invariant.kept kept;
      count = count_more sizes more size blocks i c.loop-block.invariant.count c.in_ok-push.ensures.items c.loop-block-test.true;
      are = each_more (IsTerm after 6) sizes more size (sizes-later before after kept sizes c.loop-block.invariant.are) (made_size c.in_ok-size.ensures.made) c.in_ok-push.ensures.items;
      stands = λ v.
          images_more (term_at v after) (λ (b : MemoryBlock). b.size) sizes more size blocks i block c.in_ok-push.ensures.items c.loop-block-test.true c.block-item.is
          (map-same (IsTerm before 6) (term_at v after) (term_at v before) sizes (λ a t. term-later before after kept v a t.within) c.loop-block.invariant.are ∙ c.loop-block.invariant.stands v)
          (c.in_ok-size.ensures.made.says v);
    }

pub returns-clause-count : goal.returns-clause-count
returns-clause-count c = rw c.from_vec.ensures (c.loop-block.invariant.count ∙ ap length (take_all c.loop-block.block-index c.args.blocks.now c.loop-block-test.false))

pub returns-clause-stands : goal.returns-clause-stands
returns-clause-stands c v =
    rw c.from_vec.ensures (c.loop-block.invariant.stands v ∙ ap (map (λ (b : MemoryBlock). b.size)) (take_all c.loop-block.block-index c.args.blocks.now c.loop-block-test.false))
