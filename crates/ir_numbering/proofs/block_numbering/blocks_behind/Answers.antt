use Rattle.ir_numbering.proofs.Common.{◌≡◌, ◌∷◌, into_iter_items, labelled_in, others_in}
use Rattle.ir_numbering.proofs.Each.{each-more}
use Rattle.ir_numbering.proofs.block_numbering.blocks_behind.Goals as goal

pub loop-one-preserved : goal.loop-one-preserved
loop-one-preserved c =
    let e : into_iter_items c.loop-one.one-iterator ≡ c.in-Some.one ∷ into_iter_items c.next.new.self = c.in-Some.ensures.steps.0 in
    let kept = each-more labelled_in c.loop-one.names c.block.new.names c.in-Some.one _ _ c.loop-one.numbered.items c.in_ok-block.field-0 (others_in c.args.first c.args.names.now c.args.others) e c.in_ok-block.ensures c.loop-one.invariant in
    rw c.in_ok-push-2.ensures.items kept
