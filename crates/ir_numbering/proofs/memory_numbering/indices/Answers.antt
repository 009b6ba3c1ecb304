use Rattle.ir_numbering.proofs.Common.{◌≡◌, ◌∷◌, into_iter_items, index_in, each_in}
use Rattle.ir_numbering.proofs.Each.{each-more}
use Rattle.ir_numbering.proofs.memory_numbering.indices.Goals as goal

pub loop-one-preserved : goal.loop-one-preserved
loop-one-preserved c =
    let e : into_iter_items c.loop-one.one-iterator ≡ c.in-Some.one ∷ into_iter_items c.next.new.self = c.in-Some.ensures.steps.0 in
    let kept = each-more index_in c.loop-one.names c.index.new.names c.in-Some.one _ _ c.loop-one.numbered.items c.in_ok-index.field-0 (each_in index_in c.args.names.now c.args.indices) e c.in_ok-index.ensures c.loop-one.invariant in
    rw c.in_ok-push.ensures.items kept
