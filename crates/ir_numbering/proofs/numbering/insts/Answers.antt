use Rattle.ir_numbering.proofs.Common.{◌≡◌, ◌∷◌, into_iter_items, inst_in, each_in}
use Rattle.ir_numbering.proofs.Each.{each-more}
use Rattle.ir_numbering.proofs.numbering.insts.Goals as goal

pub loop-one-preserved : goal.loop-one-preserved
loop-one-preserved c =
    let e : into_iter_items c.loop-one.one-iterator ≡ c.in-Some.one ∷ into_iter_items c.next.new.self = c.in-Some.ensures.steps.0 in
    let numbered = rw c.into_inner.ensures at c.in_ok-inst.ensures in
    let kept = each-more inst_in c.loop-one.names c.inst.new.names c.in-Some.one _ _ c.loop-one.numbered.items c.in_ok-inst.field-0 (each_in inst_in c.args.names.now c.args.insts) e numbered c.loop-one.invariant in
    rw c.in_ok-push.ensures.items kept
