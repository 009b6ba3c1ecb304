use Rattle.ir_numbering.proofs.Common.{◌≡◌, ◌∷◌, into_iter_items, parameter_in, each_in}
use Rattle.ir_numbering.proofs.Each.{each-more}
use Rattle.ir_numbering.proofs.numbering.parameters.Goals as goal

pub loop-one-preserved : goal.loop-one-preserved
loop-one-preserved c =
    let e : into_iter_items c.loop-one.one-iterator ≡ c.in-Some.one ∷ into_iter_items c.next.new.self = c.in-Some.ensures.steps.0 in
    let kept = each-more parameter_in c.loop-one.names c.parameter.new.names c.in-Some.one _ _ c.loop-one.numbered.items c.in_ok-parameter.field-0 (each_in parameter_in c.args.names.now c.args.parameters) e c.in_ok-parameter.ensures c.loop-one.invariant in
    rw c.in_ok-push.ensures.items kept
