-- Where neither of the two lies within the resolvent, they have one that does.
use Rattle.log_tidy.proofs.Common.{both_ways, IfOk-weaker}
use Rattle.log_tidy.proofs.Links.{parts-resolve, resolved-derived}
use Rattle.log_tidy.proofs.linking.linked.Goals as goal

pub resolved-requires : goal.resolved-requires
resolved-requires c =
    parts-resolve c.args.whole.now c.args.current.clause c.args.next.now c.requires c.includes.ensures.part c.includes-2.ensures.part
    (λ h. both_ways c.includes.result c.if-includes.false (c.includes.ensures.includes.1 h))
    (λ h. both_ways c.includes-2.result c.if-includes-2.false (c.includes-2.ensures.includes.1 h))

pub returns : goal.returns
returns c = λ cs sound at.
    IfOk-weaker c.resolved.result _ _
    (λ r is. resolved-derived cs c.args.whole.now c.args.current r c.args.next.now c.args.number c.requires c.includes.ensures.part c.includes-2.ensures.part sound at is)
    c.resolved.ensures
