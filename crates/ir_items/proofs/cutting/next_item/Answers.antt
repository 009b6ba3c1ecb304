use Rattle.ir_items.proofs.Common.{sym, ◌∙◌, IfOk-weaker, IsOther, IsCut, StopsAt, IsAdded}
use Rattle.ir_items.proofs.cutting.next_item.Goals as goal

pub returns-then-not-is_head-clause-stops : goal.returns-then-not-is_head-clause-stops
returns-then-not-is_head-clause-stops c = StopsAt.no_item c.requires.within (sym c.is_head.ensures ∙ c.if-not-is_head.true)

pub returns-then-is_define-clause-cut : goal.returns-then-is_define-clause-cut
returns-then-is_define-clause-cut c =
    IfOk-weaker c.define.result (λ end. IsAdded c.args.tokens.now c.args.first end c.args.defines.now.items c.define.new.defines.items)
    (λ end. IsCut c.args.tokens.now c.args.first c.args.defines.now.items → IsCut c.args.tokens.now end c.define.new.defines.items)
    (λ end a cut. rw a.added (IsCut.define cut a.define a.named a.fresh a.few)) c.define.ensures.ok

pub returns-clause-cut : goal.returns-clause-cut
returns-clause-cut c =
    IfOk-weaker c.other_end.result (λ end. IsOther c.args.tokens.now c.args.first end)
    (λ end. IsCut c.args.tokens.now c.args.first c.args.defines.now.items → IsCut c.args.tokens.now end c.args.defines.now.items)
    (λ end other cut. IsCut.other cut other) c.other_end.ensures.ok
