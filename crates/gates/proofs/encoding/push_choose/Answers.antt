use Rattle.gates.proofs.Common.{◌∙◌, ap, [], ◌∷◌, ◌++◌}
use Rattle.gates.proofs.Clauses.{choose-says, within-push}
use Rattle.gates.proofs.encoding.push_choose.Goals as goal

pub returns-clause-says : goal.returns-clause-says
returns-clause-says c = λ v. choose-says v c.args.clauses.now.items c.push-4.new.self.items c.args.own c.args.c c.args.a c.args.b c.in_ok-three.field-0 c.in_ok-three-2.field-0 c.in_ok-three-3.field-0 c.in_ok-three-4.field-0
    (rw (c.opposite.ensures, c.opposite-2.ensures) at c.in_ok-three.ensures.says v)
    (rw (c.opposite-3.ensures, c.opposite-4.ensures) at c.in_ok-three-2.ensures.says v)
    (rw c.opposite-5.ensures at c.in_ok-three-3.ensures.says v)
    (rw c.opposite-6.ensures at c.in_ok-three-4.ensures.says v)
    (c.in_ok-push-4.ensures.items ∙ ap (λ zs. zs ++ c.in_ok-three-4.field-0 ∷ [])
    (c.in_ok-push-3.ensures.items ∙ ap (λ zs. zs ++ c.in_ok-three-3.field-0 ∷ [])
    (c.in_ok-push-2.ensures.items ∙ ap (λ zs. zs ++ c.in_ok-three-2.field-0 ∷ []) c.in_ok-push.ensures.items)))

pub returns-clause-within : goal.returns-clause-within
returns-clause-within c = λ n own test a b h.
    rw (c.in_ok-push-4.ensures.items, c.in_ok-push-3.ensures.items, c.in_ok-push-2.ensures.items, c.in_ok-push.ensures.items)
    (within-push n _ _ (within-push n _ _ (within-push n _ _ (within-push n _ _ h
    ((rw (c.opposite.ensures, c.opposite-2.ensures) at c.in_ok-three.ensures.over) n test a own))
    ((rw (c.opposite-3.ensures, c.opposite-4.ensures) at c.in_ok-three-2.ensures.over) n test a own))
    ((rw c.opposite-5.ensures at c.in_ok-three-3.ensures.over) n test b own))
    ((rw c.opposite-6.ensures at c.in_ok-three-4.ensures.over) n test b own))
