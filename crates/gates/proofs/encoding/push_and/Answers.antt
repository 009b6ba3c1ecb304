use Rattle.gates.proofs.Common.{◌∙◌, ap, [], ◌∷◌, ◌++◌}
use Rattle.gates.proofs.Clauses.{and-says, within-push}
use Rattle.gates.proofs.encoding.push_and.Goals as goal

pub returns-clause-says : goal.returns-clause-says
returns-clause-says c = λ v. and-says v c.args.clauses.now.items c.push-3.new.self.items c.args.own c.args.a c.args.b c.in_ok-two.field-0 c.in_ok-two-2.field-0 c.in_ok-three.field-0
    (rw c.opposite.ensures at c.in_ok-two.ensures.says v)
    (rw c.opposite-2.ensures at c.in_ok-two-2.ensures.says v)
    (rw (c.opposite-3.ensures, c.opposite-4.ensures) at c.in_ok-three.ensures.says v)
    (c.in_ok-push-3.ensures.items ∙ ap (λ zs. zs ++ c.in_ok-three.field-0 ∷ []) (c.in_ok-push-2.ensures.items ∙ ap (λ zs. zs ++ c.in_ok-two-2.field-0 ∷ []) c.in_ok-push.ensures.items))

pub returns-clause-within : goal.returns-clause-within
returns-clause-within c = λ n own a b h.
    rw (c.in_ok-push-3.ensures.items, c.in_ok-push-2.ensures.items, c.in_ok-push.ensures.items)
    (within-push n _ _ (within-push n _ _ (within-push n _ _ h ((rw c.opposite.ensures at c.in_ok-two.ensures.over) n own a a)) ((rw c.opposite-2.ensures at c.in_ok-two-2.ensures.over) n own b b))
    ((rw (c.opposite-3.ensures, c.opposite-4.ensures) at c.in_ok-three.ensures.over) n own a b))
