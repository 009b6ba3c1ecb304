use Rattle.access_terms.proofs.Common.{IfOk-weaker, sym_block-later}
use Rattle.access_terms.proofs.Finding.{admits_with_is}
use Rattle.access_terms.proofs.spans.admits_with.Goals as goal

pub is_admitted-requires-clause-block : goal.is_admitted-requires-clause-block
is_admitted-requires-clause-block c = sym_block-later c.args.terms.now c.is_named.new.terms c.is_named.ensures.kept c.args.b.now c.requires.block

pub returns-clause-stands : goal.returns-clause-stands
returns-clause-stands c = IfOk-weaker c.pick.result _ _ (λ id m r naming. admits_with_is c.args.terms.now c.is_named.new.terms c.is_admitted.new.terms c.pick.new.terms c.args.span c.args.b.now
    c.in_ok-named.named c.in_ok-here.here c.args.later id _ c.is_named.ensures.kept c.is_admitted.ensures.kept c.requires.span c.requires.block c.requires.later c.in_ok-named.ensures.made m r
    (c.in_ok-named.ensures.stands r naming) (c.in_ok-here.ensures.stands r)) c.pick.ensures.made
