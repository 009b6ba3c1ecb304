use Rattle.access_terms.proofs.Common.{IfOk-weaker, sym_block-later}
use Rattle.access_terms.proofs.Sized.{size_with_is}
use Rattle.access_terms.proofs.sizes.size_with.Goals as goal

pub size_of-requires : goal.size_of-requires
size_of-requires c = sym_block-later c.args.terms.now c.is_named.new.terms c.is_named.ensures.kept c.args.b.now c.requires.b

pub returns-clause-stands : goal.returns-clause-stands
returns-clause-stands c = IfOk-weaker c.pick.result _ _ (λ id m r naming. size_with_is c.args.terms.now c.is_named.new.terms c.size_of.new.terms c.pick.new.terms c.args.block c.args.b.now
    c.in_ok-named.named c.in_ok-here.here c.args.later id _ c.is_named.ensures.kept c.size_of.ensures.kept c.requires.block c.requires.b c.requires.later c.in_ok-named.ensures.made m r
    (c.in_ok-named.ensures.stands r naming) (c.in_ok-here.ensures.stands r)) c.pick.ensures.made
