use Rattle.access_terms.proofs.BlockLengths.{size_stands}
use Rattle.access_terms.proofs.places.size_of.Goals as goal

pub returns-clause-stands : goal.returns-clause-stands
returns-clause-stands c =
    size_stands c.args.terms.now c.number.new.terms c.less.new.terms c.pick.new.terms c.in_ok-most.most c.in_ok-is_short.is_short c.in_ok-size.size c.args.b.now
    c.requires c.number.ensures.kept (rw c.len.ensures at c.in_ok-most.ensures.made) c.less.ensures.kept c.in_ok-is_short.ensures.made c.in_ok-size.ensures.made
