use Rattle.access_terms.proofs.Common.{named_stands}
use Rattle.access_terms.proofs.named.is_named.Goals as goal

pub returns-clause-stands : goal.returns-clause-stands
returns-clause-stands c =
    named_stands c.args.terms.now c.number.new.terms c.equals.new.terms c.both.new.terms c.args.block c.in_ok-known.known c.in_ok-is_same.is_same c.in_ok-is_named.is_named c.args.of.now
    c.requires.block c.requires.of c.number.ensures.kept c.in_ok-known.ensures.made c.equals.ensures.kept c.in_ok-is_same.ensures.made c.in_ok-is_named.ensures.made
