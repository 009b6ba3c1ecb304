use Rattle.inst_terms.proofs.Wholes.{select-stands}
use Rattle.inst_terms.proofs.selection.select.Goals as goal

pub returns-clause-stands : goal.returns-clause-stands
returns-clause-stands c =
    select-stands c.args.terms.now c.extract.new.terms c.pick_value.new.terms c.either.new.terms c.args.condition c.args.if_true c.args.if_false c.in_ok-chosen.chosen c.in_ok-lowest.lowest c.in_ok-poison.poison
    c.requires.condition c.requires.if_true c.requires.if_false c.extract.ensures.kept c.in_ok-lowest.ensures.made c.pick_value.ensures.kept c.in_ok-chosen.ensures.made c.in_ok-chosen.ensures.stands c.either.ensures.kept c.in_ok-poison.ensures.made
