use Rattle.mem_terms.proofs.SymValues.{pick_value-stands}
use Rattle.mem_terms.proofs.values.pick_value.Goals as goal

pub returns-clause-stands : goal.returns-clause-stands
returns-clause-stands c =
    pick_value-stands c.args.terms.now c.pick.new.terms c.pick-2.new.terms c.pick-3.new.terms c.pick-4.new.terms c.args.c c.in_ok-poison.poison c.in_ok-is_pointer.is_pointer c.in_ok-block.block c.in_ok-number.number c.args.a c.args.b c.requires.c c.requires.a c.requires.b
    c.pick.ensures.kept c.in_ok-poison.ensures.made c.pick-2.ensures.kept c.in_ok-is_pointer.ensures.made c.pick-3.ensures.kept c.in_ok-block.ensures.made c.pick-4.ensures.kept c.in_ok-number.ensures.made
