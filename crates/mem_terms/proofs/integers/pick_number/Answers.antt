use Rattle.mem_terms.proofs.Made.{pick_number-stands}
use Rattle.mem_terms.proofs.integers.pick_number.Goals as goal

pub returns-clause-stands : goal.returns-clause-stands
returns-clause-stands c =
    pick_number-stands c.args.terms.now c.pick.new.terms c.pick-2.new.terms c.args.c c.in_ok-poison.poison c.in_ok-number.number c.args.a c.args.b c.requires.c c.requires.a c.requires.b
    c.pick.ensures.kept c.pick-2.ensures.kept c.in_ok-poison.ensures.made c.in_ok-number.ensures.made
