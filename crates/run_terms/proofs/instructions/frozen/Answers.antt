use Rattle.run_terms.proofs.Freezing.{frozen-stands}
use Rattle.run_terms.proofs.instructions.frozen.Goals as goal

pub returns-clause-stands : goal.returns-clause-stands
returns-clause-stands c =
    frozen-stands c.args.terms.now c.pick.new.terms c.pick-2.new.terms c.pick-3.new.terms c.truth.new.terms c.in_ok-poison.poison c.in_ok-is_pointer.is_pointer c.in_ok-block.block c.in_ok-number.number c.args.value c.args.choice c.requires.value c.requires.choice c.requires.defined
    c.pick.ensures.kept c.in_ok-is_pointer.ensures.made c.pick-2.ensures.kept c.in_ok-block.ensures.made c.pick-3.ensures.kept c.in_ok-number.ensures.made c.truth.ensures.kept c.in_ok-poison.ensures.made
