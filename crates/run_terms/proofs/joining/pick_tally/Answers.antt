use Rattle.run_terms.proofs.Joined.{tally_goes, tally_stays}
use Rattle.run_terms.proofs.joining.pick_tally.Goals as goal

pub returns-clause-goes : goal.returns-clause-goes
returns-clause-goes c = tally_goes c.args.terms.now c.pick.new.terms c.pick-2.new.terms c.args.c c.in_ok-read.read c.in_ok-fits.fits c.args.a c.args.b _ _
    c.requires.c c.requires.a c.requires.b c.pick.ensures.kept c.pick-2.ensures.kept c.in_ok-read.ensures.made c.in_ok-fits.ensures.made

pub returns-clause-stays : goal.returns-clause-stays
returns-clause-stays c = tally_stays c.args.terms.now c.pick.new.terms c.pick-2.new.terms c.args.c c.in_ok-read.read c.in_ok-fits.fits c.args.a c.args.b _ _
    c.requires.c c.requires.a c.requires.b c.pick.ensures.kept c.pick-2.ensures.kept c.in_ok-read.ensures.made c.in_ok-fits.ensures.made
