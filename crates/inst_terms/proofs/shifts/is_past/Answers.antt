use Rattle.inst_terms.proofs.Chains.{past-stands}
use Rattle.inst_terms.proofs.Shifting.{width-below}
use Rattle.inst_terms.proofs.shifts.is_past.Goals as goal

pub constant-requires-clause-fits : goal.constant-requires-clause-fits
constant-requires-clause-fits c = rw (c.bits.ensures, c.bits-2.ensures) (width-below c.args.width.bits)

pub returns-clause-made : goal.returns-clause-made
returns-clause-made c =
    past-stands c.args.terms.now c.constant.new.terms c.less.new.terms c.negation.new.terms c.args.amount c.in_ok-digits.digits c.in_ok-below.below c.in_ok-id.id c.args.width.bits
    c.requires c.constant.ensures.kept (rw (c.bits.ensures, c.bits-2.ensures) at c.in_ok-digits.ensures.made) c.in_ok-below.ensures.made c.in_ok-id.ensures.made
