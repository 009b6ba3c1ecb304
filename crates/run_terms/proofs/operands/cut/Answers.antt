use Rattle.run_terms.proofs.Cutting.{cut-stands}
use Rattle.run_terms.proofs.operands.cut.Goals as goal

pub returns-clause-stands : goal.returns-clause-stands
returns-clause-stands c = rw (← c.bits.ensures)
    (cut-stands c.args.terms.now c.resize.new.terms c.resize-2.new.terms c.args.n c.in_ok-low.low c.in_ok-number.number c.bits.result (rw c.bits.ensures c.args.width.at_most_64)
    c.requires c.resize.ensures.kept c.in_ok-low.ensures.made c.resize-2.ensures.kept c.in_ok-number.ensures.made)
