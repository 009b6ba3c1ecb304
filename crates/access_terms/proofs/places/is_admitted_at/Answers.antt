use Rattle.access_terms.proofs.Common.{◌∙◌, nat_eq, sym, bit_at, term_at}
use Rattle.access_terms.proofs.BlockLengths.{elsewhere_stands, fits_stands, unaligned_stands}
use Rattle.access_terms.proofs.places.is_admitted_at.Goals as goal

pub returns-then-not-is_aligned-clause-stands : goal.returns-then-not-is_aligned-clause-stands
returns-then-not-is_aligned-clause-stands c = λ r.
    unaligned_stands r c.args.terms.now c.truth.new.terms c.in_ok-never.never c.args.b.now (nat_eq (term_at r.v c.args.terms.now c.args.offset) c.args.place) c.args.place c.args.count c.args.align
    c.in_ok-never.ensures.made (sym c.is_aligned.ensures ∙ c.if-not-is_aligned.true)

pub returns-then-is_never-clause-stands : goal.returns-then-is_never-clause-stands
returns-then-is_never-clause-stands c = λ r.
    elsewhere_stands (bit_at r.v c.is_at.new.terms c.in_ok-here.here) (nat_eq (term_at r.v c.args.terms.now c.args.offset) c.args.place) _ (c.in_ok-here.ensures.made.says r.v) (c.is_never.ensures c.if-is_never.true r.v)

pub returns-clause-stands : goal.returns-clause-stands
returns-clause-stands c = λ r.
    fits_stands c.args.terms.now c.is_at.new.terms c.number.new.terms c.less.new.terms c.negation.new.terms c.both.new.terms c.args.offset c.in_ok-here.here c.in_ok-end.end c.in_ok-is_short.is_short c.in_ok-fits.fits c.in_ok-is_admitted.is_admitted c.args.b.now
    c.args.place c.args.count c.args.align c.requires.block c.requires.room (sym c.is_aligned.ensures ∙ c.if-not-is_aligned.false)
    c.is_at.ensures.kept c.in_ok-here.ensures.made c.number.ensures.kept c.in_ok-end.ensures.made c.less.ensures.kept c.in_ok-is_short.ensures.made c.negation.ensures.kept c.in_ok-fits.ensures.made c.in_ok-is_admitted.ensures.made r
