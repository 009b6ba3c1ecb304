use Rattle.ir_check.proofs.Common.{length, refl, slice_get_read}
use Rattle.ir_check.proofs.ValueLemmas.{no_value, first_value}
use Rattle.ir_check.proofs.values.value_type.Goals as goal

pub returns-in-Some : goal.returns-in-Some
returns-in-Some c =
    let first = rw c.in-Some.is at (c.requires.firsts.first.each c.args.name c.requires.within) in
    rw c.defined_type.ensures (first_value c.args.sites.now c.args.name c.in-Some.first c.index-sites-first.result c.requires.once first
    (slice_get_read c.args.sites.now (length c.args.sites.now) c.in-Some.first c.index-sites-first.result refl first.0 c.index-sites-first.is))

pub returns-in-None : goal.returns-in-None
returns-in-None c = no_value c.args.sites.now c.args.name (rw c.in-None.is at (c.requires.firsts.first.each c.args.name c.requires.within))
