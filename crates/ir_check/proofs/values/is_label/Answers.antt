use Rattle.ir_check.proofs.Common.{length, refl, slice_get_read}
use Rattle.ir_check.proofs.ValueLemmas.{first_label}
use Rattle.ir_check.proofs.values.is_label.Goals as goal

pub returns-in-Some : goal.returns-in-Some
returns-in-Some c =
    let first = rw c.in-Some.is at (c.requires.firsts.first.each c.args.name c.requires.within) in
    rw c.is_label_of.ensures (first_label c.args.sites.now c.args.name c.in-Some.first c.index-sites-first.result c.requires.once first
    (slice_get_read c.args.sites.now (length c.args.sites.now) c.in-Some.first c.index-sites-first.result refl first.0 c.index-sites-first.is))
