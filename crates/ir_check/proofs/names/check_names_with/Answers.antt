use Rattle.ir_check.proofs.Common.{inl, inr}
use Rattle.ir_check.proofs.names.check_names_with.Goals as goal

pub returns-in-Some-clause-refused : goal.returns-in-Some-clause-refused
returns-in-Some-clause-refused c =
    let first = rw (c.as_slice-sites.ensures, c.requires.sites) at c.in-Some.ensures in
    inl (record { site = c.in-Some.site; first = record { fails = first.0; first = first.1 }; told = c.refusal_at.ensures })

pub first_unknown-requires-clause-once : goal.first_unknown-requires-clause-once
first_unknown-requires-clause-once c = c.in_default.ensures

pub returns-in-Some-first_unknown-clause-refused : goal.returns-in-Some-first_unknown-clause-refused
returns-in-Some-first_unknown-clause-refused c =
    let once = rw (c.as_slice-sites.ensures, c.requires.sites) at c.in_default.ensures in
    let first = rw (c.as_slice-sites.ensures, c.requires.sites) at c.in-Some-first_unknown.ensures in
    inr (once, record { site = c.in-Some-first_unknown.site; first = record { fails = first.0; first = first.1 }; told = c.refusal_at-in-Some-first_unknown.ensures })

pub returns-clause-passes : goal.returns-clause-passes
returns-clause-passes c =
    (rw (c.as_slice-sites.ensures, c.requires.sites) at c.in_default.ensures, rw (c.as_slice-sites.ensures, c.requires.sites) at c.in_default-first_unknown.ensures)
