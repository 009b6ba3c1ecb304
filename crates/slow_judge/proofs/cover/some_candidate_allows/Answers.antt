use Rattle.slow_judge.proofs.Common.{sym, ◌∙◌, SHIFTS}
use Rattle.slow_judge.proofs.Covering.{some_found, tried_first, tried_later}
use Rattle.slow_judge.proofs.cover.some_candidate_allows.Goals as goal

pub returns-then-is_some-clause-value : goal.returns-then-is_some-clause-value
returns-then-is_some-clause-value c =
    let some = sym (some_found c.args.pair.now c.args.bounds.now c.args.point.now SHIFTS c.in_ok-first_cover.field-0 c.in_ok-first_cover.ensures.found) ∙ sym c.is_some.ensures ∙ c.if-is_some.true in
    sym (tried_first c.args.pair.now c.args.bounds.now c.args.point.now c.args.bench.now.templates.items c.requires.ready.templates c.requires.args some)

pub returns-clause-value : goal.returns-clause-value
returns-clause-value c =
    let none = sym (some_found c.args.pair.now c.args.bounds.now c.args.point.now SHIFTS c.in_ok-first_cover.field-0 c.in_ok-first_cover.ensures.found) ∙ sym c.is_some.ensures ∙ c.if-is_some.false in
    let found = rw c.as_slice-templates.ensures.value at c.in_ok-found.ensures.found in
    c.is_some-2.ensures ∙ some_found c.args.pair.now c.args.bounds.now c.args.point.now c.args.bench.now.templates.items c.in_ok-found.found found
    ∙ sym (tried_later c.args.pair.now c.args.bounds.now c.args.point.now c.args.bench.now.templates.items c.requires.ready.templates c.requires.args none)
