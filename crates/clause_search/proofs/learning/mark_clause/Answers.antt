-- One more variable is marked.
use Rattle.clause_search.proofs.Common.{◌<◌, ◌++◌, ◌∙◌, List, length, arith, false, get_or, subst, ap, length-set, take_all, slice_get_within, Lit, Has, AreMarked}
use Rattle.clause_search.proofs.Walking.{has-index, marked-step}
use Rattle.clause_search.proofs.learning.mark_clause.Goals as goal

pub unreachable-requires : goal.unreachable-requires
unreachable-requires c =
    let d : Lit = record { variable = 0; positive = false } in
    let items = c.literals-literal-items.result.now in
    let x = get_or items c.loop-literal.literal-index d in
    let has = subst (λ (ls : List Lit). Has ls x) c.literals-literal-items.ensures.value (has-index items c.loop-literal.literal-index d c.loop-literal-test.true) in
    let stands = c.requires.assigned x has in
    c.in_default.ensures.place stands.0 stands.1 stands.2

pub mark-requires-clause-within : goal.mark-requires-clause-within
mark-requires-clause-within c =
    let there = c.in-Some.ensures.place.0 in
    let lt = slice_get_within c.args.trail.now c.in-Some.place there.0 there.1 in
    omega (arith, lt, c.loop-literal.invariant.0)

pub loop-literal-preserved : goal.loop-literal-preserved
loop-literal-preserved c =
    let d : Lit = record { variable = 0; positive = false } in
    let there = c.in-Some.ensures.place.0 in
    let lt = slice_get_within c.args.trail.now c.in-Some.place there.0 there.1 in
    let within : c.in-Some.place < length c.loop-literal.marks.marked.items = omega (arith, lt, c.loop-literal.invariant.0) in
    let set_is = c.in_ok-mark.ensures.marked in (
      ap length set_is ∙ (length-set c.loop-literal.marks.marked.items c.in-Some.place _ ∙ c.loop-literal.invariant.0),
      c.in_ok-mark.ensures.counted,
      λ ls are. marked-step c.args.trail.now ls c.literals-literal-items.result.now c.loop-literal.literal-index d c.loop-literal.marks.marked.items c.mark.new.self.marked.items c.in-Some.place
          c.loop-literal-test.true c.in-Some.ensures.place within set_is (c.loop-literal.invariant.2 ls are),
    )

pub returns-clause-marked : goal.returns-clause-marked
returns-clause-marked c ls are =
    let items = c.literals-literal-items.result.now in
    let whole = take_all c.loop-literal.literal-index items c.loop-literal-test.false ∙ c.literals-literal-items.ensures.value in
    subst (λ (zs : List Lit). AreMarked c.args.trail.now (ls ++ zs) c.loop-literal.marks.marked.items) whole (c.loop-literal.invariant.2 ls are)
