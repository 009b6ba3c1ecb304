-- One more literal.
use Rattle.clause_search.proofs.Common.{◌+◌, ◌∙◌, inl, inr, List, arith, false, get_or, refl, sym, subst, false≢true, Lit, opposite_of, Has}
use Rattle.clause_search.proofs.Seeing.{literal_eq-true, literal_eq-refl}
use Rattle.clause_search.proofs.Walking.{has-index}
use Rattle.clause_search.proofs.Jumping.{past-skip-at, past-more-at}
use Rattle.clause_search.proofs.learning.place_past.Goals as goal

pub unreachable-requires : goal.unreachable-requires
unreachable-requires c =
    let d : Lit = record { variable = 0; positive = false } in
    let items = c.literals-other-items.result.now in
    let x = get_or items c.loop-other.other-index d in
    let has = subst (λ (ls : List Lit). Has ls x) c.literals-other-items.ensures.value (has-index items c.loop-other.other-index d c.loop-other-test.true) in
    elim (c.requires x has) [
      | inl e ↦ absurd (false≢true (sym c.if-is_same.false ∙ (c.is_same.ensures ∙ literal_eq-refl x c.args.literal e)))
      | inr s ↦ c.in_default.ensures.place (opposite_of x) s refl
    ]

pub overflow_add-past : goal.overflow_add-past
overflow_add-past c = let lt = c.in-Some.ensures.within in omega (arith, lt)

pub loop-other-preserved-then-is_same : goal.loop-other-preserved-then-is_same
loop-other-preserved-then-is_same c =
    let d : Lit = record { variable = 0; positive = false } in
    let items = c.literals-other-items.result.now in
    let x = get_or items c.loop-other.other-index d in
    past-skip-at c.args.trail.now c.args.clause.now c.args.literal items c.loop-other.other-index d c.loop-other.past c.loop-other-test.true
    (literal_eq-true x c.args.literal (sym c.is_same.ensures ∙ c.if-is_same.true)) c.loop-other.invariant

pub loop-other-preserved-then-place-past : goal.loop-other-preserved-then-place-past
loop-other-preserved-then-place-past c =
    let d : Lit = record { variable = 0; positive = false } in
    let items = c.literals-other-items.result.now in
    let x = get_or items c.loop-other.other-index d in
    past-more-at c.args.trail.now c.args.clause.now c.args.literal items c.loop-other.other-index d c.loop-other.past c.loop-other.past c.in-Some.place c.loop-other-test.true c.requires
    (λ e. false≢true (sym c.if-is_same.false ∙ (c.is_same.ensures ∙ literal_eq-refl x c.args.literal e))) c.in-Some.ensures.place
    (omega arith) c.if-place-past.true (λ n a b. a) c.loop-other.invariant

pub loop-other-preserved : goal.loop-other-preserved
loop-other-preserved c =
    let d : Lit = record { variable = 0; positive = false } in
    let items = c.literals-other-items.result.now in
    let x = get_or items c.loop-other.other-index d in
    let le = c.if-place-past.false in
    past-more-at c.args.trail.now c.args.clause.now c.args.literal items c.loop-other.other-index d c.loop-other.past (c.in-Some.place + 1) c.in-Some.place c.loop-other-test.true c.requires
    (λ e. false≢true (sym c.if-is_same.false ∙ (c.is_same.ensures ∙ literal_eq-refl x c.args.literal e))) c.in-Some.ensures.place
    (omega (arith, le)) (omega arith) (λ n a b. omega (arith, b)) c.loop-other.invariant
