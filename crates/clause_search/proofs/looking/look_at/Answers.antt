-- Each literal is true, false or not assigned.
use Rattle.clause_search.proofs.Common.{◌<◌, length, arith, refl, false, subst, Lit, Stands}
use Rattle.clause_search.proofs.Seeing.{seen-at, seen-false}
use Rattle.clause_search.proofs.looking.look_at.Goals as goal

pub loop-literal-preserved-then-stands-2 : goal.loop-literal-preserved-then-stands-2
loop-literal-preserved-then-stands-2 c =
    let d : Lit = record { variable = 0; positive = false } in
    let lt : c.loop-literal.literal-index < length c.literals-literal-items.result.now = omega arith in
    let seen = seen-at c.args.trail.now c.args.clause.now c.literals-literal-items.result.now c.loop-literal.literal-index d c.loop-literal.free lt c.loop-literal.invariant in
    seen-false c.args.trail.now c.args.clause.now _ _ c.loop-literal.free seen
    (subst (λ (x : Lit). Stands c.args.trail.now x) c.opposite.ensures (c.if-stands-2.ensures.0 refl))
