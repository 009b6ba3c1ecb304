-- Two numbers that are joined fit the width of both.
use Rattle.term_rules.proofs.Common.{ℕ, ◌≡◌, ◌<◌, ◌≤◌, ◌+◌, ◌*◌, ◌^◌, arith, subst, mul-add-lt, pow-le}
use Rattle.std.proofs.Common.{pow-add}
use Rattle.term_rules.proofs.building.folded.Goals as goal

joined_fits : (x y above below width : ℕ) → x < 2 ^ above → y < 2 ^ below → above + below ≡ width → width ≤ 128 → x * 2 ^ below + y < 2 ^ 128
joined_fits x y above below width lx ly e most =
    let joined : x * 2 ^ below + y < 2 ^ below * 2 ^ above = mul-add-lt x (2 ^ below) y (2 ^ above) lx ly in
    let whole : 2 ^ (below + above) ≡ 2 ^ below * 2 ^ above = pow-add 2 below above in
    let less : 2 ^ (below + above) ≤ 2 ^ 128 = pow-le (below + above) 128 (omega arith) in
    omega (arith, joined, whole, less)

pub joined-requires-clause-fits : goal.joined-requires-clause-fits
joined-requires-clause-fits c =
    let matched = rw c.in-Concat.is at c.requires.matched in
    let within = rw c.in-Concat.is at c.requires.within in
    joined_fits c.in_ok-x-in-Concat.x c.in_ok-x-in-Concat.y _ c.in-Concat.below c.in-Concat.width c.in_ok-x-in-Concat.ensures.0.fits
    (subst (λ k. c.in_ok-x-in-Concat.y < 2 ^ k) matched.0 c.in_ok-x-in-Concat.ensures.1.fits) matched.1 within.0.1
