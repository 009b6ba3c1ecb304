use Rattle.term_rules.proofs.Common.{◌<◌, ◌≤◌, ◌^◌, arith, subst, term_at, tree_in, width_of, pow-le}
use Rattle.term_rules.proofs.shrinking.shrunk_pair.Goals as goal

pub returns-then-width-clause-fits : goal.returns-then-width-clause-fits
returns-then-width-clause-fits c v =
    let terms = c.args.terms.now in
    let first = width_of (tree_in terms c.in_ok-first.first) in
    let second = width_of (tree_in terms c.in_ok-second.second) in
    let small : term_at v terms c.in_ok-second.second < 2 ^ second = c.values_fit.ensures v c.in_ok-second.second c.in_ok-second.ensures.within in
    let narrow : second ≤ first = omega (arith, c.if-width.true, c.width.ensures.width, c.width-width.ensures.width) in
    let more : 2 ^ second ≤ 2 ^ first = pow-le second first narrow in
    subst (λ n. n < 2 ^ first) (c.in_ok-second.ensures.says v) (let less : term_at v terms c.in_ok-second.second < 2 ^ first = omega (arith, small, more) in less)
