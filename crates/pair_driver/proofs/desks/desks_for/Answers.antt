use Rattle.std.proofs.Common.{◌≡◌, ℕ, ◌+◌, ◌-◌, ◌*◌, ◌<◌, [], ap, ◌∙◌, arith}
use Rattle.std.proofs.lemmas.List.Elements.{All-append, All-cons, All-nil}
use Rattle.claim_board.specs.Board.{hand}
use Rattle.pair_driver.specs.Draws.{IsFresh}
use Rattle.pair_driver.proofs.desks.desks_for.Goals as goal

-- one part less of as many as are left
left_parts : (workers made part : ℕ) → made < workers → (workers - made) * part ≡ (workers - (made + 1)) * part + part
left_parts workers made part h =
    let e : workers - made ≡ (workers - (made + 1)) + 1 = omega arith in
    let more : (n : ℕ) → (n + 1) * part ≡ n * part + part = λ n. omega arith in
    ap (λ n. n * part) e ∙ more (workers - (made + 1))

pub desk_for-requires-clause-enough : goal.desk_for-requires-clause-enough
desk_for-requires-clause-enough c =
    let below : c.made.counter < c.args.workers = c.made-test.true in
    let parts = left_parts c.args.workers c.made.counter (c.args.count + 1) below in
    let held = ap (λ v. v.allowance) c.made.invariant.1 in
    omega arith

pub made-preserved : goal.made-preserved
made-preserved c =
    let below : c.made.counter < c.args.workers = c.made-test.true in
    let parts = left_parts c.args.workers c.made.counter (c.args.count + 1) below in
    let less : (c.args.workers - c.made.counter) * (c.args.count + 1) - (c.args.count + 1) ≡ (c.args.workers - (c.made.counter + 1)) * (c.args.count + 1) = omega arith in (
      c.in_ok-desk.ensures.seat,
      c.in_ok-desk.ensures.kept ∙ ap (λ v. hand v.drawn v.found v.passed (v.allowance - (c.args.count + 1))) c.made.invariant.1 ∙ ap (hand [] [] []) less,
      (let more = c.in_ok-push.ensures.len in let many = c.made.invariant.2 in omega arith),
      rw c.in_ok-push.ensures.items
          (All-append (IsFresh c.args.board.now c.args.count) c.made.desks.items _ c.made.invariant.3
          (All-cons (IsFresh c.args.board.now c.args.count) c.in_ok-desk.desk [] c.in_ok-desk.ensures.fresh (All-nil _))),
    )
