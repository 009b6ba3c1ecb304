use Rattle.encoder.proofs.Common.{◌≡◌, ◌+◌, ◌∙◌, suc, replicate, ap, arith, None}
use Rattle.encoder.proofs.Whole.{snoc}
use Rattle.encoder.proofs.function_run.nothing_known.Goals as goal

pub loop-preserved : goal.loop-preserved
loop-preserved c =
    let n : c.loop.counter + 1 ≡ suc c.loop.counter = omega arith in
    record { within = omega arith; made = rw (n, snoc) (rw (← c.loop.invariant.made) c.in_ok-push.ensures.items) }

pub returns : goal.returns
returns c =
    let n : c.loop.counter ≡ c.args.copies = omega arith in
    c.from_vec.ensures ∙ c.loop.invariant.made ∙ ap (λ k. replicate k None) n
