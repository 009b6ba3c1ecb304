use Rattle.memory_access.proofs.Common.{◌+ℤ◌, pos, ap, sym, ◌∙◌, is_outside}
use Rattle.memory_access.proofs.Sums.{sum-128}
use Rattle.memory_access.proofs.offsets.next_sum.Goals as goal

pub returns-then-is_past : goal.returns-then-is_past
returns-then-is_past c =
    let added = c.scaled_index.ensures in
    let sum = sum-128 c.args.sum c.scaled_index.result c.ranges.sum.fits added.low added.high ∙ ap (λ y. pos c.args.sum +ℤ y) added.value in
    sym (c.is_past.ensures ∙ ap (is_outside c.args.size) sum) ∙ c.if-is_past.true
