use Rattle.ir_numbering.proofs.Common.{◌≡◌, ◌∷◌, into_iter_items, entry_in, each_in}
use Rattle.ir_numbering.proofs.Each.{each-more}
use Rattle.ir_numbering.proofs.block_numbering.entries.Goals as goal

pub loop-one-preserved : goal.loop-one-preserved
loop-one-preserved c =
    let e : into_iter_items c.loop-one.one-iterator ≡ c.in-Some.one ∷ into_iter_items c.next.new.self = c.in-Some.ensures.steps.0 in
    let kept = each-more entry_in c.loop-one.names c.entry.new.names c.in-Some.one _ _ c.loop-one.numbered.items c.in_ok-entry.field-0 (each_in entry_in c.args.names.now c.args.entries) e c.in_ok-entry.ensures c.loop-one.invariant in
    rw c.in_ok-push.ensures.items kept
