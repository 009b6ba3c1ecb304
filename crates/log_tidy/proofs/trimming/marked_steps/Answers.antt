-- A marked step is kept, another is left out.
use Rattle.log_tidy.proofs.Common.{ℕ, ◌≡◌, ◌+◌, ◌++◌, ◌∷◌, [], ◌∙◌, List, Some, false, length, arith, ap, refl, subst, slice_get, get_or_from_slice_get, slice_get_read, Step, renumbered_step, AreKept}
use Rattle.log_tidy.proofs.Kept.{kept-all, kept-as, kept-push, kept-skip}
use Rattle.log_tidy.proofs.trimming.marked_steps.Goals as goal
use Rattle.log_tidy.proofs.trimming.marked_steps.Goals.{then-get+in_ok-renumbered_step+in_ok-push, else-get}

pub loop-index-preserved : goal.loop-index-preserved
loop-index-preserved c =
    let clauses = c.args.clauses.now in
    let log = c.args.log.now in
    let used = c.args.used.now in
    let index = c.loop-index.index in
    let numbers = c.loop-index.numbers.items in
    let kept = c.loop-index.kept in
    let step = c.index-log-index.result in
    let here : slice_get log index ≡ Some step = slice_get_read log (length log) index step refl c.loop-index-test.true c.index-log-index.is in
    let others = c.push-in-loop-index.new.self.items in
    elim c.if-get.branch [
      | then-get+in_ok-renumbered_step+in_ok-push w ↦
          let moved = renumbered_step (length clauses) numbers step in
          let is : w.in_ok-renumbered_step.field-0 ≡ moved =
          w.in_ok-renumbered_step.ensures ∙ ap (λ (ns : List ℕ). renumbered_step (length clauses) ns step) w.deref.ensures.value in
          kept-as clauses log used (index + 1) numbers others (kept ++ moved ∷ []) c.if-get.kept c.len.result
          (w.kept-is ∙ (w.in_ok-push.ensures.ok ∙ ap (λ (s : Step). kept ++ s ∷ []) is)) c.len.ensures c.in_ok-push-2.ensures.items
          (kept-push clauses log used c.requires.refutes c.requires.marked index numbers kept step here c.loop-index.invariant
          (get_or_from_slice_get used index c.get.result.now false c.get.ensures ∙ w.if-get.true))
      | else-get w ↦
          kept-as clauses log used (index + 1) numbers others kept c.if-get.kept c.len.result w.kept-is c.len.ensures c.in_ok-push-2.ensures.items
          (kept-skip clauses log used c.requires.refutes c.requires.marked index numbers kept step here c.loop-index.invariant
          (get_or_from_slice_get used index c.get.result.now false c.get.ensures ∙ w.if-get.false))
    ]

pub returns : goal.returns
returns c =
    let log = c.args.log.now in
    let whole : c.loop-index.index ≡ length log = omega (arith, c.loop-index-test.false, c.loop-index.auto.index-end) in
    kept-all c.args.clauses.now log c.args.used.now c.requires.refutes c.requires.marked c.loop-index.numbers.items c.loop-index.kept
    (subst (λ (n : ℕ). AreKept c.args.clauses.now log c.args.used.now n c.loop-index.numbers.items c.loop-index.kept) whole c.loop-index.invariant)
