-- One step after another, from the last one down.
use Rattle.log_tidy.proofs.Common.{ℕ, ◌≡◌, ◌<◌, ◌+◌, ◌-◌, ◌∙◌, List, false, length, arith, refl, subst, sym, ap, get_or_from_slice_get, slice_get_read, Step, AreMarked, IsMarking}
use Rattle.log_tidy.proofs.Marked.{marks-skip, marks-step}
use Rattle.log_tidy.proofs.marking.marks.Goals as goal

pub loop-index-preserved-then-get : goal.loop-index-preserved-then-get
loop-index-preserved-then-get c =
    let log = c.args.log.now in
    let used = c.loop-index.used in
    let j = c.loop-index.index - 1 in
    let back : c.loop-index.index ≡ j + 1 = omega (arith, c.loop-index-test.true) in
    let lt : j < length log = omega (arith, c.loop-index-test.true, c.loop-index.auto.index) in
    let step = c.index-log-index.result in
    marks-step c.args.count log j used c.mark.new.used step (slice_get_read log (length log) j step refl lt c.index-log-index.is) (c.requires.sound j lt)
    (get_or_from_slice_get used j c.get.result.now false c.get.ensures ∙ c.if-get.true)
    (subst (λ (ns : List ℕ). IsMarking c.args.count ns used c.mark.new.used) (c.as_slice.ensures ∙ ap (λ (s : Step). s.chain) (sym c.index-log-index.is)) c.mark.ensures)
    (subst (λ (n : ℕ). AreMarked c.args.count log n used) back c.loop-index.invariant)

pub loop-index-preserved : goal.loop-index-preserved
loop-index-preserved c =
    let log = c.args.log.now in
    let used = c.loop-index.used in
    let j = c.loop-index.index - 1 in
    let back : c.loop-index.index ≡ j + 1 = omega (arith, c.loop-index-test.true) in
    marks-skip c.args.count log j used (get_or_from_slice_get used j c.get.result.now false c.get.ensures ∙ c.if-get.false)
    (subst (λ (n : ℕ). AreMarked c.args.count log n used) back c.loop-index.invariant)
