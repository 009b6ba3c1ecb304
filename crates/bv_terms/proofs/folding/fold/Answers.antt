-- The folder's step gives the answer for the next tree, and keeps the earlier ones.
use Rattle.std.proofs.Common.{◌∙◌, ◌<◌, [], ap, not, length, arith}
use Rattle.bv_terms.specs.declared.term.Term.TheVariants as term
use Rattle.bv_terms.proofs.Zips.{AllZip-weaker, length-AllZip, AllZip-push, IsStage-fit, IsStage-more, stage_start}
use Rattle.bv_terms.proofs.folding.fold.Goals as goal

pub loop-term-preserved : goal.loop-term-preserved
loop-term-preserved g c =
    let stage = c.loop-term.invariant in
    let trees = stage.0 in
    let lt : c.loop-term.term-index < length c.as_slice-term-items.result.now = omega arith in
    let fit = IsStage-fit _ _ trees c.loop-term.term-index (term.Constant 0 0) lt stage.1 in
    let pushed = rw (c.is_err.ensures.negation ∙ ap not c.if-is_err.false) at c.push.ensures.items in
    let told = c.in-Ok.ensures.stands trees (rw c.deref.ensures.value stage.2) fit in
    let more = c.in-Ok.ensures.follows in
    let kept = AllZip-weaker (g.F.TermFold.stands c.loop-term.folder) (g.F.TermFold.stands c.node.new.self)
    (λ t o h. g.met.F.TermFold.keeps c.loop-term.folder c.node.new.self t o more h) trees c.loop-term.outs.items stage.2 in (
      _,
      IsStage-more _ _ trees c.loop-term.term-index (term.Constant 0 0) lt stage.1,
      rw pushed (AllZip-push (g.F.TermFold.stands c.node.new.self) trees c.loop-term.outs.items _ c.in-Ok.out kept told),
      g.met.F.TermFold.goes_on _ c.loop-term.folder c.node.new.self stage.3 more,
    )

pub node-requires-clause-within : goal.node-requires-clause-within
node-requires-clause-within g c =
    let stage = c.loop-term.invariant in
    let lt : c.loop-term.term-index < length c.as_slice-term-items.result.now = omega arith in
    let fit = IsStage-fit _ _ stage.0 c.loop-term.term-index (term.Constant 0 0) lt stage.1 in
    let same = length-AllZip (g.F.TermFold.stands c.loop-term.folder) stage.0 c.loop-term.outs.items stage.2 in
    rw c.deref.ensures.value (rw same at fit.within)

pub loop-term-init : goal.loop-term-init
loop-term-init g c = (
  [],
  rw c.as_slice-term-items.ensures.value (stage_start c.args.terms.now c.as_slice-term-items.ensures.fit),
  rw c.new-outs.ensures.items tt,
  g.met.F.TermFold.stays c.args.folder.now,
)
