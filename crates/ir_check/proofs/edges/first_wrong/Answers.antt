use Rattle.ir_check.proofs.Common.{◌≡◌, ◌∙◌, true, length, arith, ap, below_more, sites, HasWrongEdge, failure, no_failure}
use Rattle.ir_check.proofs.PredecessorLemmas.{wrong_within}
use Rattle.ir_check.proofs.edges.first_wrong.Goals as goal

pub returns-then-has_wrong_edge : goal.returns-then-has_wrong_edge
returns-then-has_wrong_edge c = failure (HasWrongEdge c.args.f.now) c.loop-n.n (c.has_wrong_edge.ensures.wrong.0 c.if-has_wrong_edge.true) c.loop-n.invariant.none

pub loop-n-preserved : goal.loop-n-preserved
loop-n-preserved c = record {
  marks = c.has_wrong_edge.ensures.marks ∙ c.loop-n.invariant.marks;
  none = below_more _ _ c.loop-n.invariant.none (λ d. absurd (let found : c.has_wrong_edge.result ≡ true = c.has_wrong_edge.ensures.wrong.1 d in cc));
}

pub returns : goal.returns
returns c = no_failure (HasWrongEdge c.args.f.now) (length (sites c.args.f.now)) (λ k d. wrong_within c.args.f.now k d) (λ k below. c.loop-n.invariant.none k (let long = ap length c.requires.all in omega (arith, below, long)))
