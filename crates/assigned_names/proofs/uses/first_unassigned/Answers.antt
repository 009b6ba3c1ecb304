use Rattle.std.proofs.Common.{◌≡◌, true, length, ap, arith}
use borrow.Author.Count.{below_more}
use Rattle.ir_tree.specs.Sites.{sites}
use Rattle.ir_tree.specs.WellFormed.{UsesUnassigned}
use Rattle.ir_tree.proofs.Failures.{failure, no_failure}
use Rattle.assigned_names.proofs.UseLemmas.{use_within}
use Rattle.assigned_names.proofs.uses.first_unassigned.Goals as goal

pub returns-then-uses_unassigned : goal.returns-then-uses_unassigned
returns-then-uses_unassigned c = failure (UsesUnassigned c.args.f.now) c.loop-n.n (c.uses_unassigned.ensures.0 c.if-uses_unassigned.true) c.loop-n.invariant

pub loop-n-preserved : goal.loop-n-preserved
loop-n-preserved c = below_more _ _ c.loop-n.invariant (λ d. absurd (let found : c.uses_unassigned.result ≡ true = c.uses_unassigned.ensures.1 d in cc))

pub returns : goal.returns
returns c = no_failure (UsesUnassigned c.args.f.now) (length (sites c.args.f.now)) (λ k d. use_within c.args.f.now k d) (λ k below. c.loop-n.invariant k (let long = ap length c.requires.known.all in omega (arith, below, long)))
