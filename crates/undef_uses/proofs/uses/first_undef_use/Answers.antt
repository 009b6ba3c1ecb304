use Rattle.std.proofs.Common.{◌≡◌, true, length, ap, arith}
use borrow.Author.Count.{below_more}
use Rattle.ir_tree.specs.Sites.{sites}
use Rattle.ir_tree.specs.Carrying.{UsesUndef}
use Rattle.ir_tree.proofs.Failures.{failure, no_failure}
use Rattle.undef_uses.proofs.UseLemmas.{use_within}
use Rattle.undef_uses.proofs.uses.first_undef_use.Goals as goal

pub returns-then-uses_undef : goal.returns-then-uses_undef
returns-then-uses_undef c = failure (UsesUndef c.args.f.now) c.loop-n.n (c.uses_undef.ensures.0 c.if-uses_undef.true) c.loop-n.invariant

pub loop-n-preserved : goal.loop-n-preserved
loop-n-preserved c = below_more _ _ c.loop-n.invariant (λ d. absurd (let found : c.uses_undef.result ≡ true = c.uses_undef.ensures.1 d in cc))

pub returns : goal.returns
returns c = no_failure (UsesUndef c.args.f.now) (length (sites c.args.f.now)) (λ k d. use_within c.args.f.now k d) (λ k below. c.loop-n.invariant k (let long = ap length c.requires.listed.all in omega (arith, below, long)))
