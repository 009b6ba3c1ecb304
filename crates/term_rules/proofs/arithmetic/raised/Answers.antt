-- Two numbers that are added one after the other are added at once.
use Rattle.term_rules.proofs.Common.{subst, tree_in, Simplifies}
use Rattle.bv_terms.specs.declared.term.BinaryOp.TheVariants as op
use Rattle.bv_terms.specs.Tree as tree
use Rattle.term_rules.proofs.SumRules.{raised_twice}
use Rattle.term_rules.proofs.arithmetic.raised.Goals as goal

pub returns-in-Some : goal.returns-in-Some
returns-in-Some c =
    let found = c.in-Binary-Add-default-default-default in
    raised_twice c.args.terms.now c.args.a found.inner found.b c.in-Some.first c.args.by found.field-3 c.args.width c.plus.result
    (rw found.field-0-is at found.ensures.tree) c.requires.wide c.in-Some.ensures.says
    (subst (λ k. Simplifies c.args.terms.now (tree.Binary op.Add (tree_in c.args.terms.now found.inner) (tree.Constant k c.args.width) c.args.width) c.plus.result) c.sum.ensures c.plus.ensures)
