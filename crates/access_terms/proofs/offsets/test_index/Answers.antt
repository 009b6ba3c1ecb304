use Rattle.access_terms.proofs.Common.{IfOk-weaker}
use Rattle.access_terms.proofs.Leading.{negative_stands, nonzero_stands}
use Rattle.access_terms.proofs.offsets.test_index.Goals as goal

pub returns-in_ok-is_zero-in-IsNonzero-clause-stands : goal.returns-in_ok-is_zero-in-IsNonzero-clause-stands
returns-in_ok-is_zero-in-IsNonzero-clause-stands c = rw c.in-IsNonzero.is (IfOk-weaker c.negation.result _ _ (λ id m v number. nonzero_stands v c.args.terms.now c.constant.new.terms c.args.index.now c.in_ok-zero-in-IsNonzero.zero _ _
    c.values_fit.ensures c.constant.ensures.kept c.requires c.args.index.now.width.at_least_1 number (c.in_ok-zero-in-IsNonzero.ensures.made.says v) (c.in_ok-is_zero-in-IsNonzero.ensures.made.says v) (m.says v)) c.negation.ensures.made)

pub returns-in_ok-most-in-IsNegative-clause-stands : goal.returns-in_ok-most-in-IsNegative-clause-stands
returns-in_ok-most-in-IsNegative-clause-stands c = rw c.in-IsNegative.is (IfOk-weaker c.less.result _ _ (λ id m v number. negative_stands v c.args.terms.now c.constant-in-IsNegative.new.terms c.args.index.now c.in_ok-most-in-IsNegative.most c.half.result _
    c.values_fit.ensures c.constant-in-IsNegative.ensures.kept c.requires c.args.index.now.width.at_least_1 number c.half.ensures.value (c.in_ok-most-in-IsNegative.ensures.made.says v) (m.says v)) c.less.ensures.made)
