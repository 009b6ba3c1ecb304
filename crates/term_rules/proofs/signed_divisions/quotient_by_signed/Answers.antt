use Rattle.term_rules.proofs.Common.{refl, ap, arith, subst, ◌∙◌, ◌≡◌, tree_in, weight_of}
use Rattle.bv_terms.specs.declared.term.BinaryOp.TheVariants as op
use Rattle.bv_terms.specs.Tree as tree
use Rattle.term_rules.proofs.SignedRules.{signed_quotient, xor_bit, xor_bit_turned}
use Rattle.term_rules.proofs.signed_divisions.quotient_by_signed.Goals as goal

pub returns-in-Some : goal.returns-in-Some
returns-in-Some c =
    let terms = c.args.terms.now in
    let choice = c.in-Ite in
    let found = c.in-Binary-Xor-default-default-default in
    let one = c.if-width-eq1.true in
    let bits : tree.Binary op.Xor (tree_in terms found.s) (tree_in terms found.t) 1 ≡ tree_in terms choice.c =
    subst (λ k. tree.Binary op.Xor (tree_in terms found.s) (tree_in terms found.t) k ≡ tree_in terms choice.c) one (rw found.field-0-is at found.ensures.tree) in
    signed_quotient terms c.args.q choice.c choice.opposite choice.size found.s found.t c.args.a c.args.b choice.width c.in-Some.parts c.values_fit.ensures
    choice.ensures.tree choice.ensures.within.2 choice.ensures.matched.1 found.ensures.within.1 (found.ensures.matched.0 ∙ one)
    (xor_bit terms choice.c found.s found.t c.values_fit.ensures bits found.ensures.within.1 found.ensures.within.2 (found.ensures.matched.0 ∙ one) (found.ensures.matched.1 ∙ one))
    (omega (arith, ap weight_of bits)) (c.if-is_opposite.ensures refl) c.in-Some.ensures

pub returns-in-Some-sizes_divided : goal.returns-in-Some-sizes_divided
returns-in-Some-sizes_divided c =
    let terms = c.args.terms.now in
    let choice = c.in-Ite in
    let found = c.in-Binary-Xor-default-default-default in
    let one = c.if-width-eq1.true in
    let bits : tree.Binary op.Xor (tree_in terms found.s) (tree_in terms found.t) 1 ≡ tree_in terms choice.c =
    subst (λ k. tree.Binary op.Xor (tree_in terms found.s) (tree_in terms found.t) k ≡ tree_in terms choice.c) one (rw found.field-0-is at found.ensures.tree) in
    signed_quotient terms c.args.q choice.c choice.opposite choice.size found.t found.s c.args.a c.args.b choice.width c.in-Some-sizes_divided.parts c.values_fit.ensures
    choice.ensures.tree choice.ensures.within.2 choice.ensures.matched.1 found.ensures.within.2 (found.ensures.matched.1 ∙ one)
    (xor_bit_turned terms choice.c found.s found.t c.values_fit.ensures bits found.ensures.within.1 found.ensures.within.2 (found.ensures.matched.0 ∙ one) (found.ensures.matched.1 ∙ one))
    (omega (arith, ap weight_of bits)) (c.if-is_opposite.ensures refl) c.in-Some-sizes_divided.ensures
