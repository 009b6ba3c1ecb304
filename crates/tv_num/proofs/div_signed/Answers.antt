use Rattle.std.proofs.Common.{int_div, refl, ◌∙◌, FitsSigned, w64}
use Rattle.std.proofs.lemmas.Int.{quot_is}
use Rattle.tv_num.proofs.Division.{signed_fits, divisor_some, signed_quotient_fits, bits_fit}
use Rattle.tv_num.proofs.div_signed.Goals as goal

pub nonzero_div-result : goal.nonzero_div-result
nonzero_div-result c =
    let w = c.args.w in
    let left : FitsSigned w64 c.signed-a.result = rw c.signed-a.ensures (signed_fits w c.args.a c.requires.left) in
    let right : FitsSigned w64 c.signed-b.result = rw c.signed-b.ensures (signed_fits w c.args.b c.requires.right) in
    let quotient : FitsSigned w64 (int_div c.signed-a.result c.signed-b.result) =
    rw (c.signed-a.ensures, c.signed-b.ensures) (signed_quotient_fits w c.args.a c.args.b c.requires.left c.requires.right c.requires.room)
    in
    (rw c.signed-b.ensures (divisor_some w c.args.b c.requires.right c.requires.some), bits_fit c.signed-a.result c.signed-b.result left right quotient)

pub nonzero_rem-result : goal.nonzero_rem-result
nonzero_rem-result c = nonzero_div-result c

pub returns-clause-quotient : goal.returns-clause-quotient
returns-clause-quotient c =
    let w = c.args.w in
    let left : FitsSigned w64 c.signed-a.result = rw c.signed-a.ensures (signed_fits w c.args.a c.requires.left) in
    let right : FitsSigned w64 c.signed-b.result = rw c.signed-b.ensures (signed_fits w c.args.b c.requires.right) in
    let quotient : FitsSigned w64 (int_div c.signed-a.result c.signed-b.result) =
    rw (c.signed-a.ensures, c.signed-b.ensures) (signed_quotient_fits w c.args.a c.args.b c.requires.left c.requires.right c.requires.room)
    in
    quot_is w64 c.signed-a.result c.signed-b.result left right quotient ∙ rw (c.signed-a.ensures, c.signed-b.ensures) refl
