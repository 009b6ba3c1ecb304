use Rattle.inst_terms.proofs.Operations.{sum-row, difference-row, product-row, quotient-row, remainder-row, signed_quotient-row, signed_remainder-row, shift_left-row, logical-row, arithmetic-row, and-row, or-row, xor-row, made_both, made_of}
use Rattle.inst_terms.proofs.binary_operations.on_numbers.Goals as goal

pub returns-in_err-sum-in-Add-clause-kept : goal.returns-in_err-sum-in-Add-clause-kept
returns-in_err-sum-in-Add-clause-kept c = c.sum.ensures.kept

pub returns-in_ok-sum-in-Add-clause-made : goal.returns-in_ok-sum-in-Add-clause-made
returns-in_ok-sum-in-Add-clause-made c = made_both c.sum.new.terms c.args.width.bits c.in_ok-sum-in-Add.sum c.in_ok-sum-in-Add.ensures.poison c.in_ok-sum-in-Add.ensures.number

pub returns-in_ok-sum-in-Add-clause-stands : goal.returns-in_ok-sum-in-Add-clause-stands
returns-in_ok-sum-in-Add-clause-stands c = rw c.in-Add.is
    (sum-row c.args.terms.now c.sum.new.terms c.args.width.bits c.args.poison c.args.a c.args.b c.in_ok-sum-in-Add.sum c.args.width.at_least_1 c.values_fit.ensures c.requires.a c.requires.b c.in-Add.flags c.in_ok-sum-in-Add.ensures.poison c.in_ok-sum-in-Add.ensures.number)

pub returns-in_ok-sum-in-Add-clause-kept : goal.returns-in_ok-sum-in-Add-clause-kept
returns-in_ok-sum-in-Add-clause-kept c = c.sum.ensures.kept

pub returns-in_err-difference-in-Sub-clause-kept : goal.returns-in_err-difference-in-Sub-clause-kept
returns-in_err-difference-in-Sub-clause-kept c = c.difference.ensures.kept

pub returns-in_ok-difference-in-Sub-clause-made : goal.returns-in_ok-difference-in-Sub-clause-made
returns-in_ok-difference-in-Sub-clause-made c = made_both c.difference.new.terms c.args.width.bits c.in_ok-difference-in-Sub.difference c.in_ok-difference-in-Sub.ensures.poison c.in_ok-difference-in-Sub.ensures.number

pub returns-in_ok-difference-in-Sub-clause-stands : goal.returns-in_ok-difference-in-Sub-clause-stands
returns-in_ok-difference-in-Sub-clause-stands c = rw c.in-Sub.is
    (difference-row c.args.terms.now c.difference.new.terms c.args.width.bits c.args.poison c.args.a c.args.b c.in_ok-difference-in-Sub.difference c.args.width.at_least_1 c.values_fit.ensures c.requires.a c.requires.b c.in-Sub.flags c.in_ok-difference-in-Sub.ensures.poison c.in_ok-difference-in-Sub.ensures.number)

pub returns-in_ok-difference-in-Sub-clause-kept : goal.returns-in_ok-difference-in-Sub-clause-kept
returns-in_ok-difference-in-Sub-clause-kept c = c.difference.ensures.kept

pub returns-in_err-product-in-Mul-clause-kept : goal.returns-in_err-product-in-Mul-clause-kept
returns-in_err-product-in-Mul-clause-kept c = c.product.ensures.kept

pub returns-in_ok-product-in-Mul-clause-made : goal.returns-in_ok-product-in-Mul-clause-made
returns-in_ok-product-in-Mul-clause-made c = made_both c.product.new.terms c.args.width.bits c.in_ok-product-in-Mul.product c.in_ok-product-in-Mul.ensures.poison c.in_ok-product-in-Mul.ensures.number

pub returns-in_ok-product-in-Mul-clause-stands : goal.returns-in_ok-product-in-Mul-clause-stands
returns-in_ok-product-in-Mul-clause-stands c = rw c.in-Mul.is
    (product-row c.args.terms.now c.product.new.terms c.args.width.bits c.args.poison c.args.a c.args.b c.in_ok-product-in-Mul.product c.args.width.at_least_1 c.values_fit.ensures c.requires.a c.requires.b c.in-Mul.flags c.in_ok-product-in-Mul.ensures.poison c.in_ok-product-in-Mul.ensures.number)

pub returns-in_ok-product-in-Mul-clause-kept : goal.returns-in_ok-product-in-Mul-clause-kept
returns-in_ok-product-in-Mul-clause-kept c = c.product.ensures.kept

pub returns-in_err-quotient-in-UnsignedDiv-clause-kept : goal.returns-in_err-quotient-in-UnsignedDiv-clause-kept
returns-in_err-quotient-in-UnsignedDiv-clause-kept c = c.unsigned_quotient.ensures.kept

pub returns-in_ok-quotient-in-UnsignedDiv-clause-made : goal.returns-in_ok-quotient-in-UnsignedDiv-clause-made
returns-in_ok-quotient-in-UnsignedDiv-clause-made c = made_of c.unsigned_quotient.new.terms c.args.width.bits c.in_ok-quotient-in-UnsignedDiv.quotient c.in_ok-quotient-in-UnsignedDiv.ensures.poison c.in_ok-quotient-in-UnsignedDiv.ensures.made

pub returns-in_ok-quotient-in-UnsignedDiv-clause-stands : goal.returns-in_ok-quotient-in-UnsignedDiv-clause-stands
returns-in_ok-quotient-in-UnsignedDiv-clause-stands c = rw c.in-UnsignedDiv.is
    (quotient-row c.args.terms.now c.unsigned_quotient.new.terms c.args.width.bits c.args.poison c.args.a c.args.b c.in_ok-quotient-in-UnsignedDiv.quotient c.args.width.at_least_1 c.values_fit.ensures c.requires.a c.requires.b c.in-UnsignedDiv.exact c.in_ok-quotient-in-UnsignedDiv.ensures.poison c.in_ok-quotient-in-UnsignedDiv.ensures.number)

pub returns-in_ok-quotient-in-UnsignedDiv-clause-kept : goal.returns-in_ok-quotient-in-UnsignedDiv-clause-kept
returns-in_ok-quotient-in-UnsignedDiv-clause-kept c = c.unsigned_quotient.ensures.kept

pub returns-in_err-remainder-in-UnsignedRem-clause-kept : goal.returns-in_err-remainder-in-UnsignedRem-clause-kept
returns-in_err-remainder-in-UnsignedRem-clause-kept c = c.unsigned_remainder.ensures.kept

pub returns-in_ok-remainder-in-UnsignedRem-clause-made : goal.returns-in_ok-remainder-in-UnsignedRem-clause-made
returns-in_ok-remainder-in-UnsignedRem-clause-made c = made_of c.unsigned_remainder.new.terms c.args.width.bits c.in_ok-remainder-in-UnsignedRem.remainder c.in_ok-remainder-in-UnsignedRem.ensures.poison c.in_ok-remainder-in-UnsignedRem.ensures.made

pub returns-in_ok-remainder-in-UnsignedRem-clause-stands : goal.returns-in_ok-remainder-in-UnsignedRem-clause-stands
returns-in_ok-remainder-in-UnsignedRem-clause-stands c = rw c.in-UnsignedRem.is
    (remainder-row c.args.terms.now c.unsigned_remainder.new.terms c.args.width.bits c.args.poison c.args.a c.args.b c.in_ok-remainder-in-UnsignedRem.remainder c.args.width.at_least_1 c.values_fit.ensures c.requires.a c.requires.b c.in_ok-remainder-in-UnsignedRem.ensures.poison c.in_ok-remainder-in-UnsignedRem.ensures.number)

pub returns-in_ok-remainder-in-UnsignedRem-clause-kept : goal.returns-in_ok-remainder-in-UnsignedRem-clause-kept
returns-in_ok-remainder-in-UnsignedRem-clause-kept c = c.unsigned_remainder.ensures.kept

pub returns-in_err-signed_quotient-in-SignedDiv-clause-kept : goal.returns-in_err-signed_quotient-in-SignedDiv-clause-kept
returns-in_err-signed_quotient-in-SignedDiv-clause-kept c = c.signed_quotient.ensures.kept

pub returns-in_ok-signed_quotient-in-SignedDiv-clause-made : goal.returns-in_ok-signed_quotient-in-SignedDiv-clause-made
returns-in_ok-signed_quotient-in-SignedDiv-clause-made c = made_both c.signed_quotient.new.terms c.args.width.bits c.in_ok-signed_quotient-in-SignedDiv.signed_quotient c.in_ok-signed_quotient-in-SignedDiv.ensures.poison c.in_ok-signed_quotient-in-SignedDiv.ensures.number

pub returns-in_ok-signed_quotient-in-SignedDiv-clause-stands : goal.returns-in_ok-signed_quotient-in-SignedDiv-clause-stands
returns-in_ok-signed_quotient-in-SignedDiv-clause-stands c = rw c.in-SignedDiv.is
    (signed_quotient-row c.args.terms.now c.signed_quotient.new.terms c.args.width.bits c.args.poison c.args.a c.args.b c.in_ok-signed_quotient-in-SignedDiv.signed_quotient c.args.width.at_least_1 c.values_fit.ensures c.requires.a c.requires.b c.in-SignedDiv.exact c.in_ok-signed_quotient-in-SignedDiv.ensures.poison c.in_ok-signed_quotient-in-SignedDiv.ensures.number)

pub returns-in_ok-signed_quotient-in-SignedDiv-clause-kept : goal.returns-in_ok-signed_quotient-in-SignedDiv-clause-kept
returns-in_ok-signed_quotient-in-SignedDiv-clause-kept c = c.signed_quotient.ensures.kept

pub returns-in_err-signed_remainder-in-SignedRem-clause-kept : goal.returns-in_err-signed_remainder-in-SignedRem-clause-kept
returns-in_err-signed_remainder-in-SignedRem-clause-kept c = c.signed_remainder.ensures.kept

pub returns-in_ok-signed_remainder-in-SignedRem-clause-made : goal.returns-in_ok-signed_remainder-in-SignedRem-clause-made
returns-in_ok-signed_remainder-in-SignedRem-clause-made c = made_both c.signed_remainder.new.terms c.args.width.bits c.in_ok-signed_remainder-in-SignedRem.signed_remainder c.in_ok-signed_remainder-in-SignedRem.ensures.poison c.in_ok-signed_remainder-in-SignedRem.ensures.number

pub returns-in_ok-signed_remainder-in-SignedRem-clause-stands : goal.returns-in_ok-signed_remainder-in-SignedRem-clause-stands
returns-in_ok-signed_remainder-in-SignedRem-clause-stands c = rw c.in-SignedRem.is
    (signed_remainder-row c.args.terms.now c.signed_remainder.new.terms c.args.width.bits c.args.poison c.args.a c.args.b c.in_ok-signed_remainder-in-SignedRem.signed_remainder c.args.width.at_least_1 c.values_fit.ensures c.requires.a c.requires.b c.in_ok-signed_remainder-in-SignedRem.ensures.poison c.in_ok-signed_remainder-in-SignedRem.ensures.number)

pub returns-in_ok-signed_remainder-in-SignedRem-clause-kept : goal.returns-in_ok-signed_remainder-in-SignedRem-clause-kept
returns-in_ok-signed_remainder-in-SignedRem-clause-kept c = c.signed_remainder.ensures.kept

pub returns-in_err-left-in-ShiftLeft-clause-kept : goal.returns-in_err-left-in-ShiftLeft-clause-kept
returns-in_err-left-in-ShiftLeft-clause-kept c = c.shift_left.ensures.kept

pub returns-in_ok-left-in-ShiftLeft-clause-made : goal.returns-in_ok-left-in-ShiftLeft-clause-made
returns-in_ok-left-in-ShiftLeft-clause-made c = made_both c.shift_left.new.terms c.args.width.bits c.in_ok-left-in-ShiftLeft.left c.in_ok-left-in-ShiftLeft.ensures.poison c.in_ok-left-in-ShiftLeft.ensures.number

pub returns-in_ok-left-in-ShiftLeft-clause-stands : goal.returns-in_ok-left-in-ShiftLeft-clause-stands
returns-in_ok-left-in-ShiftLeft-clause-stands c = rw c.in-ShiftLeft.is
    (shift_left-row c.args.terms.now c.shift_left.new.terms c.args.width.bits c.args.poison c.args.a c.args.b c.in_ok-left-in-ShiftLeft.left c.args.width.at_least_1 c.values_fit.ensures c.requires.a c.requires.b c.in-ShiftLeft.flags c.in_ok-left-in-ShiftLeft.ensures.poison c.in_ok-left-in-ShiftLeft.ensures.number)

pub returns-in_ok-left-in-ShiftLeft-clause-kept : goal.returns-in_ok-left-in-ShiftLeft-clause-kept
returns-in_ok-left-in-ShiftLeft-clause-kept c = c.shift_left.ensures.kept

pub returns-in_err-logical-in-LogicalShiftRight-clause-kept : goal.returns-in_err-logical-in-LogicalShiftRight-clause-kept
returns-in_err-logical-in-LogicalShiftRight-clause-kept c = c.logical_shift_right.ensures.kept

pub returns-in_ok-logical-in-LogicalShiftRight-clause-made : goal.returns-in_ok-logical-in-LogicalShiftRight-clause-made
returns-in_ok-logical-in-LogicalShiftRight-clause-made c = made_both c.logical_shift_right.new.terms c.args.width.bits c.in_ok-logical-in-LogicalShiftRight.logical c.in_ok-logical-in-LogicalShiftRight.ensures.poison c.in_ok-logical-in-LogicalShiftRight.ensures.number

pub returns-in_ok-logical-in-LogicalShiftRight-clause-stands : goal.returns-in_ok-logical-in-LogicalShiftRight-clause-stands
returns-in_ok-logical-in-LogicalShiftRight-clause-stands c = rw c.in-LogicalShiftRight.is
    (logical-row c.args.terms.now c.logical_shift_right.new.terms c.args.width.bits c.args.poison c.args.a c.args.b c.in_ok-logical-in-LogicalShiftRight.logical c.args.width.at_least_1 c.values_fit.ensures c.requires.a c.requires.b c.in-LogicalShiftRight.exact c.in_ok-logical-in-LogicalShiftRight.ensures.poison c.in_ok-logical-in-LogicalShiftRight.ensures.number)

pub returns-in_ok-logical-in-LogicalShiftRight-clause-kept : goal.returns-in_ok-logical-in-LogicalShiftRight-clause-kept
returns-in_ok-logical-in-LogicalShiftRight-clause-kept c = c.logical_shift_right.ensures.kept

pub returns-in_err-arithmetic-in-ArithmeticShiftRight-clause-kept : goal.returns-in_err-arithmetic-in-ArithmeticShiftRight-clause-kept
returns-in_err-arithmetic-in-ArithmeticShiftRight-clause-kept c = c.arithmetic_shift_right.ensures.kept

pub returns-in_ok-arithmetic-in-ArithmeticShiftRight-clause-made : goal.returns-in_ok-arithmetic-in-ArithmeticShiftRight-clause-made
returns-in_ok-arithmetic-in-ArithmeticShiftRight-clause-made c = made_both c.arithmetic_shift_right.new.terms c.args.width.bits c.in_ok-arithmetic-in-ArithmeticShiftRight.arithmetic c.in_ok-arithmetic-in-ArithmeticShiftRight.ensures.poison c.in_ok-arithmetic-in-ArithmeticShiftRight.ensures.number

pub returns-in_ok-arithmetic-in-ArithmeticShiftRight-clause-stands : goal.returns-in_ok-arithmetic-in-ArithmeticShiftRight-clause-stands
returns-in_ok-arithmetic-in-ArithmeticShiftRight-clause-stands c = rw c.in-ArithmeticShiftRight.is
    (arithmetic-row c.args.terms.now c.arithmetic_shift_right.new.terms c.args.width.bits c.args.poison c.args.a c.args.b c.in_ok-arithmetic-in-ArithmeticShiftRight.arithmetic c.args.width.at_least_1 c.values_fit.ensures c.requires.a c.requires.b c.in-ArithmeticShiftRight.exact c.in_ok-arithmetic-in-ArithmeticShiftRight.ensures.poison c.in_ok-arithmetic-in-ArithmeticShiftRight.ensures.number)

pub returns-in_ok-arithmetic-in-ArithmeticShiftRight-clause-kept : goal.returns-in_ok-arithmetic-in-ArithmeticShiftRight-clause-kept
returns-in_ok-arithmetic-in-ArithmeticShiftRight-clause-kept c = c.arithmetic_shift_right.ensures.kept

pub returns-in_err-conjunction-in-And-clause-kept : goal.returns-in_err-conjunction-in-And-clause-kept
returns-in_err-conjunction-in-And-clause-kept c = c.conjunction.ensures.kept

pub returns-in_ok-conjunction-in-And-clause-made : goal.returns-in_ok-conjunction-in-And-clause-made
returns-in_ok-conjunction-in-And-clause-made c = made_both c.conjunction.new.terms c.args.width.bits c.in_ok-conjunction-in-And.conjunction c.in_ok-conjunction-in-And.ensures.poison c.in_ok-conjunction-in-And.ensures.number

pub returns-in_ok-conjunction-in-And-clause-stands : goal.returns-in_ok-conjunction-in-And-clause-stands
returns-in_ok-conjunction-in-And-clause-stands c = rw c.in-And.is
    (and-row c.args.terms.now c.conjunction.new.terms c.args.width.bits c.args.poison c.args.a c.args.b c.in_ok-conjunction-in-And.conjunction c.args.width.at_least_1 c.values_fit.ensures c.requires.a c.requires.b c.in_ok-conjunction-in-And.ensures.poison c.in_ok-conjunction-in-And.ensures.number)

pub returns-in_ok-conjunction-in-And-clause-kept : goal.returns-in_ok-conjunction-in-And-clause-kept
returns-in_ok-conjunction-in-And-clause-kept c = c.conjunction.ensures.kept

pub returns-in_err-disjunction-in-Or-clause-kept : goal.returns-in_err-disjunction-in-Or-clause-kept
returns-in_err-disjunction-in-Or-clause-kept c = c.disjunction.ensures.kept

pub returns-in_ok-disjunction-in-Or-clause-made : goal.returns-in_ok-disjunction-in-Or-clause-made
returns-in_ok-disjunction-in-Or-clause-made c = made_both c.disjunction.new.terms c.args.width.bits c.in_ok-disjunction-in-Or.disjunction c.in_ok-disjunction-in-Or.ensures.poison c.in_ok-disjunction-in-Or.ensures.number

pub returns-in_ok-disjunction-in-Or-clause-stands : goal.returns-in_ok-disjunction-in-Or-clause-stands
returns-in_ok-disjunction-in-Or-clause-stands c = rw c.in-Or.is
    (or-row c.args.terms.now c.disjunction.new.terms c.args.width.bits c.args.poison c.args.a c.args.b c.in_ok-disjunction-in-Or.disjunction c.args.width.at_least_1 c.values_fit.ensures c.requires.a c.requires.b c.in-Or.disjoint c.in_ok-disjunction-in-Or.ensures.poison c.in_ok-disjunction-in-Or.ensures.number)

pub returns-in_ok-disjunction-in-Or-clause-kept : goal.returns-in_ok-disjunction-in-Or-clause-kept
returns-in_ok-disjunction-in-Or-clause-kept c = c.disjunction.ensures.kept

pub returns-in_err-exclusive-in-Xor-clause-kept : goal.returns-in_err-exclusive-in-Xor-clause-kept
returns-in_err-exclusive-in-Xor-clause-kept c = c.exclusive_disjunction.ensures.kept

pub returns-in_ok-exclusive-in-Xor-clause-made : goal.returns-in_ok-exclusive-in-Xor-clause-made
returns-in_ok-exclusive-in-Xor-clause-made c = made_both c.exclusive_disjunction.new.terms c.args.width.bits c.in_ok-exclusive-in-Xor.exclusive c.in_ok-exclusive-in-Xor.ensures.poison c.in_ok-exclusive-in-Xor.ensures.number

pub returns-in_ok-exclusive-in-Xor-clause-stands : goal.returns-in_ok-exclusive-in-Xor-clause-stands
returns-in_ok-exclusive-in-Xor-clause-stands c = rw c.in-Xor.is
    (xor-row c.args.terms.now c.exclusive_disjunction.new.terms c.args.width.bits c.args.poison c.args.a c.args.b c.in_ok-exclusive-in-Xor.exclusive c.args.width.at_least_1 c.values_fit.ensures c.requires.a c.requires.b c.in_ok-exclusive-in-Xor.ensures.poison c.in_ok-exclusive-in-Xor.ensures.number)

pub returns-in_ok-exclusive-in-Xor-clause-kept : goal.returns-in_ok-exclusive-in-Xor-clause-kept
returns-in_ok-exclusive-in-Xor-clause-kept c = c.exclusive_disjunction.ensures.kept
