use Rattle.std.proofs.Common.{inr, refl, arith}
use Rattle.test_meaning.proofs.OneOfEach.{one_of_each, zero_bit, one_bit, number_place, part_place, poison_place, no_place}
use Rattle.test_meaning.proofs.code_tests.one_of_each.Goals as goal

pub returns-clause-no_byte : goal.returns-clause-no_byte
returns-clause-no_byte c = let is = c.in_ok-shape.ensures in one_of_each c.in_ok-shape.shape c.of.result 0 0 0 0 0 0 0 0 0 1 c.of.ensures is.parameters is.blocks is.bytes is.words is.width (zero_bit c.in_ok-shape.shape.layout c.of.result c.of.ensures) (omega arith) (no_place c.in_ok-shape.shape.layout) (omega arith)

pub returns-clause-last_number : goal.returns-clause-last_number
returns-clause-last_number c = let is = c.in_ok-shape.ensures in one_of_each c.in_ok-shape.shape c.of.result 0 0 1 0 0 255 0 0 0 1 c.of.ensures is.parameters is.blocks is.bytes is.words is.width (zero_bit c.in_ok-shape.shape.layout c.of.result c.of.ensures) (omega arith) (number_place c.in_ok-shape.shape.layout 255 (omega arith)) (omega arith)

pub returns-clause-sixth_part : goal.returns-clause-sixth_part
returns-clause-sixth_part c = let is = c.in_ok-shape.ensures in one_of_each c.in_ok-shape.shape c.of.result 0 0 1 1 0 0 0 5 6 1 c.of.ensures is.parameters is.blocks is.bytes is.words is.width (zero_bit c.in_ok-shape.shape.layout c.of.result c.of.ensures) (omega arith) (part_place c.in_ok-shape.shape.layout 0 5 6 is.blocks (omega arith) (omega arith) (omega arith)) (omega arith)

pub returns-clause-last_of_null : goal.returns-clause-last_of_null
returns-clause-last_of_null c = let is = c.in_ok-shape.ensures in one_of_each c.in_ok-shape.shape c.of.result 0 0 1 1 0 0 0 18446744073709551615 7 1 c.of.ensures is.parameters is.blocks is.bytes is.words is.width (zero_bit c.in_ok-shape.shape.layout c.of.result c.of.ensures) (omega arith) (part_place c.in_ok-shape.shape.layout 0 18446744073709551615 7 is.blocks (omega arith) (omega arith) (omega arith)) (omega arith)

pub returns-clause-last_part : goal.returns-clause-last_part
returns-clause-last_part c = let is = c.in_ok-shape.ensures in one_of_each c.in_ok-shape.shape c.of.result 0 0 1 1 0 0 1 18446744073709551615 7 1 c.of.ensures is.parameters is.blocks is.bytes is.words is.width (zero_bit c.in_ok-shape.shape.layout c.of.result c.of.ensures) (omega arith) (part_place c.in_ok-shape.shape.layout 1 18446744073709551615 7 is.blocks (omega arith) (omega arith) (omega arith)) (omega arith)

pub returns-clause-poison_byte : goal.returns-clause-poison_byte
returns-clause-poison_byte c = let is = c.in_ok-shape.ensures in one_of_each c.in_ok-shape.shape c.of.result 0 1 1 2 255 0 0 0 0 1 c.of.ensures is.parameters is.blocks is.bytes is.words is.width (one_bit c.in_ok-shape.shape.layout c.of.result c.of.ensures) (omega arith) (poison_place c.in_ok-shape.shape.layout 255 0 (omega arith) (omega arith) (omega arith) refl) (omega arith)

pub returns-clause-last : goal.returns-clause-last
returns-clause-last c = let is = c.in_ok-shape.ensures in one_of_each c.in_ok-shape.shape c.of.result 1 0 1 2 255 0 0 0 0 1 c.of.ensures is.parameters is.blocks is.bytes is.words is.width (inr refl) (omega arith) (poison_place c.in_ok-shape.shape.layout 255 0 (omega arith) (omega arith) (omega arith) refl) (omega arith)

pub returns-clause-last_of_mask : goal.returns-clause-last_of_mask
returns-clause-last_of_mask c = let is = c.in_ok-shape.ensures in one_of_each c.in_ok-shape.shape c.of.result 0 1 1 2 5 250 0 0 0 1 c.of.ensures is.parameters is.blocks is.bytes is.words is.width (one_bit c.in_ok-shape.shape.layout c.of.result c.of.ensures) (omega arith) (poison_place c.in_ok-shape.shape.layout 5 250 (omega arith) (omega arith) (omega arith) refl) (omega arith)

pub returns-clause-within_mask : goal.returns-clause-within_mask
returns-clause-within_mask c = let is = c.in_ok-shape.ensures in one_of_each c.in_ok-shape.shape c.of.result 0 1 1 2 6 1 0 0 0 1 c.of.ensures is.parameters is.blocks is.bytes is.words is.width (one_bit c.in_ok-shape.shape.layout c.of.result c.of.ensures) (omega arith) (poison_place c.in_ok-shape.shape.layout 6 1 (omega arith) (omega arith) (omega arith) refl) (omega arith)
