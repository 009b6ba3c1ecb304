use Rattle.std.proofs.Common.{inr, refl, arith}
use Rattle.test_meaning.proofs.OneOfEach.{one_pointer, pointer_to}
use Rattle.test_meaning.proofs.code_tests.one_pointer.Goals as goal

pub returns-clause-last_of_null : goal.returns-clause-last_of_null
returns-clause-last_of_null c = let is = c.in_ok-shape.ensures in one_pointer c.in_ok-shape.shape 0 0 18446744073709551615 is.parameters is.blocks is.bytes is.words (pointer_to c.in_ok-shape.shape.layout 0 18446744073709551615 is.blocks (omega arith) (omega arith))

pub returns-clause-last_given : goal.returns-clause-last_given
returns-clause-last_given c = let is = c.in_ok-shape.ensures in one_pointer c.in_ok-shape.shape 0 1 18446744073709551615 is.parameters is.blocks is.bytes is.words (pointer_to c.in_ok-shape.shape.layout 1 18446744073709551615 is.blocks (omega arith) (omega arith))

pub returns-clause-poison : goal.returns-clause-poison
returns-clause-poison c = let is = c.in_ok-shape.ensures in one_pointer c.in_ok-shape.shape 1 0 0 is.parameters is.blocks is.bytes is.words (inr refl)
