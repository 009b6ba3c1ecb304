use Rattle.test_meaning.proofs.OneOfEach.{without_bytes}
use Rattle.test_meaning.proofs.code_tests.without_bytes.Goals as goal

pub returns : goal.returns
returns c = let is = c.in_ok-shape.ensures in without_bytes c.in_ok-shape.shape c.of.result c.of.ensures is.parameters is.blocks is.bytes is.words is.width
