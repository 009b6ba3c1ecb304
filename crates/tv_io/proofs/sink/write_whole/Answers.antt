use Rattle.std.proofs.Common.{arith}
use Rattle.std.proofs.lemmas.Grind.{common_steps}
use Rattle.tv_io.proofs.TakenLemmas.{then_taken-take}
use Rattle.tv_io.proofs.sink.write_whole.Goals as goal

pub loop-done-preserved : goal.loop-done-preserved
loop-done-preserved g c = grind (arith, common_steps, then_taken-take)
