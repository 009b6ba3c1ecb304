use Rattle.tv_io.proofs.TakenLemmas.{IsCutOff-second_write}
use Rattle.tv_io.proofs.sink.write_both.Goals as goal

pub returns-clause-cut_off : goal.returns-clause-cut_off
returns-clause-cut_off g c = IsCutOff-second_write _ _ _ _ _ _ c.in_ok-write_whole.ensures.written c.write_whole-2.ensures.cut_off
