use Rattle.std.proofs.Common.{◌+◌, ◌*◌}
use Rattle.ir_reader.proofs.beside.+workers.Given as goal

abbrev pub decreases-span_beside : goal.decreases-span_beside
decreases-span_beside g l = 3 * l.workers

abbrev pub decreases-second_span : goal.decreases-second_span
decreases-second_span g l = 3 * l.workers + 1

abbrev pub decreases-span_beside-join+arg2 : goal.decreases-span_beside-join+arg2
decreases-span_beside-join+arg2 g l = 3 * l.others + 1

abbrev pub decreases-span_beside-join+arg3 : goal.decreases-span_beside-join+arg3
decreases-span_beside-join+arg3 g l = 3 * l.rest + 2
