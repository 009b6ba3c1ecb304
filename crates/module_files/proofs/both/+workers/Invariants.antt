use Rattle.std.proofs.Common.{◌+◌, ◌*◌}
use Rattle.module_files.proofs.both.+workers.Given as goal

abbrev pub decreases-entries_back : goal.decreases-entries_back
decreases-entries_back g l = 2 * l.workers

abbrev pub decreases-join+arg2 : goal.decreases-join+arg2
decreases-join+arg2 g l = 2 * l.others + 1

abbrev pub decreases-join+arg3 : goal.decreases-join+arg3
decreases-join+arg3 g l = 2 * l.rest + 1
