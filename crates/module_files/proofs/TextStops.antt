-- Why two texts are not judged.
use Rattle.std.proofs.Common.{ℕ, List, Result, Ok, Err}
use Rattle.std.specs.Prelude.{IfErr, OnOk}
use Rattle.module_files.specs.declared.both.Modules.{Modules}
use Rattle.module_files.specs.declared.stop.Stop.{Stop}
use Rattle.module_files.specs.declared.stop.Stop.TheVariants as stop
use Rattle.module_files.specs.declared.stop.Trouble.TheVariants as trouble
use Rattle.module_files.specs.Reading.{AreWithin, IsUnread, StopsAtTexts}

stop_within : (source target : List ℕ) (why : Stop) → AreWithin source target → IsUnread source target why → StopsAtTexts source target why
stop_within source target (stop.Source trouble.CannotRead) within unread = (within, unread)
stop_within source target (stop.Source trouble.TooLong) within unread = absurd unread
stop_within source target (stop.Source (trouble.NoToken place)) within unread = (within, unread)
stop_within source target (stop.Source (trouble.Item why place)) within unread = (within, unread)
stop_within source target (stop.Target trouble.CannotRead) within unread = (within, unread)
stop_within source target (stop.Target trouble.TooLong) within unread = absurd unread.0
stop_within source target (stop.Target (trouble.NoToken place)) within unread = (within, unread)
stop_within source target (stop.Target (trouble.Item why place)) within unread = (within, unread)
stop_within source target stop.NoMemory within unread = tt

-- a fault of texts within the limit
pub stops_within : (read : Result Modules Stop) (source target : List ℕ) → AreWithin source target → IfErr read (IsUnread source target) → IfErr read (StopsAtTexts source target)
stops_within (Ok both) source target within unread = tt
stops_within (Err why) source target within unread = stop_within source target why within unread

pub where_read : (read : Result Modules Stop) (source target : List ℕ) → AreWithin source target → OnOk read (AreWithin source target)
where_read (Ok both) source target within = within
where_read (Err why) source target within = tt
