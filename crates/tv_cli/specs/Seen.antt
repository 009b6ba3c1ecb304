-- A job, as the texts that its references show, and that its numbers are in their ranges.
use Rattle.std.specs.Prelude.{◌≤◌, option_map}
use Rattle.points.specs.Range.{AreInRange}
use Rattle.tv_cli.specs.declared.reading.Check as declared_check
use Rattle.tv_cli.specs.declared.reading.Make as declared_make
use Rattle.tv_cli.specs.declared.reading.Job as declared
use Rattle.tv_cli.specs.declared.reading.Job.TheVariants as variant
use Rattle.tv_cli.specs.Words.{Check, Make, Job}
use Rattle.tv_cli.specs.Words.Job.{check, log, make}

abbrev pub seen_check : declared_check.Check → Check
seen_check c = record { source = c.source.now; target = c.target.now; bounds = c.bounds; budget = c.budget; workers = c.workers; proof = option_map (λ p. p.now) c.proof; first = c.first }

abbrev pub seen_make : declared_make.Make → Make
seen_make m = record { seed = m.seed; functions = m.functions; insts = m.insts; bounds = m.bounds; budget = m.budget; workers = m.workers }

abbrev pub seen : declared.Job → Job
seen (variant.Check c) = check (seen_check c)
seen (variant.Log file) = log file.now
seen (variant.Make m) = make (seen_make m)

-- bounds and budget as judges take them, and 1 to 64 workers
abbrev pub IsInRange : declared.Job → Type 0
IsInRange (variant.Check c) = AreInRange c.bounds c.budget × (1 ≤ c.workers) × (c.workers ≤ 64)
IsInRange (variant.Log file) = Unit {0}
IsInRange (variant.Make m) =
    (m.seed ≤ 2147483647) × (1 ≤ m.functions) × (m.functions ≤ 4096) × (1 ≤ m.insts) × (m.insts ≤ 64) × AreInRange m.bounds m.budget × (1 ≤ m.workers) × (m.workers ≤ 64)
