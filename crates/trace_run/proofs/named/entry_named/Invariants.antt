use Rattle.std.proofs.Common.{◌≡◌, drop}
use Rattle.trace_run.specs.Named.{entry_named}
use Rattle.trace_run.proofs.named.entry_named.Given as goal

abbrev pub invariant-loop-entry : goal.invariant-loop-entry
invariant-loop-entry l = entry_named l.entries l.name ≡ entry_named (drop l.entry-index l.entries) l.name
