-- A request, as the texts that its references show.
use Rattle.std.specs.Prelude.{option_map}
use Rattle.trace_cli.specs.declared.reading.Request as declared
use Rattle.trace_cli.specs.Words.{Request}

abbrev pub seen : declared.Request → Request
seen r = record { source = r.source.now; target = r.target.now; function = r.function.now; report = option_map (λ name. name.now) r.report; bounds = r.bounds; budget = r.budget }
