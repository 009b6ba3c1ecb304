use Rattle.std.proofs.Common.{arith}
use Rattle.module_files.specs.Reading.{AreWithin}
use Rattle.module_files.proofs.TextStops.{stops_within, where_read}
use Rattle.module_files.proofs.both.read_texts.Goals as goal

pub returns-clause-within : goal.returns-clause-within
returns-clause-within c =
    let within : AreWithin c.args.source.now c.args.target.now = record { source_within = omega arith; target_within = omega arith } in
    where_read c.modules_in.result c.args.source.now c.args.target.now within

pub returns-clause-cause : goal.returns-clause-cause
returns-clause-cause c =
    let within : AreWithin c.args.source.now c.args.target.now = record { source_within = omega arith; target_within = omega arith } in
    stops_within c.modules_in.result c.args.source.now c.args.target.now within c.modules_in.ensures.unread
