use Rattle.ir_reader.proofs.Common.{◌∙◌, ap, subst, place_or_end}
use Rattle.std.proofs.Common.{min}
use Rattle.ir_items.specs.Stops.{Stops}
use Rattle.ir_reader.proofs.Entries.{get-min}
use Rattle.ir_reader.proofs.reading.defines_of.Goals as goal

pub returns-in-Err-Stop-clause-fault : goal.returns-in-Err-Stop-clause-fault
returns-in-Err-Stop-clause-fault c =
    let tokens = c.args.tokens.now in
    let same = get-min tokens c.in-Err-Stop.at c.min.result (c.min.ensures ∙ ap (min c.in-Err-Stop.at) c.len-count.ensures) in
    record {
      tokens = tokens;
      lexed_so = c.requires;
      at = c.in-Err-Stop.at;
      stop = subst (Stops tokens) c.in-Err-Stop.field-0-is c.in-Err-Stop.ensures.stops;
      is = c.place_or_end-place.ensures tokens c.requires ∙ ap (place_or_end c.args.text.now) same;
    }
