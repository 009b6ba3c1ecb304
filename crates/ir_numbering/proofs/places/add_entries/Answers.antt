use Rattle.ir_numbering.proofs.Common.{arith, entry_places}
use Rattle.ir_numbering.proofs.Each.{flat-more}
use Rattle.ir_numbering.proofs.places.add_entries.Goals as goal

pub loop-entry-preserved : goal.loop-entry-preserved
loop-entry-preserved c = flat-more entry_places c.args.entries.now c.loop-entry.entry-index c.entry-item.result c.loop-entry.places c.add_two.new.places _ (omega arith) c.entry-item.is c.in_ok-add_two.ensures c.loop-entry.invariant
