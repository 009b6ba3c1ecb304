use Rattle.ir_printer.proofs.Common.{◌∷◌, entry_pieces, comma}
use Rattle.ir_printer.proofs.Texts.{all_texts}
use Rattle.ir_printer.proofs.terminators.push_more_entries.Goals as goal

pub returns : goal.returns
returns c = all_texts (λ x. comma ∷ entry_pieces c.args.names.now x) c.args.entries.now c.loop-entry.entry-index _ _ c.loop-entry-test.false c.loop-entry.invariant
