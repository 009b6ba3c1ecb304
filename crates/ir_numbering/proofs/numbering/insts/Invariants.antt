use Rattle.ir_numbering.proofs.Common.{◌≡◌, into_iter_items, inst_in, each_in}
use Rattle.ir_numbering.proofs.Each.{in_front}
use Rattle.ir_numbering.proofs.numbering.insts.Given as goal

abbrev pub invariant-loop-one : goal.invariant-loop-one
invariant-loop-one l = each_in inst_in l.fn.names l.fn.insts ≡ in_front l.numbered.items (each_in inst_in l.names (into_iter_items l.one-iterator))
