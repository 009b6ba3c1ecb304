use Rattle.ir_reader.proofs.Common.{◌≡◌, ℕ, drop, into_iter_items}
use Rattle.std.proofs.Common.{Ok}
use Rattle.ir_reader.proofs.Entries.{SoFar}
use Rattle.ir_reader.proofs.beside.entries_of.Given as goal

abbrev pub invariant-loop-define : goal.invariant-loop-define
invariant-loop-define l = (l.walk ≡ l.fn.tokens) × (done : ℕ) × SoFar l.tokens l.fn.defines (into_iter_items l.define-iterator) done (Ok (drop done l.tokens)) l.entries.items
