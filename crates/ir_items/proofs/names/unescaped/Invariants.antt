use Rattle.ir_items.proofs.Common.{◌≡◌, ◌++◌, length, unescaped}
use Rattle.ir_items.proofs.names.unescaped.Given as goal

abbrev pub invariant-loop-rest : goal.invariant-loop-rest
invariant-loop-rest l = l.bytes.items ++ unescaped l.rest ≡ unescaped l.text

abbrev pub decreases-loop-rest : goal.decreases-loop-rest
decreases-loop-rest l = length l.rest
