-- The numbers so far.
use Rattle.log_tidy.proofs.Common.{◌≡◌, map, take}
use Rattle.log_tidy.specs.Numbers as spec
use Rattle.log_tidy.proofs.numbering.renumbered_chain.Given as goal

abbrev pub invariant-loop-number : goal.invariant-loop-number
invariant-loop-number l = l.renumbered ≡ map (spec.new_number l.count l.numbers) (take l.number-index l.chain)
