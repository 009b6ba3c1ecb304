use Rattle.register_slots.proofs.Common.{ℕ, List, drop, AllByRecursion, Grows, IsBlockNoted}
use Rattle.register_slots.proofs.phi_reads.phi_reads.Given as goal

abbrev pub invariant-loop-block : goal.invariant-loop-block
invariant-loop-block l = (rows : List (List ℕ)) → Grows l.rows rows → AllByRecursion (IsBlockNoted rows) (drop l.block-index l.blocks) → AllByRecursion (IsBlockNoted rows) l.blocks
