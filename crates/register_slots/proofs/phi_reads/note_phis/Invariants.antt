use Rattle.register_slots.proofs.Common.{ℕ, List, drop, AllByRecursion, Grows, IsPhiNoted}
use Rattle.register_slots.proofs.phi_reads.note_phis.Given as goal

abbrev pub invariant-loop-phi : goal.invariant-loop-phi
invariant-loop-phi l = record {
  grows : Grows l.fn.rows l.rows;
  noted : (rows : List (List ℕ)) → Grows l.rows rows → AllByRecursion (IsPhiNoted rows) (drop l.phi-index l.phis) → AllByRecursion (IsPhiNoted rows) l.phis;
}
