-- What is left of the phis takes the registers so far to those after all.
use Rattle.run_terms.proofs.Common.{◌≡◌, drop, length, with_phis, Machine, Keeps, AreSymValues, IsNaming, Reading, values_at}
use Rattle.run_terms.proofs.phis.registers_after.Given as goal

abbrev pub invariant-loop-phi : goal.invariant-loop-phi
invariant-loop-phi l =
    Keeps l.fn.terms l.terms
    × AreSymValues l.terms l.after
    × (length l.after ≡ length l.registers)
    × ((r : Reading) (m : Machine) → IsNaming r.name → values_at r l.fn.terms l.registers ≡ m.registers → m.block ≡ l.label → with_phis m (drop l.phi-index l.phis) (record m { registers = values_at r l.terms l.after }) ≡ with_phis m l.phis m)
