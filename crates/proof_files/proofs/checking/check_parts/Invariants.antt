use Rattle.proof_files.proofs.Walking.{IsFound}
use Rattle.proof_files.proofs.checking.check_parts.Given as goal

abbrev pub invariant-loop-part : goal.invariant-loop-part
invariant-loop-part g l = IsFound l.parts l.part-index l.text.items l.verified l.bad
