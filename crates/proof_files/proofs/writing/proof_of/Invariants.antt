use Rattle.proof_files.proofs.Walking.{IsWalked}
use Rattle.proof_files.proofs.writing.proof_of.Given as goal

abbrev pub invariant-loop-row : goal.invariant-loop-row
invariant-loop-row l = IsWalked l.head l.rows l.answers l.row-index l.left l.text.items
