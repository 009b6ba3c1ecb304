use Rattle.proof_text.proofs.Common.{◌≡◌, All, length, IfSome, IsHead, IsPart, proof_lines, proof_with, File, Moves, Rows}
use Rattle.proof_text.proofs.reader.read_proof.Given as goal

abbrev pub invariant-loop-lines : goal.invariant-loop-lines
invariant-loop-lines l = record {
  head : IfSome l.head IsHead;
  fit : All IsPart l.parts;
  fronts : All (λ p. p.cert.cnf.front ≡ 0) l.parts;
  moves : Moves File l.fn.text (proof_lines (proof_with l.head l.parts)) Rows l.lines;
}

abbrev pub decreases-loop-lines : goal.decreases-loop-lines
decreases-loop-lines l = length l.lines
