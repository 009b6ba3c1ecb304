use Rattle.proof_text.proofs.Common.{◌<◌, All, length}
use Rattle.proof_text.proofs.Escapes.{GoesOn}
use Rattle.proof_text.proofs.names.unescaped.Given as goal

abbrev pub invariant-loop-byte : goal.invariant-loop-byte
invariant-loop-byte l = record {
  small : All (λ b. b < 256) l.bytes.items;
  goes_on : GoesOn l.text l.bytes.items l.rest;
}

abbrev pub decreases-loop-byte : goal.decreases-loop-byte
decreases-loop-byte l = length l.rest
