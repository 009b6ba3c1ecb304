use Rattle.proof_text.proofs.Common.{◌<◌, All-push}
use Rattle.proof_text.proofs.Escapes.{goes_on, was_read}
use Rattle.proof_text.proofs.names.unescaped.Goals as goal

pub loop-byte-preserved : goal.loop-byte-preserved
loop-byte-preserved c = record {
  small = rw c.in_ok-push.ensures.items (All-push (λ b. b < 256) c.loop-byte.bytes.items c.in-Some.byte c.loop-byte.invariant.small c.in-Some.ensures.small);
  goes_on = rw c.in_ok-push.ensures.items
      (goes_on c.args.text.now c.loop-byte.bytes.items c.loop-byte.rest.now c.in-Some.byte c.in-Some.after.now c.loop-byte.invariant.goes_on c.in-Some.ensures.shorter c.in-Some.ensures.value);
}

pub returns-clause-only : goal.returns-clause-only
returns-clause-only c = λ own small e.
    was_read c.args.text.now c.loop-byte.bytes.items c.loop-byte.rest.now own c.loop-byte.invariant.goes_on (rw c.in_default.is at c.next_byte.ensures.none) small e
