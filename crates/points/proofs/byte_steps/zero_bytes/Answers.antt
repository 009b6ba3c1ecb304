use Rattle.points.proofs.Common.{sym, ◌∙◌, arith, length-set, slice_get-get_or, Bits, zero_byte}
use Rattle.points.proofs.Rows.{from_place-set, from_place-past}
use Rattle.points.proofs.byte_steps.zero_bytes.Goals as goal

pub loop-i-preserved : goal.loop-i-preserved
loop-i-preserved c =
    let long = c.loop-i.invariant.same_length in
    record {
      same_length = rw (c.set.ensures, length-set) long;
      done = rw c.set.ensures (from_place-set zero_byte c.loop-i.places c.loop-i.i _ (slice_get-get_or c.loop-i.places c.loop-i.i (Bits 0 0) (omega (arith, long))) ∙ c.loop-i.invariant.done);
    }

pub returns : goal.returns
returns c = sym (from_place-past zero_byte c.loop-i.places c.loop-i.i (omega arith)) ∙ c.loop-i.invariant.done
