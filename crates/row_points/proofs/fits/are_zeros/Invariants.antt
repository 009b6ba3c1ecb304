use Rattle.std.proofs.Common.{◌≡◌, length, replicate}
use Rattle.byte_block.specs.declared.value.Byte.TheVariants as byte
use Rattle.row_points.proofs.fits.are_zeros.Given as goal

abbrev pub invariant-loop-rest : goal.invariant-loop-rest
invariant-loop-rest l = l.rest ≡ replicate (length l.rest) (byte.Bits 0 0) → l.fn.bytes ≡ replicate (length l.fn.bytes) (byte.Bits 0 0)

abbrev pub decreases-loop-rest : goal.decreases-loop-rest
decreases-loop-rest l = length l.rest
