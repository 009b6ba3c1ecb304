use Rattle.points.proofs.Common.{arith, byte_code}
use Rattle.points.proofs.Pushes.{pushed_at, all_pushed}
use Rattle.points.proofs.codes.push_bytes.Goals as goal

pub loop-byte-preserved : goal.loop-byte-preserved
loop-byte-preserved c = λ layout. pushed_at (byte_code layout) c.args.places.now c.loop-byte.byte-index _ c.loop-byte.code.items c.push_byte.new.code.items _ (omega arith) (c.in_ok-push_byte.ensures layout) (c.loop-byte.invariant layout)

pub returns : goal.returns
returns c = λ layout. all_pushed (byte_code layout) c.args.places.now c.loop-byte.byte-index c.loop-byte.code.items _ (omega arith) (c.loop-byte.invariant layout)
