-- A line that was written, or cut off.
use Rattle.std.proofs.Common.{ℕ, List, Result, Ok, Err, inl, inr}
use Rattle.std.specs.Prelude.{OnOk, OnErr}
use Rattle.tv_io.specs.State.{SinkState}
use Rattle.tv_io.specs.Taken.{IsWritten, IsCutOff}
use Rattle.tv_io.specs.declared.sink.Failed.{Failed}
use Rattle.module_files.specs.Stops.{WritesLine}

pub from_write : (r : Result (Unit {0}) Failed) (line : List ℕ) (old new : SinkState) → OnOk r (IsWritten line old new) → OnErr r (IsCutOff line old new) → WritesLine line old new
from_write (Ok x) line old new written cut = inl written
from_write (Err e) line old new written cut = inr cut
