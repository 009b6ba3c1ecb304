-- What a write leaves of a sink.
use Rattle.std.specs.Prelude.{◌≡◌, ◌≤◌, ◌<◌, ◌+◌, ℕ, List, ◌++◌, length, take, Option, None, Some}
use Rattle.tv_io.specs.Count.{Rose}
use Rattle.tv_io.specs.State.{SinkState}

-- the bytes taken, after some more, of a sink that reports them
abbrev pub then_taken : Option (List ℕ) → List ℕ → Option (List ℕ)
then_taken None piece = None
then_taken (Some bytes) piece = Some (bytes ++ piece)

-- some prefix of the piece was taken
abbrev pub TookPrefix : Option (List ℕ) → Option (List ℕ) → List ℕ → Type 0
TookPrefix old new piece = (n : ℕ) × (n ≤ length piece) × (new ≡ then_taken old (take n piece))

-- the sink took the whole piece, and nothing else
pub record IsWritten (piece : List ℕ) (old new : SinkState) : Type 0 where
  pub taken : new.taken ≡ then_taken old.taken piece
  pub room : old.room ≤ new.room + length piece
  pub faults : new.faults ≡ old.faults

-- the sink failed at a piece that it had no room for, and took some prefix of it
pub record IsCutOff (piece : List ℕ) (old new : SinkState) : Type 0 where
  pub taken : TookPrefix old.taken new.taken piece
  pub room : old.room < length piece
  pub faults : Rose old.faults new.faults
