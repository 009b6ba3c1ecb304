-- What contracts see of a shelf and of a sink.
use Rattle.std.specs.Prelude.{ℕ, List, Bool, Option}
use Rattle.tv_io.specs.Files.{Files}

-- of a shelf
pub record ShelfState : Type 0 where
  -- the files, where the shelf reports them
  pub files : Option Files
  -- whether a fetch of this name may fail
  pub may_fail : List ℕ → Bool
  -- how many fetches failed, how many puts, and how many bytes were read
  pub fetch_faults : ℕ
  pub put_faults : ℕ
  pub bytes_taken : ℕ

-- of a sink
pub record SinkState : Type 0 where
  -- the bytes taken so far, where the sink reports them
  pub taken : Option (List ℕ)
  -- how many more bytes it takes for certain
  pub room : ℕ
  -- how many writes failed
  pub faults : ℕ
