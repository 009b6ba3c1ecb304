-- The files of a map.
use Rattle.std.specs.Prelude.{ℕ, List, Bool, Some, is_none, option_map}
use Rattle.std.specs.declared.string.String.{String}
use Rattle.std.specs.declared.vec.Vec.{Vec}
use Rattle.std.specs.Global.{Global}
use Rattle.std.specs.BTreeMap.{BTreeMap, get_by_text}
use Rattle.tv_io.specs.Files.{Files}
use Rattle.tv_io.specs.State.{ShelfState}

-- what a map from names holds for each name
abbrev pub files_of : BTreeMap (String Global) (Vec ℕ Global) → Files
files_of m name = option_map (λ v. v.items) (get_by_text m name)

-- a fetch fails for a name that has no file, and for no other
abbrev pub fails_absent : Files → List ℕ → Bool
fails_absent files name = is_none (files name)

-- a shelf of such a map, with its three counts
abbrev pub memory_state : BTreeMap (String Global) (Vec ℕ Global) → ℕ → ℕ → ℕ → ShelfState
memory_state m fetch_faults put_faults bytes_taken = record {
  files = Some (files_of m);
  may_fail = fails_absent (files_of m);
  fetch_faults = fetch_faults;
  put_faults = put_faults;
  bytes_taken = bytes_taken;
}
