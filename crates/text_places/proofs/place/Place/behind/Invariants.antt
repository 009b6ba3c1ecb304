use Rattle.std.proofs.Common.{◌≡◌, ◌≤◌, ◌+◌, ℕ, List, ◌++◌, take}
use Rattle.text_places.specs.declared.place.Place.{Place}
use Rattle.text_places.specs.Place.{place_behind}
use Rattle.text_places.proofs.place.Place.behind.Given as goal

abbrev pub invariant-loop-byte : goal.invariant-loop-byte
invariant-loop-byte l = record {
  line : l.line ≤ l.fn.self.line + l.byte-index;
  column : l.column ≤ l.fn.self.column + l.byte-index;
  behind : (before : List ℕ) → l.fn.self ≡ place_behind before → (let here : Place = record { line = l.line; column = l.column } in here) ≡ place_behind (before ++ take l.byte-index l.bytes);
}
