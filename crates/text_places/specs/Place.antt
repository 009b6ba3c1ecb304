-- The line and column of a position in a text.
use Rattle.std.specs.Prelude.{ℕ, ◌+◌, List, take, Bool, not, ◌==◌, count_by}
use Rattle.std.specs.List.{suffix_len}
use Rattle.text_places.specs.declared.place.Place.{Place}

abbrev pub is_line_feed : ℕ → Bool
is_line_feed b = b == 10

-- The position after the first bytes of a text. Its line is one more than the line feeds among
-- them; its column is one more than the bytes after the last line feed, or than all of them.
unfoldable pub place_behind : List ℕ → Place
place_behind before = record { line = count_by is_line_feed before + 1; column = suffix_len (λ b. not (is_line_feed b)) before + 1 }

-- the position of an offset in a text
abbrev pub place_at : List ℕ → ℕ → Place
place_at text at = place_behind (take at text)
