-- Sets of names as lists of truth values, one for each name from 0 on, and the words that keep them.
use Rattle.std.specs.Prelude.{ℕ, ◌+◌, ◌*◌, ◌/◌, ◌%◌, ◌≡◌, ◌≤◌, Bool, false, ◌&&◌, nat_eq, List, [], ◌∷◌, length, map, slice_index_or}
use Rattle.std.specs.Int.{bit_at}
use Rattle.std.specs.List.{All, range_with_len}

-- whether the set has the name
abbrev pub has_name : List Bool → ℕ → Bool
has_name set name = slice_index_or set name false

-- whether the block's set has the name
abbrev pub has : List (List Bool) → ℕ → ℕ → Bool
has sets block name = has_name (slice_index_or sets block []) name

-- a set for each of the blocks, each with an entry for each of the names
pub record AreRoomy (sets : List (List Bool)) (blocks names : ℕ) : Type 0 where
  pub long : length sets ≡ blocks
  pub wide : All (λ set. names ≤ length set) sets

-- whether the words have the name: 64 names a word, the lowest bit first
abbrev pub has_bit : List ℕ → ℕ → Bool
has_bit words name = nat_eq (bit_at (slice_index_or words (name / 64) 0) (name % 64)) 1

-- the set that the words keep
unfoldable pub names_in : List ℕ → List Bool
names_in words = map (has_bit words) (range_with_len 0 (64 * length words))

-- how many entries a set for this number of names has: a multiple of 64, and more than the names
abbrev pub places_for : ℕ → ℕ
places_for names = 64 * (names / 64 + 1)

-- the names that both sets have
abbrev pub both : List Bool → List Bool → List Bool
both [] other = []
both (x ∷ xs) [] = []
both (x ∷ xs) (y ∷ ys) = (x && y) ∷ both xs ys

-- the column of a name: its index in a set
abbrev pub column_of : List ℕ → ℕ → ℕ
column_of columns name = slice_index_or columns name 0

-- the sets of names, where each name has its column in the sets
abbrev pub by_columns : List ℕ → List (List Bool) → List (List Bool)
by_columns columns sets = map (λ set. map (has_name set) columns) sets
