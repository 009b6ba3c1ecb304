-- Where a row is in a report.
use Rattle.std.specs.Prelude.{◌≡◌, ◌≢◌, ◌⊎◌, ℕ, List, [], ◌∷◌, ◌++◌, Some, slice_get}

-- a line begins after these bytes
abbrev pub EndsLine : List ℕ → Type 0
EndsLine before = (before ≡ []) ⊎ ((lines : List ℕ) × (before ≡ lines ++ 10 ∷ []))

-- the bytes of a text from one of its lines on
pub record IsFromLine (text row : List ℕ) : Type 0 where
  pub before : List ℕ
  pub is : text ≡ before ++ row
  pub ends : EndsLine before

-- the text begins with the row, and no other line of that row, which would begin with a space, comes after it
pub record BeginsWithRow (text row : List ℕ) : Type 0 where
  pub after : List ℕ
  pub is : text ≡ row ++ after
  pub ends : slice_get after 0 ≢ Some 32

-- the report has this row: from the beginning of a line on, with no other line of that row after it
pub record HasRow (report row : List ℕ) : Type 0 where
  pub before : List ℕ
  pub after : List ℕ
  pub is : report ≡ before ++ (row ++ after)
  pub begins : EndsLine before
  pub ends : slice_get after 0 ≢ Some 32
