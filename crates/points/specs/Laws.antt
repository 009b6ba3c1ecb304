-- The order of codes, and that codes and points correspond one to one.
use Rattle.std.specs.Prelude.{◌≡◌, ◌↔◌, ℕ, ◌^◌, ◌<◌, List, length, EachIndex, slice_index}
use Rattle.points.specs.declared.point.Point.{Point}
use Rattle.points.specs.declared.point.Shape.{Shape}
use Rattle.points.specs.Code.{number_of, IsOfShape, code_of, place_of}
use Rattle.points.specs.Codes.{IsCode}

-- at the first index where they differ, xs has the smaller number
pub record IsLessFromFront (xs ys : List ℕ) : Type 0 where
  pub place : ℕ
  pub within : place < length xs
  pub same_before : (k : ℕ) → k < place → slice_index xs k ≡ slice_index ys k
  pub less_there : slice_index xs place < slice_index ys place

abbrev pub AreDigits : List ℕ → Type 0
AreDigits xs = EachIndex xs (λ k. slice_index xs k < 2 ^ 64)

-- two lists of the same length are ordered by their numbers as they are lexicographically
abbrev pub NumbersCompareFromFront : Type 0
NumbersCompareFromFront = (xs ys : List ℕ) → length xs ≡ length ys → AreDigits xs → AreDigits ys → number_of xs < number_of ys ↔ IsLessFromFront xs ys

-- two points of a shape at the same position in the order are equal
abbrev pub PlacesTellPoints : Type 0
PlacesTellPoints = (s : Shape) (p q : Point) → s.layout.blocks < 2 ^ 64 → s.layout.bytes < 2 ^ 64 → IsOfShape s p → IsOfShape s q → place_of s.layout s.parameters p ≡ place_of s.layout s.parameters q → p ≡ q

-- the only point of the shape with this code
pub record IsPointWith (s : Shape) (digits : List ℕ) (p : Point) : Type 0 where
  pub of_shape : IsOfShape s p
  pub code : code_of s.layout s.parameters p ≡ digits
  pub only : (q : Point) → IsOfShape s q → code_of s.layout s.parameters q ≡ digits → q ≡ p

-- each point of a shape has a code of the shape, and each code of the shape is that of exactly one point of it
pub record CodesArePoints (s : Shape) : Type 0 where
  pub codes : (p : Point) → IsOfShape s p → IsCode s (code_of s.layout s.parameters p)
  pub points : (digits : List ℕ) → IsCode s digits → (p : Point) × IsPointWith s digits p

abbrev pub CodesTellPoints : Type 0
CodesTellPoints = (s : Shape) → CodesArePoints s
