-- The points of a pair's shape.
use Rattle.slow_judge.proofs.Common.{◌≡◌, ℕ, ◌<◌, ◌≤◌, List, refl, sym, arith, Bounds, Point, RunPair, IsOfShape, IsNextPoint, IsLastPoint, place_in_shape, IsPoint, place_in, IsLeastUncovered, AreAllCovered, IsShapeOf, IsNextAmong, IsLastAmong, IsLeastAmong, AreCoveredAmong}
use Rattle.points.specs.declared.point.Shape.{Shape}
use Rattle.slow_judge.proofs.Order.{IsFit}
use Rattle.slow_judge.proofs.Searching.{AreFit}

pub shape_fits : (pair : RunPair) (bounds : Bounds) (s : Shape) → IsShapeOf pair bounds s → AreFit (IsOfShape s) pair bounds
shape_fits pair bounds s shape = λ q of_shape. record {
  args = rw (shape.layout, shape.parameters) at of_shape.args;
  given = rw shape.layout at of_shape.given;
  tape = rw (shape.word_width, shape.words) at of_shape.tape;
}

pub fits_shape : (pair : RunPair) (bounds : Bounds) (s : Shape) (p : Point) → IsShapeOf pair bounds s → IsFit pair bounds p → IsOfShape s p
fits_shape pair bounds s p shape fits = record {
  args = rw (shape.layout, shape.parameters) fits.args;
  given = rw shape.layout fits.given;
  tape = rw (shape.word_width, shape.words) fits.tape;
}

point_fits : (pair : RunPair) (bounds : Bounds) (p : Point) → IsPoint pair bounds p → IsFit pair bounds p
point_fits pair bounds p point = record { args = point.args; given = point.given; tape = point.tape }

-- ---- one after another

place_is : (pair : RunPair) (bounds : Bounds) (s : Shape) (p : Point) → IsShapeOf pair bounds s → place_in_shape s p ≡ place_in pair bounds p
place_is pair bounds s p shape = rw (shape.layout, shape.parameters) refl

less_as : (a a' b b' : ℕ) → a ≡ a' → b ≡ b' → a < b → a' < b'
less_as a a' b b' e f h = omega (arith, e, f, h)

at_most_as : (a a' b b' : ℕ) → a ≡ a' → b ≡ b' → a ≤ b → a' ≤ b'
at_most_as a a' b b' e f h = omega (arith, e, f, h)

pub next_is : (pair : RunPair) (bounds : Bounds) (s : Shape) (old new : Point) → IsShapeOf pair bounds s → IsNextPoint s old new → IsNextAmong (IsOfShape s) pair bounds old new
next_is pair bounds s old new shape next = record {
  among = next.fits;
  later = less_as (place_in_shape s old) (place_in pair bounds old) (place_in_shape s new) (place_in pair bounds new) (place_is pair bounds s old shape) (place_is pair bounds s new shape) next.later;
  no_gap = λ q of_shape less.
      let less' = less_as (place_in pair bounds q) (place_in_shape s q) (place_in pair bounds new) (place_in_shape s new) (sym (place_is pair bounds s q shape)) (sym (place_is pair bounds s new shape)) less in
      at_most_as (place_in_shape s q) (place_in pair bounds q) (place_in_shape s old) (place_in pair bounds old) (place_is pair bounds s q shape) (place_is pair bounds s old shape) (next.no_gap q of_shape less');
}

pub last_is : (pair : RunPair) (bounds : Bounds) (s : Shape) (p : Point) → IsShapeOf pair bounds s → IsLastPoint s p → IsLastAmong (IsOfShape s) pair bounds p
last_is pair bounds s p shape last = λ q of_shape.
    at_most_as (place_in_shape s q) (place_in pair bounds q) (place_in_shape s p) (place_in pair bounds p) (place_is pair bounds s q shape) (place_is pair bounds s p shape) (last q of_shape)

-- ---- they are all points there are

pub all_covered : (pair : RunPair) (bounds : Bounds) (tapes : List (List ℕ)) (s : Shape) → IsShapeOf pair bounds s → AreCoveredAmong (IsOfShape s) pair bounds tapes → AreAllCovered pair bounds tapes
all_covered pair bounds tapes s shape all = λ q point. all q (fits_shape pair bounds s q shape (point_fits pair bounds q point)) point.plain

pub least_of_points : (pair : RunPair) (bounds : Bounds) (tapes : List (List ℕ)) (s : Shape) (p : Point) → IsShapeOf pair bounds s → IsLeastAmong (IsOfShape s) pair bounds tapes p → IsLeastUncovered pair bounds tapes p
least_of_points pair bounds tapes s p shape least =
    let fits = shape_fits pair bounds s shape p least.among in
    record {
      point = record { args = fits.args; given = fits.given; tape = fits.tape; plain = least.here.plain };
      uncovered = least.here.uncovered;
      least = λ q point less. least.least q (fits_shape pair bounds s q shape (point_fits pair bounds q point)) point.plain less;
    }
