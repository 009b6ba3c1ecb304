-- The bounds and the budget of a job, by the values of its options.
use Rattle.tv_cli.proofs.Common.{◌≡◌, ℕ, refl, List, [], Option, Some, None, codes, Bounds, Budget, Text, bounds_with, budget_with, number_once, turns_range, blocks_range, bytes_range, rounds_range, conflicts_range, weight_range, bounds_in_rows, budget_in_rows, Row, first_of, number_or_usual}
use Rattle.tv_cli.proofs.Uses.{Use, rows_of_uses}
use Rattle.tv_cli.proofs.Values.{AreOnce, IsTwice, all_values, number-uses, number_once-twice}

abbrev pub bounds_values : (Text → List Text) → Option Bounds
bounds_values values = bounds_with (number_once turns_range (values (codes "turns"))) (number_once blocks_range (values (codes "blocks"))) (number_once bytes_range (values (codes "bytes")))

abbrev pub budget_values : (Text → List Text) → Option Budget
budget_values values = budget_with (number_once rounds_range (values (codes "rounds"))) (number_once conflicts_range (values (codes "conflicts"))) (number_once weight_range (values (codes "weight")))

-- ---- of uses, each at most once

pub bounds-uses : (us : List Use) → AreOnce us
    → bounds_in_rows (rows_of_uses us) ≡ bounds_values (all_values us [])
bounds-uses us once = λ i. bounds_with (number-uses us once turns_range (codes "turns") i) (number-uses us once blocks_range (codes "blocks") i) (number-uses us once bytes_range (codes "bytes") i)

pub budget-uses : (us : List Use) → AreOnce us
    → budget_in_rows (rows_of_uses us) ≡ budget_values (all_values us [])
budget-uses us once = λ i. budget_with (number-uses us once rounds_range (codes "rounds") i) (number-uses us once conflicts_range (codes "conflicts") i) (number-uses us once weight_range (codes "weight") i)

-- ---- of the same rows

pub bounds-rows : (f g : List Row) → first_of (codes "turns") f ≡ first_of (codes "turns") g
    → first_of (codes "blocks") f ≡ first_of (codes "blocks") g → first_of (codes "bytes") f ≡ first_of (codes "bytes") g
    → bounds_in_rows f ≡ bounds_in_rows g
bounds-rows f g turns blocks bytes = λ i. bounds_with (number_or_usual turns_range (turns i)) (number_or_usual blocks_range (blocks i)) (number_or_usual bytes_range (bytes i))

pub budget-rows : (f g : List Row) → first_of (codes "rounds") f ≡ first_of (codes "rounds") g
    → first_of (codes "conflicts") f ≡ first_of (codes "conflicts") g → first_of (codes "weight") f ≡ first_of (codes "weight") g
    → budget_in_rows f ≡ budget_in_rows g
budget-rows f g rounds conflicts weight = λ i. budget_with (number_or_usual rounds_range (rounds i)) (number_or_usual conflicts_range (conflicts i)) (number_or_usual weight_range (weight i))

-- ---- of the same values

pub bounds-same : (f g : Text → List Text) → f (codes "turns") ≡ g (codes "turns")
    → f (codes "blocks") ≡ g (codes "blocks") → f (codes "bytes") ≡ g (codes "bytes")
    → bounds_values f ≡ bounds_values g
bounds-same f g turns blocks bytes = λ i. bounds_with (number_once turns_range (turns i)) (number_once blocks_range (blocks i)) (number_once bytes_range (bytes i))

pub budget-same : (f g : Text → List Text) → f (codes "rounds") ≡ g (codes "rounds")
    → f (codes "conflicts") ≡ g (codes "conflicts") → f (codes "weight") ≡ g (codes "weight")
    → budget_values f ≡ budget_values g
budget-same f g rounds conflicts weight = λ i. budget_with (number_once rounds_range (rounds i)) (number_once conflicts_range (conflicts i)) (number_once weight_range (weight i))

-- ---- where an option occurs twice

no_turns : (a b c : Option ℕ) → a ≡ None → bounds_with a b c ≡ None
no_turns a b c e = rw e refl

no_blocks : (a b c : Option ℕ) → b ≡ None → bounds_with a b c ≡ None
no_blocks None b c e = refl
no_blocks (Some a) b c e = rw e refl

no_bytes : (a b c : Option ℕ) → c ≡ None → bounds_with a b c ≡ None
no_bytes None b c e = refl
no_bytes (Some a) None c e = refl
no_bytes (Some a) (Some b) c e = rw e refl

no_rounds : (a b c : Option ℕ) → a ≡ None → budget_with a b c ≡ None
no_rounds a b c e = rw e refl

no_conflicts : (a b c : Option ℕ) → b ≡ None → budget_with a b c ≡ None
no_conflicts None b c e = refl
no_conflicts (Some a) b c e = rw e refl

no_weight : (a b c : Option ℕ) → c ≡ None → budget_with a b c ≡ None
no_weight None b c e = refl
no_weight (Some a) None c e = refl
no_weight (Some a) (Some b) c e = rw e refl

pub turns-twice : (values : Text → List Text) → IsTwice (values (codes "turns"))
    → bounds_values values ≡ None
turns-twice values twice = no_turns _ _ _ (number_once-twice turns_range _ twice)

pub blocks-twice : (values : Text → List Text) → IsTwice (values (codes "blocks"))
    → bounds_values values ≡ None
blocks-twice values twice = no_blocks _ _ _ (number_once-twice blocks_range _ twice)

pub bytes-twice : (values : Text → List Text) → IsTwice (values (codes "bytes"))
    → bounds_values values ≡ None
bytes-twice values twice = no_bytes _ _ _ (number_once-twice bytes_range _ twice)

pub rounds-twice : (values : Text → List Text) → IsTwice (values (codes "rounds"))
    → budget_values values ≡ None
rounds-twice values twice = no_rounds _ _ _ (number_once-twice rounds_range _ twice)

pub conflicts-twice : (values : Text → List Text) → IsTwice (values (codes "conflicts"))
    → budget_values values ≡ None
conflicts-twice values twice = no_conflicts _ _ _ (number_once-twice conflicts_range _ twice)

pub weight-twice : (values : Text → List Text) → IsTwice (values (codes "weight"))
    → budget_values values ≡ None
weight-twice values twice = no_weight _ _ _ (number_once-twice weight_range _ twice)
