-- What the answer to a question in bits says of numbers.
use Rattle.std.specs.Prelude.{ℕ, Bool, List}
use Rattle.sat_ask.specs.Asks as asks
use Rattle.answer_order.specs.Fronts.{AreWidths, IsLeast, NonePass, numbers_of, total}

abbrev pub LeastDigitsAreLeastNumbers : Type 0
LeastDigitsAreLeastNumbers = (widths : List ℕ) (test : List ℕ → Bool) (digits : List Bool) → AreWidths widths
    → asks.IsLeastOf (λ bs. test (numbers_of widths bs)) (total widths) digits → IsLeast test widths (numbers_of widths digits)

abbrev pub NoDigitsAreNoNumbers : Type 0
NoDigitsAreNoNumbers = (widths : List ℕ) (test : List ℕ → Bool) → asks.NonePass (λ bs. test (numbers_of widths bs)) (total widths) → NonePass test widths
