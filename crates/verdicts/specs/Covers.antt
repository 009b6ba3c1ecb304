-- Which tapes of the source cover a point, and which of them are tried for every point.
use Rattle.std.specs.Prelude.{◌≡◌, ℕ, ◌+◌, ◌-◌, ◌%◌, ◌^◌, ◌<◌, nat_lt, bit_xor, if◌then◌else◌, List, [], ◌∷◌, ◌++◌, map, slice_index, Bool, true, false, ◌||◌}
use Rattle.std.specs.List.{flat_map, range_with_len}
use Rattle.ir_tree.specs.declared.tree.IrType.{IrType}
use Rattle.ir_tree.specs.declared.tree.IrType.TheVariants as type
use Rattle.ir_tree.specs.declared.tree.Parameter.{Parameter}
use Rattle.byte_block.specs.declared.value.Value.{Value}
use Rattle.byte_block.specs.declared.value.Value.TheVariants as value
use Rattle.points.specs.declared.point.Bounds.{Bounds}
use Rattle.points.specs.declared.point.Point.{Point}
use Rattle.verdicts.specs.Pair.{RunPair}
use Rattle.points.specs.Code.{number_of, WordsFit}
use Rattle.points.specs.Refines.{is_refined}
use Rattle.points.specs.Run.{run_of}
use Rattle.points.specs.Tapes.{need_of}

-- the source's run on this tape allows the target's run on the point
unfoldable pub covers : RunPair → Bounds → Point → List ℕ → Bool
covers pair bounds p tape = is_refined (run_of pair.source bounds p.input tape).outcome (run_of pair.target bounds p.input p.tape).outcome

unfoldable pub some_covers : RunPair → Bounds → Point → List (List ℕ) → Bool
some_covers pair bounds p [] = false
some_covers pair bounds p (tape ∷ tapes) = covers pair bounds p tape || some_covers pair bounds p tapes

-- ---- the candidates, functions from the index of a word to the word

-- n words of a function
abbrev pub words_of : ℕ → (ℕ → ℕ) → List ℕ
words_of n s = map s (range_with_len 0 n)

-- the tape's word `by` positions before i, and `by` positions after; 0 outside the tape
abbrev pub word_before : List ℕ → ℕ → ℕ → ℕ
word_before tape by i = if nat_lt i by then 0 else slice_index tape (i - by)

abbrev pub word_behind : List ℕ → ℕ → ℕ → ℕ
word_behind tape by i = slice_index tape (i + by)

-- the target's tape as it is, and shifted by one or two positions either way
abbrev pub shifts : List ℕ → List (ℕ → ℕ)
shifts tape = word_behind tape 0 ∷ word_behind tape 1 ∷ word_behind tape 2 ∷ word_before tape 1 ∷ word_before tape 2 ∷ []

-- the tape's word at i plus a number, minus it, and xor it, in 64 bits
abbrev pub word_plus : List ℕ → ℕ → ℕ → ℕ
word_plus tape a i = (slice_index tape i + a) % 2 ^ 64

abbrev pub word_minus : List ℕ → ℕ → ℕ → ℕ
word_minus tape a i = (slice_index tape i + (2 ^ 64 - a)) % 2 ^ 64

abbrev pub word_xor : List ℕ → ℕ → ℕ → ℕ
word_xor tape a i = bit_xor (slice_index tape i) a

abbrev pub templates : List ℕ → ℕ → List (ℕ → ℕ)
templates tape a = word_plus tape a ∷ word_minus tape a ∷ word_xor tape a ∷ []

-- an argument's number, 0 where it is poison
abbrev pub number_or_0 : Value → ℕ
number_or_0 (value.Num n) = n
number_or_0 value.Poison = 0
number_or_0 (value.Ptr p) = 0

abbrev pub integer : IrType → Value → List ℕ
integer (type.Int width) v = number_or_0 v ∷ []
integer type.Ptr v = []

-- the numbers of the arguments that are integers by their type
unfoldable pub integers : List Parameter → List Value → List ℕ
integers (p ∷ ps) (v ∷ vs) = integer p.of_type v ++ integers ps vs
integers _ _ = []

-- the shifts, and the three templates with the number of each integer argument
abbrev pub candidates : List Parameter → List Value → List ℕ → List (ℕ → ℕ)
candidates parameters args tape = shifts tape ++ flat_map (templates tape) (integers parameters args)

-- the candidates on the point, as many words of each as the source needs
abbrev pub tried : RunPair → Bounds → Point → List (List ℕ)
tried pair bounds p = map (words_of (need_of bounds.turns pair.source)) (candidates pair.target.parameters p.input.args p.tape)

-- a candidate or one of these tapes covers the point
abbrev pub is_covered : RunPair → Bounds → List (List ℕ) → Point → Bool
is_covered pair bounds tapes p = some_covers pair bounds p (tried pair bounds p ++ tapes)

-- ---- the least cover

-- of all tapes of as many words as the source needs, each below 2 ^ 64, the least that covers the point
pub record IsLeastCover (pair : RunPair) (bounds : Bounds) (p : Point) (tape : List ℕ) : Type 0 where
  pub fits : WordsFit 64 (need_of bounds.turns pair.source) tape
  pub cover : covers pair bounds p tape ≡ true
  pub least : (other : List ℕ) → WordsFit 64 (need_of bounds.turns pair.source) other → number_of other < number_of tape → covers pair bounds p other ≡ false

abbrev pub HasNoCover : RunPair → Bounds → Point → Type 0
HasNoCover pair bounds p = (tape : List ℕ) → WordsFit 64 (need_of bounds.turns pair.source) tape → covers pair bounds p tape ≡ false
